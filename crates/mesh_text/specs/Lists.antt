-- The lists that a text stands for.
--     coordinates m        three numbers for each point
--     lengths m            of each side, how many points it lists
--     firsts m             of each side, its first point
--     listed_points m       the listed points of all sides, in their order
--     intervals m          the interval beside each
use Rattle.std.specs.Prelude.{List, map, ℕ, Float}
use Rattle.text_numbers.specs.Numbers.{float}
use Rattle.mesh_lines.specs.Grammar.{flat, side_first, side_count, side_points, side_intervals}
use Rattle.mesh_text.specs.Text.{TextMesh}

abbrev pub coordinates : TextMesh → List Float
coordinates m = flat (map float) m.points

abbrev pub lengths : TextMesh → List ℕ
lengths m = flat (map side_count) m.faces

abbrev pub firsts : TextMesh → List ℕ
firsts m = flat (map side_first) m.faces

abbrev pub listed_points : TextMesh → List ℕ
listed_points m = flat (flat side_points) m.faces

abbrev pub intervals : TextMesh → List Float
intervals m = flat (flat side_intervals) m.faces
