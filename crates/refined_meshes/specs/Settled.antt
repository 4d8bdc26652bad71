-- What is settled in the scratch tables once all faces are visited. The first edition leaves all as the visits left it. In the second "a
-- joining edge gets a quarter of the sum of the two whole intervals as they stood before the step" (document 02, §5), and start edges of
-- points are fixed (`specs/Starts.antt`).
-- After the visits the row of an old edge is its origin half, and its LeftAcw and its RightCw are the joining edges on its left and on its
-- right. The next and the previous interval of the perimeter on a side stand at the edge's neighbours in the mesh before the step: es and
-- is are that mesh's tables of edges and intervals, es' is the refined mesh's table of edges.
--     neighbour_at es w e       the neighbour of edge e that stands in word w of its row
--     quarter x y              a quarter of the sum of x and y
--     settled_side ..           the intervals js with the joining edge in word w of each of the first n rows settled, by the whole
--                              intervals at the words next and prev
--     settled_intervals ..      the same for both sides
--     intervals_of_edition ed m ne s    the intervals in the edition ed, of the rows s that the visits left
--     settled ed m .. s        the rows s settled in the edition ed
--     settled_rows ed ..        the rows of the refined mesh in the edition ed: the visits, and then what is settled
use Rattle.std.specs.Prelude.{List, ℕ, ◌+◌, ◌*◌, set, get_or, Float}
use Rattle.std.specs.Float.{nan, binary64}
use Rattle.std.specs.Float.Ieee.{add, mul, of_bits}
use Rattle.tables.specs.Layout.{edge_width, left_cw_word, left_acw_word, right_cw_word, right_acw_word}
use Rattle.tables.specs.Mesh.{Mesh}
use Rattle.refined_meshes.specs.declared.Edition.{Edition}
use Rattle.refined_meshes.specs.declared.Edition.TheVariants.{First, Second}
use Rattle.refined_meshes.specs.Turns.{turns}
use Rattle.refined_meshes.specs.State.{State, state_of}
use Rattle.refined_meshes.specs.Visits.{refined_rows}
use Rattle.refined_meshes.specs.Starts.{points_of_edition}

abbrev pub neighbour_at : List ℕ → ℕ → ℕ → ℕ
neighbour_at es w e = get_or es (e * edge_width + w) 0

abbrev pub quarter : Float → Float → Float
quarter x y = mul binary64 (add binary64 x y) (of_bits binary64 0x3fd0000000000000)

abbrev pub quarter_at : List ℕ → List Float → ℕ → ℕ → ℕ → Float
quarter_at es is next prev e = quarter (get_or is (neighbour_at es next e) nan) (get_or is (neighbour_at es prev e) nan)

unfoldable pub settled_side : List ℕ → List Float → List ℕ → ℕ → ℕ → ℕ → ℕ → List Float → List Float
settled_side es is es' w next prev n js = turns n (λ e xs. set xs (neighbour_at es' w e) (quarter_at es is next prev e)) js

unfoldable pub settled_intervals : List ℕ → List Float → List ℕ → ℕ → List Float → List Float
settled_intervals es is es' n js =
    settled_side es is es' right_cw_word right_acw_word right_cw_word n (settled_side es is es' left_acw_word left_acw_word left_cw_word n js)

abbrev pub intervals_of_edition : Edition → Mesh → ℕ → State → List Float
intervals_of_edition First m ne s = s.intervals
intervals_of_edition Second m ne s = settled_intervals m.edges m.intervals s.edges ne s.intervals

unfoldable pub settled : Edition → Mesh → ℕ → ℕ → ℕ → State → State
settled ed m np ne nf s =
    state_of (points_of_edition ed m np ne nf s) s.edges (intervals_of_edition ed m ne s) s.faces s.points_taken s.edges_taken s.faces_taken

unfoldable pub settled_rows : Edition → Mesh → ℕ → ℕ → ℕ → List ℕ → Mesh → State
settled_rows ed m np ne nf order t = settled ed m np ne nf (refined_rows m np ne nf order t)
