-- What the parts of the writer are handed. The contract of the writer names none of this.
--     WordRows c ps es fs       the tables of words have the rows of counts within the ceilings
--     length_by c ps es fs    how long the listing is, by the words of these tables
--     RowsReady c m          the tables have the rows, and the numbers in them are finite
use Rattle.std.specs.Prelude.{◌≡◌, true, List, ℕ, ◌+◌, ◌*◌, ◌≤◌, ◌<◌, length, get_or}
use Rattle.std.specs.Float.{nan}
use Rattle.std.specs.Float.Ieee.Scale.{finite}
use Rattle.tables.specs.Layout.{position_width, point_width, edge_width, face_width, point_ceiling, edge_ceiling, face_ceiling}
use Rattle.tables.specs.Mesh.{Mesh}
use Rattle.tables.specs.declared.Counts.{Counts}
use Rattle.steps.specs.Rows.{Room}
use Rattle.listing_printing.specs.Fields.{word_fields}

pub record WordRows (c : Counts) (ps es fs : List ℕ) : Type 0 where
  pub points : c.points * point_width ≤ length ps
  pub edges : c.edges * edge_width ≤ length es
  pub faces : c.faces * face_width ≤ length fs
  pub few-points : c.points ≤ point_ceiling
  pub few-edges : c.edges ≤ edge_ceiling
  pub few-faces : c.faces ≤ face_ceiling

abbrev pub length_by : Counts → List ℕ → List ℕ → List ℕ → ℕ
length_by c ps es fs =
    15 + (c.points * 59 + length (word_fields ps 0 (c.points * point_width))) + (c.edges * 24 + length (word_fields es 0 (c.edges * edge_width)))
    + (c.faces * 7 + length (word_fields fs 0 (c.faces * face_width)))

pub record RowsReady (c : Counts) (m : Mesh) : Type 0 where
  pub room : Room c m
  pub positions-finite : (i : ℕ) → i < c.points * position_width → finite (get_or m.positions i nan) ≡ true
  pub intervals-finite : (i : ℕ) → i < c.edges → finite (get_or m.intervals i nan) ≡ true
