-- Point 0 in the table of positions that a step left.
--     PointThere ps           the positions ps hold it, and its coordinates are finite
--     PointReady c a ps       so it is where its line is written: after a step with the answer a, of a mesh with the counts c
use Rattle.std.specs.Prelude.{◌≡◌, true, List, ◌≤◌, ◌<◌, length, Float, Result, Ok, Err}
use Rattle.positions.specs.Position.{finite_position}
use Rattle.tables.specs.Records.{position_at}
use Rattle.tables.specs.declared.Counts.{Counts}
use Rattle.steps.specs.declared.StepRefusal.{StepRefusal}

pub record PointThere (ps : List Float) : Type 0 where
  pub row : 3 ≤ length ps
  pub is_finite : finite_position (position_at ps 0) ≡ true

abbrev pub PointReady : Counts → Result Counts StepRefusal → List Float → Type 0
PointReady c (Ok c') ps = 0 < c.points → PointThere ps
PointReady c (Err g) ps = Unit {0}
