-- place_over meets its contract. The invariant: the edge points of the first e edges are put. In the row of edge e
-- there still stands its m, since the edges before it have rows of their own.
use mathlib.Core.List.{List}
use mathlib.Core.Path.{◌≡◌}
use lib.Ieee.{Float}
use lib.ListN.{length}
use Rattle.steps.specs.Positions.{so_far, placed_by}
use Rattle.edition_points.specs.Over.{MiddlesThere}
use Rattle.edition_points.proofs.Laws.{over_row, over_rule}
use Rattle.edition_points.proofs.place_over.Given as goal

abbrev pub invariant-loop-e : goal.invariant-loop-e
invariant-loop-e l =
    (length l.newpositions ≡ length l.initial.newpositions)
    × ((ps : List Float) → MiddlesThere ps l.edges l.intervals l.ne l.newedges l.initial.newpositions
    → placed_by l.e (over_row l.newedges) (over_rule ps l.edges l.intervals l.newfaces) (so_far l.initial.newpositions) ≡ so_far l.newpositions)
