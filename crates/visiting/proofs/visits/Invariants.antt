-- visits meets its contract. The invariant: the first i faces of the order are visited, and the arrays for the places of a perimeter have
-- their length.
use Rattle.visiting.specs.Visiting.{PlacesLent}
use Rattle.visiting.proofs.Turning.{Turning}
use Rattle.splitting.specs.Scratch.{tables_of}
use Rattle.tables.specs.Parts.{face_tables}
use mathlib.Core.Path.{◌≡◌}
use lib.ListN.{length}
use Rattle.visiting.proofs.visits.Given as goal

abbrev pub invariant-loop-i : goal.invariant-loop-i
invariant-loop-i l =
    Turning (face_tables l.edges l.faces) l.old.points l.old.edges l.old.faces l.order
    (tables_of l.initial.newpoints l.initial.newedges l.initial.newintervals l.initial.newfaces l.old) l.newpoints l.newedges l.newintervals l.newfaces l.taken l.i
    × ((length l.found ≡ 64) × PlacesLent l.firsts l.seconds l.mids)
