-- lay_border meets its contract. The invariant: the walk has passed the edges and points that stand in the arrays.
use Rattle.tables.specs.Parts.{face_tables}
use Rattle.walks.proofs.Border.{Bordering}
use Rattle.t_nurcc_face.proofs.lay_border.Given as goal

abbrev pub invariant-loop-n : goal.invariant-loop-n
invariant-loop-n l =
    Bordering (face_tables l.edges l.faces) l.ne l.f l.initial.perimeter l.initial.points l.perimeter l.points l.n l.e
