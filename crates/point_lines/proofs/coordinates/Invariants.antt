-- `coordinates` meets its contract. The invariant is `Coordinates`.
use Rattle.point_lines.proofs.coordinates.Answers.Turn.{Coordinates}
use Rattle.point_lines.proofs.coordinates.Given as goal

abbrev pub invariant-loop-k : goal.invariant-loop-k
invariant-loop-k l = Coordinates l.s l.at l.initial.xs l.n l.w l.xs l.i l.k
