-- window_sum meets its contract. The invariant: the sum is that of the first i windows, fewer than n, and the terms that the window i
-- shares with the one before it are kept. The last window comes behind the loop.
use Rattle.face_points.proofs.Windows.{Summed}
use Rattle.face_points.proofs.window_sum.Given as goal

abbrev pub invariant-loop-i : goal.invariant-loop-i
invariant-loop-i l =
    Summed l.positions l.edges l.intervals l.points l.border l.n l.s l.first l.third l.k l.i
