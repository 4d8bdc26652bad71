-- split_all meets its contract. The invariant: the first i edges are split.
use Rattle.splitting.proofs.Splitting.{Splitting}
use Rattle.splitting.proofs.split_all.Given as goal

abbrev pub invariant-loop-i : goal.invariant-loop-i
invariant-loop-i l =
    Splitting l.initial.points l.initial.edges l.initial.intervals l.np l.perimeter l.n l.initial.counts l.points l.edges l.intervals l.counts l.i
