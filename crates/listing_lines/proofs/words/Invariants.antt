-- `words` meets its contract. The invariant is `Words`.
use Rattle.listing_lines.proofs.WordRun.{Words}
use Rattle.listing_lines.proofs.words.Given as goal

abbrev pub invariant-loop-k : goal.invariant-loop-k
invariant-loop-k l = Words l.s l.at l.initial.ws l.n l.w l.ws l.i l.k l.v
