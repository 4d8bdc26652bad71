-- is_filled meets its contract: what is left of the entries is as filled exactly if all of them from the place on are.
use mathlib.Core.Path.{◌≡◌}
use lib.ListN.{drop}
use Rattle.filled_rows.specs.Filled.{all}
use Rattle.filled_rows.proofs.is_filled.Given as goal

abbrev pub invariant-loop-i : goal.invariant-loop-i
invariant-loop-i g l = all (λ x. g.T.PartialEq.eq x l.filling) (drop l.i l.entries) ≡ all (λ x. g.T.PartialEq.eq x l.filling) (drop l.from l.entries)
