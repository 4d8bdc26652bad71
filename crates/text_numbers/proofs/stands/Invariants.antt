-- `stands` meets its contract. Its loop leaves what is still to be compared.
use mathlib.Core.Path.{◌≡◌}
use Prim.Native.Nat.{◌+◌}
use lib.ListN.{drop}
use Rattle.text_numbers.specs.Form.{stands}
use Rattle.text_numbers.proofs.stands.Given as goal

abbrev pub invariant-loop-i : goal.invariant-loop-i
invariant-loop-i l = stands l.s (l.at + l.i) (drop l.i l.t) ≡ stands l.s l.at l.t
