-- fill_first meets its contract. The invariant: the places that are passed have the value.
use mathlib.Core.Path.{◌≡◌}
use lib.ListN.{take}
use Rattle.tables.specs.Rows.{zeroed}
use Rattle.tables.proofs.fill_first.Given as goal

abbrev pub invariant-loop-element : goal.invariant-loop-element
invariant-loop-element g l = l.element-items ≡ zeroed l.element-index l.value (take l.n l.fn.elements)
