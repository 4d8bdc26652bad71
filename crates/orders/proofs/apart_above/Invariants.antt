-- apart_above meets its contract. The invariant: the marks are those of the entries passed, which stand apart in the window.
use Rattle.orders.specs.Orders.{Apart, Marks}
use Rattle.orders.proofs.apart_above.Given as goal

abbrev pub invariant-loop-face : goal.invariant-loop-face
invariant-loop-face l = Marks l.base l.order l.face-index l.seen × Apart l.base l.order l.face-index
