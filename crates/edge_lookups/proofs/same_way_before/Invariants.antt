-- same_way_before meets its contract. The invariant: no face before face g runs from p to q.
use mathlib.Core.List.{[]}
use Prim.Native.Nat.{◌-◌}
use Rattle.building_tests.specs.Lent.{lists}
use Rattle.edge_lookups.proofs.Laws.{Searched}
use Rattle.edge_lookups.proofs.same_way_before.Given as goal

abbrev pub invariant-loop-g : goal.invariant-loop-g
invariant-loop-g l = Searched (lists [] l.sides l.listed []) l.f l.p l.q l.a l.g
