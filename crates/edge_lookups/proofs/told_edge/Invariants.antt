-- told_edge meets its contract. The invariant: the listed points of the faces before face g are there.
use mathlib.Core.List.{[]}
use Prim.Native.Nat.{◌-◌}
use Rattle.building_tests.specs.Lent.{lists}
use Rattle.edge_lookups.proofs.Laws.{Begun}
use Rattle.edge_lookups.proofs.told_edge.Given as goal

abbrev pub invariant-loop-g : goal.invariant-loop-g
invariant-loop-g l = Begun (lists [] l.sides l.listed []) l.f l.a l.g
