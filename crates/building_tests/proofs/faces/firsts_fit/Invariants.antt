-- firsts_fit meets its contract. The invariant: the first points of the sides before side k fit, and b points are listed before it.
use Prim.Native.Nat.{◌≤◌, ◌-◌}
use mathlib.Core.List.{[]}
use mathlib.Core.Bool.{true}
use mathlib.Core.Path.{◌≡◌}
use Rattle.audited_meshes.specs.Folds.{every}
use Rattle.built_meshes.specs.Faces.{side_from}
use Rattle.built_meshes.specs.declared.Version.TheVariants.{Two}
use Rattle.building_tests.specs.Lent.{lists_in}
use Rattle.building_tests.proofs.Laws.{fits}
use Rattle.building_tests.proofs.faces.firsts_fit.Given as goal

abbrev pub invariant-loop-k : goal.invariant-loop-k
invariant-loop-k l = (l.b ≡ side_from (lists_in Two [] l.sides l.firsts l.listed []) l.f 0 l.k) × (every l.k (fits l.sides l.firsts l.listed l.f l.a) ≡ true)
