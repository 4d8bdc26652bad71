-- turn_faces meets its contract. The invariant: the faces passed are turned where they are chosen.
use mathlib.Core.List.{[]}
use Prim.Native.Nat.{◌-◌}
use Rattle.built_meshes.specs.declared.Version.TheVariants.{Two}
use Rattle.building_tests.specs.Lent.{lists_in}
use Rattle.face_turning.proofs.Faces.{chosen, Turning}
use Rattle.face_turning.proofs.turn_faces.Given as goal

abbrev pub invariant-loop-f : goal.invariant-loop-f
invariant-loop-f l =
    Turning (chosen l.turned) (lists_in Two [] l.initial.sides l.initial.firsts l.initial.listed l.initial.beside) (lists_in Two [] l.sides l.firsts l.listed l.beside) l.a l.f
