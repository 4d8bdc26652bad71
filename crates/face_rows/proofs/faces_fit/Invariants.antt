-- faces_fit meets its contract. The invariant: the first f faces pass.
use mathlib.Core.Path.{◌≡◌}
use mathlib.Core.Bool.{true}
use mathlib.Core.List.{[]}
use Rattle.audited_meshes.specs.Folds.{every}
use Rattle.audited_meshes.specs.Quick.{face_fit}
use Rattle.tables.specs.Parts.{face_tables}
use Rattle.face_rows.proofs.faces_fit.Given as goal

abbrev pub invariant-loop-f : goal.invariant-loop-f
invariant-loop-f l = every l.f (λ k. face_fit (face_tables [] l.faces) l.np l.ne k) ≡ true
