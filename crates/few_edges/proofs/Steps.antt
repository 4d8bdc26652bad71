-- One step about a point. Assumes nothing.
use mathlib.Core.Path.{◌≡◌, sym, ◌∙◌}
use mathlib.Core.Bool.{◌&&◌, false≢true}
use mathlib.Core.List.{List}
use Prim.Native.Nat.{ℕ, ◌<◌}
use lib.Dec.{ltb}
use Rattle.std.specs.Prelude.{Some, None}
use Rattle.tables.specs.Mesh.{Mesh, edge_table}
use Rattle.audited_meshes.specs.Walks.{touches, acw_of_point, Touches}
use Rattle.audited_meshes.proofs.Audited.{on-point-is}
use Rattle.walks.specs.Steps.{step_to, point_across, point_step}
use Rattle.walks.proofs.Steps.{to_is, lost-is}

-- a step that is made is from an edge of the point, and one that is lost is not
pub step-made : (es : List ℕ) (ne p i q next : ℕ) → Some (step_to q next) ≡ point_step es ne p i
    → ((i < ne) × Touches (edge_table es) p i) × (q ≡ point_across (edge_table es) p i) × (next ≡ acw_of_point (edge_table es) p i)
step-made es ne p i q next h =
    let m : Mesh = edge_table es in
    let parts = to_is (ltb i ne && touches m p i) (point_across m p i) (acw_of_point m p i) q next h in
    ((on-point-is m ne p i).0 parts.0, sym parts.1, sym parts.2)

pub step-lost : (es : List ℕ) (ne p i : ℕ) → None ≡ point_step es ne p i → ((i < ne) × Touches (edge_table es) p i) → ⊥
step-lost es ne p i h on =
    let m : Mesh = edge_table es in
    false≢true (sym (lost-is (ltb i ne && touches m p i) (point_across m p i) (acw_of_point m p i) h) ∙ (on-point-is m ne p i).1 on)
