-- The start edges of a refinement of the second edition are those of the refinement on kinds: no order is in them. Assumes nothing.
use mathlib.Core.Path.{◌≡◌, sym, ◌∙◌, ap}
use mathlib.Core.List.{List}
use Prim.Native.Nat.{ℕ}
use Rattle.tables.specs.Mesh.{Mesh, start}
use Rattle.closed_meshes.specs.Mesh.{MeshOver}
use Rattle.closed_meshes.specs.Closed.{Closed}
use Rattle.closed_meshes.specs.Refinement.{NewPoint, old, mid, face_point, refined}
use Rattle.closed_meshes.specs.Renumbering.{KeepsStarts, Row}
use Rattle.closed_meshes.proofs.Counting.{row-path}
use Rattle.refined_meshes.specs.declared.Edition.TheVariants.{Second}
use Rattle.refined_meshes.specs.Refines.{Refines}

module _
    {m m' : Mesh} {np ne nf : ℕ} {t : MeshOver (Row np) (Row ne) (Row nf)} {c : Closed t} {order : List ℕ} (r : Refines Second m t c order m')
  where
    -- the start edge of each kind of point, as a word of its row
    start_word :
        (x : NewPoint (Row np) (Row ne) (Row nf)) → start m' (r.numbering.points.to x).0 ≡ (r.numbering.edges.to ((refined t c).start x)).0
    start_word (old p) = ap (start m') (r.old_row p) ∙ r.old-start p
    start_word (mid e) = r.mid_start e
    start_word (face_point f) = r.centre-start f

    pub second-starts : KeepsStarts r.numbering
    second-starts =
        record {
          start = λ x. row-path _ _ (sym (r.stands.start-stands (r.numbering.points.to x)) ∙ start_word x);
          face_start = λ d. row-path _ _ (sym (r.stands.face_start-stands (r.numbering.faces.to d)) ∙ r.face-start d);
        }
