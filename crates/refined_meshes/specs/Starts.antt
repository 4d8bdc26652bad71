-- The start edges of points in the second edition, settled once all faces are visited (document 02, §6 and §7). Here m is the mesh before
-- the step and w the rows that the visits left: the row of an old edge is its origin half, and its LeftAcw and its RightCw are the joining
-- edges on its left and on its right.
--     new_half w e              the destination half of the old edge e: LeftAcw of the joining edge on its left
--     old_start m w p           the start edge of the old point p: "changes only if that was the edge split, and then to its new half", and
--                              only at the far end of that edge
--     centre_join m w f         the start edge of the face point of f: "the joining edge for its face's old start edge"
--     starts_put n row edge ps  the start edges edge 0, .., edge (n - 1) stored in the rows row 0, .., row (n - 1) of the points ps
--     settled_starts ..         all start edges: of old points, of midpoints ("at its destination half"), of face points
--     points_of_edition ed ..           the points in the edition ed, of the rows s that the visits left
use Rattle.std.specs.Prelude.{cond, List, [], ℕ, ◌+◌, ◌*◌, eqb, set}
use Rattle.tables.specs.Layout.{point_width, start_word}
use Rattle.tables.specs.Mesh.{Mesh, start, dest, left_face, left_acw, right_cw, face_start, corner}
use Rattle.refined_meshes.specs.declared.Edition.{Edition}
use Rattle.refined_meshes.specs.declared.Edition.TheVariants.{First, Second}
use Rattle.refined_meshes.specs.Turns.{turns}
use Rattle.refined_meshes.specs.State.{State, with_positions}

abbrev pub new_half : Mesh → ℕ → ℕ
new_half w e = left_acw w (left_acw w e)

abbrev pub old_start : Mesh → Mesh → ℕ → ℕ
old_start m w p = cond (eqb (dest m (start m p)) p) (new_half w (start m p)) (start m p)

-- on the side of the face
abbrev pub centre_join : Mesh → Mesh → ℕ → ℕ
centre_join m w f = cond (eqb (left_face m (face_start m f)) f) (left_acw w (face_start m f)) (right_cw w (face_start m f))

unfoldable pub starts_put : ℕ → (ℕ → ℕ) → (ℕ → ℕ) → List ℕ → List ℕ
starts_put n row edge ps = turns n (λ i xs. set xs (row i * point_width + start_word) (edge i)) ps

unfoldable pub settled_starts : Mesh → Mesh → ℕ → ℕ → ℕ → List ℕ → List ℕ
settled_starts m w np ne nf ps =
    starts_put nf (λ f. corner w f 0) (centre_join m w) (starts_put ne (dest w) (new_half w) (starts_put np (λ p. p) (old_start m w) ps))

abbrev pub points_of_edition : Edition → Mesh → ℕ → ℕ → ℕ → State → List ℕ
points_of_edition First m np ne nf s = s.points
points_of_edition Second m np ne nf s = settled_starts m (with_positions [] s) np ne nf s.points
