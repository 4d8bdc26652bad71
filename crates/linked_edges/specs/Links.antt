-- The anticlockwise links of an edge, and the clockwise ones by which they are undone.
--     cw_back m f a e          edge a borders face f and links back to edge e by its clockwise link there
--     acw_linked m e           the two anticlockwise links of edge e lead to edges that link back
use Rattle.std.specs.Prelude.{Bool, ◌&&◌, ℕ, eqb}
use Rattle.tables.specs.Mesh.{Mesh, origin, dest, left_face, right_face, left_acw, right_acw}
use Rattle.audited_meshes.specs.Walks.{borders, cw_of_face}
use Rattle.audited_meshes.specs.Audit.{acw_links}

abbrev pub cw_back : Mesh → ℕ → ℕ → ℕ → Bool
cw_back m f a e = borders m f a && eqb (cw_of_face m f a) e

-- LeftAcw at the far end and on the left face, RightAcw at the near end and on the right face
unfoldable pub acw_linked : Mesh → ℕ → Bool
acw_linked m e = acw_links m e (dest m e) (left_face m e) (left_acw m e) && acw_links m e (origin m e) (right_face m e) (right_acw m e)
