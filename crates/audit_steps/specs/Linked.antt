-- One step of a walk, from an edge whose links may both be followed.
--     LinksBelow es ne            the links of every edge below ne are below ne
--     faces_linked, ends_linked     the two links of an edge anticlockwise about its faces, about its ends, are below ne
--     linked_face_step es ne f e    one step about face f from edge e, if e borders f and its two links about faces are below ne
--     linked_point_step es ne p e   one step about point p from edge e, if e touches p and its two links about points are below ne
use Rattle.std.specs.Prelude.{Option, Bool, ◌&&◌, List, ℕ, ◌<◌, ltb}
use Rattle.tables.specs.Mesh.{Mesh, edge_table, left_cw, left_acw, right_cw, right_acw}
use Rattle.audited_meshes.specs.Walks.{borders, touches, acw_of_face, acw_of_point, first_point}
use Rattle.walks.specs.declared.Step.{Step}
use Rattle.walks.specs.Steps.{point_across, to_if}

pub record LinksBelow (es : List ℕ) (ne : ℕ) : Type 0 where
  pub left-cw-below : (e : ℕ) → e < ne → left_cw (edge_table es) e < ne
  pub left-acw-below : (e : ℕ) → e < ne → left_acw (edge_table es) e < ne
  pub right-cw-below : (e : ℕ) → e < ne → right_cw (edge_table es) e < ne
  pub right-acw-below : (e : ℕ) → e < ne → right_acw (edge_table es) e < ne

abbrev pub faces_linked : Mesh → ℕ → ℕ → Bool
faces_linked m ne e = ltb (left_acw m e) ne && ltb (right_acw m e) ne

abbrev pub ends_linked : Mesh → ℕ → ℕ → Bool
ends_linked m ne e = ltb (left_cw m e) ne && ltb (right_cw m e) ne

abbrev pub linked_face_step : List ℕ → ℕ → ℕ → ℕ → Option Step
linked_face_step es ne f e =
    let m : Mesh = edge_table es in
    to_if (borders m f e && faces_linked m ne e) (first_point m f e) (acw_of_face m f e)

abbrev pub linked_point_step : List ℕ → ℕ → ℕ → ℕ → Option Step
linked_point_step es ne p e =
    let m : Mesh = edge_table es in
    to_if (touches m p e && ends_linked m ne e) (point_across m p e) (acw_of_point m p e)
