-- What the code of the edge point asks of the two sides of an edge.
--     SidesThere es is new fs' e    the edge e is there, and so are the rows of its two faces and the places of their face points
use Rattle.std.specs.Prelude.{List, ℕ, ◌+◌, ◌*◌, ◌≤◌, get_or, length, Float}
use Rattle.tables.specs.Layout.{position_width, edge_width, face_width, left_face_word, right_face_word, first_corner_word}
use Rattle.position_rules.specs.Fits.{EdgeFits}

pub record SidesThere (es : List ℕ) (is new : List Float) (fs' : List ℕ) (e : ℕ) : Type 0 where
  pub edge-fits : EdgeFits es is e
  pub left-row : get_or es (e * edge_width + left_face_word) 0 * face_width + face_width ≤ length fs'
  pub left-place :
      get_or fs' (get_or es (e * edge_width + left_face_word) 0 * face_width + first_corner_word) 0 * position_width + position_width ≤ length new
  pub right-row : get_or es (e * edge_width + right_face_word) 0 * face_width + face_width ≤ length fs'
  pub right-place :
      get_or fs' (get_or es (e * edge_width + right_face_word) 0 * face_width + first_corner_word) 0 * position_width + position_width ≤ length new
