-- The faces on the sides of an edge, as the code looks at them. Here es is the table of edges.
--     has_face es e f           the edge e has the face f on a side
--     likely_face es r next     the left face of r if next has it, else the right one: their common face, where it is a face and next has it
use Rattle.std.specs.Prelude.{Bool, true, cond, List, ℕ, ◌+◌, ◌*◌, eqb, get_or}
use Rattle.tables.specs.Layout.{edge_width, left_face_word, right_face_word}

abbrev pub has_face : List ℕ → ℕ → ℕ → Bool
has_face es e f = cond (eqb f (get_or es (e * edge_width + left_face_word) 0)) true (eqb f (get_or es (e * edge_width + right_face_word) 0))

abbrev pub likely_face : List ℕ → ℕ → ℕ → ℕ
likely_face es r next =
    cond (has_face es next (get_or es (r * edge_width + left_face_word) 0)) (get_or es (r * edge_width + left_face_word) 0)
    (get_or es (r * edge_width + right_face_word) 0)
