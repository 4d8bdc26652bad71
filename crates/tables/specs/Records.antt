-- The records that stand in the rows of the tables.
--     edge_words e                  what an edge takes in the table of edges; its interval stands in a table of its own
--     face_words f                  what a face takes in the table of faces
--     position_at ps p              the place of point p
--     edge_at es is e               the edge e
use Rattle.std.specs.Prelude.{List, [], ◌∷◌, ℕ, ◌+◌, ◌*◌, get_or, Float}
use Rattle.std.specs.Float.{nan}
use Rattle.positions.specs.declared.Position.{Position}
use Rattle.t_spline.specs.declared.TnurccEdge.{TnurccEdge}
use Rattle.t_spline.specs.declared.TnurccFace.{TnurccFace}
use Rattle.tables.specs.Layout.{position_width, y_number, z_number}
use Rattle.tables.specs.Layout.{edge_width, dest_word, left_face_word, right_face_word, left_cw_word, left_acw_word, right_cw_word, right_acw_word}

abbrev pub edge_words : TnurccEdge → List ℕ
edge_words e =
    e.origin ∷ e.dest ∷ e.face_left ∷ e.face_right ∷ get_or e.connections 0 0 ∷ get_or e.connections 1 0
    ∷ get_or e.connections 2 0 ∷ get_or e.connections 3 0 ∷ []

abbrev pub face_words : TnurccFace → List ℕ
face_words f =
    f.edge ∷ get_or f.corners 0 0 ∷ get_or f.corners 1 0 ∷ get_or f.corners 2 0 ∷ get_or f.corners 3 0 ∷ []

abbrev pub position_at : List Float → ℕ → Position
position_at ps p =
    record {
      x = get_or ps (p * position_width) nan;
      y = get_or ps (p * position_width + y_number) nan;
      z = get_or ps (p * position_width + z_number) nan;
    }

-- the words of the edge e, with the interval d
abbrev pub edge_over : List ℕ → Float → ℕ → TnurccEdge
edge_over es d e =
    record {
      connections =
          get_or es (e * edge_width + left_cw_word) 0 ∷ get_or es (e * edge_width + left_acw_word) 0
          ∷ get_or es (e * edge_width + right_cw_word) 0 ∷ get_or es (e * edge_width + right_acw_word) 0 ∷ [];
      face_left = get_or es (e * edge_width + left_face_word) 0;
      face_right = get_or es (e * edge_width + right_face_word) 0;
      origin = get_or es (e * edge_width) 0;
      dest = get_or es (e * edge_width + dest_word) 0;
      knot_interval = d;
    }

abbrev pub edge_at : List ℕ → List Float → ℕ → TnurccEdge
edge_at es is e = edge_over es (get_or is e nan) e
