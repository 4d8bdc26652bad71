-- Where the new points stand in the tables of the refined mesh: new is its table of positions, es' and fs' are its tables of
-- edges and faces.
--     edge_point_at new es' e    the edge point of edge e: at the destination of row e, which is the origin half
--     face_point_at new fs' f    the face point of face f: at corner 0 of row f, which is the first new face
use Rattle.std.specs.Prelude.{List, ℕ, ◌+◌, ◌*◌, get_or, Float}
use Rattle.positions.specs.declared.Position.{Position}
use Rattle.tables.specs.Layout.{edge_width, dest_word, face_width, first_corner_word}
use Rattle.tables.specs.Records.{position_at}

abbrev pub edge_point_at : List Float → List ℕ → ℕ → Position
edge_point_at new es' e = position_at new (get_or es' (e * edge_width + dest_word) 0)

abbrev pub face_point_at : List Float → List ℕ → ℕ → Position
face_point_at new fs' f = position_at new (get_or fs' (f * face_width + first_corner_word) 0)
