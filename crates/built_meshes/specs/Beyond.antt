-- The rows that ground 4 counts, and those beyond.
--     Behind n xs ys        the lists are as long as each other, and agree from place n on
--     Within l m m'         the tables m and m' agree beyond the rows that ground 4 counts
use Rattle.std.specs.Prelude.{◌≡◌, List, ℕ, ◌*◌, length, drop}
use Rattle.tables.specs.Layout.{position_width, point_width, edge_width, face_width}
use Rattle.tables.specs.Mesh.{Mesh}
use Rattle.built_meshes.specs.Lists.{Lists, points_of, faces_of}

abbrev pub Behind : {A : Type 0} → ℕ → List A → List A → Type 0
Behind n xs ys = (length ys ≡ length xs) × (drop n ys ≡ drop n xs)

pub record Within (l : Lists) (m m' : Mesh) : Type 0 where
  pub positions : Behind (points_of l * position_width) m.positions m'.positions
  pub points : Behind (points_of l * point_width) m.points m'.points
  pub edges : Behind (length l.listed * edge_width) m.edges m'.edges
  pub intervals : Behind (length l.listed) m.intervals m'.intervals
  pub faces : Behind (faces_of l * face_width) m.faces m'.faces
