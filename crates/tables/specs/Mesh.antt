-- The five tables of a mesh as lists, and the words of their rows.
--     Mesh                                     the five tables
--     mesh_of xs ps es is fs                    the five tables, in this order, as a mesh
--     x y z m p                                the coordinates of point p
--     valence start mark m p                   the words of point p: start is its start edge, mark 1 if extraordinary
--     origin dest left_face right_face m e       the ends and the sides of edge e
--     left_cw left_acw right_cw right_acw m e      the four neighbours of edge e
--     interval m e                             the interval of edge e
--     face_start m f                            the start edge of face f
--     corner m f k                             the corner k of face f, from 0
--     none                                     the mark for no row, which `edge_ends` has
--     edge_table es                             a mesh of which the table of edges alone is looked at
--     point_rows edge_rows face_rows m            the lent rows of a kind: as many as all its slices hold whole
-- A word past the end of its table reads as 0, a number past the end as a NaN.
use Rattle.std.specs.Prelude.{List, [], ℕ, ◌+◌, ◌*◌, ◌/◌, min, get_or, length, Float}
use Rattle.std.specs.Float.{nan}
pub use Rattle.t_spline.specs.Edge.{none}
use Rattle.tables.specs.Layout.{position_width, y_number, z_number, point_width, start_word, mark_word, face_width, first_corner_word}
use Rattle.tables.specs.Layout.{edge_width, dest_word, left_face_word, right_face_word, left_cw_word, left_acw_word, right_cw_word, right_acw_word}

pub record Mesh : Type 0 where
  pub positions : List Float
  pub points : List ℕ
  pub edges : List ℕ
  pub intervals : List Float
  pub faces : List ℕ

abbrev pub mesh_of : List Float → List ℕ → List ℕ → List Float → List ℕ → Mesh
mesh_of xs ps es is fs = record { positions = xs; points = ps; edges = es; intervals = is; faces = fs }

abbrev pub edge_table : List ℕ → Mesh
edge_table es = mesh_of [] [] es [] []

abbrev pub x : Mesh → ℕ → Float
x m p = get_or m.positions (p * position_width) nan

abbrev pub y : Mesh → ℕ → Float
y m p = get_or m.positions (p * position_width + y_number) nan

abbrev pub z : Mesh → ℕ → Float
z m p = get_or m.positions (p * position_width + z_number) nan

abbrev pub valence : Mesh → ℕ → ℕ
valence m p = get_or m.points (p * point_width) 0

abbrev pub start : Mesh → ℕ → ℕ
start m p = get_or m.points (p * point_width + start_word) 0

abbrev pub mark : Mesh → ℕ → ℕ
mark m p = get_or m.points (p * point_width + mark_word) 0

abbrev pub origin : Mesh → ℕ → ℕ
origin m e = get_or m.edges (e * edge_width) 0

abbrev pub dest : Mesh → ℕ → ℕ
dest m e = get_or m.edges (e * edge_width + dest_word) 0

abbrev pub left_face : Mesh → ℕ → ℕ
left_face m e = get_or m.edges (e * edge_width + left_face_word) 0

abbrev pub right_face : Mesh → ℕ → ℕ
right_face m e = get_or m.edges (e * edge_width + right_face_word) 0

abbrev pub left_cw : Mesh → ℕ → ℕ
left_cw m e = get_or m.edges (e * edge_width + left_cw_word) 0

abbrev pub left_acw : Mesh → ℕ → ℕ
left_acw m e = get_or m.edges (e * edge_width + left_acw_word) 0

abbrev pub right_cw : Mesh → ℕ → ℕ
right_cw m e = get_or m.edges (e * edge_width + right_cw_word) 0

abbrev pub right_acw : Mesh → ℕ → ℕ
right_acw m e = get_or m.edges (e * edge_width + right_acw_word) 0

abbrev pub interval : Mesh → ℕ → Float
interval m e = get_or m.intervals e nan

abbrev pub face_start : Mesh → ℕ → ℕ
face_start m f = get_or m.faces (f * face_width) 0

abbrev pub corner : Mesh → ℕ → ℕ → ℕ
corner m f k = get_or m.faces (f * face_width + (k + first_corner_word)) 0

-- points: their words and their coordinates
abbrev pub point_rows : Mesh → ℕ
point_rows m = min (length m.positions / position_width) (length m.points / point_width)

-- edges: their words and one interval each
abbrev pub edge_rows : Mesh → ℕ
edge_rows m = min (length m.edges / edge_width) (length m.intervals)

abbrev pub face_rows : Mesh → ℕ
face_rows m = length m.faces / face_width
