-- How the tables are laid out: how wide a row is, where its words stand, and how far the rows go.
--     position_width                            the numbers of a position
--     point_width edge_width face_width           the words of a point, of an edge, of a face
--     y_number z_number                          the places of y and z in a position
--     start_word mark_word                       the places of a point's start edge and mark
--     dest_word                                 the place of an edge's destination
--     left_face_word right_face_word               the places of its faces
--     left_cw_word left_acw_word right_cw_word right_acw_word   the places of its neighbours
--     first_corner_word                          the place of a face's first corner
--     longest_perimeter                         the most edges of a face
--     longest_border                            the most points of a border, where the first four stand once more at the end
--     point_ceiling edge_ceiling face_ceiling     the most points, edges and faces that a step makes
-- The first word of a row stands where the row begins, and has no name here: the coordinate x, a point's valence, an edge's origin
-- and a face's start edge. The code has the same numbers under the same names (src/lib.rt).
use Rattle.std.specs.Prelude.{ℕ, ◌+◌}

abbrev pub position_width : ℕ
position_width = 3

abbrev pub y_number : ℕ
y_number = 1

abbrev pub z_number : ℕ
z_number = 2

abbrev pub point_width : ℕ
point_width = 3

abbrev pub start_word : ℕ
start_word = 1

abbrev pub mark_word : ℕ
mark_word = 2

abbrev pub edge_width : ℕ
edge_width = 8

abbrev pub dest_word : ℕ
dest_word = 1

abbrev pub left_face_word : ℕ
left_face_word = 2

abbrev pub right_face_word : ℕ
right_face_word = 3

abbrev pub left_cw_word : ℕ
left_cw_word = 4

abbrev pub left_acw_word : ℕ
left_acw_word = 5

abbrev pub right_cw_word : ℕ
right_cw_word = 6

abbrev pub right_acw_word : ℕ
right_acw_word = 7

abbrev pub face_width : ℕ
face_width = 5

abbrev pub first_corner_word : ℕ
first_corner_word = 1

abbrev pub longest_perimeter : ℕ
longest_perimeter = 64

abbrev pub longest_border : ℕ
longest_border = longest_perimeter + 4

abbrev pub point_ceiling : ℕ
point_ceiling = 65536

abbrev pub edge_ceiling : ℕ
edge_ceiling = 131072

abbrev pub face_ceiling : ℕ
face_ceiling = 65536
