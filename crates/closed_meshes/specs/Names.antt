-- The names of rows in a run (document 01, "Naming for the runs"). P, E and F are the rows of the first mesh.
--     PointName EdgeName FaceName P E F     the names: that of a row of the first mesh is the row; any other says what it is,
--                                           carries the number of the step that gave it, and stands on names before that step
--     Names P E F P' E' F'                  a name for each row of a mesh over P' E' F'
--     given_names                            the names in the first mesh
use Rattle.std.specs.Prelude.{ℕ}

mutual
  pub data PointName (P E F : Type 0) : Type 0 where
    given_point : P → PointName P E F
    midpoint_of : ℕ → EdgeName P E F → PointName P E F
    face_point_of : ℕ → FaceName P E F → PointName P E F

  pub data EdgeName (P E F : Type 0) : Type 0 where
    given_edge : E → EdgeName P E F
    destination_half_of : ℕ → EdgeName P E F → EdgeName P E F
    joining_edge_of : ℕ → FaceName P E F → EdgeName P E F → EdgeName P E F

  pub data FaceName (P E F : Type 0) : Type 0 where
    given_face : F → FaceName P E F
    new_face_of : ℕ → FaceName P E F → PointName P E F → FaceName P E F

pub record Names (P E F P' E' F' : Type 0) : Type 0 where
  pub point : P' → PointName P E F
  pub edge : E' → EdgeName P E F
  pub face : F' → FaceName P E F

abbrev pub given_names : {P E F : Type 0} → Names P E F P E F
given_names = record { point = given_point; edge = given_edge; face = given_face }
