-- The intervals about the ends of an edge (document 01, "One refinement"). Here es is the table of edges, is the table of
-- intervals, and the edge e touches the point p.
--     acw_about es p e          the edge one step anticlockwise about p from e
--     cw_about es p e           the edge one step clockwise about p from e
--     A1 A2 es is p e          the interval after one and after two steps anticlockwise about p from e
--     C1 C2 es is p e          the interval after one and after two steps clockwise about p from e
--     three_terms es is p e     d + A2 + C2 of e about p
-- Every sum here and in the rules is taken from left to right, and rounded at each addition.
use Rattle.std.specs.Prelude.{cond, List, ℕ, eqb, get_or, Float}
use Rattle.std.specs.Float.{nan, binary64}
use Rattle.std.specs.Float.Ieee.{add}
use Rattle.tables.specs.Mesh.{Mesh, edge_table, origin, left_acw, right_acw}
use Rattle.audited_meshes.specs.Walks.{acw_of_point}

-- LeftCw at the origin, RightCw at the destination
unfoldable pub acw_about : List ℕ → ℕ → ℕ → ℕ
acw_about es p e = acw_of_point (edge_table es) p e

-- RightAcw at the origin, LeftAcw at the destination
unfoldable pub cw_about : List ℕ → ℕ → ℕ → ℕ
cw_about es p e =
    let m : Mesh = edge_table es in
    cond (eqb (origin m e) p) (right_acw m e) (left_acw m e)

abbrev pub A1 : List ℕ → List Float → ℕ → ℕ → Float
A1 es is p e = get_or is (acw_about es p e) nan

abbrev pub C1 : List ℕ → List Float → ℕ → ℕ → Float
C1 es is p e = get_or is (cw_about es p e) nan

abbrev pub A2 : List ℕ → List Float → ℕ → ℕ → Float
A2 es is p e = A1 es is p (acw_about es p e)

abbrev pub C2 : List ℕ → List Float → ℕ → ℕ → Float
C2 es is p e = C1 es is p (cw_about es p e)

unfoldable pub three_terms : List ℕ → List Float → ℕ → ℕ → Float
three_terms es is p e = add binary64 (add binary64 (get_or is e nan) (A2 es is p e)) (C2 es is p e)
