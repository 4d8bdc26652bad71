-- The edge to a neighbour: the first found from the start edge.
--     found_if b e r            the edge e if the test b holds, else what r found
--     seek step on test s ..   the search along a walk by one step, along edges that are `on`, until it meets s, for an edge that
--                              passes the test; arguments as of `walk`
--     edge_to_point m ne k p q        the first edge about point p, of at most k from its start edge, that touches point q too
use Rattle.std.specs.Prelude.{Bool, true, false, ◌&&◌, ℕ, zero, suc, ltb, eqb, Option, Some, None}
use Rattle.tables.specs.Mesh.{Mesh, start}
use Rattle.audited_meshes.specs.Walks.{touches, acw_of_point}

abbrev pub found_if : Bool → ℕ → Option ℕ → Option ℕ
found_if true e r = Some e
found_if false e r = r

unfoldable pub seek : (ℕ → ℕ) → (ℕ → Bool) → (ℕ → Bool) → ℕ → ℕ → Bool → Bool → ℕ → Option ℕ
seek step on test s zero met here e = None
seek step on test s (suc k) true here e = None
seek step on test s (suc k) false false e = None
seek step on test s (suc k) false true e = found_if (test e) e (seek step on test s k (eqb (step e) s) (on (step e)) (step e))

unfoldable pub edge_to_point : Mesh → ℕ → ℕ → ℕ → ℕ → Option ℕ
unfolding seek
edge_to_point m ne k p q =
    let on : ℕ → Bool = λ e. ltb e ne && touches m p e in
    seek (acw_of_point m p) on (touches m q) (start m p) k false (on (start m p)) (start m p)
