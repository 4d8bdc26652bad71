-- The test of one edge with half of its links: the anticlockwise ones. Where all edges pass it, all pass the whole test
-- (`every-half` in `proofs/Links.antt`).
--     half_fit m np ne nf e    the test of edge e with these two links in the place of all four
use Rattle.std.specs.Prelude.{Bool, not, ◌&&◌, ℕ, eqb}
use Rattle.tables.specs.Mesh.{Mesh, origin, dest, left_face, right_face, interval}
use Rattle.audited_meshes.specs.Audit.{edge_in_range, interval_fit}
use Rattle.linked_edges.specs.Links.{acw_linked}

unfoldable pub half_fit : Mesh → ℕ → ℕ → ℕ → ℕ → Bool
unfolding edge_in_range acw_linked
half_fit m np ne nf e =
    edge_in_range m np ne nf e && interval_fit (interval m e) && not (eqb (origin m e) (dest m e))
    && not (eqb (left_face m e) (right_face m e)) && acw_linked m e
