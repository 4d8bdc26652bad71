-- What is told of an edge of a face, from the lists alone.
--     runs_at l p q f i      place i of face f runs from the point p to the point q
--     none_runs l p q f      no place of face f does
--     before t u            t where it names a face, else u
--     same_way_before l p q f the edge from p to q with the first face before face f that runs it the same way, if one does
--     is_listed l f i        face f is one of the lists with all its points, and has a place i
--     told_edge l f i        what is told of place i of face f
use Rattle.std.specs.Prelude.{Bool, not, cond, ◌&&◌, ℕ, zero, suc, ◌+◌, eqb, leb, ltb, length}
use Rattle.audited_meshes.specs.Folds.{every}
use Rattle.built_meshes.specs.Lists.{Lists, faces_of, size, offset}
use Rattle.built_meshes.specs.Places.{point_of, next_of}
use Rattle.told_edges.specs.declared.ToldEdge.{ToldEdge}
use Rattle.told_edges.specs.declared.ToldEdge.TheVariants.{Missing, First, Again}

abbrev pub runs_at : Lists → ℕ → ℕ → ℕ → ℕ → Bool
runs_at l p q f i = eqb (point_of l f i) p && eqb (next_of l f i) q

unfoldable pub none_runs : Lists → ℕ → ℕ → ℕ → Bool
unfolding every offset
none_runs l p q f = every (size l f) (λ i. not (runs_at l p q f i))

abbrev pub before : ToldEdge → ToldEdge → ToldEdge
before Missing u = u
before (First p q) u = u
before (Again p q g) u = Again p q g

unfoldable pub same_way_before : Lists → ℕ → ℕ → ℕ → ToldEdge
unfolding none_runs
same_way_before l p q zero = First p q
same_way_before l p q (suc g) = before (same_way_before l p q g) (cond (none_runs l p q g) (First p q) (Again p q g))

unfoldable pub is_listed : Lists → ℕ → ℕ → Bool
unfolding offset
is_listed l f i = ltb f (faces_of l) && (leb (offset l f + size l f) (length l.listed) && ltb i (size l f))

unfoldable pub told_edge : Lists → ℕ → ℕ → ToldEdge
unfolding is_listed same_way_before
told_edge l f i = cond (is_listed l f i) (same_way_before l (point_of l f i) (next_of l f i) f) Missing
