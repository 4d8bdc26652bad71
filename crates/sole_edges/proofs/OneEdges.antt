-- No two edges join the same two points exactly if each edge of each point is the only one between its two points; and one test of the
-- points says this and that the walks about them come back after their valences. Assumes nothing.
use mathlib.Core.Path.{◌≡◌, refl}
use mathlib.Core.Bool.{Bool, true, ◌&&◌}
use mathlib.Core.List.{List, []}
use mathlib.Core.Logic.{inl}
use Prim.Native.Nat.{ℕ, ◌*◌, ◌≤◌, ◌<◌}
use native.Mathlib.Omega.{arith}
use lib.Dec.{eqb}
use Rattle.closed_meshes.specs.Renumbering.{sum_to}
use Rattle.tables.specs.Mesh.{Mesh, valence, origin, dest}
use Rattle.tables.specs.Parts.{face_tables, point_tables}
use Rattle.audited_meshes.specs.Folds.{every}
use Rattle.audited_meshes.specs.Audited.{SameEnds, PointWalked}
use Rattle.audited_meshes.specs.Quick.{one_edge}
use Rattle.audited_meshes.proofs.Tests.{Is, and_is, every-is, self-is, same_test}
use Rattle.audited_meshes.proofs.OneEdge.{one_edge-is}
use Rattle.audit_tests.specs.Parts.{walk_fits}
use Rattle.few_edges.specs.Rounds.{Ends}
use Rattle.sole_edges.specs.Sole.{SoleFrom, RoundsFrom, GoodFrom}
use Rattle.sole_edges.proofs.Walked.{round-of-fits, fits-of-round, walked-of-tests, sole-of-apart}

-- the ends of edges stand in the table of edges
pub ends-with-points : (ps es : List ℕ) (np ne : ℕ) → Ends (face_tables es []) np ne → Ends (point_tables ps es) np ne
ends-with-points ps es np ne h = record { origin-below = h.origin-below; dest-below = h.dest-below; differ = h.differ }

-- each edge of each point is the only one between its two points exactly if no two edges join the same two points
one-edges-is : (m : Mesh) (np ne : ℕ) → Ends m np ne → ((p : ℕ) → p < np → PointWalked m ne p)
    → Is (every ne (λ e. one_edge m ne e)) (SoleFrom m np ne 0)
one-edges-is m np ne ends walked = (
  λ q p _ lp i j li lj t same. (one-is i li).0 ((every-is ne (λ e. self-is (one_edge m ne e))).0 q i li) j lj same,
  λ sole. (every-is ne (λ e. self-is (one_edge m ne e))).1
      (λ e l. (one-is e l).1 (λ j k same. sole (origin m e) (omega arith) (ends.origin-below e l) e j l k (inl refl) same)),
)
  where
    one-is : (e : ℕ) → e < ne → Is (one_edge m ne e) ((j : ℕ) → j < ne → SameEnds m e j → e ≡ j)
    one-is e l =
        one_edge-is m ne e (ends.differ e l) (walked (origin m e) (ends.origin-below e l)) (walked (dest m e) (ends.dest-below e l))

-- One test of the points says what the two tests say, of the walks and of second edges, where the valences add up to twice the edges:
-- what it tells of each point where it passes, and what of each point makes it pass.
pub tests-in-one : (m : Mesh) (np ne : ℕ) → Ends m np ne → ((p : ℕ) → p < np → 2 ≤ valence m p)
    → eqb (sum_to np (λ p. valence m p)) (2 * ne) ≡ true → (r : Bool) → (r ≡ true → RoundsFrom m np ne 0) → (GoodFrom m np ne 0 → r ≡ true)
    → r ≡ (every np (λ p. walk_fits m ne p) && every ne (λ e. one_edge m ne e))
tests-in-one m np ne ends two sum r told asked =
    same_test {A = every np (λ p. walk_fits m ne p) && every ne (λ e. one_edge m ne e) ≡ true} (there, back)
    (self-is (every np (λ p. walk_fits m ne p) && every ne (λ e. one_edge m ne e)))
  where
    both_is : Is (every np (λ p. walk_fits m ne p) && every ne (λ e. one_edge m ne e))
        ((every np (λ p. walk_fits m ne p) ≡ true) × (every ne (λ e. one_edge m ne e) ≡ true))
    both_is = and_is (self-is (every np (λ p. walk_fits m ne p))) (self-is (every ne (λ e. one_edge m ne e)))

    walked : every np (λ p. walk_fits m ne p) ≡ true → (p : ℕ) → p < np → PointWalked m ne p
    walked = walked-of-tests m np ne ends two sum

    there : r ≡ true → (every np (λ p. walk_fits m ne p) && every ne (λ e. one_edge m ne e)) ≡ true
    there h =
        let rounds = told h in
        let fits = (every-is np (λ p. self-is (walk_fits m ne p))).1 (λ p l. fits-of-round m ne p (two p l) (rounds p (omega arith) l).0) in
        both_is.1 (
          fits,
          (one-edges-is m np ne ends (walked fits)).1
              (λ p a l. sole-of-apart m ne p ends.differ (walked fits p l) (rounds p a l).1),
        )

    back : (every np (λ p. walk_fits m ne p) && every ne (λ e. one_edge m ne e)) ≡ true → r ≡ true
    back h =
        let parts = both_is.0 h in
        asked (λ p a l. (
          round-of-fits m ne p ((every-is np (λ p. self-is (walk_fits m ne p))).0 parts.0 p l),
          (one-edges-is m np ne ends (walked parts.0)).0 parts.1 p a l,
        ))
