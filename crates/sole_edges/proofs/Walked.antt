-- Walks about points that come back after their valences pass each edge of their points once, if the valences add up to twice the
-- edges. Assumes nothing.
--     round-of-fits, fits-of-round     such a walk is at its start again after its valence, and not before
--     walked-of-tests                  the points of a mesh of which these tests have passed
--     sole-of-apart                    where the other ends of the edges passed differ, each is the only one between its two points
use mathlib.Core.Path.{◌≡◌, refl, sym, ◌∙◌, ap}
use mathlib.Core.Bool.{Bool, true, false, false≢true}
use mathlib.Core.List.{List}
use mathlib.Core.Logic.{◌≢◌}
use Prim.Native.Nat.{ℕ, zero, suc, ◌*◌, ◌≤◌, ◌<◌}
use native.Mathlib.Omega.{arith}
use native.Mathlib.Decide.{dec_le}
use lib.Dec.{eqb}
use lib.ListN.{length}
use Rattle.tables.specs.Mesh.{Mesh, valence, start, origin, dest}
use Rattle.closed_meshes.specs.Renumbering.{sum_to}
use Rattle.audited_meshes.specs.Folds.{every, one_if, occurrences}
use Rattle.audited_meshes.specs.Walks.{Walk, back, lost, edges_of, passed, touches, acw_of_point, point_walk, Touches}
use Rattle.audited_meshes.specs.Audited.{Passes, PointWalked}
use Rattle.audited_meshes.specs.Quick.{point_back}
use Rattle.audited_meshes.proofs.Tests.{every-is, self-is, eqb_is}
use Rattle.audited_meshes.proofs.Folds.{sum_to-cong}
use Rattle.audited_meshes.proofs.Walks.{passes_on, passes-once}
use Rattle.audited_meshes.proofs.Sums.{sum_is}
use Rattle.audited_meshes.proofs.Audited.{touches-is, point_walk-is}
use Rattle.audit_tests.specs.Parts.{walk_fits}
use Rattle.walks.specs.Steps.{point_across}
use Rattle.few_edges.specs.Rounds.{Ends, edge_about, Round, EndsApart, Sole}
use Rattle.few_edges.proofs.Joins.{touches-of-joins, other-of-joins, joins-of-same, other_differs, joins-other}
use Rattle.few_edges.proofs.Rounds.{steps-of-passes, listed-of-steps, Place, place-of-passed}

-- a walk that came back after v edges
record Back (w : Walk) (v : ℕ) : Type 0 where
  edges : List ℕ
  came : w ≡ back edges
  many : length edges ≡ v

came-back : (w : Walk) (v : ℕ) → point_back v w ≡ true → Back w v
unfolding point_back
came-back (back es) v h = record { edges = es; came = refl; many = (eqb_is (length es) v).0 h }
came-back lost v h = absurd (false≢true h)

module _ (m : Mesh) (ne p : ℕ) where
  abbrev OnPoint : ℕ → Type 0
  OnPoint e = (e < ne) × Touches m p e

  -- the walk about p, of at most its valence
  abbrev about : Walk
  about = point_walk m ne (valence m p) p

  passes-of-back : (es : List ℕ) → about ≡ back es → Passes (acw_of_point m p) OnPoint (start m p) (start m p) es
  passes-of-back es q = ((point_walk-is m ne p (valence m p) es).0 q).0

  -- it passes edges of p alone, none of them twice
  edge-below : (i : ℕ) → 0 < occurrences i (edges_of about) → i < ne
  unfolding occurrences
  edge-below i = go about refl
    where
      go : (w : Walk) → about ≡ w → 0 < occurrences i (edges_of w) → i < ne
      go (back es) q l = (passes_on (acw_of_point m p) OnPoint (start m p) (start m p) es (passes-of-back es q) i l).0
      go lost q l = absurd (omega arith)

  edge-once : (i : ℕ) → occurrences i (edges_of about) ≤ one_if (touches m p i)
  unfolding occurrences
  edge-once i = go about refl (touches m p i) refl
    where
      go : (w : Walk) → about ≡ w → (b : Bool) → touches m p i ≡ b → occurrences i (edges_of w) ≤ one_if b
      go (back es) q true t = passes-once (acw_of_point m p) OnPoint (start m p) (start m p) es (passes-of-back es q) i
      go (back es) q false t = none (dec_le 1 (occurrences i es))
        where
          none : Dec (0 < occurrences i es) → occurrences i es ≤ 0
          none (yes l) =
              absurd (false≢true (sym t
              ∙ (touches-is m p i).1 (passes_on (acw_of_point m p) OnPoint (start m p) (start m p) es (passes-of-back es q) i l).1))
          none (no l) = omega arith
      go lost q b t = omega arith

-- the test of the walk about a point says that it is at its start again after its valence, and not before
pub round-of-fits : (m : Mesh) (ne p : ℕ) → walk_fits m ne p ≡ true → Round m ne p
round-of-fits m ne p h = go (came-back (about m ne p) (valence m p) h)
  where
    go : Back (about m ne p) (valence m p) → Round m ne p
    go w =
        let steps = steps-of-passes (acw_of_point m p) (OnPoint m ne p) (start m p) (start m p) w.edges
        (passes-of-back m ne p w.edges w.came) in
        record {
          on = λ a l. steps.on a (omega (arith, w.many));
          home = ap (edge_about m p) (sym w.many) ∙ steps.home;
          away = λ a h l. steps.away a h (omega (arith, w.many));
        }

pub fits-of-round : (m : Mesh) (ne p : ℕ) → 2 ≤ valence m p → Round m ne p → walk_fits m ne p ≡ true
unfolding point_back
fits-of-round m ne p two r = go (valence m p) two refl
  where
    go : (v : ℕ) → 2 ≤ v → v ≡ valence m p → walk_fits m ne p ≡ true
    go zero l e = absurd (omega arith)
    go (suc v) l e =
        let w = listed-of-steps (acw_of_point m p) (OnPoint m ne p) (start m p) v (start m p) (λ a k. r.on a (omega (arith, e)))
        (ap (edge_about m p) e ∙ r.home) (λ a h k. r.away a h (omega (arith, e))) in
        ap (point_back (valence m p)) ((point_walk-is m ne p (valence m p) w.edges).1 (w.passes, omega (arith, w.many, e)))
        ∙ (eqb_is (length w.edges) (valence m p)).1 (w.many ∙ e)

-- the points of a mesh of which these tests have passed
pub walked-of-tests : (m : Mesh) (np ne : ℕ) → Ends m np ne → ((p : ℕ) → p < np → 2 ≤ valence m p)
    → eqb (sum_to np (λ p. valence m p)) (2 * ne) ≡ true → every np (λ p. walk_fits m ne p) ≡ true
    → (p : ℕ) → p < np → PointWalked m ne p
walked-of-tests m np ne ends two sum fits p l =
    let w = came p l in
    record {
      edges = w.edges;
      passes = passes-of-back m ne p w.edges w.came;
      each-once = λ e k t.
          ap (λ (v : Walk). occurrences e (edges_of v)) (sym w.came) ∙ once p e l k ∙ ap one_if ((touches-is m p e).1 t);
      at-least-2 = omega (arith, w.many, two p l);
      is-valence = w.many;
    }
  where
    came : (p : ℕ) → p < np → Back (about m ne p) (valence m p)
    came p l = came-back (about m ne p) (valence m p) ((every-is np (λ k. self-is (walk_fits m ne k))).0 fits p l)

    lengths : sum_to np (λ p. passed (about m ne p)) ≡ 2 * ne
    lengths =
        sum_to-cong np (λ p. passed (about m ne p)) (λ p. valence m p) (λ p l. ap passed (came p l).came ∙ (came p l).many)
        ∙ (eqb_is (sum_to np (λ p. valence m p)) (2 * ne)).0 sum

    once : (p e : ℕ) → p < np → e < ne → occurrences e (edges_of (about m ne p)) ≡ one_if (touches m p e)
    once =
        (sum_is np ne (origin m) (dest m) ends.origin-below ends.dest-below ends.differ (λ p. edges_of (about m ne p))
        (λ p. edge-below m ne p) (λ p. edge-once m ne p)).0 lengths

-- the walk passes each edge of its point, so that it tells all of them apart
pub sole-of-apart : (m : Mesh) (ne p : ℕ) → ((e : ℕ) → e < ne → origin m e ≢ dest m e) → PointWalked m ne p → EndsApart m p → Sole m ne p
sole-of-apart m ne p differ w apart i j li lj t same =
    let joins = joins-other m p i (differ i li) t in
    let other = joins-of-same m p (point_across m p i) i j same joins in
    let away = other_differs m p i (differ i li) t in
    let at = place i li t in
    let to = place j lj (touches-of-joins m p (point_across m p i) j other) in
    sym at.is
    ∙ apart at.at to.at (omega (arith, at.below, w.is-valence)) (omega (arith, to.below, w.is-valence))
    (ap (point_across m p) at.is ∙ sym (other-of-joins m p (point_across m p i) j away other) ∙ ap (point_across m p) (sym to.is))
    ∙ to.is
  where
    place : (e : ℕ) → e < ne → Touches m p e → Place (acw_of_point m p) (OnPoint m ne p) (start m p) (start m p) e (length w.edges)
    place e l t =
        place-of-passed (acw_of_point m p) (OnPoint m ne p) (start m p) (start m p) w.edges w.passes e (omega (arith, w.each-once e l t))
