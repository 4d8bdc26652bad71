-- The claims of the edge that is told. Assumes nothing.
--     listed-is              the test of the place, and what it says
--     Came, came             what the search for a face comes to
--     missing-exactly .. same-way-told       the claims of `specs/Claims.antt`
use mathlib.Core.Path.{◌≡◌, refl, sym, ◌∙◌, ap, subst}
use mathlib.Core.Bool.{Bool, true, false, not, cond, false≢true}
use mathlib.Core.Logic.{◌⊎◌, inl, inr}
use Prim.Native.Nat.{ℕ, zero, suc, ◌+◌, ◌≤◌, ◌<◌}
use native.Mathlib.Omega.{arith}
use native.Mathlib.Decide.{dec_lt}
use lib.ListN.{length}
use borrow.Author.Tests.{not-false}
use Rattle.tables.specs.declared.Sizes.{Sizes}
use Rattle.tables.specs.Mesh.{Mesh}
use Rattle.audited_meshes.proofs.Folds.{below_suc}
use Rattle.audited_meshes.proofs.Tests.{Is, and_is, not_is, eqb_is, ltb-is, leb-is, every-is}
use Rattle.built_meshes.specs.Lists.{Lists, faces_of, size, offset, counts_fit}
use Rattle.built_meshes.specs.Places.{point_of, next_of, IsPlace, Runs, Earlier}
use Rattle.built_meshes.specs.Grounds.{lists, face, edge, Met, over-counts, point-twice, triple-face, same_way, FirstMet}
use Rattle.built_meshes.specs.declared.Ground.{Ground}
use Rattle.built_meshes.specs.declared.Ground.TheVariants.{OverCounts, PointTwice, SameWay}
use Rattle.built_meshes.proofs.Versions.{every-false}
use Rattle.built_meshes.proofs.Begin.{counts-is, counts-fail, sides-listed}
use Rattle.told_edges.specs.declared.ToldEdge.{ToldEdge}
use Rattle.told_edges.specs.declared.ToldEdge.TheVariants.{Missing, First, Again}
use Rattle.told_edges.specs.Told.{runs_at, none_runs, before, same_way_before, is_listed, told_edge}
use Rattle.told_edges.specs.Claims.{PlaceListed, FirstFace, MissingExactly, AgainExactly, FirstExactly, PointsTold, SameWayTold}
use Rattle.told_edges.proofs.Laws.{offset-more, offset-le}

-- ---- the place

listed-is : (l : Lists) (f i : ℕ) → Is (is_listed l f i) (PlaceListed l f i)
unfolding is_listed
listed-is l f i =
    let z = and_is (ltb-is f (faces_of l)) (and_is (leb-is (offset l f + size l f) (length l.listed)) (ltb-is i (size l f))) in (
      λ e. let (a, b) = z.0 e in record { is-place = (a, b.1); all_there = b.0 },
      λ x. z.1 (x.is-place.0, (x.all_there, x.is-place.1)),
    )

-- ---- the search for a face

module _ (l : Lists) (p q : ℕ) where
  runs-is : (f i : ℕ) → Is (runs_at l p q f i) ((point_of l f i ≡ p) × (next_of l f i ≡ q))
  runs-is f i = and_is (eqb_is (point_of l f i) p) (eqb_is (next_of l f i) q)

  none_is : (f : ℕ) → Is (none_runs l p q f) ((i : ℕ) → i < size l f → ¬ ((point_of l f i ≡ p) × (next_of l f i ≡ q)))
  unfolding none_runs
  none_is f = every-is (size l f) (λ i. not_is (runs-is f i))

  some_runs : (f : ℕ) → f < faces_of l → none_runs l p q f ≡ false → (i : ℕ) × Runs l f i p q
  unfolding none_runs
  some_runs f b h =
      let (i, is, t) = every-false (size l f) (λ i. not (runs_at l p q f i)) h in
      let (x, y) = (runs-is f i).0 (not-false (runs_at l p q f i) t) in
      (i, record { is-place = (b, is); begins = x; ends = y })

  data Came (f : ℕ) : ToldEdge → Type 0 where
    none : ((g j : ℕ) → g < f → ¬ Runs l g j p q) → Came f (First p q)
    some : (g : ℕ) → FirstFace l f p q g → Came f (Again p q g)

  came : (f : ℕ) → f ≤ faces_of l → Came f (same_way_before l p q f)
  unfolding same_way_before
  came zero b = none (λ g j h. absurd (omega arith))
  came (suc f) b = go (same_way_before l p q f) (came f (omega arith))
    where
      turn : ((g j : ℕ) → g < f → ¬ Runs l g j p q) → (t : Bool) → none_runs l p q f ≡ t → Came (suc f) (cond t (First p q) (Again p q f))
      turn far true e =
          none (λ g j h r.
          below_suc g f h (λ z. far g j z r)
          (λ z. (none_is f).0 e j (subst (λ g. j < size l g) z r.is-place.1)
          (subst (λ g. (point_of l g j ≡ p) × (next_of l g j ≡ q)) z (r.begins, r.ends))))
      turn far false e =
          let (j, r) = some_runs f b e in
          some f (record { earlier = omega arith; place = j; runs = r; none_before = λ h j z. far h j z })

      go : (t : ToldEdge) → Came f t → Came (suc f) (before t (cond (none_runs l p q f) (First p q) (Again p q f)))
      go t (none far) = turn far (none_runs l p q f) refl
      go t (some g x) =
          some g (record { earlier = omega (arith, x.earlier); place = x.place; runs = x.runs; none_before = x.none_before })

-- ---- what is told

-- the place is not listed, or what is told is what the search comes to
data Told (l : Lists) (f i : ℕ) : ToldEdge → Type 0 where
  missing : ¬ PlaceListed l f i → Told l f i Missing
  found : PlaceListed l f i → {t : ToldEdge} → Came l (point_of l f i) (next_of l f i) f t → Told l f i t

told : (l : Lists) (f i : ℕ) → Told l f i (told_edge l f i)
unfolding told_edge
told l f i = go (is_listed l f i) refl
  where
    go : (t : Bool) → is_listed l f i ≡ t → Told l f i (cond t (same_way_before l (point_of l f i) (next_of l f i) f) Missing)
    go true e =
        let x = (listed-is l f i).0 e in
        let b = x.is-place.0 in
        found x (came l (point_of l f i) (next_of l f i) f (omega arith))
    go false e = missing (λ x. false≢true (sym e ∙ (listed-is l f i).1 x))

-- the first face is one
first-once : (l : Lists) (f p q g h : ℕ) → FirstFace l f p q g → FirstFace l f p q h → g ≡ h
first-once l f p q g h x y = go (dec_lt g h) (dec_lt h g)
  where
    go : Dec (g < h) → Dec (h < g) → g ≡ h
    go (yes a) b = absurd (y.none_before g x.place a x.runs)
    go (no a) (yes b) = absurd (x.none_before h y.place b y.runs)
    go (no a) (no b) = omega arith

pub missing-exactly : MissingExactly
missing-exactly l f i = (to, from)
  where
    to : told_edge l f i ≡ Missing → ¬ PlaceListed l f i
    to e = go (told_edge l f i) e (told l f i)
      where
        go : (t : ToldEdge) → t ≡ Missing → Told l f i t → ¬ PlaceListed l f i
        go t e (missing h) = h
        go t e (found x (none far)) = absurd (let z : ◌≡◌ {A = ℕ} 0 1 = cc in omega arith)
        go t e (found x (some g h)) = absurd (let z : ◌≡◌ {A = ℕ} 0 1 = cc in omega arith)

    from : ¬ PlaceListed l f i → told_edge l f i ≡ Missing
    from h = go (told_edge l f i) (told l f i)
      where
        go : (t : ToldEdge) → Told l f i t → t ≡ Missing
        go t (missing k) = refl
        go t (found x k) = absurd (h x)

pub again-exactly : AgainExactly
again-exactly l f i p q g = (to, from)
  where
    to : told_edge l f i ≡ Again p q g → PlaceListed l f i × Runs l f i p q × FirstFace l f p q g
    to e = go (told_edge l f i) e (told l f i)
      where
        go : (t : ToldEdge) → t ≡ Again p q g → Told l f i t → PlaceListed l f i × Runs l f i p q × FirstFace l f p q g
        go t e (missing h) = absurd (let z : ◌≡◌ {A = ℕ} 0 1 = cc in omega arith)
        go t e (found x (none far)) = absurd (let z : ◌≡◌ {A = ℕ} 0 1 = cc in omega arith)
        go t e (found x (some h k)) =
            let a : point_of l f i ≡ p = cc in
            let b : next_of l f i ≡ q = cc in
            let d : h ≡ g = cc in
            (x, record { is-place = x.is-place; begins = a; ends = b }, rw (a, b, d) at k)

    from : PlaceListed l f i × Runs l f i p q × FirstFace l f p q g → told_edge l f i ≡ Again p q g
    from (x, r, k) = go (told_edge l f i) (told l f i)
      where
        go : (t : ToldEdge) → Told l f i t → t ≡ Again p q g
        go t (missing h) = absurd (h x)
        go t (found y (none far)) = absurd (rw (r.begins, r.ends) at far g k.place k.earlier k.runs)
        go t (found y (some h j)) =
            let e : h ≡ g = first-once l f p q h g (rw (r.begins, r.ends) at j) k in
            λ s. Again (r.begins s) (r.ends s) (e s)

pub first-exactly : FirstExactly
first-exactly l f i p q = (to, from)
  where
    to : told_edge l f i ≡ First p q → PlaceListed l f i × Runs l f i p q × ((g j : ℕ) → g < f → ¬ Runs l g j p q)
    to e = go (told_edge l f i) e (told l f i)
      where
        go : (t : ToldEdge) → t ≡ First p q → Told l f i t → PlaceListed l f i × Runs l f i p q × ((g j : ℕ) → g < f → ¬ Runs l g j p q)
        go t e (missing h) = absurd (let z : ◌≡◌ {A = ℕ} 0 1 = cc in omega arith)
        go t e (found x (none far)) =
            let a : point_of l f i ≡ p = cc in
            let b : next_of l f i ≡ q = cc in
            (x, record { is-place = x.is-place; begins = a; ends = b }, rw (a, b) at far)
        go t e (found x (some h k)) = absurd (let z : ◌≡◌ {A = ℕ} 0 1 = cc in omega arith)

    from : PlaceListed l f i × Runs l f i p q × ((g j : ℕ) → g < f → ¬ Runs l g j p q) → told_edge l f i ≡ First p q
    from (x, r, k) = go (told_edge l f i) (told l f i)
      where
        go : (t : ToldEdge) → Told l f i t → t ≡ First p q
        go t (missing h) = absurd (h x)
        go t (found y (none far)) = λ s. First (r.begins s) (r.ends s)
        go t (found y (some h j)) = absurd (k h j.place j.earlier (rw (r.begins, r.ends) at j.runs))

-- ---- where a ground is met first at an edge

module _ (c : Sizes) (l : Lists) (m : Mesh) (f i : ℕ) where
  edge-runs : (g : Ground) → Met c l m (edge f i) g → (p : ℕ) × (q : ℕ) × Runs l f i p q
  edge-runs g (triple-face f i h j k n p q r a b x y d) = (p, q, r)
  edge-runs g (same_way f i h j p q r t e) = (p, q, r)

  -- 2 is not met, so that the points of all faces are there
  edge-listed : (g : Ground) → FirstMet c l m (edge f i) g → IsPlace l f i → PlaceListed l f i
  edge-listed g h is = go (counts_fit c l) refl
    where
      go : (t : Bool) → counts_fit c l ≡ t → PlaceListed l f i
      go true e =
          record {
            is-place = is;
            all_there =
                omega (arith, sides-listed c l (counts-is c l e), offset-more l f, offset-le l (suc f) (faces_of l) is.0);
          }
      go false e = absurd (h.none_before lists OverCounts (inl (omega arith)) (over-counts (counts-fail c l e)))

  -- 12 is not met in the face, so that the place before is one of another face
  another-face : (g : Ground) → FirstMet c l m (edge f i) g → (h j p q : ℕ) → Runs l f i p q → Runs l h j p q → Earlier h j f i → h < f
  another-face g first h j p q r t (inl e) = e
  another-face g first h j p q r t (inr (e, b)) =
      absurd
      (first.none_before (face f) PointTwice (inr (refl, inr (refl, inl (omega arith))))
      (point-twice f i j r.is-place b (r.begins ∙ sym t.begins ∙ ap (λ (h : ℕ). point_of l h j) e)))

pub points-told : PointsTold
points-told c l m f i g h = go (edge-runs c l m f i g h.met)
  where
    go :
        (p : ℕ) × (q : ℕ) × Runs l f i p q →
        (p : ℕ) × (q : ℕ) × Runs l f i p q × ((told_edge l f i ≡ First p q) ⊎ ((k : ℕ) × (told_edge l f i ≡ Again p q k)))
    go (p, q, r) = (p, q, r, turn (told_edge l f i) (told l f i))
      where
        turn : (t : ToldEdge) → Told l f i t → (t ≡ First p q) ⊎ ((k : ℕ) × (t ≡ Again p q k))
        turn t (missing x) = absurd (x (edge-listed c l m f i g h r.is-place))
        turn t (found x (none far)) = inl (λ s. First (r.begins s) (r.ends s))
        turn t (found x (some k y)) = inr (k, λ s. Again (r.begins s) (r.ends s) k)

pub same-way-told : SameWayTold
same-way-told c l m f i h = go h.met
  where
    go :
        Met c l m (edge f i) SameWay →
        (p : ℕ) × (q : ℕ) × (g : ℕ) × Runs l f i p q × FirstFace l f p q g × (told_edge l f i ≡ Again p q g)
    go (same_way f i k j p q r t e) = turn (told_edge l f i) refl (told l f i)
      where
        turn :
            (x : ToldEdge) → told_edge l f i ≡ x → Told l f i x →
            (p : ℕ) × (q : ℕ) × (g : ℕ) × Runs l f i p q × FirstFace l f p q g × (told_edge l f i ≡ Again p q g)
        turn x a (missing y) = absurd (y (edge-listed c l m f i SameWay h r.is-place))
        turn x a (found y (none far)) =
            absurd ((rw (r.begins, r.ends) at far) k j (another-face c l m f i SameWay h k j p q r t e) t)
        turn x a (found y (some g z)) =
            (point_of l f i, next_of l f i, g, record { is-place = r.is-place; begins = refl; ends = refl }, z, a)
