-- 14 and 15 told by mates: a place is the third on its edge, or runs the same way as its mate. Assumes nothing.
--     earlier-of, earlier-number    places in turn have numbers in turn, both ways
--     triple-of, no-triple          `third` is 14
--     same_of, no_same              of a place that is not the third, `runs_with_mate` is 15
use mathlib.Core.Path.{◌≡◌, refl, sym, ◌∙◌, ap}
use mathlib.Core.Bool.{Bool, true, false, not, false≢true}
use mathlib.Core.Logic.{◌⊎◌, inl, inr, ◌≢◌}
use Prim.Native.Nat.{ℕ, zero, suc, ◌+◌, ◌≤◌, ◌<◌}
use native.Mathlib.Omega.{arith}
use native.Mathlib.Decide.{ℕ_discrete, dec_lt}
use lib.Dec.{eqb}
use lib.ListN.{length}
use borrow.Author.Tests.{eqb-true, eq-eqb}
use Rattle.closed_meshes.proofs.Sums.{place-below}
use Rattle.built_meshes.specs.Lists.{Lists, size, offset}
use Rattle.built_meshes.specs.Places.{point_of, next_of, IsPlace, Runs, Between, Differ, Earlier}
use Rattle.built_meshes.proofs.Before.{Triple, Same}
use Rattle.mended_lists.specs.Edges.{FacePlace, listed_place, places_of, place_at, same_way, same_edge, mate, has_mate, third}
use Rattle.mended_lists.proofs.Edges.{mate-last, mate-found, places-at, number-face, number-place}
use Rattle.mended_lists.proofs.Choices.{between-place}
use Rattle.mended_lists.proofs.Passed.{OnEdge, on-at, on_same, on-mate, three}
use Rattle.refusal_places.specs.Spots.{runs_with, runs_with_mate}

module _ (l : Lists) where
  -- ---- places in turn

  number-less : (f i g j : ℕ) → IsPlace l f i → f < g → offset l f + i < offset l g + j
  unfolding offset
  number-less f i g j (a, b) h = let z = place-below (λ f. size l f) f g i h b in omega (arith, z)

  pub earlier-of : (f i g j : ℕ) → IsPlace l f i → IsPlace l g j → offset l f + i < offset l g + j → Earlier f i g j
  earlier-of f i g j p q h = go (dec_lt f g) (dec_lt g f)
    where
      go : Dec (f < g) → Dec (g < f) → Earlier f i g j
      go (yes x) y = inl x
      go (no x) (yes y) = absurd (let z = number-less g j f i q y in omega (arith, z))
      go (no x) (no y) =
          let e : f ≡ g = omega arith in
          let s : offset l f ≡ offset l g = ap (offset l) e in
          inr (e, omega (arith, s))

  pub earlier-number : (f i g j : ℕ) → IsPlace l f i → Earlier f i g j → offset l f + i < offset l g + j
  earlier-number f i g j p (inl h) = number-less f i g j p h
  earlier-number f i g j p (inr (e, h)) = let s : offset l f ≡ offset l g = ap (offset l) e in omega (arith, s)

  -- ---- places on one edge

  on : (f i p q : ℕ) → Between l f i p q → OnEdge l p q (offset l f + i)
  on f i p q b = record { face = f; place = i; between = b; number = refl }

  on-place : (p q k : ℕ) (o : OnEdge l p q k) → IsPlace l o.face o.place
  on-place p q k o = between-place l o.face o.place p q o.between

  on-earlier : (p q j k : ℕ) (a : OnEdge l p q j) (b : OnEdge l p q k) → j < k → Earlier a.face a.place b.face b.place
  on-earlier p q j k a b h =
      earlier-of a.face a.place b.face b.place (on-place p q j a) (on-place p q k b) (omega (arith, a.number, b.number))

  apart : (f i g j p q : ℕ) → Between l f i p q → Between l g j p q → Differ f i g j → offset l f + i ≢ offset l g + j
  apart f i g j p q a b d e =
      d (
        number-face l f i g j (between-place l f i p q a) (between-place l g j p q b) e,
        number-place l f i g j (between-place l f i p q a) (between-place l g j p q b) e,
      )

  module _ (f i : ℕ) (is : IsPlace l f i) where
    abbrev P : ℕ
    P = point_of l f i

    abbrev Q : ℕ
    Q = next_of l f i

    abbrev N : ℕ
    N = offset l f + i

    this : Runs l f i P Q
    this = record { is-place = is; begins = refl; ends = refl }

    here : OnEdge l P Q N
    here = on f i P Q (inl this)

    some : (m : ℕ) → not (eqb m 0) ≡ true → (j : ℕ) × (m ≡ suc j)
    some zero h = absurd (false≢true h)
    some (suc j) h = (j, refl)

    pub triple-of : third (places_of l) N ≡ true → Triple l f i
    unfolding third here on
    triple-of h = go (mate (places_of l) N) refl h
      where
        go : (m : ℕ) → mate (places_of l) N ≡ m → has_mate (places_of l) m ≡ true → Triple l f i
        go zero e h = absurd (false≢true h)
        go (suc j) e h =
            let s = some (mate (places_of l) j) h in
            let a = on-mate l P Q j N here e in
            let b = on-mate l P Q s.0 j a s.1 in
            let x : j < N = (mate-last (places_of l) N j e).in-range in
            let y : s.0 < j = (mate-last (places_of l) j s.0 s.1).in-range in (
              a.face,
              a.place,
              b.face,
              b.place,
              P,
              Q,
              this,
              a.between,
              b.between,
              on-earlier P Q j N a here x,
              on-earlier P Q s.0 N b here (omega arith),
              λ z. omega (arith, a.number, b.number, y, ap (offset l) z.0, z.1),
            )

    pub no-triple : third (places_of l) N ≡ false → ¬ Triple l f i
    no-triple h (g, j, g', j', p, q, r, a, b, ea, eb, d) =
        let x = earlier-number g j f i (between-place l g j p q a) ea in
        let y = earlier-number g' j' f i (between-place l g' j' p q b) eb in
        go x y (dec_lt (offset l g + j) (offset l g' + j')) (dec_lt (offset l g' + j') (offset l g + j))
      where
        go :
            offset l g + j < N → offset l g' + j' < N → Dec (offset l g + j < offset l g' + j') →
            Dec (offset l g' + j' < offset l g + j) → ⊥
        go x y (yes u) v =
            false≢true (sym h ∙ three l p q (offset l g + j) (offset l g' + j') N u y (on g j p q a) (on g' j' p q b) (on f i p q (inl r)))
        go x y (no u) (yes v) =
            false≢true (sym h ∙ three l p q (offset l g' + j') (offset l g + j) N v x (on g' j' p q b) (on g j p q a) (on f i p q (inl r)))
        go x y (no u) (no v) = apart g j g' j' p q a b d (omega arith)

    pub same_of : runs_with_mate (places_of l) N ≡ true → Same l f i
    unfolding runs_with_mate here on
    same_of h = go (mate (places_of l) N) refl h
      where
        go : (m : ℕ) → mate (places_of l) N ≡ m → runs_with (places_of l) m N ≡ true → Same l f i
        go zero e h = absurd (false≢true h)
        go (suc j) e h =
            let a = on-mate l P Q j N here e in
            let x : j < N = (mate-last (places_of l) N j e).in-range in
            let w : point_of l a.face a.place ≡ P =
            sym (ap (λ (x : FacePlace). x.from) (on-at l P Q j a))
            ∙ eqb-true (place_at (places_of l) j).from (place_at (places_of l) N).from h
            ∙ ap (λ (x : FacePlace). x.from) (on-at l P Q N here) in
            (a.face, a.place, P, Q, this, way a.face a.place w a.between, on-earlier P Q j N a here x)
          where
            way : (g j : ℕ) → point_of l g j ≡ P → Between l g j P Q → Runs l g j P Q
            way g j w (inl r) = r
            way g j w (inr r) = record { is-place = r.is-place; begins = w; ends = r.ends ∙ sym w ∙ r.begins }

    pub no_same : third (places_of l) N ≡ false → runs_with_mate (places_of l) N ≡ false → ¬ Same l f i
    unfolding runs_with_mate
    no_same t h (g, j, p, q, r, s, e) =
        let x = earlier-number g j f i s.is-place e in
        let a = on g j p q (inl s) in
        let b = on f i p q (inl r) in
        go x a b (mate-found (places_of l) N (offset l g + j) x (on_same l p q (offset l g + j) N a b))
      where
        go :
            offset l g + j < N → OnEdge l p q (offset l g + j) → OnEdge l p q N →
            (m : ℕ) × (mate (places_of l) N ≡ suc m) × (offset l g + j ≤ m) → ⊥
        go x a b (m, e, le) = this-one (ℕ_discrete (offset l g + j) m)
          where
            this-one : Dec (offset l g + j ≡ m) → ⊥
            this-one (yes u) =
                let from-m : (place_at (places_of l) m).from ≡ p =
                ap (λ (k : ℕ). (place_at (places_of l) k).from) (sym u) ∙ ap (λ (x : FacePlace). x.from) (places-at l g j s.is-place) ∙ s.begins in
                let from-n : (place_at (places_of l) N).from ≡ p = ap (λ (x : FacePlace). x.from) (places-at l f i is) ∙ r.begins in
                false≢true
                (sym (rw e at h)
                ∙ eq-eqb (place_at (places_of l) m).from (place_at (places_of l) N).from (from-m ∙ sym from-n))
            this-one (no u) =
                false≢true
                (sym t
                ∙ three l p q (offset l g + j) m N (omega arith) (mate-last (places_of l) N m e).in-range a (on-mate l p q m N b e) b)
