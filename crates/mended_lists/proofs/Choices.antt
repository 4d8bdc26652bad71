-- A choice works exactly if each place and its mate run opposite ways in it. Assumes nothing.
use mathlib.Core.Path.{◌≡◌, refl, sym, ◌∙◌, ap}
use mathlib.Core.Bool.{Bool, true, false, false≢true}
use mathlib.Core.Logic.{◌⊎◌, inl, inr, ◌≢◌}
use Prim.Native.Nat.{ℕ, suc, ◌+◌, ◌≤◌, ◌<◌}
use native.Mathlib.Omega.{arith}
use native.Mathlib.Decide.{ℕ_discrete, dec_lt}
use lib.Dec.{eqb}
use lib.ListN.{length}
use borrow.Author.Tests.{eqb-true, eq-eqb}
use Rattle.built_meshes.specs.Lists.{Lists, size, offset}
use Rattle.built_meshes.specs.Places.{point_of, next_of, IsPlace, Runs, Between, Differ}
use Rattle.mended_lists.specs.Reversal.{Choice}
use Rattle.mended_lists.specs.Edges.{listed_place, places_of, place_at, same_way, same_edge, mate}
use Rattle.mended_lists.specs.Parts.{differ}
use Rattle.mended_lists.specs.Claims.{Sound, Works}
use Rattle.mended_lists.proofs.Parts.{differ-swap, OppositeAt}
use Rattle.mended_lists.proofs.Edges.{edge-is, mate-last, mate-found, places-at, number-below, number-face, number-place, Numbered, numbered}
use Rattle.mended_lists.proofs.Reversal.{mirrored, mirrored-mirrored, eqb-false, is-place-before, runs-before-kept, runs-before-turned, runs-kept, runs-turned}

-- ---- from the choice to the mates

pub mirrored-injective : (n m i j : ℕ) → n ≡ m → i < n → j < m → mirrored n i ≡ mirrored m j → i ≡ j
mirrored-injective n m i j s a b e =
    sym (mirrored-mirrored n i a) ∙ ap (mirrored n) e ∙ ap (λ (x : ℕ). mirrored x (mirrored m j)) s ∙ mirrored-mirrored m j b

module _ (l : Lists) (c : Choice) (works : Works l c) (g j f i p q : ℕ) where
  -- two places that run one way: one of the two faces is turned
  one_way : Runs l g j p q → Runs l f i p q → Differ g j f i → differ (c g) (c f) ≡ true
  one_way r s d = go (c g) (c f) refl refl
    where
      go : (a b : Bool) → c g ≡ a → c f ≡ b → differ a b ≡ true
      go true true u v =
          let e = works g (mirrored (size l g) j) f (mirrored (size l f) i) q p (runs-turned c l g j p q u r) (runs-turned c l f i p q v s) in
          absurd
          (d (
            e.0,
            mirrored-injective (size l g) (size l f) j i (ap (λ (x : ℕ). size l x) e.0) r.is-place.1 s.is-place.1 e.1,
          ))
      go true false u v = refl
      go false true u v = refl
      go false false u v = absurd (d (works g j f i p q (runs-kept c l g j p q u r) (runs-kept c l f i p q v s)))

  -- two places that run opposite ways: both are turned or none is
  other_way : Runs l g j q p → Runs l f i p q → differ (c g) (c f) ≡ false
  other_way r s = go (c g) (c f) refl refl
    where
      go : (a b : Bool) → c g ≡ a → c f ≡ b → differ a b ≡ false
      go true true u v = refl
      go true false u v =
          let e = works g (mirrored (size l g) j) f i p q (runs-turned c l g j q p u r) (runs-kept c l f i p q v s) in
          absurd (false≢true (sym v ∙ ap c (sym e.0) ∙ u))
      go false true u v =
          let e = works g j f (mirrored (size l f) i) q p (runs-kept c l g j q p u r) (runs-turned c l f i p q v s) in
          absurd (false≢true (sym u ∙ ap c e.0 ∙ v))
      go false false u v = refl

module _ (l : Lists) (c : Choice) (sound : Sound l) (works : Works l c) where
  pub works-opposite : (k : ℕ) → k < length (places_of l) → OppositeAt c (places_of l) k
  works-opposite k b j e = go (mate-last (places_of l) k j e).in-range (mate-last (places_of l) k j e).passes
    where
      this :
          (x y : ℕ) (u : Numbered l x) (v : Numbered l y) → x < y →
          same_edge (listed_place l u.face u.place) (listed_place l v.face v.place) ≡ true →
          differ (c u.face) (c v.face) ≡ eqb (point_of l u.face u.place) (point_of l v.face v.place)
      this x y u v less same = either ((edge-is (listed_place l u.face u.place) (listed_place l v.face v.place)).0 same)
        where
          either :
              ((point_of l u.face u.place ≡ point_of l v.face v.place) × (next_of l u.face u.place ≡ next_of l v.face v.place))
              ⊎ ((point_of l u.face u.place ≡ next_of l v.face v.place) × (next_of l u.face u.place ≡ point_of l v.face v.place)) →
              differ (c u.face) (c v.face) ≡ eqb (point_of l u.face u.place) (point_of l v.face v.place)
          either (inl (a, t)) =
              one_way l c works u.face u.place v.face v.place (point_of l v.face v.place) (next_of l v.face v.place)
              (record { is-place = u.is-place; begins = a; ends = t }) (record { is-place = v.is-place; begins = refl; ends = refl })
              (λ s. apart u.face v.face u.place v.place s.0 s.1 u.number v.number)
              ∙ sym (eq-eqb (point_of l u.face u.place) (point_of l v.face v.place) a)
            where
              apart : (f g i j : ℕ) → f ≡ g → i ≡ j → offset l f + i ≡ x → offset l g + j ≡ y → ⊥
              apart f g i j s t m n = omega (arith, ap (offset l) s)
          either (inr (a, t)) =
              other_way l c works u.face u.place v.face v.place (point_of l v.face v.place) (next_of l v.face v.place)
              (record { is-place = u.is-place; begins = a; ends = t }) (record { is-place = v.is-place; begins = refl; ends = refl })
              ∙ sym
              (eqb-false (point_of l u.face u.place) (point_of l v.face v.place)
              (λ s. sound.no_loop u.face u.place (point_of l u.face u.place)
              (record { is-place = u.is-place; begins = refl; ends = t ∙ sym s })))

      go :
          j < k → same_edge (place_at (places_of l) j) (place_at (places_of l) k) ≡ true →
          differ (c (place_at (places_of l) j).face) (c (place_at (places_of l) k).face) ≡ same_way (place_at (places_of l) j) (place_at (places_of l) k)
      go less same =
          let u : Numbered l j = numbered l j (omega arith) in
          let v : Numbered l k = numbered l k b in
          rw (u.at, v.at) (this j k u v less (rw (u.at, v.at) at same))

-- ---- from the mates to the choice

pub between-edge :
    (l : Lists) (f i g j p q : ℕ) → Between l f i p q → Between l g j p q → same_edge (listed_place l f i) (listed_place l g j) ≡ true
between-edge l f i g j p q a b = (edge-is (listed_place l f i) (listed_place l g j)).1 (go a b)
  where
    go :
        Between l f i p q → Between l g j p q →
        ((point_of l f i ≡ point_of l g j) × (next_of l f i ≡ next_of l g j)) ⊎ ((point_of l f i ≡ next_of l g j) × (next_of l f i ≡ point_of l g j))
    go (inl r) (inl s) = inl (r.begins ∙ sym s.begins, r.ends ∙ sym s.ends)
    go (inl r) (inr s) = inr (r.begins ∙ sym s.ends, r.ends ∙ sym s.begins)
    go (inr r) (inl s) = inr (r.begins ∙ sym s.ends, r.ends ∙ sym s.begins)
    go (inr r) (inr s) = inl (r.begins ∙ sym s.begins, r.ends ∙ sym s.ends)

pub edge-between : (l : Lists) (f i g j p q : ℕ) → IsPlace l f i → Between l g j p q → same_edge (listed_place l f i) (listed_place l g j) ≡ true → Between l f i p q
edge-between l f i g j p q at b e = go b ((edge-is (listed_place l f i) (listed_place l g j)).0 e)
  where
    go :
        Between l g j p q →
        ((point_of l f i ≡ point_of l g j) × (next_of l f i ≡ next_of l g j)) ⊎ ((point_of l f i ≡ next_of l g j) × (next_of l f i ≡ point_of l g j)) →
        Between l f i p q
    go (inl s) (inl (x, y)) = inl (record { is-place = at; begins = x ∙ s.begins; ends = y ∙ s.ends })
    go (inl s) (inr (x, y)) = inr (record { is-place = at; begins = x ∙ s.ends; ends = y ∙ s.begins })
    go (inr s) (inl (x, y)) = inr (record { is-place = at; begins = x ∙ s.begins; ends = y ∙ s.ends })
    go (inr s) (inr (x, y)) = inl (record { is-place = at; begins = x ∙ s.ends; ends = y ∙ s.begins })

pub between-place : (l : Lists) (f i p q : ℕ) → Between l f i p q → IsPlace l f i
between-place l f i p q (inl r) = r.is-place
between-place l f i p q (inr r) = r.is-place

module _ (l : Lists) (sound : Sound l) where
  -- of two places on an edge the earlier is the mate of the later
  pub only-mate :
      (f i g j p q : ℕ) → Between l f i p q → Between l g j p q → offset l f + i < offset l g + j →
      mate (places_of l) (offset l g + j) ≡ suc (offset l f + i)
  only-mate f i g j p q a b less = go (mate-found (places_of l) (offset l g + j) (offset l f + i) less same)
    where
      at_f : IsPlace l f i
      at_f = between-place l f i p q a

      at_g : IsPlace l g j
      at_g = between-place l g j p q b

      same : same_edge (place_at (places_of l) (offset l f + i)) (place_at (places_of l) (offset l g + j)) ≡ true
      same = rw (places-at l f i at_f, places-at l g j at_g) (between-edge l f i g j p q a b)

      apart : (f g i j x y : ℕ) → offset l f + i ≡ x → offset l g + j ≡ y → x ≢ y → Differ f i g j
      apart f g i j x y m n d (s, t) = d (sym m ∙ ap (λ (z : ℕ). offset l z + i) s ∙ ap (λ (z : ℕ). offset l g + z) t ∙ n)

      go :
          (m : ℕ) × (mate (places_of l) (offset l g + j) ≡ suc m) × (offset l f + i ≤ m) →
          mate (places_of l) (offset l g + j) ≡ suc (offset l f + i)
      go (m, e, le) = this (ℕ_discrete m (offset l f + i))
        where
          this : Dec (m ≡ offset l f + i) → mate (places_of l) (offset l g + j) ≡ suc (offset l f + i)
          this (yes s) = e ∙ ap suc s
          this (no d) =
              let in-range : m < offset l g + j = (mate-last (places_of l) (offset l g + j) m e).in-range in
              let all : offset l g + j < length (places_of l) = number-below l g j at_g in
              let u : Numbered l m = numbered l m (omega arith) in
              let shared = rw (u.at, places-at l g j at_g) at (mate-last (places_of l) (offset l g + j) m e).passes in
              absurd
              (sound.at_most_two f i u.face u.place g j p q a (edge-between l u.face u.place g j p q u.is-place b shared) b
              (apart f u.face i u.place (offset l f + i) m refl u.number (λ s. d (sym s)))
              (apart f g i j (offset l f + i) (offset l g + j) refl refl (λ s. omega arith))
              (apart u.face g u.place j m (offset l g + j) u.number refl (λ s. omega arith)))

  module _ (c : Choice) (opposite : (k : ℕ) → k < length (places_of l) → OppositeAt c (places_of l) k) where
    later-opposite :
        (f i g j p q : ℕ) → Between l f i p q → Between l g j p q → offset l f + i < offset l g + j →
        differ (c f) (c g) ≡ eqb (point_of l f i) (point_of l g j)
    later-opposite f i g j p q a b less =
        let at_f : IsPlace l f i = between-place l f i p q a in
        let at_g : IsPlace l g j = between-place l g j p q b in
        rw (places-at l f i at_f, places-at l g j at_g) at
        (opposite (offset l g + j) (number-below l g j at_g) (offset l f + i) (only-mate f i g j p q a b less))

    -- two places on an edge that run one way in the turned lists are one
    pub opposite-works : Works l c
    opposite-works f i g j p q r s = go (c f) (c g) refl refl
      where
        compare :
            (i' j' : ℕ) → Between l f i' p q → Between l g j' p q →
            (differ (c f) (c g) ≡ eqb (point_of l f i') (point_of l g j') → ⊥) → (f ≡ g) × (i' ≡ j')
        compare i' j' a b not_so = this (dec_lt (offset l f + i') (offset l g + j')) (dec_lt (offset l g + j') (offset l f + i'))
          where
            swapped : (x y : ℕ) → eqb x y ≡ eqb y x
            swapped x y = both (ℕ_discrete x y)
              where
                both : Dec (x ≡ y) → eqb x y ≡ eqb y x
                both (yes e) = rw e
                both (no e) = eqb-false x y e ∙ sym (eqb-false y x (λ z. e (sym z)))

            this :
                Dec (offset l f + i' < offset l g + j') → Dec (offset l g + j' < offset l f + i') → (f ≡ g) × (i' ≡ j')
            this (yes less) d = absurd (not_so (later-opposite f i' g j' p q a b less))
            this (no d) (yes less) =
                absurd
                (not_so
                (differ-swap (c f) (c g) ∙ later-opposite g j' f i' p q b a less ∙ swapped (point_of l g j') (point_of l f i')))
            this (no d) (no d') =
                let e : offset l f + i' ≡ offset l g + j' = omega arith in
                let at_f : IsPlace l f i' = between-place l f i' p q a in
                let at_g : IsPlace l g j' = between-place l g j' p q b in
                (number-face l f i' g j' at_f at_g e, number-place l f i' g j' at_f at_g e)

        one : (x y : ℕ) → x ≡ y → (eqb x y ≡ false → ⊥)
        one x y e t = false≢true (sym t ∙ eq-eqb x y e)

        -- one of the two is turned
        loop : (f i p q : ℕ) → Runs l f i p q → p ≡ q → ⊥
        loop f i p q r e = sound.no_loop f i q (record { is-place = r.is-place; begins = r.begins ∙ e; ends = r.ends })

        go : (a b : Bool) → c f ≡ a → c g ≡ b → (f ≡ g) × (i ≡ j)
        go true true u v =
            let r' = runs-before-turned c l f i p q u r in
            let s' = runs-before-turned c l g j p q v s in
            let e =
            compare (mirrored (size l f) i) (mirrored (size l g) j) (inr r') (inr s')
            (λ t. one (point_of l f (mirrored (size l f) i)) (point_of l g (mirrored (size l g) j)) (r'.begins ∙ sym s'.begins)
            (sym t ∙ rw (u, v)))
            in (
              e.0,
              mirrored-injective (size l f) (size l g) i j (ap (λ (x : ℕ). size l x) e.0) (is-place-before c l f i r.is-place).1
                  (is-place-before c l g j s.is-place).1 e.1,
            )
        go true false u v =
            let r' = runs-before-turned c l f i p q u r in
            let s' = runs-before-kept c l g j p q v s in
            let e =
            compare (mirrored (size l f) i) j (inr r') (inl s')
            (λ t. loop g j p q s'
            (sym s'.begins ∙ sym (eqb-true (point_of l f (mirrored (size l f) i)) (point_of l g j) (sym t ∙ rw (u, v))) ∙ r'.begins))
            in
            absurd (false≢true (sym v ∙ ap c (sym e.0) ∙ u))
        go false true u v =
            let r' = runs-before-kept c l f i p q u r in
            let s' = runs-before-turned c l g j p q v s in
            let e =
            compare i (mirrored (size l g) j) (inl r') (inr s')
            (λ t. loop f i p q r'
            (sym r'.begins ∙ eqb-true (point_of l f i) (point_of l g (mirrored (size l g) j)) (sym t ∙ rw (u, v)) ∙ s'.begins))
            in
            absurd (false≢true (sym u ∙ ap c e.0 ∙ v))
        go false false u v =
            let r' = runs-before-kept c l f i p q u r in
            let s' = runs-before-kept c l g j p q v s in
            compare i j (inl r') (inl s') (λ t. one (point_of l f i) (point_of l g j) (r'.begins ∙ sym s'.begins) (sym t ∙ rw (u, v)))
