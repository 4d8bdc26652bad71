-- The laws of spreading faces. Assumes nothing.
use mathlib.Core.Path.{◌≡◌, refl, sym, ◌∙◌, ap}
use mathlib.Core.List.{List, []}
use mathlib.Core.Logic.{◌≢◌}
use Prim.Native.Nat.{ℕ, zero, suc, ◌+◌, ◌-◌, ◌*◌, ◌/◌, ◌≤◌, ◌<◌}
use native.Mathlib.Omega.{arith}
use native.Mathlib.Decide.{ℕ_discrete, dec_lt}
use lib.ListN.{length, get_or, set, length-set}
use lib.Seq.{get_or-set_same, get_or-set_other}
use Rattle.perimeters.specs.Places.{next_place}
use Rattle.closed_meshes.specs.Renumbering.{sum_to}
use Rattle.built_meshes.specs.Lists.{Lists, faces_of, size, offset}
use Rattle.building_tests.specs.Lent.{lists}
use Rattle.mended_lists.specs.Edges.{listed_place, places_of, place_at}
use Rattle.mended_lists.proofs.Edges.{places-at}
use Rattle.face_places.specs.Spread.{FaceSpread, Spread}

-- ---- one face

-- i places of the face are spread
pub record Spreading (ls : List ℕ) (f a n : ℕ) (ts₀ fs₀ ts fs : List ℕ) (i : ℕ) : Type 0 where
  pub not-past : i ≤ n
  pub tos-length : length ts ≡ length ts₀
  pub faces-length : length fs ≡ length fs₀
  pub tos-before : (j : ℕ) → j < a → get_or ts j 0 ≡ get_or ts₀ j 0
  pub faces-before : (j : ℕ) → j < a → get_or fs j 0 ≡ get_or fs₀ j 0
  pub tos-here : (j : ℕ) → j < i → get_or ts (a + j) 0 ≡ get_or ls (a + next_place n j) 0
  pub faces-here : (j : ℕ) → j < i → get_or fs (a + j) 0 ≡ f

pub spreading-none : (ls : List ℕ) (f a n : ℕ) (ts fs : List ℕ) → Spreading ls f a n ts fs ts fs 0
spreading-none ls f a n ts fs =
    record {
      not-past = omega arith;
      tos-length = refl;
      faces-length = refl;
      tos-before = λ j b. refl;
      faces-before = λ j b. refl;
      tos-here = λ j b. absurd (never j b);
      faces-here = λ j b. absurd (never j b);
    }
  where
    never : (j : ℕ) → j < 0 → ⊥
    never j b = omega arith

module _ (ls : List ℕ) (f a n : ℕ) (ts₀ fs₀ ts fs : List ℕ) (i : ℕ) (s : Spreading ls f a n ts₀ fs₀ ts fs i) (l : i < n)
    (tf : a + n ≤ length ts₀) (ff : a + n ≤ length fs₀) where
  pub spreading-in : a + i < length ts
  spreading-in = omega (arith, s.tos-length)

  pub spreading-in-faces : a + i < length fs
  spreading-in-faces = omega (arith, s.faces-length)

  pub spreading-more : (j : ℕ) → j ≡ next_place n i → Spreading ls f a n ts₀ fs₀ (set ts (a + i) (get_or ls (a + j) 0)) (set fs (a + i) f) (i + 1)
  spreading-more j e =
      record {
        not-past = omega arith;
        tos-length = length-set ts (a + i) (get_or ls (a + j) 0) ∙ s.tos-length;
        faces-length = length-set fs (a + i) f ∙ s.faces-length;
        tos-before = λ k b. get_or-set_other ts (a + i) k (get_or ls (a + j) 0) 0 (λ q. omega arith) ∙ s.tos-before k b;
        faces-before = λ k b. get_or-set_other fs (a + i) k f 0 (λ q. omega arith) ∙ s.faces-before k b;
        tos-here = λ k b. tos k b (ℕ_discrete k i);
        faces-here = λ k b. faces k b (ℕ_discrete k i);
      }
    where
      tos : (k : ℕ) → k < i + 1 → Dec (k ≡ i) → get_or (set ts (a + i) (get_or ls (a + j) 0)) (a + k) 0 ≡ get_or ls (a + next_place n k) 0
      tos k b (yes q) =
          rw (q, get_or-set_same ts (a + i) (get_or ls (a + j) 0) 0 spreading-in) (ap (λ (x : ℕ). get_or ls (a + x) 0) e)
      tos k b (no q) = get_or-set_other ts (a + i) (a + k) (get_or ls (a + j) 0) 0 (λ t. q (omega arith)) ∙ s.tos-here k (omega arith)

      faces : (k : ℕ) → k < i + 1 → Dec (k ≡ i) → get_or (set fs (a + i) f) (a + k) 0 ≡ f
      faces k b (yes q) = rw q (get_or-set_same fs (a + i) f 0 spreading-in-faces)
      faces k b (no q) = get_or-set_other fs (a + i) (a + k) f 0 (λ t. q (omega arith)) ∙ s.faces-here k (omega arith)

pub spreading-all :
    (ls : List ℕ) (f a n : ℕ) (ts₀ fs₀ ts fs : List ℕ) (i : ℕ) → n ≤ i → Spreading ls f a n ts₀ fs₀ ts fs i → FaceSpread ls f a n ts₀ fs₀ ts fs
spreading-all ls f a n ts₀ fs₀ ts fs i e s =
    record {
      tos-before = s.tos-before;
      faces-before = s.faces-before;
      tos-here = λ j b. s.tos-here j (omega arith);
      faces-here = λ j b. s.faces-here j (omega arith);
    }

-- ---- all faces

-- the first f faces are spread
pub record SpreadFaces (ss ls ts₀ fs₀ ts fs : List ℕ) (a f : ℕ) : Type 0 where
  pub not-past : f ≤ length ss / 4
  pub tos-length : length ts ≡ length ts₀
  pub faces-length : length fs ≡ length fs₀
  pub at-is : a ≡ offset (lists [] ss ls []) f
  pub spread : Spread (lists [] ss ls []) ts fs a

pub faces-none : (ss ls ts fs : List ℕ) → SpreadFaces ss ls ts fs ts fs 0 0
unfolding offset sum_to
faces-none ss ls ts fs =
    record {
      not-past = omega arith;
      tos-length = refl;
      faces-length = refl;
      at-is = refl;
      spread = record { to = λ j b. absurd (never j b); face = λ j b. absurd (never j b) };
    }
  where
    never : (j : ℕ) → j < 0 → ⊥
    never j b = omega arith

pub offset-more : (l : Lists) (f : ℕ) → offset l (suc f) ≡ offset l f + size l f
unfolding offset sum_to
offset-more l f = refl

pub offset-le : (l : Lists) (f g : ℕ) → f ≤ g → offset l f ≤ offset l g
offset-le l f zero h = let e : f ≡ 0 = omega arith in rw e (omega arith)
offset-le l f (suc g) h = go (ℕ_discrete f (suc g)) (λ b. offset-le l f g b)
  where
    go : Dec (f ≡ suc g) → (f ≤ g → offset l f ≤ offset l g) → offset l f ≤ offset l (suc g)
    go (yes e) before = rw e (omega arith)
    go (no e) before = omega (arith, before (omega arith), offset-more l g)

pub same-offset : (ss ls : List ℕ) (f : ℕ) → offset (lists [] ss [] []) f ≡ offset (lists [] ss ls []) f
unfolding offset
same-offset ss ls f = refl

module _ (ss ls ts₀ fs₀ ts fs : List ℕ) (a f n : ℕ) (s : SpreadFaces ss ls ts₀ fs₀ ts fs a f) (b : f < length ss / 4)
    (e : n ≡ size (lists [] ss [] []) f) (all : offset (lists [] ss [] []) (length ss / 4) ≡ length ls) where
  pub face-fits : a + n ≤ length ls
  face-fits =
      omega (
        arith,
        s.at-is,
        e,
        offset-more (lists [] ss ls []) f,
        offset-le (lists [] ss ls []) (suc f) (length ss / 4) b,
        same-offset ss ls (length ss / 4),
      )

  pub faces-more :
      (ts' fs' : List ℕ) → length ts' ≡ length ts → length fs' ≡ length fs → FaceSpread ls f a n ts fs ts' fs' →
      SpreadFaces ss ls ts₀ fs₀ ts' fs' (a + n) (f + 1)
  faces-more ts' fs' x y p =
      record {
        not-past = omega arith;
        tos-length = x ∙ s.tos-length;
        faces-length = y ∙ s.faces-length;
        at-is = omega (arith, s.at-is, e, offset-more (lists [] ss ls []) f, ap (offset (lists [] ss ls [])) next);
        spread = record { to = λ j c. to j c (dec_lt j a); face = λ j c. face j c (dec_lt j a) };
      }
    where
      next : f + 1 ≡ suc f
      next = omega arith

      at_place : (j : ℕ) → a ≤ j → j < a + n → place_at (places_of (lists [] ss ls [])) j ≡ listed_place (lists [] ss ls []) f (j - a)
      at_place j l c =
          let q : offset (lists [] ss ls []) f + (j - a) ≡ j = omega (arith, s.at-is) in
          ap (λ (x : ℕ). place_at (places_of (lists [] ss ls [])) x) (sym q) ∙ places-at (lists [] ss ls []) f (j - a) (b, omega arith)

      to : (j : ℕ) → j < a + n → Dec (j < a) → get_or ts' j 0 ≡ (place_at (places_of (lists [] ss ls [])) j).to
      to j c (yes l) = p.tos-before j l ∙ s.spread.to j l
      to j c (no l) =
          let q : a + (j - a) ≡ j = omega arith in
          (rw q at (p.tos-here (j - a) (omega arith)))
          ∙ ap (λ (x : ℕ). get_or ls (a + next_place x (j - a)) 0) e
          ∙ ap (λ (x : ℕ). get_or ls (x + next_place (size (lists [] ss ls []) f) (j - a)) 0) s.at-is
          ∙ sym (ap (λ x. x.to) (at_place j (omega arith) c))

      face : (j : ℕ) → j < a + n → Dec (j < a) → get_or fs' j 0 ≡ (place_at (places_of (lists [] ss ls [])) j).face
      face j c (yes l) = p.faces-before j l ∙ s.spread.face j l
      face j c (no l) =
          let q : a + (j - a) ≡ j = omega arith in
          (rw q at (p.faces-here (j - a) (omega arith))) ∙ sym (ap (λ x. x.face) (at_place j (omega arith) c))

pub faces-all :
    (ss ls ts₀ fs₀ ts fs : List ℕ) (a f : ℕ) → length ss / 4 ≤ f → SpreadFaces ss ls ts₀ fs₀ ts fs a f →
    offset (lists [] ss [] []) (length ss / 4) ≡ length ls → Spread (lists [] ss ls []) ts fs (length ls)
faces-all ss ls ts₀ fs₀ ts fs a f e s all =
    let q : f ≡ length ss / 4 = omega (arith, s.not-past) in
    let r : a ≡ length ls = s.at-is ∙ ap (offset (lists [] ss ls [])) q ∙ sym (same-offset ss ls (length ss / 4)) ∙ all in
    rw r at s.spread
