-- The laws of faces turned round: a turned face has the same edges and runs them the other way. Assumes nothing.
use mathlib.Core.Path.{◌≡◌, refl, sym, ◌∙◌, ap}
use mathlib.Core.Bool.{Bool, true, false, cond}
use mathlib.Core.Logic.{◌≢◌}
use Prim.Native.Nat.{ℕ, suc, ◌+◌, ◌-◌, ◌/◌, ◌≤◌, ◌<◌}
use native.Mathlib.Omega.{arith}
use native.Mathlib.Nat.{mul-div_cancel}
use native.Mathlib.Decide.{ℕ_discrete}
use lib.Dec.{eqb}
use lib.ListN.{get_or}
use borrow.Author.Tests.{eqb-true, eq-eqb}
use Rattle.perimeters.specs.Places.{next_place}
use Rattle.perimeters.proofs.Laws.{next-below, next_more, next_last}
use Rattle.built_meshes.specs.Lists.{Lists, faces_of, side_length, size, offset}
use Rattle.built_meshes.specs.Faces.{first_at}
use Rattle.built_meshes.specs.Places.{point_of, next_of, IsPlace, Runs}
use Rattle.mended_lists.specs.Reversal.{turned_point, turned_side, turned_first, Choice, reversed}
use Rattle.mended_lists.proofs.InTurn.{sum_to-same, sum_to-four, length-in_turn, get_or-in_turn}

-- ---- numbers

pub eqb-false : (a b : ℕ) → a ≢ b → eqb a b ≡ false
eqb-false a b d = go (eqb a b) refl
  where
    go : (t : Bool) → eqb a b ≡ t → t ≡ false
    go true e = absurd (d (eqb-true a b e))
    go false e = refl

pub turned-last : (n i : ℕ) → suc i ≡ n → turned_point n i ≡ i
turned-last n i e = rw (eq-eqb (suc i) n e)

pub turned-other : (n i : ℕ) → suc i ≢ n → turned_point n i ≡ n - 2 - i
turned-other n i e = rw (eqb-false (suc i) n e)

pub turned-below : (n i : ℕ) → i < n → turned_point n i < n
turned-below n i l = go (ℕ_discrete (suc i) n)
  where
    go : Dec (suc i ≡ n) → turned_point n i < n
    go (yes e) = rw (turned-last n i e) l
    go (no e) = rw (turned-other n i e) (omega arith)

pub turned-turned : (n i : ℕ) → i < n → turned_point n (turned_point n i) ≡ i
turned-turned n i l = go (ℕ_discrete (suc i) n)
  where
    go : Dec (suc i ≡ n) → turned_point n (turned_point n i) ≡ i
    go (yes e) = rw (turned-last n i e) (turned-last n i e)
    go (no e) = rw (turned-other n i e) (turned-other n (n - 2 - i) (λ q. omega arith) ∙ omega arith)

-- the place after the turned place of the next one is the turned place
pub next-turned : (n i : ℕ) → i < n → next_place n (turned_point n (next_place n i)) ≡ turned_point n i
next-turned n i l = go (ℕ_discrete (suc i) n)
  where
    -- a face of one point, or of more
    first : suc i ≡ n → Dec (n ≡ 1) → next_place n (turned_point n 0) ≡ i
    first e (yes o) = rw (turned-last n 0 (sym o)) (next_last n 0 (sym o) ∙ omega arith)
    first e (no o) = rw (turned-other n 0 (λ q. o (sym q))) (next_more n (n - 2 - 0) (omega arith) ∙ omega arith)

    later : suc i ≢ n → Dec (suc (suc i) ≡ n) → next_place n (turned_point n (suc i)) ≡ n - 2 - i
    later d (yes e) = rw (turned-last n (suc i) e) (next_last n (suc i) e ∙ omega arith)
    later d (no e) = rw (turned-other n (suc i) e) (next_more n (n - 2 - suc i) (omega arith) ∙ omega arith)

    go : Dec (suc i ≡ n) → next_place n (turned_point n (next_place n i)) ≡ turned_point n i
    go (yes e) = rw (next_last n i e, turned-last n i e) (first e (ℕ_discrete n 1))
    go (no e) = rw (next_more n i (omega arith), turned-other n i e) (later e (ℕ_discrete (suc (suc i)) n))

-- the first points of a turned face: the first and the third stay
pub first-other : (k : ℕ) → k ≢ 0 → turned_first k ≡ 4 - k
first-other k d = rw (eqb-false k 0 d)

pub first_below : (k : ℕ) → k < 4 → turned_first k < 4
first_below k l = go (ℕ_discrete k 0)
  where
    go : Dec (k ≡ 0) → turned_first k < 4
    go (yes e) = rw e (omega arith)
    go (no e) = rw (first-other k e) (omega arith)

pub first-first : (k : ℕ) → k < 4 → turned_first (turned_first k) ≡ k
first-first k l = go (ℕ_discrete k 0)
  where
    go : Dec (k ≡ 0) → turned_first (turned_first k) ≡ k
    go (yes e) = rw e refl
    go (no e) = rw (first-other k e) (first-other (4 - k) (λ q. omega arith) ∙ omega arith)

-- which place a turned face has where its place i was
abbrev pub mirrored : ℕ → ℕ → ℕ
mirrored n i = turned_point n (next_place n i)

pub mirrored-below : (n i : ℕ) → i < n → mirrored n i < n
mirrored-below n i l = turned-below n (next_place n i) (next-below n i l)

pub mirrored-mirrored : (n i : ℕ) → i < n → mirrored n (mirrored n i) ≡ i
mirrored-mirrored n i l = rw (next-turned n i l) (turned-turned n i l)

-- ---- the lists

module _ (c : Choice) (l : Lists) where
  pub reversed-faces : faces_of (reversed c l) ≡ faces_of l
  unfolding reversed
  reversed-faces =
      ap (λ (x : ℕ). x / 4)
      (length-in_turn (faces_of l) (λ f. 4) (λ f k. side_length l f (cond (c f) (turned_side k) k)) ∙ sum_to-four (faces_of l))
      ∙ mul-div_cancel (faces_of l) {n = 4} (omega arith)

  pub side-reversed : (f k : ℕ) → f < faces_of l → k < 4 → side_length (reversed c l) f k ≡ side_length l f (cond (c f) (turned_side k) k)
  unfolding reversed
  side-reversed f k a b =
      ap (λ (x : ℕ). get_or (reversed c l).sides (x + k) 0) (sym (sum_to-four f))
      ∙ get_or-in_turn (faces_of l) (λ f. 4) (λ f k. side_length l f (cond (c f) (turned_side k) k)) f k 0 a b

  pub first-reversed : (f k : ℕ) → f < faces_of l → k < 4 → first_at (reversed c l) f k ≡ first_at l f (cond (c f) (turned_first k) k)
  unfolding reversed
  first-reversed f k a b =
      ap (λ (x : ℕ). get_or (reversed c l).firsts (x + k) 0) (sym (sum_to-four f))
      ∙ get_or-in_turn (faces_of l) (λ f. 4) (λ f k. first_at l f (cond (c f) (turned_first k) k)) f k 0 a b

  pub reversed-size : (f : ℕ) → f < faces_of l → size (reversed c l) f ≡ size l f
  reversed-size f a =
      rw (
        side-reversed f 0 a (omega arith),
        side-reversed f 1 a (omega arith),
        side-reversed f 2 a (omega arith),
        side-reversed f 3 a (omega arith),
      )
      (go (c f))
    where
      go :
          (t : Bool) →
          side_length l f (cond t 3 0) + side_length l f (cond t 2 1) + side_length l f (cond t 1 2) + side_length l f (cond t 0 3) ≡ size l f
      go true = omega arith
      go false = refl

  pub reversed-offset : (f : ℕ) → f ≤ faces_of l → offset (reversed c l) f ≡ offset l f
  unfolding offset
  reversed-offset f a = sum_to-same f (λ k. size (reversed c l) k) (λ k. size l k) (λ k b. reversed-size k (omega arith))

  pub reversed-point :
      (f i : ℕ) → f < faces_of l → i < size l f →
      point_of (reversed c l) f i ≡ point_of l f (cond (c f) (turned_point (size l f) i) i)
  unfolding reversed offset
  reversed-point f i a b =
      rw (reversed-offset f (omega arith))
      (get_or-in_turn (faces_of l) (λ f. size l f) (λ f i. point_of l f (cond (c f) (turned_point (size l f) i) i)) f i 0 a b)

-- ---- the places of turned faces

module _ (c : Choice) (l : Lists) (f i : ℕ) where
  pub is-place-reversed : IsPlace l f i → IsPlace (reversed c l) f i
  is-place-reversed (a, b) = (rw (reversed-faces c l) a, rw (reversed-size c l f a) b)

  pub is-place-before : IsPlace (reversed c l) f i → IsPlace l f i
  is-place-before (a, b) = let a' : f < faces_of l = rw (reversed-faces c l) at a in (a', rw (reversed-size c l f a') at b)

  -- where place i of a face is run then
  pub point-kept : IsPlace l f i → c f ≡ false → point_of (reversed c l) f i ≡ point_of l f i
  point-kept (a, b) e = reversed-point c l f i a b ∙ rw e

  pub point-turned : IsPlace l f i → c f ≡ true → point_of (reversed c l) f i ≡ point_of l f (turned_point (size l f) i)
  point-turned (a, b) e = reversed-point c l f i a b ∙ rw e

module _ (c : Choice) (l : Lists) (f i : ℕ) (at : IsPlace l f i) where
  next-size : next_of (reversed c l) f i ≡ point_of (reversed c l) f (next_place (size l f) i)
  next-size = ap (λ (x : ℕ). point_of (reversed c l) f (next_place x i)) (reversed-size c l f at.0)

  next-is-place : IsPlace l f (next_place (size l f) i)
  next-is-place = (at.0, next-below (size l f) i at.1)

  pub next-kept : c f ≡ false → next_of (reversed c l) f i ≡ next_of l f i
  next-kept e = next-size ∙ point-kept c l f (next_place (size l f) i) next-is-place e

  pub next-turned-point : c f ≡ true → next_of (reversed c l) f i ≡ point_of l f (mirrored (size l f) i)
  next-turned-point e = next-size ∙ point-turned c l f (next_place (size l f) i) next-is-place e

  pub mirrored-is-place : IsPlace l f (mirrored (size l f) i)
  mirrored-is-place = (at.0, mirrored-below (size l f) i at.1)

  -- the place before the turn runs from where the turned one ends to where it begins
  pub next-mirrored : next_of l f (mirrored (size l f) i) ≡ point_of l f (turned_point (size l f) i)
  next-mirrored = ap (λ (x : ℕ). point_of l f x) (next-turned (size l f) i at.1)

module _ (c : Choice) (l : Lists) (f i p q : ℕ) where
  pub runs-before-kept : c f ≡ false → Runs (reversed c l) f i p q → Runs l f i p q
  runs-before-kept e r =
      let at : IsPlace l f i = is-place-before c l f i r.is-place in
      record {
        is-place = at;
        begins = sym (point-kept c l f i at e) ∙ r.begins;
        ends = sym (next-kept c l f i at e) ∙ r.ends;
      }

  pub runs-before-turned : c f ≡ true → Runs (reversed c l) f i p q → Runs l f (mirrored (size l f) i) q p
  runs-before-turned e r =
      let at : IsPlace l f i = is-place-before c l f i r.is-place in
      record {
        is-place = mirrored-is-place c l f i at;
        begins = sym (next-turned-point c l f i at e) ∙ r.ends;
        ends = next-mirrored c l f i at ∙ sym (point-turned c l f i at e) ∙ r.begins;
      }

  pub runs-kept : c f ≡ false → Runs l f i p q → Runs (reversed c l) f i p q
  runs-kept e r =
      record {
        is-place = is-place-reversed c l f i r.is-place;
        begins = point-kept c l f i r.is-place e ∙ r.begins;
        ends = next-kept c l f i r.is-place e ∙ r.ends;
      }

  pub runs-turned : c f ≡ true → Runs l f i p q → Runs (reversed c l) f (mirrored (size l f) i) q p
  runs-turned e r =
      let m : IsPlace l f (mirrored (size l f) i) = mirrored-is-place c l f i r.is-place in
      record {
        is-place = is-place-reversed c l f (mirrored (size l f) i) m;
        begins =
            point-turned c l f (mirrored (size l f) i) m e
            ∙ ap (λ (x : ℕ). point_of l f x) (turned-turned (size l f) (next_place (size l f) i) (next-below (size l f) i r.is-place.1))
            ∙ r.ends;
        ends =
            next-turned-point c l f (mirrored (size l f) i) m e
            ∙ ap (λ (x : ℕ). point_of l f x) (mirrored-mirrored (size l f) i r.is-place.1) ∙ r.begins;
      }
