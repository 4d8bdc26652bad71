-- The loop of `put_places`, over plain variables: me is the mesh's table of edges, es the scratch table, pe the perimeter of the face
-- f; hs, gs, ms are the arrays, filled up to i, and hs0, gs0, ms0 what they were. Assumes nothing.
use mathlib.Core.Path.{◌≡◌, ◌∙◌, ap}
use mathlib.Core.Bool.{Bool, cond}
use mathlib.Core.List.{List}
use Prim.Native.Nat.{ℕ, ◌+◌, ◌*◌, ◌≤◌, ◌<◌}
use native.Mathlib.Omega.{arith}
use lib.Dec.{eqb}
use lib.ListN.{get_or, set}
use Rattle.refined_meshes.specs.Turns.{filled}
use Rattle.refined_meshes.specs.Ring.{first_half_of, second_half_of}
use Rattle.refined_meshes.proofs.Turns.{filled_none, filled-turn, filled-end}

abbrev first_at : List ℕ → List ℕ → List ℕ → ℕ → ℕ → ℕ
first_at me es pe f i = first_half_of me es f (get_or pe i 0)

abbrev second_at : List ℕ → List ℕ → List ℕ → ℕ → ℕ → ℕ
second_at me es pe f i = second_half_of me es f (get_or pe i 0)

abbrev mid_at : List ℕ → List ℕ → ℕ → ℕ
mid_at es pe i = get_or es (get_or pe i 0 * 8 + 1) 0

pub record Filled (me es pe : List ℕ) (f n : ℕ) (hs0 gs0 ms0 hs gs ms : List ℕ) (i : ℕ) : Type 0 where
  pub within : i ≤ n
  pub firsts : hs ≡ filled i (first_at me es pe f) hs0
  pub seconds : gs ≡ filled i (second_at me es pe f) gs0
  pub mids : ms ≡ filled i (mid_at es pe) ms0

module _ (me es pe : List ℕ) (f n : ℕ) (hs0 gs0 ms0 : List ℕ) where
  pub filled-start : Filled me es pe f n hs0 gs0 ms0 hs0 gs0 ms0 0
  filled-start = record {
    within = omega arith;
    firsts = filled_none (first_at me es pe f) hs0;
    seconds = filled_none (second_at me es pe f) gs0;
    mids = filled_none (mid_at es pe) ms0;
  }

  module _ (hs gs ms : List ℕ) (i : ℕ) (h : Filled me es pe f n hs0 gs0 ms0 hs gs ms i) where
    pub filled-place : (e : ℕ) (left : Bool) (x y : ℕ) → i < n → e ≡ get_or pe i 0 → left ≡ eqb (get_or me (e * 8 + 2) 0) f
        → x ≡ cond left (get_or pe i 0) (get_or es (get_or pe i 0 * 8 + 6) 0)
        → y ≡ cond left (get_or es (get_or pe i 0 * 8 + 5) 0) (get_or pe i 0)
        → Filled me es pe f n hs0 gs0 ms0 (set hs i x) (set gs i y) (set ms i (get_or es (e * 8 + 1) 0)) (i + 1)
    filled-place e left x y l a b p q = record {
      within = omega arith;
      firsts = filled-turn (first_at me es pe f) i hs hs0 x h.firsts (rw (p, b, a));
      seconds = filled-turn (second_at me es pe f) i gs gs0 y h.seconds (rw (q, b, a));
      mids = filled-turn (mid_at es pe) i ms ms0 _ h.mids (ap (λ (k : ℕ). get_or es (k * 8 + 1) 0) a);
    }

    pub filled-whole : n ≤ i
        → (hs ≡ filled n (first_at me es pe f) hs0) × ((gs ≡ filled n (second_at me es pe f) gs0) × (ms ≡ filled n (mid_at es pe) ms0))
    filled-whole l =
        let w = h.within in
        let e : i ≡ n = omega arith in (
          h.firsts ∙ filled-end (first_at me es pe f) i n hs0 e,
          (h.seconds ∙ filled-end (second_at me es pe f) i n gs0 e, h.mids ∙ filled-end (mid_at es pe) i n ms0 e),
        )
