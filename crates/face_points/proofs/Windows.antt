-- The loop of `window_sum`, over plain variables: of the n windows of a border with the points pts and the edges bs, i are summed.
-- ps, es and is are the tables of positions, edges and intervals. Assumes nothing.
--     Summed s a b k i             s is the sum; a and b are the terms that the window i has from the one before it, k the place after b's
--     summed-start, summed-more    before the first window, and with one window more that is not the last
--     summed-last                  with the last window, whose second and fourth edge are those from which the first window began
--     summed-place                 k is a place
--     summed-on                    about the last point of the window i, a step clockwise goes from the edge at k to the next
--     begins-back                  about the first point, a step anticlockwise goes from the first edge to the last
use mathlib.Core.Path.{◌≡◌, refl, sym, ◌∙◌, ap, ap₂}
use mathlib.Core.List.{List}
use Prim.Native.Nat.{ℕ, ◌+◌, ◌-◌, ◌≤◌, ◌<◌}
use native.Mathlib.Omega.{arith}
use native.Mathlib.Decide.{dec_lt}
use lib.ListN.{get_or}
use lib.Ieee.{Float, mul, binary64}
use Rattle.perimeters.specs.Places.{around, next_place}
use Rattle.perimeters.proofs.Laws.{around-below, around-same, around-more, next-around, next_last}
use Rattle.positions.specs.declared.Position.{Position}
use Rattle.tables.specs.Records.{position_at}
use Rattle.position_rules.specs.declared.WeightedSum.{WeightedSum}
use Rattle.position_rules.specs.Intervals.{acw_about, cw_about, three_terms}
use Rattle.position_rules.specs.Sums.{with_term}
use Rattle.position_rules.specs.FacePoint.{six_terms, window_weight, no_windows, window_sum}
use Rattle.position_rules.specs.Fits.{CornersTurn}
use Rattle.position_rules.proofs.Sums.{window_sum-none, window_sum-more}
use Rattle.face_points.specs.declared.Terms.{Terms}
use Rattle.face_points.specs.Terms.{terms_about, six, FourAgain}

module _ (ps : List Float) (es : List ℕ) (is : List Float) (pts bs : List ℕ) (n : ℕ) where
  abbrev pt : ℕ → ℕ
  pt j = get_or pts j 0

  abbrev ed : ℕ → ℕ
  ed j = get_or bs (around n j) 0

  pub record Summed (s : WeightedSum) (a b : Terms) (k i : ℕ) : Type 0 where
    pub within : i < n
    pub sum_is : s ≡ window_sum ps es is pt ed i
    pub first-is : a ≡ terms_about es is (pt i) (ed i)
    pub third-is : b ≡ terms_about es is (pt (i + 3)) (ed (i + 2))
    pub place_is : k ≡ around n (i + 3)

  pub summed-start : (s : WeightedSum) (a b : Terms) (k : ℕ) → 3 ≤ n → s ≡ no_windows → a ≡ terms_about es is (pt 0) (get_or bs 0 0)
      → b ≡ terms_about es is (pt 3) (get_or bs 2 0) → k ≡ next_place n 2 → Summed s a b k 0
  summed-start s a b k l hs ha hb hk = record {
    within = omega arith;
    sum_is = hs ∙ sym (window_sum-none ps es is pt ed);
    first-is = ha ∙ ap (λ (j : ℕ). terms_about es is (pt 0) (get_or bs j 0)) (sym (around-same n 0 (omega arith)));
    third-is = hb ∙ ap (λ (j : ℕ). terms_about es is (pt 3) (get_or bs j 0)) (sym (around-same n 2 (omega arith)));
    place_is = hk ∙ ap (next_place n) (sym (around-same n 2 (omega arith))) ∙ next-around n 2;
  }

  pub summed-place : (s : WeightedSum) (a b : Terms) (k i : ℕ) → Summed s a b k i → k < n
  summed-place s a b k i h = rw h.place_is (around-below n (i + 3) (omega (arith, h.within)))

  module _ (four : FourAgain pts n) (turn : CornersTurn es (λ j. pt (j + 1)) bs n) where
    pub begins-back : 3 ≤ n → acw_about es (pt 0) (get_or bs 0 0) ≡ get_or bs (n - 1) 0
    begins-back l =
        let first : pt 0 ≡ pt (n - 1 + 1) = sym (four.again 0 (omega arith)) ∙ ap pt (omega arith) in
        ap₂ (λ (p j : ℕ). acw_about es p (get_or bs j 0)) first (sym (next_last n (n - 1) (omega arith)))
        ∙ turn.goes_back (n - 1) (omega arith)

    -- the point after the edge at the place j, which is i + 3 or, past the end of the border, the same point again
    after-place : (i j : ℕ) → i + 1 < n → j ≡ around n (i + 3) → 3 ≤ n → pt (i + 4) ≡ pt (j + 1)
    after-place i j l h m = go (dec_lt (i + 3) n)
      where
        go : Dec (i + 3 < n) → pt (i + 4) ≡ pt (j + 1)
        go (yes b) = let same : j ≡ i + 3 = h ∙ around-same n (i + 3) b in ap pt (omega arith)
        go (no b) =
            let round : j ≡ i + 3 - n = h ∙ around-more n (i + 3) (omega arith) (omega arith) in
            ap pt (omega arith) ∙ four.again (j + 1) (omega arith)

    pub summed-on : (s : WeightedSum) (a b : Terms) (k i : ℕ) → Summed s a b k i → i + 1 < n → 3 ≤ n
        → cw_about es (pt (i + 4)) (get_or bs k 0) ≡ get_or bs (next_place n k) 0
    summed-on s a b k i h l m =
        ap (λ (p : ℕ). cw_about es p (get_or bs k 0)) (after-place i k l h.place_is m)
        ∙ turn.goes_on k (summed-place s a b k i h)

  -- the weight of the window i by the terms of its four edges
  weight : (i : ℕ)
      → mul binary64
      (six (terms_about es is (pt (i + 3)) (ed (i + 2))) (terms_about es is (pt i) (ed i)))
      (six (terms_about es is (pt (i + 1)) (ed (i + 1))) (terms_about es is (pt (i + 4)) (ed (i + 3))))
      ≡ window_weight es is pt ed i
  unfolding window_weight six_terms three_terms
  weight i = refl

  -- the window i, with its second edge at the place j; g is the place after that of its fourth edge
  module _ (s : WeightedSum) (a b : Terms) (k i : ℕ) (h : Summed s a b k i)
      (j g : ℕ) (hj : j ≡ next_place n i) (hg : g ≡ next_place n k)
      (c d : Terms) (hc : c ≡ terms_about es is (pt (i + 1)) (get_or bs j 0)) (hd : d ≡ terms_about es is (pt (i + 4)) (get_or bs k 0))
      (u v : Float) (hu : u ≡ six b a) (hv : v ≡ six c d)
      (p : ℕ) (x : Position) (hp : p ≡ pt (i + 2)) (hx : x ≡ position_at ps p)
      (t : WeightedSum) (ht : t ≡ with_term s x (mul binary64 u v)) where
    place : g ≡ around n (i + 4)
    place = hg ∙ ap (next_place n) h.place_is ∙ next-around n (i + 3) ∙ ap (around n) (omega arith)

    second : c ≡ terms_about es is (pt (i + 1)) (ed (i + 1))
    second = hc ∙ ap (λ (q : ℕ). terms_about es is (pt (i + 1)) (get_or bs q 0)) hj

    fourth : d ≡ terms_about es is (pt (i + 4)) (ed (i + 3))
    fourth = hd ∙ ap (λ (q : ℕ). terms_about es is (pt (i + 4)) (get_or bs q 0)) h.place_is

    sum_more : t ≡ window_sum ps es is pt ed (i + 1)
    sum_more =
        ht ∙ rw (h.sum_is, hx, hp, hu, hv, h.first-is, h.third-is, second, fourth, weight i) (sym (window_sum-more ps es is pt ed i))

    pub summed-more : i + 1 < n → Summed t c d g (i + 1)
    summed-more l = record {
      within = l;
      sum_is = sum_more;
      first-is = second;
      third-is = fourth ∙ ap₂ (λ (j k : ℕ). terms_about es is (pt j) (ed k)) (omega arith) (omega arith);
      place_is = place ∙ ap (around n) (omega arith);
    }

  pub summed-last : (s : WeightedSum) (a b : Terms) (k i : ℕ) → Summed s a b k i → n ≤ i + 1 → 3 ≤ n → FourAgain pts n
      → (c d : Terms) → c ≡ terms_about es is (pt 0) (get_or bs 0 0) → d ≡ terms_about es is (pt 3) (get_or bs 2 0)
      → (u v : Float) → u ≡ six b a → v ≡ six c d
      → (p : ℕ) (x : Position) → p ≡ pt (n - 1 + 2) → x ≡ position_at ps p
      → (t : WeightedSum) → t ≡ with_term s x (mul binary64 u v) → t ≡ window_sum ps es is pt ed n
  summed-last s a b k i h l many four c d hc hd u v hu hv p x hp hx t ht =
      let whole : i + 1 ≡ n = omega (arith, h.within) in
      let begin : 0 ≡ next_place n i = sym (next_last n i (omega arith)) in
      let round : around n (i + 3) ≡ around n (n + 2) = ap (around n) (omega arith) in
      let two : around n (n + 2) ≡ 2 = around-more n (n + 2) (omega arith) (omega arith) ∙ omega arith in
      let ahead : 2 ≡ k = sym (h.place_is ∙ round ∙ two) in
      let first : pt 0 ≡ pt (i + 1) = sym (four.again 0 (omega arith)) ∙ ap pt (omega arith) in
      let last : pt 3 ≡ pt (i + 4) = sym (four.again 3 (omega arith)) ∙ ap pt (omega arith) in
      sum_more s a b k i h 0 (next_place n k) begin refl c d (hc ∙ ap (λ (q : ℕ). terms_about es is q (get_or bs 0 0)) first)
      (hd ∙ ap₂ (λ (q j : ℕ). terms_about es is q (get_or bs j 0)) last ahead)
      u v hu hv p x (hp ∙ ap pt (omega arith)) hx t ht
      ∙ ap (λ (q : ℕ). window_sum ps es is pt ed q) whole
