-- Where the sum of the intervals on either side of an edge of a face overflows, the face point is not finite: that sum is in the
-- first factor of a window's weight. Assumes nothing.
use mathlib.Core.Path.{◌≡◌, refl, sym, ◌∙◌, ap, subst}
use mathlib.Core.Bool.{Bool, true, false}
use mathlib.Core.List.{List, map}
use mathlib.Core.Logic.{inl, inr}
use Prim.Native.Nat.{ℕ, zero, suc, ◌+◌, ◌-◌, ◌*◌, ◌<◌}
use native.Mathlib.Nat.{le_refl}
use native.Mathlib.Omega.{arith}
use lib.Dec.{T}
use lib.ListN.{get_or, length}
use lib.Ieee.{Float, nan, add, fits, binary64}
use lib.Ieee.Scale.{finite}
use lib.Ieee.Positive.{num, den}
use Rattle.perimeters.specs.Places.{around}
use Rattle.perimeters.proofs.Laws.{around-below, around-same}
use Rattle.positions.specs.Position.{finite_position}
use Rattle.tables.specs.Mesh.{interval}
use Rattle.audited_meshes.specs.Walks.{edges_of, first_point}
use Rattle.audited_meshes.specs.Audit.{interval_fit}
use Rattle.audited_meshes.specs.Folds.{again}
use Rattle.position_rules.specs.Intervals.{A2, C2, three_terms}
use Rattle.position_rules.specs.FacePoint.{six_terms, window_weight, window_sum, over_weight, face_point_over, face_point_about, face_point_in}
use Rattle.position_rules.specs.Fits.{EdgesFit}
use Rattle.position_rules.specs.Claims.{WholeOrHalf, JoiningFits}
use Rattle.position_rules.proofs.Audited.{edges_fit, border-of}
use Rattle.position_rules.proofs.Fits.{acw-below, cw-below}
use Rattle.position_rules.proofs.Floats.{AtMost, add_fit, add-lost, add-lost-right, mul-lost, mul-lost-right, div-lost, sum-lost, half-fit}
use Rattle.position_rules.proofs.Sums.{window_sum-more}

-- what is found is finite with the sign bit clear, and no greater
record FoundFit (d x : Float) : Type 0 where
  found-fit : interval_fit x ≡ true
  found-at-most : AtMost x d

found-is : (d x : Float) → interval_fit d ≡ true → T (fits binary64 d) → WholeOrHalf d x → FoundFit d x
found-is d x h k (inl e) = rw e (record { found-fit = h; found-at-most = le_refl (num d * den d) })
found-is d x h k (inr e) = rw e (record { found-fit = (half-fit d h k).is-fit; found-at-most = (half-fit d h k).at_most })

module _ (es : List ℕ) (is : List Float) (ne : ℕ) (fit : EdgesFit es is ne) (clear : (e : ℕ) → e < ne → interval_fit (get_or is e nan) ≡ true)
    (held : (e : ℕ) → T (fits binary64 (get_or is e nan))) where
  six-lost : (p e q g : ℕ) (next previous : Float) → e < ne → g < ne → WholeOrHalf (get_or is e nan) next → WholeOrHalf (get_or is g nan) previous
      → finite (add binary64 next previous) ≡ false → finite (six_terms es is p e q g) ≡ false
  unfolding six_terms three_terms
  six-lost p e q g next previous l k x y lost =
      let nx : FoundFit (get_or is e nan) next = found-is _ next (clear e l) (held e) x in
      let pv : FoundFit (get_or is g nan) previous = found-is _ previous (clear g k) (held g) y in
      add-lost _ _ (add-lost _ _
      (sum-lost (get_or is e nan) (A2 es is p e) (C2 es is p e) (get_or is g nan) next previous (clear e l) (held e)
      (clear _ (acw-below es is ne p _ fit (acw-below es is ne p e fit l))) (clear _ (cw-below es is ne p _ fit (cw-below es is ne p e fit l)))
      (clear g k) nx.found-fit pv.found-fit nx.found-at-most pv.found-at-most lost))

-- from the window w on the sums are lost
module _ (ps : List Float) (es : List ℕ) (is : List Float) (pt ed : ℕ → ℕ) (w : ℕ) (lost : finite (window_weight es is pt ed w) ≡ false) where
  weight-lost : (k : ℕ) → finite (window_sum ps es is pt ed (w + k + 1)).weight ≡ false
  weight-lost zero =
      rw (window_sum-more ps es is pt ed (w + 0)) (add-lost-right _ _ (subst (λ i. finite (window_weight es is pt ed i) ≡ false) (omega arith) lost))
  weight-lost (suc k) =
      rw (window_sum-more ps es is pt ed (w + suc k))
      (add-lost _ _ (subst (λ i. finite (window_sum ps es is pt ed i).weight ≡ false) (omega arith) (weight-lost k)))

  sum-x-lost : (k : ℕ) → finite (window_sum ps es is pt ed (w + k + 1)).sum.x ≡ false
  sum-x-lost zero =
      rw (window_sum-more ps es is pt ed (w + 0))
      (add-lost-right _ _ (mul-lost-right _ _ (subst (λ i. finite (window_weight es is pt ed i) ≡ false) (omega arith) lost)))
  sum-x-lost (suc k) =
      rw (window_sum-more ps es is pt ed (w + suc k))
      (add-lost _ _ (subst (λ i. finite (window_sum ps es is pt ed i).sum.x ≡ false) (omega arith) (sum-x-lost k)))

  point-lost : (n : ℕ) → w < n → finite_position (face_point_over ps es is pt ed n) ≡ false
  unfolding face_point_over
  point-lost n l =
      let k : ℕ = n - (w + 1) in
      let all : w + k + 1 ≡ n = omega arith in
      subst (λ i. finite_position (over_weight (window_sum ps es is pt ed i)) ≡ false) all
      (rw (div-lost _ _ (sum-x-lost k) (weight-lost k)))

pub joining-fits : JoiningFits
unfolding window_weight face_point_in face_point_about
joining-fits m np ne nf f es w next previous a held l came b x y whole =
    add_fit next previous
    (found-is _ next (a.interval-fit _ (below (w + 2))) (held _) x).found-fit
    (found-is _ previous (a.interval-fit _ ((border-of m np ne nf f es a l came).edges-below w b)) (held _) y).found-fit
    (go (finite (add binary64 next previous)) refl)
  where
    pt : ℕ → ℕ
    pt j = get_or (again 4 (map (first_point m f) es)) j 0

    ed : ℕ → ℕ
    ed j = get_or es (around (length es) j) 0

    below : (j : ℕ) → get_or es (around (length es) j) 0 < ne
    below j =
        let b = border-of m np ne nf f es a l came in
        b.edges-below (around (length es) j) (around-below (length es) j (omega (arith, b.at-least-3)))

    lost : finite (add binary64 next previous) ≡ false → finite (window_weight m.edges m.intervals pt ed w) ≡ false
    lost e =
        mul-lost _ _
        (six-lost m.edges m.intervals ne (edges_fit m np ne nf a) a.interval-fit held (pt (w + 3)) (ed (w + 2)) (pt w) (ed w) next previous
        (below (w + 2)) (below w) x
        (subst (λ j. WholeOrHalf (interval m (get_or es j 0)) previous) (sym (around-same (length es) w b)) y) e)

    at-walk : face_point_in m ne f ≡ face_point_over m.positions m.edges m.intervals pt ed (length es)
    at-walk = ap (λ z. face_point_about m f (edges_of z)) came

    -- the sum is finite, since otherwise the face point would not be
    go : (v : Bool) → finite (add binary64 next previous) ≡ v → v ≡ true
    go true e = refl
    go false e =
        sym (point-lost m.positions m.edges m.intervals pt ed w (lost e) (length es) b) ∙ sym (ap finite_position at-walk) ∙ whole
