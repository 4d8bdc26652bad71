-- The windows of a face go along with the row numbers, and its face point is the same. Assumes nothing.
use mathlib.Core.Path.{◌≡◌, sym, ◌∙◌, ap, ap₂}
use mathlib.Core.List.{List, map}
use Prim.Native.Nat.{ℕ, zero, suc, ◌+◌, ◌<◌, ◌≤◌}
use native.Mathlib.Omega.{arith}
use native.Mathlib.Numerals.{add-one}
use lib.ListN.{length, get_or, length-map}
use lib.Ieee.{Float, mul, binary64}
use Rattle.positions.specs.declared.Position.{Position}
use Rattle.position_rules.specs.declared.WeightedSum.{WeightedSum}
use Rattle.perimeters.specs.Places.{around}
use Rattle.perimeters.proofs.Laws.{around-below}
use Rattle.tables.specs.Mesh.{Mesh}
use Rattle.tables.specs.Records.{position_at}
use Rattle.audited_meshes.specs.Folds.{again}
use Rattle.audited_meshes.specs.Walks.{edges_of, first_point}
use Rattle.audited_meshes.specs.Audited.{Audited}
use Rattle.walks.proofs.Laws.{length-again, get_d_map}
use Rattle.position_rules.specs.Sums.{with_term}
use Rattle.position_rules.specs.FacePoint.{six_terms, window_weight, window_sum, over_weight, face_point_over, face_point_about, face_point_in}
use Rattle.position_rules.proofs.Sums.{window_sum-none, window_sum-more}
use Rattle.renumbered_meshes.specs.Renumbered.{Renumbered, walk_to}
use Rattle.renumbered_meshes.proofs.Intervals.{six_terms-same}
use Rattle.renumbered_meshes.proofs.Walks.{AllBelow, face_walk-to, border-points-below, border-points-to, WalkedRound, walked-round}

-- the same term added to the same sum
term-same : {s s' : WeightedSum} {p p' : Position} {w w' : Float} → s' ≡ s → p' ≡ p → w' ≡ w → with_term s' p' w' ≡ with_term s p w
term-same h k i = ap₂ (λ f x. f x) (ap₂ with_term h k) i

module _ {m : Mesh} {np ne nf : ℕ} {m' : Mesh} {np' ne' nf' : ℕ} (a : Audited m np ne nf) (r : Renumbered m np ne nf m' np' ne' nf') where
  -- A border of n edges by its points pt and its edges ed, going on round the face, and the renumbered one.
  module _
      (n : ℕ) (pt ed pt' ed' : ℕ → ℕ) (points : (j : ℕ) → j < n + 4 → pt j < np) (edges : (j : ℕ) → ed j < ne)
      (points_to : (j : ℕ) → j < n + 4 → pt' j ≡ r.point (pt j)) (edges-to : (j : ℕ) → ed' j ≡ r.edge (ed j))
    where
      six-same :
          (j k i h : ℕ) → j < n + 4 → i < n + 4 →
          six_terms m'.edges m'.intervals (pt' j) (ed' k) (pt' i) (ed' h) ≡ six_terms m.edges m.intervals (pt j) (ed k) (pt i) (ed h)
      six-same j k i h l b =
          rw (points_to j l, edges-to k, points_to i b, edges-to h)
          (six_terms-same a r (pt j) (ed k) (pt i) (ed h) (points j l) (edges k) (points i b) (edges h))

      weight-same : (i : ℕ) → i < n → window_weight m'.edges m'.intervals pt' ed' i ≡ window_weight m.edges m.intervals pt ed i
      unfolding window_weight
      weight-same i l = ap₂ (mul binary64) (six-same (i + 3) (i + 2) i i (omega arith) (omega arith)) (six-same (i + 1) (i + 1) (i + 4) (i + 3) (omega arith) (omega arith))

      middle-same : (i : ℕ) → i < n → position_at m'.positions (pt' (i + 2)) ≡ position_at m.positions (pt (i + 2))
      middle-same i l = ap (position_at m'.positions) (points_to (i + 2) (omega arith)) ∙ r.position-same (pt (i + 2)) (points (i + 2) (omega arith))

      sum_same :
          (i : ℕ) → i ≤ n →
          window_sum m'.positions m'.edges m'.intervals pt' ed' i ≡ window_sum m.positions m.edges m.intervals pt ed i
      sum_same zero l =
          window_sum-none m'.positions m'.edges m'.intervals pt' ed' ∙ sym (window_sum-none m.positions m.edges m.intervals pt ed)
      sum_same (suc i) l =
          rw (sym (add-one i))
          (window_sum-more m'.positions m'.edges m'.intervals pt' ed' i
          ∙ term-same (sum_same i (omega arith)) (middle-same i (omega arith)) (weight-same i (omega arith))
          ∙ sym (window_sum-more m.positions m.edges m.intervals pt ed i))

      face_point_over-same :
          face_point_over m'.positions m'.edges m'.intervals pt' ed' n ≡ face_point_over m.positions m.edges m.intervals pt ed n
      unfolding face_point_over
      face_point_over-same = ap over_weight (sum_same n (omega arith))

  module _ (f : ℕ) (es : List ℕ) (l : f < nf) (some : 0 < length es) (b : AllBelow ne es) where
    -- the points and the edges of the border, going on round
    pt : ℕ → ℕ
    pt j = get_or (again 4 (map (first_point m f) es)) j 0

    ed : ℕ → ℕ
    ed j = get_or es (around (length es) j) 0

    long : length (again 4 (map (first_point m f) es)) ≡ length es + 4
    long = length-again 4 (map (first_point m f) es) ∙ ap (λ k. k + 4) (length-map es (first_point m f))

    face_point_about-same : face_point_about m' (r.face f) (map r.edge es) ≡ face_point_about m f es
    unfolding face_point_about pt ed
    face_point_about-same =
        ap
        (λ n.
        face_point_over m'.positions m'.edges m'.intervals
        (λ j. get_or (again 4 (map (first_point m' (r.face f)) (map r.edge es))) j 0) (λ j. get_or (map r.edge es) (around n j) 0) n)
        (length-map es r.edge)
        ∙ face_point_over-same (length es) pt ed
        (λ j. get_or (again 4 (map (first_point m' (r.face f)) (map r.edge es))) j 0)
        (λ j. get_or (map r.edge es) (around (length es) j) 0)
        (λ j k. border-points-below a r f es l some b j (omega (arith, long)))
        (λ j. b (around (length es) j) (around-below (length es) j some))
        (λ j k.
        ap (λ x. get_or x j 0) (border-points-to a r f es l some b)
        ∙ get_d_map r.point (again 4 (map (first_point m f) es)) j (omega (arith, long)))
        (λ j. get_d_map r.edge es (around (length es) j) (around-below (length es) j some))

  pub face_point-same : (f : ℕ) → f < nf → face_point_in m' ne' (r.face f) ≡ face_point_in m ne f
  unfolding face_point_in
  face_point-same f l =
      let w : WalkedRound m ne f = walked-round a f l in
      ap (λ x. face_point_about m' (r.face f) (edges_of x)) (face_walk-to a r f l ∙ ap (walk_to r.edge) w.came)
      ∙ face_point_about-same f w.edges l w.some w.below
      ∙ sym (ap (λ x. face_point_about m f (edges_of x)) w.came)
