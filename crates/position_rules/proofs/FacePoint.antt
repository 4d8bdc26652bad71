-- The border of a face as the face point takes it. Assumes nothing.
--     border-edges-fit           its edges are there
--     border-points-fit          its points are there, the first four again too
--     face_point-of-border        the sum over the windows of that border gives the face point
use mathlib.Core.Path.{◌≡◌, sym, ◌∙◌, ap, ap₂, subst, fun_ext}
use mathlib.Core.Bool.{Bool, true, false, cond}
use mathlib.Core.List.{List, map}
use Prim.Native.Nat.{ℕ, ◌+◌, ◌-◌, ◌*◌, ◌≤◌, ◌<◌}
use native.Mathlib.Omega.{arith}
use native.Mathlib.Decide.{dec_lt}
use lib.Dec.{eqb}
use lib.ListN.{get_or, length}
use lib.Ieee.{Float}
use Rattle.std.specs.Prelude.{Some, None}
use Rattle.perimeters.specs.Places.{around}
use Rattle.tables.specs.Mesh.{Mesh, left_face}
use Rattle.audited_meshes.specs.Walks.{back, edges_of, face_walk, first_point}
use Rattle.tables.specs.Parts.{face_tables, without_points}
use Rattle.walks.specs.Border.{padded, border_of, border}
use Rattle.audited_meshes.specs.Folds.{again}
use Rattle.walks.specs.declared.FaceBorder.{FaceBorder}
use Rattle.walks.proofs.Laws.{get_or-padded, border-walk, border-point, border-point-again}
use Rattle.position_rules.specs.declared.WeightedSum.{WeightedSum}
use Rattle.position_rules.specs.FacePoint.{window_sum, over_weight, face_point_over, face_point_about, face_point_in}
use Rattle.position_rules.specs.Fits.{BorderFits, PointsFit, FacePointFits}

cond-there : (b : Bool) (i j n : ℕ) → i * 3 + 3 ≤ n → j * 3 + 3 ≤ n → cond b i j * 3 + 3 ≤ n
cond-there true i j n h k = h
cond-there false i j n h k = k

border-back : (m : Mesh) (ne f : ℕ) (es : List ℕ) → face_walk m ne f ≡ back es → border m ne f ≡ border_of m f (back es)
border-back m ne f es w = border-walk m ne f ∙ ap (border_of m f) w

module _ (ps : List Float) (es : List ℕ) (is : List Float) (fs : List ℕ) (ne f : ℕ) (h : FacePointFits ps es is fs ne f) where
  -- the walk comes back
  passed_is : (b : FaceBorder) → b ≡ border (face_tables es fs) ne f → Some (length h.border) ≡ b.passed
  passed_is b e = sym (ap (λ (x : FaceBorder). x.passed) (e ∙ border-back (face_tables es fs) ne f h.border h.walked))

  pub never-lost : (b : FaceBorder) → b ≡ border (face_tables es fs) ne f → b.passed ≡ None → ⊥
  never-lost b e l = back-or-lost (passed_is b e ∙ l)
    where
      back-or-lost : {k : ℕ} → Some k ≡ None → ⊥
      back-or-lost q = let z : ◌≡◌ {A = ℕ} 0 1 = cc in omega arith

  count : (b : FaceBorder) → b ≡ border (face_tables es fs) ne f → {n : ℕ} → b.passed ≡ Some n → n ≡ length h.border
  count b e came = same (passed_is b e ∙ came)
    where
      same : {k n : ℕ} → Some k ≡ Some n → n ≡ k
      same q = cc

  pub border-edges-fit : (b : FaceBorder) → b ≡ border (face_tables es fs) ne f → {n : ℕ} → b.passed ≡ Some n → BorderFits es is b.edges n
  border-edges-fit b e came = rw (count b e came, e, border-back (face_tables es fs) ne f h.border h.walked)
      (record {
        rows = ne;
        fit = h.fit;
        at-least-3 = h.at-least-3;
        at-most-64 = h.at-most-64;
        edges-below = λ j l. rw (get_or-padded 64 h.border j) (h.edges-below j l);
      })

  point-there : (j : ℕ) → j < length h.border → get_or (border_of (face_tables es fs) f (back h.border)).points j 0 * 3 + 3 ≤ length ps
  point-there j l =
      let e : ℕ = get_or h.border j 0 in
      rw (border-point (face_tables es fs) f h.border j l)
      (cond-there (eqb (left_face (face_tables es fs) e) f) _ _ (length ps) (h.origin-there e (h.edges-below j l)) (h.dest-there e (h.edges-below j l)))

  -- the first four, also where there are only three
  first-there : (j : ℕ) → j < 4 → get_or (border_of (face_tables es fs) f (back h.border)).points j 0 * 3 + 3 ≤ length ps
  first-there j l = go (dec_lt j (length h.border))
    where
      go : Dec (j < length h.border) → get_or (border_of (face_tables es fs) f (back h.border)).points j 0 * 3 + 3 ≤ length ps
      go (yes b) = point-there j b
      go (no b) =
          let more : length h.border + 0 ≡ j = omega (arith, h.at-least-3) in
          subst (λ k. get_or (border_of (face_tables es fs) f (back h.border)).points k 0 * 3 + 3 ≤ length ps) more
          (rw (border-point-again (face_tables es fs) f h.border 0 (omega (arith, h.at-least-3)) (omega arith))
          (point-there 0 (omega (arith, h.at-least-3))))

  pub border-points-fit : (b : FaceBorder) → b ≡ border (face_tables es fs) ne f → {n : ℕ} → b.passed ≡ Some n → PointsFit ps b.points n
  border-points-fit b e came = rw (count b e came, e, border-back (face_tables es fs) ne f h.border h.walked)
      (record { points-there = λ j l. there j l (dec_lt j (length h.border)) })
    where
      there : (j : ℕ) → j < length h.border + 4 → Dec (j < length h.border)
          → get_or (border_of (face_tables es fs) f (back h.border)).points j 0 * 3 + 3 ≤ length ps
      there j l (yes b) = point-there j b
      there j l (no b) =
          let k : ℕ = j - length h.border in
          let more : length h.border + k ≡ j = omega arith in
          let few : k < 4 = omega arith in
          subst (λ i. get_or (border_of (face_tables es fs) f (back h.border)).points i 0 * 3 + 3 ≤ length ps) more
          (rw (border-point-again (face_tables es fs) f h.border k (omega (arith, h.at-least-3)) few) (first-there k few))

  walked-mesh : face_walk (without_points ps es is fs) ne f ≡ back h.border
  unfolding face_walk
  walked-mesh = h.walked

  about : face_point_in (without_points ps es is fs) ne f ≡ face_point_about (without_points ps es is fs) f h.border
  unfolding face_point_in
  about = ap (λ w. face_point_about (without_points ps es is fs) f (edges_of w)) walked-mesh

  -- what is read from the arrays is read from the lists that they hold
  sum-of-arrays :
      window_sum ps es is (λ j. get_or (padded 68 (again 4 (map (first_point (face_tables es fs) f) h.border))) j 0)
      (λ j. get_or (padded 64 h.border) (around (length h.border) j) 0) (length h.border)
      ≡ window_sum ps es is (λ j. get_or (again 4 (map (first_point (face_tables es fs) f) h.border)) j 0)
      (λ j. get_or h.border (around (length h.border) j) 0) (length h.border)
  sum-of-arrays =
      let bp : List ℕ = again 4 (map (first_point (face_tables es fs) f) h.border) in
      ap₂ (λ (pt ed : ℕ → ℕ). window_sum ps es is pt ed (length h.border))
      (fun_ext (λ j. get_or-padded 68 bp j)) (fun_ext (λ j. get_or-padded 64 h.border (around (length h.border) j)))

  pub face_point-of-border : (b : FaceBorder) (s : WeightedSum) → b ≡ border (face_tables es fs) ne f → {n : ℕ} → b.passed ≡ Some n
      → s ≡ window_sum ps es is (λ j. get_or b.points j 0) (λ j. get_or b.edges (around n j) 0) n
      → over_weight s ≡ face_point_in (without_points ps es is fs) ne f
  unfolding face_point_about face_point_over
  face_point-of-border b s e {n} came q =
      let Sum : FaceBorder → ℕ → WeightedSum = λ x k. window_sum ps es is (λ j. get_or x.points j 0) (λ j. get_or x.edges (around k j) 0) k in
      let arrays : s ≡ Sum (border_of (face_tables es fs) f (back h.border)) (length h.border) =
      q ∙ ap (Sum b) (count b e came)
      ∙ ap (λ (x : FaceBorder). Sum x (length h.border)) (e ∙ border-back (face_tables es fs) ne f h.border h.walked) in
      ap over_weight (arrays ∙ sum-of-arrays) ∙ sym about
