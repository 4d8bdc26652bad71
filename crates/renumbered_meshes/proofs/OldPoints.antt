-- The face between two edges about a point goes along with the row numbers, and where the point goes is the same. Assumes nothing.
use mathlib.Core.Path.{◌≡◌, refl, sym, ◌∙◌, ap, ap₂}
use mathlib.Core.Bool.{Bool, true, false, cond}
use Prim.Native.Nat.{ℕ, zero, suc, ◌<◌, ◌≤◌}
use native.Mathlib.Omega.{arith}
use native.Mathlib.Numerals.{add-one}
use lib.IntN.{pos}
use lib.Ieee.{of_int, binary64}
use borrow.Author.Tests.{ne_eqb}
use Rattle.positions.specs.declared.Position.{Position}
use Rattle.t_spline.specs.Edge.{same_face, common_face}
use Rattle.tables.specs.Mesh.{Mesh, none, start, valence, left_face, right_face}
use Rattle.tables.specs.Records.{position_at, edge_at}
use Rattle.audited_meshes.specs.Audited.{Audited}
use Rattle.position_rules.specs.declared.WeightedSum.{WeightedSum}
use Rattle.position_rules.specs.Intervals.{acw_about}
use Rattle.position_rules.specs.OldPoint.{radial_edge, edge_weight, face_weight, radial_terms, radial_sum, moved, old_point}
use Rattle.position_rules.proofs.Audited.{common-below}
use Rattle.position_rules.proofs.Sums.{radial_edge-none, radial_edge-more, radial_sum-none, radial_sum-more}
use Rattle.renumbered_meshes.specs.Renumbered.{Renumbered}
use Rattle.renumbered_meshes.proofs.Steps.{eqb-once, acw_about-to, acw_about-below}
use Rattle.renumbered_meshes.proofs.Intervals.{a1-same, a2-same, c1-same, c2-same}

-- the first of four tests that holds chooses a face that goes along
first-of-four :
    (g : ℕ → ℕ) (n l r : ℕ) → n ≤ none → (b1 b2 b3 b4 : Bool) → cond b1 l (cond b2 l (cond b3 r (cond b4 r none))) < n →
    cond b1 (g l) (cond b2 (g l) (cond b3 (g r) (cond b4 (g r) none))) ≡ g (cond b1 l (cond b2 l (cond b3 r (cond b4 r none))))
first-of-four g n l r h true b2 b3 b4 k = refl
first-of-four g n l r h false true b3 b4 k = refl
first-of-four g n l r h false false true b4 k = refl
first-of-four g n l r h false false false true k = refl
first-of-four g n l r h false false false false k = absurd (omega arith)

module _
    {m : Mesh} {np ne nf : ℕ} {m' : Mesh} {np' ne' nf' : ℕ} (a : Audited m np ne nf) (r : Renumbered m np ne nf m' np' ne' nf')
    (few : nf ≤ none) (few' : nf' ≤ none)
  where
    same_face-to : (f g : ℕ) → f < nf → g < nf → same_face (r.face f) (r.face g) ≡ same_face f g
    same_face-to f g l k =
        rw (ne_eqb (r.face f) none (λ e. omega (arith, r.face-below f l)), ne_eqb f none (λ e. omega arith)) (eqb-once r.face nf r.face-once f g l k)

    -- the faces of two edges
    common-to :
        (e i : ℕ) → e < ne → i < ne → common_face (edge_at m.edges m.intervals e) (edge_at m.edges m.intervals i) < nf →
        common_face (edge_at m'.edges m'.intervals (r.edge e)) (edge_at m'.edges m'.intervals (r.edge i))
        ≡ r.face (common_face (edge_at m.edges m.intervals e) (edge_at m.edges m.intervals i))
    common-to e i l k b =
        let x = a.edge-in-range e l in
        let y = a.edge-in-range i k in
        let ll = same_face-to (left_face m e) (left_face m i) x.left_face-in-range y.left_face-in-range in
        let lr = same_face-to (left_face m e) (right_face m i) x.left_face-in-range y.right_face-in-range in
        let rl = same_face-to (right_face m e) (left_face m i) x.right_face-in-range y.left_face-in-range in
        let rr = same_face-to (right_face m e) (right_face m i) x.right_face-in-range y.right_face-in-range in
        rw (r.left_face-goes e l, r.right_face-goes e l, r.left_face-goes i k, r.right_face-goes i k, ll, lr, rl, rr)
        (first-of-four r.face nf (left_face m e) (right_face m e) few (same_face (left_face m e) (left_face m i)) (same_face (left_face m e) (right_face m i))
        (same_face (right_face m e) (left_face m i)) (same_face (right_face m e) (right_face m i)) b)

    pub common_face-to :
        (p e : ℕ) → p < np → e < ne →
        common_face (edge_at m'.edges m'.intervals (r.edge e))
        (edge_at m'.edges m'.intervals (acw_about m'.edges (r.point p) (r.edge e)))
        ≡ r.face (common_face (edge_at m.edges m.intervals e) (edge_at m.edges m.intervals (acw_about m.edges p e)))
    common_face-to p e l k =
        ap (λ i. common_face (edge_at m'.edges m'.intervals (r.edge e)) (edge_at m'.edges m'.intervals i)) (acw_about-to a r p e l k)
        ∙ common-to e (acw_about m.edges p e) k (acw_about-below a r p e k) (common-below m np ne nf a few p e k)

    -- The edges about a point.
    module _ (p : ℕ) (l : p < np) where
      pub radial_edge-below : (i : ℕ) → radial_edge m.edges p (start m p) i < ne
      radial_edge-below zero = rw (radial_edge-none m.edges p (start m p)) (a.start-in-range p l)
      radial_edge-below (suc i) =
          rw (sym (add-one i), radial_edge-more m.edges p (start m p) i)
          (acw_about-below a r p (radial_edge m.edges p (start m p) i) (radial_edge-below i))

      pub radial_edge-to :
          (i : ℕ) → radial_edge m'.edges (r.point p) (start m' (r.point p)) i ≡ r.edge (radial_edge m.edges p (start m p) i)
      radial_edge-to zero =
          radial_edge-none m'.edges (r.point p) (start m' (r.point p)) ∙ r.start-goes p l
          ∙ ap r.edge (sym (radial_edge-none m.edges p (start m p)))
      radial_edge-to (suc i) =
          rw (sym (add-one i), radial_edge-more m'.edges (r.point p) (start m' (r.point p)) i, radial_edge-more m.edges p (start m p) i, radial_edge-to i)
          (acw_about-to a r p (radial_edge m.edges p (start m p) i) l (radial_edge-below i))

      -- The points of edges and faces, whichever they are.
      module _
          (ep ep' fp fp' : ℕ → Position) (edges : (e : ℕ) → e < ne → ep' (r.edge e) ≡ ep e)
          (faces : (f : ℕ) → f < nf → fp' (r.face f) ≡ fp f)
        where
          edge_weight-same :
              (e : ℕ) → e < ne → edge_weight m'.edges m'.intervals (r.point p) (r.edge e) ≡ edge_weight m.edges m.intervals p e
          unfolding edge_weight
          edge_weight-same e k = rw (a1-same a r p e l k, c1-same a r p e l k, a2-same a r p e l k, c2-same a r p e l k)

          face_weight-same :
              (e i : ℕ) → e < ne → i < ne →
              face_weight m'.edges m'.intervals (r.point p) (r.edge e) (r.edge i) ≡ face_weight m.edges m.intervals p e i
          unfolding face_weight
          face_weight-same e i k j = rw (a1-same a r p e l k, c1-same a r p i l j)

          terms-same :
              (e : ℕ) → e < ne → (s : WeightedSum) →
              radial_terms m'.edges m'.intervals ep' fp' (r.point p) (r.edge e) s ≡ radial_terms m.edges m.intervals ep fp p e s
          unfolding radial_terms
          terms-same e k s =
              let next = acw_about m.edges p e in
              let between = ap fp' (common_face-to p e l k) ∙ faces _ (common-below m np ne nf a few p e k) in
              let weight =
              ap (face_weight m'.edges m'.intervals (r.point p) (r.edge e)) (acw_about-to a r p e l k)
              ∙ face_weight-same e next k (acw_about-below a r p e k) in
              rw (edges e k, edge_weight-same e k, between, weight)

          sum_same :
              (n : ℕ) →
              radial_sum m'.edges m'.intervals ep' fp' (r.point p) (start m' (r.point p)) n
              ≡ radial_sum m.edges m.intervals ep fp p (start m p) n
          sum_same zero =
              radial_sum-none m'.edges m'.intervals ep' fp' (r.point p) (start m' (r.point p))
              ∙ sym (radial_sum-none m.edges m.intervals ep fp p (start m p))
          sum_same (suc n) =
              let more' = radial_sum-more m'.edges m'.intervals ep' fp' (r.point p) (start m' (r.point p)) n in
              let more = radial_sum-more m.edges m.intervals ep fp p (start m p) n in
              rw (sym (add-one n), more', more, sum_same n, radial_edge-to n)
              (terms-same (radial_edge m.edges p (start m p) n) (radial_edge-below n) _)

          pub old_point-same :
              old_point m'.positions m'.points m'.edges m'.intervals ep' fp' (r.point p)
              ≡ old_point m.positions m.points m.edges m.intervals ep fp p
          unfolding old_point
          old_point-same =
              ap
              (λ v.
              moved (position_at m'.positions (r.point p)) (of_int binary64 (pos v))
              (radial_sum m'.edges m'.intervals ep' fp' (r.point p) (start m' (r.point p)) v))
              (r.valence-goes p l)
              ∙ ap₂ (λ x s. moved x (of_int binary64 (pos (valence m p))) s) (r.position-same p l) (sum_same (valence m p))
