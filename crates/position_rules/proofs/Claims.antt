-- The rules look at the mesh before the step and at the points of its faces and edges, wherever these stand. Assumes nothing.
use mathlib.Core.Path.{◌≡◌, refl, sym, ◌∙◌, ap}
use mathlib.Core.List.{List, [], ◌∷◌, ◌++◌}
use Prim.Native.Nat.{ℕ, zero, suc, ◌+◌, ◌≤◌, ◌<◌}
use native.Mathlib.Omega.{arith}
use native.Mathlib.Numerals.{add-one}
use lib.Dec.{ltb}
use mathlib.Core.Bool.{Bool, true, false, ◌&&◌, true≢false}
use lib.ListN.{get_or, length, get_or-append}
use lib.Seq.{get_or_at}
use lib.Ieee.{Float, add, mul, binary64}
use lib.Ieee.Scale.{finite}
use Rattle.positions.specs.declared.Position.{Position}
use Rattle.positions.specs.Position.{finite_position}
use Rattle.t_spline.specs.Edge.{common_face}
use Rattle.tables.specs.Mesh.{start, valence}
use Rattle.tables.specs.Records.{edge_at}
use Rattle.audited_meshes.specs.Walks.{touches, acw_of_point, face_walk, point_walk}
use Rattle.walks.proofs.Back.{back-first, back-next}
use Rattle.position_rules.specs.Intervals.{acw_about}
use Rattle.position_rules.specs.FacePoint.{face_point_about, face_point_in}
use Rattle.refined_meshes.specs.declared.Edition.TheVariants.{First, Second}
use Rattle.position_rules.specs.EdgePoint.{edge_point, blend}
use Rattle.position_rules.specs.OldPoint.{radial_edge, radial_terms, radial_sum, old_point}
use Rattle.position_rules.specs.Rules.{edge_point_in, old_point_in}
use Rattle.position_rules.specs.Fits.{EdgesFit}
use Rattle.position_rules.specs.declared.Shares.{Shares}
use Rattle.position_rules.specs.Claims.{FacePointTables, WeightedPointStands, OldPointStands, WeightedFinite, RadialRound}
use Rattle.position_rules.proofs.Fits.{acw-below}
use Rattle.position_rules.proofs.Floats.{finite-parts, add-lost, mul-lost}
use Rattle.position_rules.proofs.Sums.{radial_edge-none, radial_edge-more, radial_sum-none, radial_sum-more}
use Rattle.position_rules.proofs.Audited.{edges_fit, common-below}

pub face_point-tables : FacePointTables
unfolding face_point_in face_point_about face_walk
face_point-tables m ne f = refl

pub weighted_point-stands : WeightedPointStands
unfolding edge_point
weighted_point-stands First m np ne nf new fs' a h e l =
    rw (← h _ (a.edge-in-range e l).left_face-in-range, ← h _ (a.edge-in-range e l).right_face-in-range)
weighted_point-stands Second m np ne nf new fs' a h e l = refl

-- A coordinate of a blend is finite only where that of m is.
m-finite : (x w l r : Float) → finite (add binary64 (add binary64 (mul binary64 x w) l) r) ≡ true → finite x ≡ true
m-finite x w l r h = go (finite x) refl
  where
    go : (b : Bool) → finite x ≡ b → finite x ≡ true
    go true e = e
    go false e = absurd (true≢false (sym h ∙ add-lost _ r (add-lost _ l (mul-lost x w e))))

blend-finite : (p : Position) (a : Shares) (l r : Position) → finite_position (blend p a l r) ≡ true → finite_position p ≡ true
blend-finite p a l r h =
    let f = finite-parts (blend p a l r) h in rw (m-finite p.x _ _ _ f.0.0, m-finite p.y _ _ _ f.0.1, m-finite p.z _ _ _ f.1)

pub weighted-finite : WeightedFinite
unfolding edge_point_in edge_point
weighted-finite First m ne e h = h
weighted-finite Second m ne e h = blend-finite _ _ _ _ h

-- The sum about a point looks at the points of the edges about it and of the faces between them.
module _ (es : List ℕ) (is : List Float) (ne nf p s : ℕ) (fit : EdgesFit es is ne)
    (common : (r : ℕ) → r < ne → common_face (edge_at es is r) (edge_at es is (acw_about es p r)) < nf) (ep fp ep' fp' : ℕ → Position)
    (he : (e : ℕ) → e < ne → ep e ≡ ep' e) (hf : (f : ℕ) → f < nf → fp f ≡ fp' f) where
  radial-below : s < ne → (i : ℕ) → radial_edge es p s i < ne
  radial-below l zero = rw (radial_edge-none es p s) l
  radial-below l (suc i) = rw (sym (add-one i), radial_edge-more es p s i) (acw-below es is ne p (radial_edge es p s i) fit (radial-below l i))

  terms-same : (r : ℕ) → r < ne → (t : _) → radial_terms es is ep fp p r t ≡ radial_terms es is ep' fp' p r t
  unfolding radial_terms
  terms-same r l t = rw (he r l, hf _ (common r l))

  sum_same : s < ne → (n : ℕ) → radial_sum es is ep fp p s n ≡ radial_sum es is ep' fp' p s n
  sum_same l zero = radial_sum-none es is ep fp p s ∙ sym (radial_sum-none es is ep' fp' p s)
  sum_same l (suc n) =
      rw (sym (add-one n), radial_sum-more es is ep fp p s n, radial_sum-more es is ep' fp' p s n, sum_same l n)
      (terms-same (radial_edge es p s n) (radial-below l n) _)

pub old_point-stands : OldPointStands
unfolding old_point_in old_point
old_point-stands ed m np ne nf new es' fs' a h hf he p l =
    rw (sum_same m.edges m.intervals ne nf p (start m p) (edges_fit m np ne nf a) (common-below m np ne nf a h p) _ _ _ _ he hf
    (a.start-in-range p l) (valence m p))

pub radial-round : RadialRound
unfolding point_walk acw_about
radial-round m ne k p es w =
    (λ i l. at i (omega arith) ∙ get_or-append es (start m p ∷ []) 0 i l, at (length es) (omega arith) ∙ get_or_at es (start m p) [] 0 (length es) refl)
  where
    first : (get_or es 0 0 ≡ start m p) × (0 < length es)
    first = back-first (acw_of_point m p) (λ e. ltb e ne && touches m p e) (start m p) k es w

    at : (i : ℕ) → i ≤ length es → radial_edge m.edges p (start m p) i ≡ get_or (es ++ start m p ∷ []) i 0
    at zero l = radial_edge-none m.edges p (start m p) ∙ sym (get_or-append es (start m p ∷ []) 0 0 first.1 ∙ first.0)
    at (suc i) l =
        let here : radial_edge m.edges p (start m p) i ≡ get_or es i 0 = at i (omega arith) ∙ get_or-append es (start m p ∷ []) 0 i (omega arith) in
        rw (sym (add-one i))
        (radial_edge-more m.edges p (start m p) i ∙ ap (acw_about m.edges p) here
        ∙ back-next (acw_of_point m p) (λ e. ltb e ne && touches m p e) (start m p) k es w i (omega arith))
