-- The point m of equation 15 and the edge point are the same under other row numbers. Assumes nothing.
use mathlib.Core.Path.{◌≡◌, ◌∙◌, ap, ap₂}
use Prim.Native.Nat.{ℕ, ◌<◌}
use lib.Ieee.{Float}
use Rattle.positions.specs.declared.Position.{Position}
use Rattle.tables.specs.Mesh.{Mesh, origin, dest, left_face, right_face, left_cw, left_acw, right_cw, right_acw, interval}
use Rattle.tables.specs.Records.{edge_at}
use Rattle.audited_meshes.specs.Audited.{Audited}
use Rattle.position_rules.specs.EdgePoint.{shares, middle, edge_middle, edge_point}
use Rattle.renumbered_meshes.specs.Renumbered.{Renumbered}
use Rattle.renumbered_meshes.proofs.Intervals.{interval-at, three_terms-same}

-- the same ends at the same weights have the same m
ends_same : {o o' t t' : Position} {wo wo' wt wt' : Float} → o' ≡ o → wo' ≡ wo → t' ≡ t → wt' ≡ wt → middle o' wo' t' wt' ≡ middle o wo t wt
ends_same h k i j = ap₂ (λ f x. f x) (ap₂ (λ f x. f x) (ap₂ middle h k) i) j

module _ {m : Mesh} {np ne nf : ℕ} {m' : Mesh} {np' ne' nf' : ℕ} (a : Audited m np ne nf) (r : Renumbered m np ne nf m' np' ne' nf') where
  -- m of an edge with the ends o and t
  middle-same :
      (o t e : ℕ) → o < np → t < np → e < ne →
      edge_middle m'.positions m'.edges m'.intervals (r.point o) (r.point t) (r.edge e)
      ≡ edge_middle m.positions m.edges m.intervals o t e
  unfolding edge_middle
  middle-same o t e l k j =
      ends_same (r.position-same o l) (three_terms-same a r o e l j) (r.position-same t k) (three_terms-same a r t e k j)

  pub edge_middle-same :
      (e : ℕ) → e < ne →
      edge_middle m'.positions m'.edges m'.intervals (origin m' (r.edge e)) (dest m' (r.edge e)) (r.edge e)
      ≡ edge_middle m.positions m.edges m.intervals (origin m e) (dest m e) e
  edge_middle-same e l =
      ap₂ (λ o t. edge_middle m'.positions m'.edges m'.intervals o t (r.edge e)) (r.origin-goes e l) (r.dest-goes e l)
      ∙ middle-same (origin m e) (dest m e) e (a.edge-in-range e l).origin-in-range (a.edge-in-range e l).dest-in-range l

  -- the intervals of the four neighbours
  left_cw-same : (e : ℕ) → e < ne → interval m' (left_cw m' (r.edge e)) ≡ interval m (left_cw m e)
  left_cw-same e l = interval-at a r (left_cw m e) _ (a.edge-in-range e l).left_cw-in-range (r.left_cw-goes e l)

  left_acw-same : (e : ℕ) → e < ne → interval m' (left_acw m' (r.edge e)) ≡ interval m (left_acw m e)
  left_acw-same e l = interval-at a r (left_acw m e) _ (a.edge-in-range e l).left_acw-in-range (r.left_acw-goes e l)

  right_cw-same : (e : ℕ) → e < ne → interval m' (right_cw m' (r.edge e)) ≡ interval m (right_cw m e)
  right_cw-same e l = interval-at a r (right_cw m e) _ (a.edge-in-range e l).right_cw-in-range (r.right_cw-goes e l)

  right_acw-same : (e : ℕ) → e < ne → interval m' (right_acw m' (r.edge e)) ≡ interval m (right_acw m e)
  right_acw-same e l = interval-at a r (right_acw m e) _ (a.edge-in-range e l).right_acw-in-range (r.right_acw-goes e l)

  shares-same :
      (e : ℕ) → e < ne →
      shares m'.intervals (edge_at m'.edges m'.intervals (r.edge e)) ≡ shares m.intervals (edge_at m.edges m.intervals e)
  unfolding shares
  shares-same e l = rw (left_cw-same e l, left_acw-same e l, right_cw-same e l, right_acw-same e l)

  pub edge_point-same :
      (fp fp' : ℕ → Position) → ((f : ℕ) → f < nf → fp' (r.face f) ≡ fp f) → (e : ℕ) → e < ne →
      edge_point m'.positions m'.edges m'.intervals fp' (r.edge e) ≡ edge_point m.positions m.edges m.intervals fp e
  unfolding edge_point
  edge_point-same fp fp' h e l =
      let left : fp' (left_face m' (r.edge e)) ≡ fp (left_face m e) = ap fp' (r.left_face-goes e l) ∙ h (left_face m e) (a.edge-in-range e l).left_face-in-range in
      let right : fp' (right_face m' (r.edge e)) ≡ fp (right_face m e) =
      ap fp' (r.right_face-goes e l) ∙ h (right_face m e) (a.edge-in-range e l).right_face-in-range in
      rw (edge_middle-same e l, shares-same e l, left, right)
