-- The intervals about the ends of an edge are the same under other row numbers. Assumes nothing.
--     a1-same a2-same c1-same c2-same      A1, A2, C1, C2
--     three_terms-same, six_terms-same       d + A2 + C2 of one edge, and of two
--     neighbour-same                       the interval of a neighbour in one of the four links
use mathlib.Core.Path.{◌≡◌, ◌∙◌, ap}
use Prim.Native.Nat.{ℕ, ◌<◌}
use Rattle.tables.specs.Mesh.{Mesh, interval}
use Rattle.audited_meshes.specs.Audited.{Audited}
use Rattle.position_rules.specs.Intervals.{acw_about, cw_about, A1, A2, C1, C2, three_terms}
use Rattle.position_rules.specs.FacePoint.{six_terms}
use Rattle.renumbered_meshes.specs.Renumbered.{Renumbered}
use Rattle.renumbered_meshes.proofs.Steps.{acw_about-to, acw_about-below, cw_about-to, cw_about-below}

module _ {m : Mesh} {np ne nf : ℕ} {m' : Mesh} {np' ne' nf' : ℕ} (a : Audited m np ne nf) (r : Renumbered m np ne nf m' np' ne' nf') where
  -- edges that correspond have one interval
  pub interval-at : (e e' : ℕ) → e < ne → e' ≡ r.edge e → interval m' e' ≡ interval m e
  interval-at e e' l h = ap (interval m') h ∙ r.interval-same e l

  pub a1-same : (p e : ℕ) → p < np → e < ne → A1 m'.edges m'.intervals (r.point p) (r.edge e) ≡ A1 m.edges m.intervals p e
  a1-same p e l k = interval-at (acw_about m.edges p e) _ (acw_about-below a r p e k) (acw_about-to a r p e l k)

  pub c1-same : (p e : ℕ) → p < np → e < ne → C1 m'.edges m'.intervals (r.point p) (r.edge e) ≡ C1 m.edges m.intervals p e
  c1-same p e l k = interval-at (cw_about m.edges p e) _ (cw_about-below a r p e k) (cw_about-to a r p e l k)

  pub a2-same : (p e : ℕ) → p < np → e < ne → A2 m'.edges m'.intervals (r.point p) (r.edge e) ≡ A2 m.edges m.intervals p e
  a2-same p e l k =
      ap (A1 m'.edges m'.intervals (r.point p)) (acw_about-to a r p e l k)
      ∙ a1-same p (acw_about m.edges p e) l (acw_about-below a r p e k)

  pub c2-same : (p e : ℕ) → p < np → e < ne → C2 m'.edges m'.intervals (r.point p) (r.edge e) ≡ C2 m.edges m.intervals p e
  c2-same p e l k =
      ap (C1 m'.edges m'.intervals (r.point p)) (cw_about-to a r p e l k)
      ∙ c1-same p (cw_about m.edges p e) l (cw_about-below a r p e k)

  pub three_terms-same :
      (p e : ℕ) → p < np → e < ne →
      three_terms m'.edges m'.intervals (r.point p) (r.edge e) ≡ three_terms m.edges m.intervals p e
  unfolding three_terms
  three_terms-same p e l k = rw (r.interval-same e k, a2-same p e l k, c2-same p e l k)

  pub six_terms-same :
      (p e q g : ℕ) → p < np → e < ne → q < np → g < ne →
      six_terms m'.edges m'.intervals (r.point p) (r.edge e) (r.point q) (r.edge g)
      ≡ six_terms m.edges m.intervals p e q g
  unfolding six_terms
  six_terms-same p e q g l k i j = rw (three_terms-same p e l k, r.interval-same g j, a2-same q g i j, c2-same q g i j)
