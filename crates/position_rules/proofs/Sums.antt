-- The laws of sums by turns: before the first turn, and one turn more. Assumes nothing.
use mathlib.Core.Path.{◌≡◌, refl}
use mathlib.Core.List.{List}
use Prim.Native.Nat.{ℕ, ◌+◌}
use lib.Ieee.{Float}
use Rattle.positions.specs.declared.Position.{Position}
use Rattle.tables.specs.Records.{position_at}
use Rattle.position_rules.specs.Intervals.{acw_about}
use Rattle.refined_meshes.specs.Turns.{turns}
use Rattle.refined_meshes.proofs.Turns.{turns_more}
use Rattle.position_rules.specs.Sums.{with_term}
use Rattle.position_rules.specs.FacePoint.{no_windows, window_weight, window_sum}
use Rattle.position_rules.specs.OldPoint.{no_edges, radial_edge, radial_terms, radial_sum}

module _ (ps : List Float) (es : List ℕ) (is : List Float) (pt ed : ℕ → ℕ) where
  pub window_sum-none : window_sum ps es is pt ed 0 ≡ no_windows
  unfolding window_sum turns
  window_sum-none = refl

  pub window_sum-more : (i : ℕ)
      → window_sum ps es is pt ed (i + 1) ≡ with_term (window_sum ps es is pt ed i) (position_at ps (pt (i + 2))) (window_weight es is pt ed i)
  unfolding window_sum
  window_sum-more i = turns_more i (λ k s. with_term s (position_at ps (pt (k + 2))) (window_weight es is pt ed k)) no_windows

module _ (es : List ℕ) (p s : ℕ) where
  pub radial_edge-none : radial_edge es p s 0 ≡ s
  unfolding radial_edge turns
  radial_edge-none = refl

  pub radial_edge-more : (i : ℕ) → radial_edge es p s (i + 1) ≡ acw_about es p (radial_edge es p s i)
  unfolding radial_edge
  radial_edge-more i = turns_more i (λ _ e. acw_about es p e) s

module _ (es : List ℕ) (is : List Float) (ep fp : ℕ → Position) (p s : ℕ) where
  pub radial_sum-none : radial_sum es is ep fp p s 0 ≡ no_edges
  unfolding radial_sum turns
  radial_sum-none = refl

  pub radial_sum-more : (i : ℕ)
      → radial_sum es is ep fp p s (i + 1) ≡ radial_terms es is ep fp p (radial_edge es p s i) (radial_sum es is ep fp p s i)
  unfolding radial_sum
  radial_sum-more i = turns_more i (λ k t. radial_terms es is ep fp p (radial_edge es p s k) t) no_edges
