-- Walks that come round. A step takes each dart to a dart of the same class, and each class is one cycle.
--     Cycles step cls start len         each class c is one cycle of len c darts, counted from start c
--     orbit step n d                    the n darts that a walk passes from d on
-- One record serves the walks about faces and the walks about points. Nothing in it iterates: a dart has a rank, the number of
-- steps from its class's start, and the laws are about one step each. With a step that can be undone they make the walk
-- from the start pass each dart of its class exactly once.
use Rattle.std.specs.Prelude.{◌≡◌, List, [], ◌∷◌, ℕ, zero, suc, ◌<◌}

pub record Cycles {D C : Type 0} (step : D → D) (cls : D → C) (start : C → D) (len : C → ℕ) : Type 0 where
  pub rank : D → ℕ
  -- A step stays in its class, and the start of a class is in it.
  pub cls-step : (d : D) → cls (step d) ≡ cls d
  pub cls-start : (c : C) → cls (start c) ≡ c
  -- The start has rank 0 and every rank is below the length.
  pub rank-start : (c : C) → rank (start c) ≡ 0
  pub rank_below : (d : D) → rank d < len (cls d)
  -- A step adds one, and the step after the last goes to the start.
  pub rank_step : (d : D) → suc (rank d) < len (cls d) → rank (step d) ≡ suc (rank d)
  pub step-last : (d : D) → suc (rank d) ≡ len (cls d) → step d ≡ start (cls d)

unfoldable pub orbit : {D : Type 0} → (D → D) → ℕ → D → List D
orbit step zero d = []
orbit step (suc n) d = d ∷ orbit step n (step d)
