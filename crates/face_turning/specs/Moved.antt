-- Values of a list moved within a stretch of it.
--     Moved d a n t xs ys   the n values from a on are moved within them: value t i stands at place i; the others stay
--     FaceTurned t f a n    what turning face f leaves, whose n listed points stand from a on; where t is false, it stays
--     AllTurned c           the faces of the choice c are turned: of side lengths, first points, listed points and intervals, as they were
--                           and as they are, with any coordinates
use Rattle.std.specs.Prelude.{◌≡◌, Bool, cond, ◌⊎◌, List, ℕ, ◌+◌, ◌*◌, ◌≤◌, ◌<◌, get_or, Float}
use Rattle.std.specs.Float.{nan}
use Rattle.built_meshes.specs.Lists.{Lists}
use Rattle.built_meshes.specs.declared.Version.TheVariants.{Two}
use Rattle.building_tests.specs.Lent.{lists_in}
use Rattle.mended_lists.specs.Reversal.{Choice, reversed, turned_point, turned_interval, turned_side, turned_first}

pub record Moved {A : Type 0} (d : A) (a n : ℕ) (t : ℕ → ℕ) (xs ys : List A) : Type 0 where
  pub inside : (i : ℕ) → i < n → get_or ys (a + i) d ≡ get_or xs (a + t i) d
  pub outside : (j : ℕ) → (j < a) ⊎ (a + n ≤ j) → get_or ys j d ≡ get_or xs j d

pub record FaceTurned (t : Bool) (f a n : ℕ) (l m : Lists) : Type 0 where
  pub sides : Moved 0 (f * 4) 4 (λ k. cond t (turned_side k) k) l.sides m.sides
  pub firsts : Moved 0 (f * 4) 4 (λ k. cond t (turned_first k) k) l.firsts m.firsts
  pub listed : Moved 0 a n (λ i. cond t (turned_point n i) i) l.listed m.listed
  pub intervals : Moved nan a n (λ i. cond t (turned_interval n i) i) l.intervals m.intervals

abbrev pub AllTurned : Choice → List ℕ → List ℕ → List ℕ → List Float → List ℕ → List ℕ → List ℕ → List Float → Type 0
AllTurned c ss fs ls is ss' fs' ls' is' =
    (cs : List Float) → lists_in Two cs ss' fs' ls' is' ≡ reversed c (lists_in Two cs ss fs ls is)
