-- Lists given by their parts.
--     up_to n g              the values g 0 .. g (n - 1)
--     in_turn n s h          the n parts in turn: part k has the values h k 0 .. h k (s k - 1)
use mathlib.Core.List.{List, [], ◌∷◌, ◌++◌}
use Prim.Native.Nat.{ℕ, zero, suc}

module _ {A : Type 0} where
  unfoldable pub up_to : ℕ → (ℕ → A) → List A
  up_to zero g = []
  up_to (suc n) g = up_to n g ++ g n ∷ []

  unfoldable pub in_turn : ℕ → (ℕ → ℕ) → (ℕ → ℕ → A) → List A
  unfolding up_to
  in_turn zero s h = []
  in_turn (suc n) s h = in_turn n s h ++ up_to (s n) (h n)
