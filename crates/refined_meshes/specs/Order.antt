-- Orders in which faces are visited.
--     EachOnce nf order     the order names each of the nf faces once
--     turn_in order f        the turn at which the order names the face f
use Rattle.std.specs.Prelude.{cond, List, [], ◌∷◌, ◌≡◌, ℕ, suc, ◌<◌, eqb, length, get_or}
use Rattle.audited_meshes.specs.Folds.{Distinct}

pub record EachOnce (nf : ℕ) (order : List ℕ) : Type 0 where
  pub as_many : length order ≡ nf
  pub in-range : (k : ℕ) → k < nf → get_or order k 0 < nf
  pub no-face-twice : Distinct order

unfoldable pub turn_in : List ℕ → ℕ → ℕ
turn_in [] f = 0
turn_in (g ∷ gs) f = cond (eqb g f) 0 (suc (turn_in gs f))
