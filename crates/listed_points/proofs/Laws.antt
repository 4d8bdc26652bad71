-- The end of a loop that counts. Assumes nothing.
--     whole                   what is not more and not less than a number is that number
use mathlib.Core.Path.{◌≡◌}
use Prim.Native.Nat.{ℕ, ◌≤◌}
use native.Mathlib.Omega.{arith}

pub whole : (k n : ℕ) → k ≤ n → n ≤ k → k ≡ n
whole k n h g = omega arith
