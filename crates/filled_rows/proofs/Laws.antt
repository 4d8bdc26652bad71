-- The laws of a loop that looks at the elements of a list from a place on. Assumes nothing.
--     all-stop     an element that fails the test
--     all-turn     an element that passes it
--     all_end      no element is left
use mathlib.Core.Path.{◌≡◌}
use mathlib.Core.Bool.{Bool, true, false}
use mathlib.Core.List.{List}
use Prim.Native.Nat.{ℕ, suc, ◌+◌, ◌≤◌, ◌<◌}
use native.Mathlib.Omega.{arith}
use lib.ListN.{length, get_or, drop, drop_of_length-le}
use lib.Seq.{drop-cons}
use Rattle.filled_rows.specs.Filled.{all}

module _ {A : Type 0} (test : A → Bool) (d : A) (l : List A) (i : ℕ) where
  pub all-stop : i < length l → test (get_or l i d) ≡ false → false ≡ all test (drop i l)
  unfolding all
  all-stop h e = rw (drop-cons l i d h, e)

  pub all-turn : i < length l → test (get_or l i d) ≡ true → all test (drop (i + 1) l) ≡ all test (drop i l)
  unfolding all
  all-turn h e =
      let next : i + 1 ≡ suc i = omega arith in
      rw (drop-cons l i d h, e, next)

  pub all_end : length l ≤ i → true ≡ all test (drop i l)
  unfolding all
  all_end h = rw (drop_of_length-le l h)
