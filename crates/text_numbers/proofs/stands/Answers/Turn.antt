-- One turn of the comparison of s from a place with t: i bytes agree so far, and b is the next one of s.
use mathlib.Core.List.{List}
use mathlib.Core.Path.{◌≡◌, sym, ◌∙◌}
use mathlib.Core.Bool.{true, false}
use Prim.Native.Nat.{ℕ, suc, ◌+◌, ◌≤◌, ◌<◌}
use native.Mathlib.Nat.{add-zero}
use native.Mathlib.Numerals.{add-one}
use native.Mathlib.Omega.{arith}
use lib.ListN.{length, get_or, drop, drop_of_length-le}
use lib.Seq.{drop-cons}
use borrow.Author.Tests.{eq-eqb, ne_eqb}
use Rattle.text_numbers.specs.Form.{stands}

pub stands-start : (s : List ℕ) (at : ℕ) (t : List ℕ) → stands s (at + 0) (drop 0 t) ≡ stands s at t
stands-start s at t = rw add-zero

module _ (s : List ℕ) (at : ℕ) (t : List ℕ) (i : ℕ) (inv : stands s (at + i) (drop i t) ≡ stands s at t) where
  pub stands-turn : i < length t → {b : ℕ} → b ≡ get_or s (at + i) 0 → b ≡ get_or t i 0 → stands s (at + (i + 1)) (drop (i + 1) t) ≡ stands s at t
  unfolding stands
  stands-turn h {b} eb et =
      let e : at + i + 1 ≡ at + suc i = omega arith in
      rw (add-one i) (rw e at (rw (drop-cons t i 0 h, eq-eqb _ _ (sym eb ∙ et)) at inv))

  pub stands-stop : i < length t → {b : ℕ} → b ≡ get_or s (at + i) 0 → (b ≡ get_or t i 0 → ⊥) → false ≡ stands s at t
  unfolding stands
  stands-stop h {b} eb nt = rw (drop-cons t i 0 h, ne_eqb _ _ (λ e. nt (eb ∙ e))) at inv

  pub stands-end : length t ≤ i → true ≡ stands s at t
  unfolding stands
  stands-end h = rw (drop_of_length-le t h) at inv
