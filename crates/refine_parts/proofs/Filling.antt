-- An order that is filled with 0, 1, 2, .. Assumes nothing.
--     filled-turn, filled-end     the loop that fills it
use mathlib.Core.Path.{◌≡◌, sym, ap, ◌∙◌}
use mathlib.Core.List.{List, [], ◌∷◌, ◌++◌}
use Prim.Native.Nat.{ℕ, ◌+◌, ◌≤◌, ◌<◌}
use native.Mathlib.Numerals.{add-one}
use native.Mathlib.Omega.{arith}
use lib.ListN.{length, take, set}
use lib.Seq.{take-suc-set, take_all}
use Rattle.runs.specs.Runs.{numbered}

pub filled-turn : (o : List ℕ) (i : ℕ) → take i o ≡ numbered i → i < length o → take (i + 1) (set o i i) ≡ numbered (i + 1)
unfolding numbered
filled-turn o i h l = rw add-one (take-suc-set o i i l ∙ ap (λ (x : List ℕ). x ++ (i ∷ [])) h)

pub filled-end : (o : List ℕ) (i n : ℕ) → take i o ≡ numbered i → length o ≡ n → i ≤ n → n ≤ i → o ≡ numbered n
filled-end o i n h l a b =
    let e : i ≡ n = omega arith in
    sym (take_all i o (omega arith)) ∙ h ∙ ap numbered e
