-- What holds of all numbers of a list holds at every place of it. Assumes nothing.
use mathlib.Core.Path.{◌≡◌, refl, sym, ◌∙◌, ap}
use mathlib.Core.Bool.{Bool, ◌&&◌}
use mathlib.Core.List.{List}
use Prim.Native.Nat.{ℕ, zero, suc, ◌≤◌}
use native.Mathlib.Numerals.{add-one}
use native.Mathlib.Omega.{arith}
use lib.ListN.{length, get_or, take}
use Rattle.std.specs.List.{list_all}
use Rattle.std.proofs.Math.Seq.{take-length}
use Rattle.std.proofs.lemmas.List.Folds.{list_all_more}
use Rattle.audited_meshes.specs.Folds.{every}

all-before : {X : Type 0} (p : X → Bool) (d : X) (xs : List X) (i : ℕ) → i ≤ length xs → list_all p (take i xs) ≡ every i (λ k. p (get_or xs k d))
unfolding every
all-before p d xs zero h = refl
all-before p d xs (suc i) h =
    rw (← add-one i)
    (list_all_more p xs i d (omega arith) ∙ ap (λ (b : Bool). b && p (get_or xs i d)) (all-before p d xs i (omega arith)))

pub all-every : {X : Type 0} (p : X → Bool) (d : X) (xs : List X) → list_all p xs ≡ every (length xs) (λ k. p (get_or xs k d))
all-every p d xs = rw (take-length xs) at (all-before p d xs (length xs) (omega arith))
