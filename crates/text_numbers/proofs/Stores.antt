-- Numbers stored in a list one run after the other. Assumes nothing.
use mathlib.Core.List.{List, [], ◌∷◌, ◌++◌}
use mathlib.Core.Path.{◌≡◌, ap, ◌∙◌}
use Prim.Native.Nat.{ℕ, suc, ◌+◌}
use native.Mathlib.Nat.{add-zero}
use native.Mathlib.Omega.{arith}
use lib.ListN.{length, set}
use lib.Seq.{sets}

pub sets-append : {B : Type 0} (xs : List B) (i : ℕ) (vs ws : List B) → sets xs i (vs ++ ws) ≡ sets (sets xs i vs) (i + length vs) ws
sets-append xs i [] ws = rw add-zero
sets-append xs i (v ∷ vs) ws =
    let e : suc i + length vs ≡ i + suc (length vs) = omega arith in
    sets-append (set xs i v) (suc i) vs ws ∙ ap (λ (k : ℕ). sets (sets (set xs i v) (suc i) vs) k ws) e
