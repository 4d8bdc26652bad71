-- What the answer of a step says of its test. Assumes nothing.
use mathlib.Core.Path.{◌≡◌, refl, sym, ap}
use mathlib.Core.Bool.{Bool, true, false, ◌&&◌}
use Prim.Native.Nat.{ℕ, ◌<◌}
use native.Mathlib.Omega.{arith}
use lib.Dec.{ltb}
use Rattle.std.specs.Prelude.{Some, None}
use Rattle.audited_meshes.proofs.Tests.{and_is, ltb-is, self-is}
use Rattle.walks.specs.declared.Step.{Step}
use Rattle.walks.specs.Steps.{step_to, to_if}

pub to_is : (b : Bool) (p e q i : ℕ) → Some (step_to q i) ≡ to_if b p e → (b ≡ true) × (p ≡ q) × (e ≡ i)
to_is true p e q i h =
    let same : ◌≡◌ {A = Step} (step_to q i) (step_to p e) = cc in
    (refl, ap (λ (s : Step). s.point) (sym same), ap (λ (s : Step). s.next) (sym same))
to_is false p e q i h = let z : ◌≡◌ {A = ℕ} 0 1 = cc in absurd (omega arith)

pub lost-is : (b : Bool) (p e : ℕ) → None ≡ to_if b p e → b ≡ false
lost-is true p e h = let z : ◌≡◌ {A = ℕ} 0 1 = cc in absurd (omega arith)
lost-is false p e h = refl

-- a walk steps from edges below its bound alone
pub step-below : (ne e : ℕ) (b : Bool) (p i q next : ℕ) → Some (step_to q next) ≡ to_if (ltb e ne && b) p i → e < ne
step-below ne e b p i q next h = ((and_is (ltb-is e ne) (self-is b)).0 (to_is (ltb e ne && b) p i q next h).0).0
