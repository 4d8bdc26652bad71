-- The head of a text: what stands there, and the version that it names. Assumes nothing.
--     head-one, head-two, head-missing    the answer by the two tests
--     head_read, head-none                what the answer says of the form
use mathlib.Core.List.{List}
use mathlib.Core.Path.{◌≡◌, refl}
use mathlib.Core.Bool.{Bool, true, false}
use Prim.Native.Nat.{ℕ, ◌≤◌}
use native.Mathlib.Omega.{arith}
use lib.ListN.{length}
use Rattle.std.specs.Prelude.{Some, None}
use Rattle.text_numbers.specs.Form.{bytes, Parsed, parsed, unparsed, stands}
use Rattle.text_numbers.proofs.Laws.{stands-inside}
use Rattle.text_numbers.proofs.Turns.{literal-found, literal-none}
use Rattle.mesh_text.specs.Text.{head_form}
use Rattle.mesh_text.specs.Parts.{head_of}
use Rattle.built_meshes.specs.declared.Version.{Version}
use Rattle.built_meshes.specs.declared.Version.TheVariants.{One, Two}

module _ (s : List ℕ) where
  pub head-one : stands s 0 (bytes "[mesh 1]\n") ≡ true → Some One ≡ head_of (head_form s 0)
  unfolding head_form
  head-one e = rw (e, literal-found s (bytes "[mesh 1]\n") 0 e)

  pub head-two : stands s 0 (bytes "[mesh 1]\n") ≡ false → stands s 0 (bytes "[mesh 2]\n") ≡ true → Some Two ≡ head_of (head_form s 0)
  unfolding head_form
  head-two n e = rw (n, literal-found s (bytes "[mesh 2]\n") 0 e)

  pub head-missing : stands s 0 (bytes "[mesh 1]\n") ≡ false → stands s 0 (bytes "[mesh 2]\n") ≡ false → None ≡ head_of (head_form s 0)
  unfolding head_form
  head-missing n e = rw (n, literal-none s (bytes "[mesh 2]\n") 0 e)

-- a head is nine bytes long
pub head_read : (s : List ℕ) (v : Version) → head_of (head_form s 0) ≡ Some v → (head_form s 0 ≡ parsed v 9) × (9 ≤ length s)
unfolding head_form
head_read s v e = go (stands s 0 (bytes "[mesh 1]\n")) refl
  where
    second : (b : Bool) → stands s 0 (bytes "[mesh 1]\n") ≡ false → stands s 0 (bytes "[mesh 2]\n") ≡ b → (head_form s 0 ≡ parsed v 9) × (9 ≤ length s)
    second true n h =
        let l = literal-found s (bytes "[mesh 2]\n") 0 h in
        let e' = rw (n, l) at e in
        let w : Two ≡ v = cc in
        (rw (n, l, w), stands-inside s (bytes "[mesh 2]\n") 0 refl (omega arith) h)
    second false n h =
        let l = literal-none s (bytes "[mesh 2]\n") 0 h in
        let e' = rw (n, l) at e in
        let z : ◌≡◌ {A = ℕ} 0 1 = cc in
        absurd (omega arith)

    go : (b : Bool) → stands s 0 (bytes "[mesh 1]\n") ≡ b → (head_form s 0 ≡ parsed v 9) × (9 ≤ length s)
    go true h =
        let l = literal-found s (bytes "[mesh 1]\n") 0 h in
        let e' = rw (h, l) at e in
        let w : One ≡ v = cc in
        (rw (h, l, w), stands-inside s (bytes "[mesh 1]\n") 0 refl (omega arith) h)
    go false h = second (stands s 0 (bytes "[mesh 2]\n")) h refl

pub head-none : (x : Parsed Version) → head_of x ≡ None → x ≡ unparsed
head-none (parsed v n) e = cc
head-none unparsed e = refl
