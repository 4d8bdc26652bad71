-- The output of the program `mend`, by what its parts answer and leave. Assumes nothing.
--     long-text               a text that is too long
--     line-fits line-front    bytes written at the front of a buffer
--     long-output             the output for a text that is too long
--     mended-output           the output for a text that is mended
--     refused-output          the output for one that is refused
use mathlib.Core.Path.{◌≡◌, refl, sym, ap, ◌∙◌}
use mathlib.Core.List.{List, ◌++◌}
use Prim.Native.Nat.{ℕ, zero, suc, ◌+◌, ◌≤◌, ◌<◌}
use native.Mathlib.Omega.{arith}
use lib.ListN.{length, take, drop}
use lib.Seq.{sets-eq, take-append_seam, take_at, length-take-le}
use borrow.Author.Tests.{lt-ltb, le-ltb}
use Rattle.mesh_answers.specs.Lines.{refused_line}
use Rattle.mesh_answers.specs.Writing.{Written}
use Rattle.mended_texts.specs.Mending.{mend_text}
use Rattle.station_mending.specs.Told.{MendingTold, mended}
use Rattle.mend_outputs.specs.Output.{mend_bytes, mended_bytes, told_bytes, mend_output, mend_output_if}
use Rattle.mend_outputs.specs.Claims.{LongText}

pub long-text : LongText
unfolding mend_output mend_output_if
long-text s h = rw (lt-ltb mend_bytes (length s) h)

pub line-fits : (out xs : List ℕ) {r : ℕ} {out' : List ℕ} → Written out 0 xs r out' → length xs ≤ length out → length out' ≡ length out
    → r ≤ length out'
line-fits out xs w h e = let p = w.place in omega arith

pub line-front : (out xs : List ℕ) {r : ℕ} {out' : List ℕ} → Written out 0 xs r out' → length xs ≤ length out → take r out' ≡ xs
line-front out xs {r} {out'} w h =
    let e : r ≡ length xs = w.place ∙ omega arith in
    let l : out' ≡ xs ++ drop (0 + length xs) out = w.list ∙ sets-eq xs out 0 (omega arith) in
    ap (λ (k : ℕ). take k out') e ∙ ap (take (length xs)) l ∙ take-append_seam xs (drop (0 + length xs) out)

module _ (buffer : List ℕ) (n : ℕ) (h : n ≤ length buffer) where
  pub long-output : mend_bytes < n → mend_output (take n buffer) ≡ refused_line 2
  long-output g = long-text (take n buffer) (rw (length-take-le n buffer h) g)

  module _ (g : n ≤ mend_bytes) {a : ℕ} {t : List ℕ} (e : ◌≡◌ {A = MendingTold} (record { answer = a; text = t }) (mended (mend_text (take n buffer)))) where
    told-output : mend_output (take n buffer) ≡ mended_bytes a t
    unfolding mend_output mend_output_if
    told-output = rw (length-take-le n buffer h, le-ltb mend_bytes n g) (ap told_bytes (sym e))

    pub mended-output : a ≡ 0 → length t ≡ n → take n (t ++ drop n buffer) ≡ mend_output (take n buffer)
    mended-output z l = take_at t (drop n buffer) n l ∙ sym (told-output ∙ ap (λ (x : ℕ). mended_bytes x t) z)

    pub refused-output : (a ≡ 0 → ⊥) → mend_output (take n buffer) ≡ refused_line a
    refused-output z = told-output ∙ line a z
      where
        line : (x : ℕ) → (x ≡ 0 → ⊥) → mended_bytes x t ≡ refused_line x
        line zero d = absurd (d refl)
        line (suc x) d = refl
