-- What is written after a step. Assumes nothing.
use Rattle.std.specs.Prelude.{Result, Ok, Err}
use mathlib.Core.Path.{◌≡◌, refl, sym, ap, ◌∙◌}
use mathlib.Core.Bool.{Bool, true, false}
use mathlib.Core.List.{List}
use Prim.Native.Nat.{ℕ}
use native.Mathlib.Nat.{zero-add}
use lib.Dec.{leb}
use lib.ListN.{length}
use lib.Seq.{sets}
use Rattle.tables.specs.Mesh.{Mesh}
use Rattle.tables.specs.declared.Counts.{Counts}
use Rattle.steps.specs.Step.{refusal_number, within_ceilings}
use Rattle.steps.specs.declared.StepRefusal.{StepRefusal}
use Rattle.mesh_answers.specs.Lines.{refused_line}
use Rattle.mesh_answers.specs.Writing.{Written}
use Rattle.listings.specs.Handing.{listing_of, passes_audit, WritingOutcome, written, write_listing}
use Rattle.listings.specs.declared.WritingRefusal.{WritingRefusal}
use Rattle.listings.specs.declared.WritingRefusal.TheVariants as WritingRefusal
use Rattle.handover_outputs.specs.Output.{listed, stepped_bytes}

-- what an answer of writing the listing l to out says of the bytes o that are left
abbrev Left : Result ℕ WritingRefusal → List ℕ → List ℕ → List ℕ → Type 0
Left (Ok n) l out o = (n ≡ length l) × (o ≡ sets out 0 l)
Left (Err g) l out o = o ≡ out

left-written : (closed within fits : Bool) (l out : List ℕ)
    → Left (written closed within fits l out).answer l out (written closed within fits l out).text
left-written false within fits l out = refl
left-written true false fits l out = refl
left-written true true false l out = refl
left-written true true true l out = (refl, refl)

module _ (m : Mesh) (c : Counts) (out : List ℕ) {a : Result ℕ WritingRefusal} {o : List ℕ} (e : record { answer = a; text = o } ≡ write_listing m c out) where
  answered : (write_listing m c out).answer ≡ a
  answered = ap (λ (w : WritingOutcome). w.answer) (sym e)

  texted : (write_listing m c out).text ≡ o
  texted = ap (λ (w : WritingOutcome). w.text) (sym e)

  left_by : Left (write_listing m c out).answer (listing_of m c) out (write_listing m c out).text
  unfolding write_listing
  left_by = left-written (passes_audit m c) (within_ceilings c) (leb (length (listing_of m c)) (length out)) (listing_of m c) out

  left : {b : Result ℕ WritingRefusal} → a ≡ b → Left b (listing_of m c) out o
  left h = let k = left_by in rw (answered ∙ h, texted) at k

  pub is-listed : {n : ℕ} → a ≡ Ok n → Written out 0 (listed m c out) n o
  unfolding listed
  is-listed {n} h =
      let (k, s) = left h in
      let w : Written out 0 (listing_of m c) n o = record { place = k ∙ sym (zero-add (length (listing_of m c))); list = s } in
      rw (answered ∙ h) w

  module _ {r : ℕ} {o' : List ℕ} where
    pub is-not-closed : a ≡ Err WritingRefusal.NotClosed → Written o 0 (refused_line 30) r o'
        → Written out 0 (listed m c out) r o'
    unfolding listed
    is-not-closed h w = let k = left h in rw (answered ∙ h) (rw k at w)

    pub is-over : a ≡ Err WritingRefusal.OverCeilings → Written o 0 (refused_line 2) r o'
        → Written out 0 (listed m c out) r o'
    unfolding listed
    is-over h w = let k = left h in rw (answered ∙ h) (rw k at w)

    pub is-too-short : a ≡ Err WritingRefusal.TooShort → Written o 0 (refused_line 4) r o'
        → Written out 0 (listed m c out) r o'
    unfolding listed
    is-too-short h w = let k = left h in rw (answered ∙ h) (rw k at w)

module _ (m : Mesh) (out : List ℕ) {a : Result Counts StepRefusal} {r : ℕ} {o : List ℕ} where
  pub handed : {c : Counts} → a ≡ Ok c → Written out 0 (listed m c out) r o
      → Written out 0 (stepped_bytes a m out) r o
  unfolding stepped_bytes
  handed h w = rw h w

  pub handed-refused : {g : StepRefusal} → a ≡ Err g → Written out 0 (refused_line (refusal_number g)) r o → Written out 0 (stepped_bytes a m out) r o
  unfolding stepped_bytes
  handed-refused h w = rw h w
