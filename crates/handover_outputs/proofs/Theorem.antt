-- The claims of the output. Assumes nothing.
--     long-text, fits        the claims of `specs/Claims.antt`
--     answer-fits            no more bytes are answered than are lent
use Rattle.std.specs.Prelude.{Result, Ok, Err}
use mathlib.Core.Path.{◌≡◌, refl, sym, ap}
use mathlib.Core.Bool.{Bool, true, false}
use mathlib.Core.List.{List}
use Prim.Native.Nat.{ℕ, ◌≤◌}
use native.Mathlib.Omega.{arith}
use lib.Dec.{leb}
use lib.ListN.{length}
use lib.Seq.{length-sets}
use borrow.Author.Tests.{lt-ltb, leb-true}
use Rattle.tables.specs.Mesh.{Mesh}
use Rattle.mesh_answers.proofs.Laws.{length-refused}
use Rattle.built_meshes.specs.Answers.{ground_number}
use Rattle.building_tests.specs.declared.Bounds.TheVariants.{Refine}
use Rattle.text_meshes.specs.TextBuilding.{build_text}
use Rattle.text_meshes.specs.declared.TextRefusal.{TextRefusal}
use Rattle.text_meshes.specs.declared.TextRefusal.TheVariants.{NotText, Refused}
use Rattle.tables.specs.declared.Counts.{Counts}
use Rattle.steps.specs.Step.{within_ceilings}
use Rattle.steps.specs.declared.StepRefusal.{StepRefusal}
use Rattle.steps.specs.Step.{refusal_number}
use Rattle.listings.specs.Handing.{listing_of, passes_audit, written, write_listing}
use Rattle.refine_outputs.specs.Output.{zero_tables, numbered_step, OutputWritten}
use Rattle.handover_outputs.specs.Output.{listed_bytes, listed, stepped_bytes, built_bytes, handover_from, handover_output, writing_if, handover}
use Rattle.handover_outputs.specs.Claims.{LongText, OutputFits}

pub long-text : LongText
unfolding handover_output handover_from build_text built_bytes
long-text s out h = rw (lt-ltb 16384 (length s) h)

length-listed : (closed within fits : Bool) (l out : List ℕ) → leb (length l) (length out) ≡ fits → 256 ≤ length out
    → length (listed_bytes (written closed within fits l out).answer l) ≤ length out
length-listed false within fits l out e h = let k = length-refused 30 in omega arith
length-listed true false fits l out e h = let k = length-refused 2 in omega arith
length-listed true true false l out e h = let k = length-refused 4 in omega arith
length-listed true true true l out e h = leb-true (length l) (length out) e

length-stepped : (a : Result Counts StepRefusal) (m : Mesh) (out : List ℕ) → 256 ≤ length out → length (stepped_bytes a m out) ≤ length out
unfolding stepped_bytes listed write_listing
length-stepped (Ok c) m out h =
    length-listed (passes_audit m c) (within_ceilings c) (leb (length (listing_of m c)) (length out)) (listing_of m c) out refl h
length-stepped (Err g) m out h = let k = length-refused (refusal_number g) in omega arith

length-built : (a : Result Counts TextRefusal) (m : Mesh) (out : List ℕ) → 256 ≤ length out → length (built_bytes a m out) ≤ length out
unfolding built_bytes
length-built (Ok c) m out h = length-stepped (numbered_step c m).answer (numbered_step c m).tables out h
length-built (Err NotText) m out h = let k = length-refused 1 in omega arith
length-built (Err (Refused g)) m out h = let k = length-refused (ground_number g) in omega arith

pub fits : OutputFits
unfolding handover handover_output handover_from
fits s out = go (leb 256 (length out)) refl
  where
    go : (b : Bool) → leb 256 (length out) ≡ b
        → (writing_if b (handover_output s out) out).count ≤ length (writing_if b (handover_output s out) out).out
    go true e =
        let h = leb-true 256 (length out) e in
        let k = length-built (build_text Refine s zero_tables).answer (build_text Refine s zero_tables).tables out h in
        let l = length-sets out 0 (handover_output s out) in
        omega arith
    go false e = omega arith

-- the same of what the function answers and leaves
pub answer-fits : (s out : List ℕ) {r : ℕ} {out' : List ℕ} → record { count = r; out = out' } ≡ handover s out → r ≤ length out'
answer-fits s out e = rw (ap (λ (w : OutputWritten). w.count) e, ap (λ (w : OutputWritten). w.out) e) (fits s out)
