-- The output as its parts are written. Assumes nothing.
use Rattle.std.specs.Prelude.{Result, Ok, Err}
use mathlib.Core.Path.{◌≡◌, sym, ap, ◌∙◌}
use mathlib.Core.List.{List}
use Prim.Native.Nat.{ℕ, ◌≤◌, ◌<◌}
use native.Mathlib.Nat.{zero-add}
use lib.ListN.{length, replicate}
use lib.Ieee.{of_bits, binary64}
use borrow.Author.Tests.{le-leb, lt-leb}
use Rattle.tables.specs.Mesh.{Mesh, mesh_of}
use Rattle.tables.specs.declared.Counts.{Counts}
use Rattle.built_meshes.specs.Answers.{ground_number}
use Rattle.built_meshes.specs.declared.Ground.{Ground}
use Rattle.building_tests.specs.declared.Bounds.TheVariants.{Refine}
use Rattle.text_meshes.specs.TextBuilding.{TextOutcome, build_text}
use Rattle.text_meshes.specs.declared.TextRefusal.{TextRefusal}
use Rattle.text_meshes.specs.declared.TextRefusal.TheVariants.{NotText, Refused}
use Rattle.text_meshes.proofs.Theorem.{accepted-within}
use Rattle.steps.specs.declared.StepRefusal.{StepRefusal}
use Rattle.mesh_answers.specs.Lines.{refused_line}
use Rattle.mesh_answers.specs.Writing.{Written}
use Rattle.refine_outputs.specs.Output.{zero_tables, numbered_step}
use Rattle.numbered_steps.specs.Parts.{SteppedTo}
use Rattle.handover_outputs.specs.Output.{stepped_bytes, refined_bytes, built_bytes, handover_from, handover_output, handover}

-- after the step
pub written-stepped : (c : Counts) (m : Mesh) {a : Result Counts StepRefusal} {m' : Mesh} {out : List ℕ} {r : ℕ} {o : List ℕ} → SteppedTo a m' (numbered_step c m)
    → Written out 0 (stepped_bytes a m' out) r o → Written out 0 (refined_bytes (numbered_step c m) out) r o
written-stepped c m h w = rw (sym h.answer, sym h.tables) w

-- ---- the text

module _ (s : List ℕ) (m : Mesh) {a : Result Counts TextRefusal} {m' : Mesh} (e : record { answer = a; tables = m' } ≡ build_text Refine s m) where
  answered : (build_text Refine s m).answer ≡ a
  answered = ap (λ (o : TextOutcome). o.answer) (sym e)

  left : (build_text Refine s m).tables ≡ m'
  left = ap (λ (o : TextOutcome). o.tables) (sym e)

  pub few : {c : Counts} → a ≡ Ok c → c.faces ≤ 64
  few {c} h = (accepted-within Refine s m c (answered ∙ h)).few-faces

  bytes-are : (out : List ℕ) → handover_from s m out ≡ built_bytes a m' out
  unfolding handover_from
  bytes-are out = rw (answered, left)

  module _ {out : List ℕ} {r : ℕ} {out' : List ℕ} where
    pub written-built : {c : Counts} → a ≡ Ok c → Written out 0 (refined_bytes (numbered_step c m') out) r out'
        → Written out 0 (handover_from s m out) r out'
    unfolding built_bytes
    written-built h w = rw (bytes-are out, h) w

    pub written-not-text : a ≡ Err NotText → Written out 0 (refused_line 1) r out' → Written out 0 (handover_from s m out) r out'
    unfolding built_bytes
    written-not-text h w = rw (bytes-are out, h) w

    pub written-refused : {g : Ground} {n : ℕ} → a ≡ Err (Refused g) → n ≡ ground_number g → Written out 0 (refused_line n) r out'
        → Written out 0 (handover_from s m out) r out'
    unfolding built_bytes
    written-refused h q w = rw (bytes-are out, h) (rw q at w)

-- ---- the whole

module _ (s out : List ℕ) where
  pub no_room : length out < 256 → record { count = 0; out = out } ≡ handover s out
  unfolding handover
  no_room h = rw (lt-leb 256 (length out) h)

  written-output : {r : ℕ} {out' : List ℕ} → 256 ≤ length out → Written out 0 (handover_output s out) r out'
      → record { count = r; out = out' } ≡ handover s out
  unfolding handover
  written-output h w = rw (le-leb 256 (length out) h, w.place, w.list, zero-add (length (handover_output s out)))

  pub written-by-zeros : {r : ℕ} {out' : List ℕ} → 256 ≤ length out
      → Written out 0
      (handover_from s (mesh_of (replicate 768 (of_bits binary64 0)) (replicate 768 0) (replicate 4096 0) (replicate 512 (of_bits binary64 0)) (replicate 1280 0)) out)
      r out'
      → record { count = r; out = out' } ≡ handover s out
  unfolding handover_output zero_tables
  written-by-zeros h w = written-output h w
