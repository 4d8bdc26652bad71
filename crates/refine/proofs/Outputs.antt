-- The output as its parts are written. Assumes nothing.
use Rattle.std.specs.Prelude.{Result, Ok, Err}
use mathlib.Core.Path.{◌≡◌, refl, sym, ap, ◌∙◌}
use mathlib.Core.List.{List, ◌++◌}
use Prim.Native.Nat.{ℕ, ◌+◌, ◌≤◌}
use native.Mathlib.Nat.{zero-add}
use native.Mathlib.Omega.{arith}
use lib.ListN.{length, replicate}
use lib.Ieee.{of_bits, binary64}
use Rattle.tables.specs.Mesh.{Mesh, mesh_of}
use Rattle.tables.specs.declared.Counts.{Counts}
use Rattle.built_meshes.specs.Answers.{ground_number}
use Rattle.built_meshes.specs.declared.Ground.{Ground}
use Rattle.building_tests.specs.declared.Bounds.TheVariants.{Refine}
use Rattle.text_meshes.specs.TextBuilding.{TextOutcome, build_text}
use Rattle.text_meshes.specs.declared.TextRefusal.{TextRefusal}
use Rattle.text_meshes.specs.declared.TextRefusal.TheVariants.{NotText, Refused}
use Rattle.text_meshes.proofs.Theorem.{accepted-within}
use Rattle.steps.specs.declared.StepRefusal.{StepRefusal}
use Rattle.runs.specs.Runs.{numbered}
use Rattle.text_numbers.specs.Form.{bytes}
use Rattle.mesh_answers.specs.Lines.{mesh_line, refused_line}
use Rattle.mesh_answers.specs.Writing.{Written}
use Rattle.mesh_answers.proofs.Laws.{written-append, length-counts}
use Rattle.refine_outputs.specs.Output.{zero_tables, step_lines, lines_of, numbered_step, output_if, output_from, output, refine}
use Rattle.refine_outputs.specs.FirstPoint.{PointReady}
use Rattle.refine_outputs.proofs.FirstPoint.{point-ready}
use Rattle.numbered_steps.specs.Parts.{SteppedTo}

-- ---- the step

module _ (c : Counts) (m : Mesh) {a : Result Counts StepRefusal} {m' : Mesh} (h : SteppedTo a m' (numbered_step c m)) where
  pub ready : PointReady c a m'.positions
  unfolding numbered_step
  ready = rw (h.answer, h.tables) (point-ready m c (numbered c.faces) zero_tables)

  -- the line of the counts, then those of the step
  pub written_both : {out : List ℕ} {i j : ℕ} {o1 o2 : List ℕ} → Written out 0 (mesh_line c.points c.edges c.faces) i o1
      → Written o1 i (step_lines c a m'.positions) j o2
      → Written out 0 (mesh_line c.points c.edges c.faces ++ lines_of c (numbered_step c m)) j o2
  written_both w x =
      let e : step_lines c a m'.positions ≡ lines_of c (numbered_step c m) =
      ap (λ (b : Result Counts StepRefusal). step_lines c b m'.positions) h.answer ∙ ap (λ (u : Mesh). step_lines c (numbered_step c m).answer u.positions) h.tables in
      written-append w (rw e at x)

pub step_room : (c : Counts) {out : List ℕ} {i : ℕ} {o1 : List ℕ} → Written out 0 (mesh_line c.points c.edges c.faces) i o1
    → 256 ≤ length out → length o1 ≡ length out → i + 128 ≤ length o1
step_room c w h l =
    let p = w.place in
    let k = length-counts (bytes "[mesh") c.points c.edges c.faces refl in
    omega arith

-- ---- the text

module _ (s : List ℕ) (m : Mesh) {a : Result Counts TextRefusal} {m' : Mesh} (e : record { answer = a; tables = m' } ≡ build_text Refine s m) where
  answered : (build_text Refine s m).answer ≡ a
  answered = ap (λ (o : TextOutcome). o.answer) (sym e)

  left : (build_text Refine s m).tables ≡ m'
  left = ap (λ (o : TextOutcome). o.tables) (sym e)

  pub few : {c : Counts} → a ≡ Ok c → c.faces ≤ 64
  few {c} h = (accepted-within Refine s m c (answered ∙ h)).few-faces

  output-is : output_if a m' ≡ output_from s m
  unfolding output_from
  output-is = rw (answered, left)

  module _ {out : List ℕ} {r : ℕ} {out' : List ℕ} where
    pub written-built : {c : Counts} → a ≡ Ok c → Written out 0 (mesh_line c.points c.edges c.faces ++ lines_of c (numbered_step c m')) r out'
        → Written out 0 (output_from s m) r out'
    unfolding output_if
    written-built h w = rw (sym output-is, h) w

    pub written-not-text : a ≡ Err NotText → Written out 0 (refused_line 1) r out' → Written out 0 (output_from s m) r out'
    unfolding output_if
    written-not-text h w = rw (sym output-is, h) w

    pub written-refused : {g : Ground} {n : ℕ} → a ≡ Err (Refused g) → n ≡ ground_number g → Written out 0 (refused_line n) r out' → Written out 0 (output_from s m) r out'
    unfolding output_if
    written-refused h e w = rw (sym output-is, h) (rw e at w)

-- ---- the whole

module _ (s out : List ℕ) where
  written-output : {r : ℕ} {out' : List ℕ} → Written out 0 (output s) r out' → record { count = r; out = out' } ≡ refine s out
  unfolding refine
  written-output w = rw (w.place, w.list, zero-add (length (output s)))

  pub written-by-zeros : {r : ℕ} {out' : List ℕ}
      → Written out 0
      (output_from s (mesh_of (replicate 768 (of_bits binary64 0)) (replicate 768 0) (replicate 4096 0) (replicate 512 (of_bits binary64 0)) (replicate 1280 0))) r out'
      → record { count = r; out = out' } ≡ refine s out
  unfolding output zero_tables
  written-by-zeros w = written-output w
