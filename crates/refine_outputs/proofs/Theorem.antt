-- The claims of the output. Assumes nothing.
--     long-text, two-answers, fits     the claims of `specs/Claims.antt`
--     answer-fits                      no more bytes are answered than the output that is left has
use Rattle.std.specs.Prelude.{Result, Ok, Err}
use mathlib.Core.Path.{◌≡◌, refl, sym, ap, ◌∙◌}
use mathlib.Core.Bool.{true}
use mathlib.Core.List.{List}
use mathlib.Core.Logic.{◌⊎◌, inl, inr}
use Prim.Native.Nat.{ℕ, zero, suc, ◌≤◌}
use native.Mathlib.Omega.{arith}
use lib.Ieee.{Float, of_bits, to_bits, binary64}
use lib.ListN.{length, length-append, length-replicate}
use lib.Seq.{length-sets}
use borrow.Author.Tests.{lt-ltb}
use Rattle.tables.specs.Mesh.{Mesh, point_rows, edge_rows, face_rows}
use Rattle.tables.specs.Records.{position_at}
use Rattle.tables.specs.declared.Counts.{Counts}
use Rattle.audited_meshes.proofs.Tests.{and_is, leb-is, self-is}
use Rattle.text_numbers.specs.Form.{bytes}
use Rattle.mesh_answers.specs.Lines.{mesh_line, step_line}
use Rattle.mesh_answers.proofs.Laws.{length-counts, length_at, length-refused}
use Rattle.built_meshes.specs.Answers.{ground_number}
use Rattle.building_tests.specs.declared.Bounds.TheVariants.{Refine}
use Rattle.text_meshes.specs.TextBuilding.{build_text}
use Rattle.text_meshes.specs.Within.{AsLong, WithinLimits}
use Rattle.text_meshes.specs.declared.TextRefusal.{TextRefusal}
use Rattle.text_meshes.specs.declared.TextRefusal.TheVariants.{NotText, Refused}
use Rattle.text_meshes.proofs.Theorem.{accepted-within}
use Rattle.refined_meshes.specs.declared.Edition.TheVariants.{First}
use Rattle.steps.specs.Step.{refusal_number, refined_counts, within_ceilings, room_for, Made, whole, not_finite_made, made, ended, step_by}
use Rattle.tables.specs.Counted.{rows_for, first_rows}
use Rattle.steps.specs.declared.StepRefusal.{StepRefusal}
use Rattle.steps.specs.declared.StepRefusal.TheVariants.{NotClosed, NotEachFaceOnce, NoRoom, NotFinite}
use Rattle.steps.proofs.Grounds.{step_is}
use Rattle.runs.specs.Runs.{numbered}
use Rattle.refine_outputs.specs.Output.{zero_tables, point_lines, step_lines, lines_of, numbered_step, output_if, output, OutputWritten, refine}
use Rattle.refine_outputs.specs.Claims.{TwoAnswers}
use Rattle.refine_outputs.specs.Bytes.{LongText, OutputFits}
use Rattle.refine_outputs.proofs.Orders.{numbered-once}

pub long-text : LongText
unfolding output build_text output_if
long-text s h = rw (lt-ltb 16384 (length s) h)

-- ---- the tables have room for the mesh after the step

long-lent : (t : Mesh) → AsLong zero_tables t → (256 ≤ point_rows t) × (512 ≤ edge_rows t) × (256 ≤ face_rows t)
unfolding zero_tables
long-lent t h =
    let z = of_bits binary64 0 in
    let lp = h.positions ∙ length-replicate 768 z in
    let lq = h.points ∙ length-replicate {A = ℕ} 768 0 in
    let le = h.edges ∙ length-replicate {A = ℕ} 4096 0 in
    let li = h.intervals ∙ length-replicate 512 z in
    let lf = h.faces ∙ length-replicate {A = ℕ} 1280 0 in
    (omega arith, omega arith, omega arith)

rows-there : (c : Counts) (t : Mesh) → c.points ≤ 256 → c.edges ≤ 512 → c.faces ≤ 256 → AsLong zero_tables t → rows_for c t ≡ true
unfolding rows_for
rows-there c t hp he hf h =
    let (kp, ke, kf) = long-lent t h in
    (and_is (and_is (leb-is c.points (point_rows t)) (leb-is c.edges (edge_rows t))) (leb-is c.faces (face_rows t))).1
    ((omega arith, omega arith), omega arith)

room-there : (c : Counts) (m : Mesh) → c.points ≤ 256 → c.edges ≤ 512 → c.faces ≤ 256 → AsLong zero_tables m → room_for c m zero_tables ≡ true
unfolding room_for within_ceilings
room-there c m hp he hf h =
    let all : AsLong zero_tables zero_tables = record { positions = refl; points = refl; edges = refl; intervals = refl; faces = refl } in
    (and_is (and_is (self-is (rows_for c m)) (self-is (rows_for c zero_tables)))
    (and_is (and_is (leb-is c.points 65536) (leb-is c.edges 131072)) (leb-is c.faces 65536))).1
    ((rows-there c m hp he hf h, rows-there c zero_tables hp he hf all), ((omega arith, omega arith), omega arith))

ended-answer : (m : Mesh) (c : Counts) (t : Mesh) (n : Made) → ((ended m c t n).answer ≡ Ok c) ⊎ ((ended m c t n).answer ≡ Err NotFinite)
unfolding ended
ended-answer m c t (whole n) = inl refl
ended-answer m c t not_finite_made = inr refl

step-answer : (m : Mesh) (c : Counts) → WithinLimits Refine zero_tables m c
    → ((numbered_step c m).answer ≡ Ok (refined_counts c)) ⊎ ((numbered_step c m).answer ≡ Err NotFinite)
unfolding numbered_step step_by
step-answer m c w =
    let hp = w.few-points in
    let he = w.few-edges in
    let hf = w.few-faces in
    let room = room-there (refined_counts c) m (omega arith) (omega arith) (omega arith) w.as_long in
    rw (step_is First m c (numbered c.faces) zero_tables w.passes (numbered-once c.faces) room)
    (ended-answer m (refined_counts c) zero_tables (made First (first_rows c m) c (numbered c.faces) (first_rows (refined_counts c) zero_tables)))

pub two-answers : TwoAnswers
two-answers s c a h =
    rw (sym h.stepped) (step-answer (build_text Refine s zero_tables).tables c (accepted-within Refine s zero_tables c h.built))

-- ---- 256 bytes hold every output

length-point : (n : ℕ) (ps : List Float) → length (point_lines n ps) ≤ 58
length-point zero ps = omega arith
length-point (suc n) ps =
    let p = position_at ps 0 in
    let h = length_at (to_bits binary64 p.x) (to_bits binary64 p.y) (to_bits binary64 p.z) in
    omega arith

length-step : (c : Counts) (a : Result Counts StepRefusal) (ps : List Float) → length (step_lines c a ps) ≤ 128
length-step c (Ok c') ps =
    let a = length-append (step_line c'.points c'.edges c'.faces) (point_lines c.points ps) in
    let h = length-counts (bytes "[step") c'.points c'.edges c'.faces refl in
    let k = length-point c.points ps in
    omega arith
length-step c (Err g) ps = let h = length-refused (refusal_number g) in omega arith

length-output : (a : Result Counts TextRefusal) (m : Mesh) → length (output_if a m) ≤ 256
unfolding output_if
length-output (Ok c) m =
    let a = length-append (mesh_line c.points c.edges c.faces) (lines_of c (numbered_step c m)) in
    let h = length-counts (bytes "[mesh") c.points c.edges c.faces refl in
    let k = length-step c (numbered_step c m).answer (numbered_step c m).tables.positions in
    omega arith
length-output (Err NotText) m = let h = length-refused 1 in omega arith
length-output (Err (Refused g)) m = let h = length-refused (ground_number g) in omega arith

pub fits : OutputFits
unfolding output
fits s = length-output (build_text Refine s zero_tables).answer (build_text Refine s zero_tables).tables

-- the same of what the function answers and leaves
pub answer-fits : (s out : List ℕ) {r : ℕ} {out' : List ℕ} → 256 ≤ length out → record { count = r; out = out' } ≡ refine s out → r ≤ length out'
unfolding refine
answer-fits s out h e =
    let k = fits s in
    let l = length-sets out 0 (output s) in
    rw (ap (λ (w : OutputWritten). w.count) e, ap (λ (w : OutputWritten). w.out) e) (omega arith)
