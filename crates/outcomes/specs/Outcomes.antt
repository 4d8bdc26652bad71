-- Demand 1: every lists, every text and every tables become a closed mesh or meet the first ground, with what is left in every row; a
-- refinement is made whole or leaves the mesh as found. It is a single claim, `Demand1`.
--     BuiltMesh l m t k      the tables t, lent as m, hold the closed mesh with the counts k that the documents make of the lists l
--     ListsCome c l m o      building from the lists l in the tables m, within the limits c, comes to the outcome o
--     TextFirst b s m a      the answer a names the first ground that is met, of the text s in the tables m within the limits b
--     TextFirstGround       the claim: a text is refused by a ground exactly if it is the first that is met
--     TextComes b s m o      building from the text s comes to the outcome o
--     StepComes ed m c order t o     the step of the edition ed of the tables m with the counts c, in this order and by scratch t, comes to
--                             the outcome o
--     Demand1                 the claim
use Rattle.std.specs.Prelude.{◌≡◌, true, false, List, [], ◌∷◌, ◌↔◌, ℕ, ◌<◌, ◌≤◌, length, Result, Ok, Err}
use Rattle.std.proofs.Math.Option.{some}
use Rattle.tables.specs.Mesh.{Mesh, none}
use Rattle.tables.specs.Counted.{first_rows, over_rows, zeroed_rows}
use Rattle.tables.specs.declared.Counts.{Counts}
use Rattle.tables.specs.declared.Sizes.{Sizes}
use Rattle.audited_meshes.specs.Rows.{HoldsClosed}
use Rattle.audited_meshes.specs.Claims.{AuditIsClosed}
use Rattle.built_meshes.specs.Lists.{Lists, rows_of}
use Rattle.built_meshes.specs.Answers.{ground_number}
use Rattle.built_meshes.specs.Beyond.{Within}
use Rattle.built_meshes.specs.Builds.{Builds}
use Rattle.built_meshes.specs.Building.{BuildOutcome, build}
use Rattle.built_meshes.specs.Grounds.{Where, FirstMet, Holds}
use Rattle.built_meshes.specs.Claims.{AuditedCounts}
use Rattle.built_meshes.specs.Claims as built
use Rattle.built_meshes.specs.declared.Ground.{Ground}
use Rattle.built_meshes.specs.declared.Ground.TheVariants.{OverCounts}
use Rattle.building_tests.specs.Lent.{limits_of}
use Rattle.building_tests.specs.declared.Bounds.{Bounds}
use Rattle.text_numbers.specs.Form.{unparsed}
use Rattle.mesh_text.specs.Text.{TextMesh, text}
use Rattle.text_meshes.specs.TextBuilding.{is_too_long, lists_of, text_numbers, TextOutcome, build_text}
use Rattle.text_meshes.specs.Claims.{StandsFor}
use Rattle.text_meshes.specs.declared.TextRefusal.{TextRefusal}
use Rattle.text_meshes.specs.declared.TextRefusal.TheVariants as TextRefusal
use Rattle.refined_meshes.specs.declared.Edition.{Edition}
use Rattle.steps.specs.Step.{step_ground, refined_counts, whole, made, StepOutcome, step}
use Rattle.steps.specs.OneStep.{Refinement, Binary64}
use Rattle.steps.specs.FirstGround.{Due}
use Rattle.steps.specs.FirstGround as stepping
use Rattle.steps.specs.declared.StepRefusal.{StepRefusal}
use Rattle.steps.specs.declared.StepRefusal.TheVariants.{NotFinite}

-- ---- lists

pub record BuiltMesh (l : Lists) (m t : Mesh) (k : Counts) : Type 0 where
  pub closed : HoldsClosed t k.points k.edges k.faces
  -- It is what the documents make of the lists.
  pub builds : Builds l t k.edges
  -- It has all points and faces and half as many edges as points listed; the edge rows that ground 4 counts beyond the last are zero.
  pub counted : AuditedCounts l t k
  -- All further rows are untouched.
  pub beyond : Within l m t

pub data ListsCome (c : Sizes) (l : Lists) (m : Mesh) : BuildOutcome → Type 0 where
  lists-built :
      (k : Counts) (t : Mesh) → BuiltMesh l m t k → ((g : Ground) → ¬ Holds c l m g) →
      ListsCome c l m (record { answer = Ok k; tables = t })
  -- 2, 3 and 4 leave the tables as they are
  lists-untouched :
      (w : Where) (g : Ground) → FirstMet c l m w g → ground_number g < 10 → ListsCome c l m (record { answer = Err g; tables = m })
  -- all later grounds leave the rows zeroed that ground 4 counts, and all further rows as they are
  lists-zeroed :
      (w : Where) (g : Ground) → FirstMet c l m w g → 10 ≤ ground_number g →
      ListsCome c l m (record { answer = Err g; tables = zeroed_rows (rows_of l) m })

-- ---- texts

pub data TextFirst (b : Bounds) (s : List ℕ) (m : Mesh) : Result Counts TextRefusal → Type 0 where
  -- 2, before all else: more bytes than `refine` takes
  many-bytes : is_too_long b (length s) ≡ true → TextFirst b s m (Err (TextRefusal.Refused OverCounts))
  -- 1: not of the form
  formless : is_too_long b (length s) ≡ false → text s ≡ unparsed → TextFirst b s m (Err TextRefusal.NotText)
  -- 2, 3, 4, 10 to 22 and 43: the first ground that its lists meet
  of-lists :
      (t : TextMesh) → StandsFor b s t → (w : Where) (g : Ground) → FirstMet (limits_of b) (lists_of t) m w g →
      TextFirst b s m (Err (TextRefusal.Refused g))

abbrev pub TextFirstGround : Type 0
TextFirstGround =
    (b : Bounds) (s : List ℕ) (m : Mesh) →
    (((build_text b s m).answer ≡ Err TextRefusal.NotText) ↔ TextFirst b s m (Err TextRefusal.NotText))
    × ((g : Ground) → ((build_text b s m).answer ≡ Err (TextRefusal.Refused g)) ↔ TextFirst b s m (Err (TextRefusal.Refused g)))

pub data TextComes (b : Bounds) (s : List ℕ) (m : Mesh) : TextOutcome → Type 0 where
  text-built :
      (t : TextMesh) → StandsFor b s t → (k : Counts) (m' : Mesh) → BuiltMesh (lists_of t) m m' k →
      ((g : Ground) → ¬ Holds (limits_of b) (lists_of t) m g) → TextComes b s m (record { answer = Ok k; tables = m' })
  -- 1, 2, 3 and 4
  text-untouched :
      (a : Result Counts TextRefusal) (n : ℕ) → TextFirst b s m a → text_numbers a ≡ n ∷ [] → n < 10 → TextComes b s m (record { answer = a; tables = m })
  -- 10 to 22 and 43
  text-zeroed :
      (t : TextMesh) → StandsFor b s t → (w : Where) (g : Ground) → FirstMet (limits_of b) (lists_of t) m w g → 10 ≤ ground_number g →
      TextComes b s m (record { answer = Err (TextRefusal.Refused g); tables = zeroed_rows (rows_of (lists_of t)) m })

-- ---- tables and their refinement

pub data StepComes (ed : Edition) (m : Mesh) (c : Counts) (order : List ℕ) (t : Mesh) : StepOutcome → Type 0 where
  -- Made whole: the refined mesh n stands in the first rows, all further rows are as found, and scratch is zeroed.
  step-refined :
      (n : Mesh) (h : HoldsClosed m c.points c.edges c.faces) →
      Due ed m c order t (Ok (refined_counts c)) →
      made ed (first_rows c m) c order (first_rows (refined_counts c) t) ≡ whole n →
      Refinement ed (first_rows c m) c h.mesh h.closed order (over_rows (refined_counts c) n m) →
      StepComes ed m c order t
      (record {
        answer = Ok (refined_counts c);
        tables = over_rows (refined_counts c) n m;
        scratch = zeroed_rows (refined_counts c) t;
      })
  -- 30, 31 and 32 leave the mesh and scratch as found
  step-untouched :
      (a : Result Counts StepRefusal) (g : ℕ) → step_ground a ≡ some g → g < 33 → Due ed m c order t a →
      StepComes ed m c order t (record { answer = a; tables = m; scratch = t })
  -- 33 leaves the mesh as found, and scratch zeroed
  step-not-finite :
      Due ed m c order t (Err NotFinite) → StepComes ed m c order t (record { answer = Err NotFinite; tables = m; scratch = zeroed_rows (refined_counts c) t })

-- ---- the claim

-- Limits are those of document 01 or others below the none mark. The premise of `steps` is met by all numbers that lent tables hold.
pub record Demand1 : Type 0 where
  pub lists : (c : Sizes) (l : Lists) (m : Mesh) → c.faces ≤ none → ListsCome c l m (build c l m)
  pub lists-first : built.FirstGround
  pub texts : (b : Bounds) (s : List ℕ) (m : Mesh) → TextComes b s m (build_text b s m)
  pub texts-first : TextFirstGround
  -- Tables of any content are a closed mesh exactly if they pass the audit.
  pub tables : AuditIsClosed
  pub steps :
      (ed : Edition) (m : Mesh) (c : Counts) (order : List ℕ) (t : Mesh) → Binary64 c m → StepComes ed m c order t (step ed m c order t)
  pub steps_first : stepping.FirstGround
