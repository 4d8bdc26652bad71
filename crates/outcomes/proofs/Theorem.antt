-- Demand 1 holds. Assumes nothing.
--     theorem      `Demand1`
use Rattle.std.specs.Prelude.{Result, Ok, Err}
use mathlib.Core.Path.{◌≡◌, refl, sym, ap, ap₂, ◌∙◌, subst}
use mathlib.Core.Bool.{Bool, true, false}
use mathlib.Core.List.{List, [], ◌∷◌}
use mathlib.Core.Option.{some}
use Prim.Native.Nat.{ℕ, ◌<◌, ◌≤◌}
use native.Mathlib.Decide.{dec_lt}
use native.Mathlib.Omega.{arith}
use lib.ListN.{length}
use Rattle.std.specs.Prelude.{Result, Ok, Err}
use Rattle.tables.specs.Mesh.{Mesh, none}
use Rattle.tables.specs.Counted.{first_rows, over_rows, zeroed_rows}
use Rattle.tables.specs.declared.Counts.{Counts}
use Rattle.tables.specs.declared.Sizes.{Sizes}
use Rattle.audited_meshes.specs.Audit.{audit}
use Rattle.audited_meshes.specs.Rows.{HoldsClosed}
use Rattle.audited_meshes.proofs.Holds.{audit-is-closed}
use Rattle.built_meshes.specs.Lists.{Lists, rows_of}
use Rattle.built_meshes.specs.Answers.{ground_number}
use Rattle.built_meshes.specs.Building.{BuildOutcome, build}
use Rattle.built_meshes.specs.Claims.{RefusedBy}
use Rattle.built_meshes.specs.Grounds.{Where, FirstMet}
use Rattle.built_meshes.specs.declared.Ground.{Ground}
use Rattle.built_meshes.specs.declared.Ground.TheVariants.{OverCounts}
use Rattle.built_meshes.proofs.Theorem.{first-ground, refusals-hold, accepts-exactly, accepted-audited, accepted-builds, untouched-beyond}
use Rattle.building_tests.specs.Lent.{limits_of}
use Rattle.building_tests.specs.declared.Bounds.{Bounds}
use Rattle.building_tests.specs.declared.Bounds.TheVariants.{General, Refine}
use Rattle.text_numbers.specs.Form.{Parsed, parsed, unparsed}
use Rattle.mesh_text.specs.Text.{TextMesh, text}
use Rattle.text_meshes.specs.TextBuilding.{is_too_long, lists_of, told, text_numbers, TextOutcome, told_outcome, of_form, build_text_if, build_text}
use Rattle.text_meshes.specs.Claims.{StandsFor}
use Rattle.text_meshes.proofs.Theorem.{few-faces, told-refused, not-text-exactly, of-lists as text-of-lists}
use Rattle.text_meshes.specs.declared.TextRefusal.{TextRefusal}
use Rattle.text_meshes.specs.declared.TextRefusal.TheVariants as TextRefusal
use Rattle.refined_meshes.specs.declared.Edition.{Edition}
use Rattle.steps.specs.Step.{step_ground, refined_counts, each_face_once, room_for, Made, whole, not_finite_made, made, ended, step_by, StepOutcome, step}
use Rattle.steps.specs.OneStep.{Binary64}
use Rattle.steps.specs.FirstGround.{Due}
use Rattle.steps.specs.declared.StepRefusal.{StepRefusal}
use Rattle.steps.specs.declared.StepRefusal.TheVariants.{NotClosed, NotEachFaceOnce, NoRoom, NotFinite}
use Rattle.steps.proofs.Grounds.{begun, step_is, step-made, taken, untouched as refusal-leaves}
use Rattle.steps.proofs.OneStep.{one-step}
use Rattle.steps.proofs.FirstGround.{first-ground as step-first-ground}
use Rattle.outcomes.specs.Outcomes.{BuiltMesh, ListsCome, lists-built, lists-untouched, lists-zeroed}
use Rattle.outcomes.specs.Outcomes.{TextFirst, many-bytes, formless, of-lists, TextFirstGround, TextComes, text-built, text-untouched, text-zeroed}
use Rattle.outcomes.specs.Outcomes.{StepComes, step-refined, step-untouched, step-not-finite, Demand1}

-- ---- lists

-- an outcome by its parts
build-outcome : (o : BuildOutcome) {a : Result Counts Ground} {t : Mesh} → o.answer ≡ a → o.tables ≡ t → record { answer = a; tables = t } ≡ o
build-outcome o ea et = ap₂ (λ (a : Result Counts Ground) (t : Mesh). record { answer = a; tables = t }) (sym ea) (sym et)

module _ (c : Sizes) (l : Lists) (m : Mesh) (few : c.faces ≤ none) where
  built-mesh : (k : Counts) → (build c l m).answer ≡ Ok k → BuiltMesh l m (build c l m).tables k
  built-mesh k a =
      let x = accepted-audited c l m few k a in
      record {
        closed = (audit-is-closed (build c l m).tables k.points k.edges k.faces).0 x.passes;
        builds = accepted-builds c l m few k a;
        counted = x;
        beyond = untouched-beyond c l m few;
      }

  lists-come : ListsCome c l m (build c l m)
  lists-come = go (build c l m).answer refl
    where
      refusal : (g : Ground) → (build c l m).answer ≡ Err g → (w : Where) → FirstMet c l m w g → RefusedBy c l m g
          → Dec (ground_number g < 10) → ListsCome c l m (build c l m)
      refusal g a w f r (yes h) = subst (ListsCome c l m) (build-outcome (build c l m) a (r.untouched h)) (lists-untouched w g f h)
      refusal g a w f r (no h) =
          let late : 10 ≤ ground_number g = omega arith in
          subst (ListsCome c l m) (build-outcome (build c l m) a (r.zeroed late)) (lists-zeroed w g f late)

      go : (a : Result Counts Ground) → (build c l m).answer ≡ a → ListsCome c l m (build c l m)
      go (Ok k) e =
          subst (ListsCome c l m) (build-outcome (build c l m) e refl)
          (lists-built k (build c l m).tables (built-mesh k e) ((accepts-exactly c l m few).0 (k, e)))
      go (Err g) e =
          let first = (first-ground c l m few g).0 e in
          refusal g e first.0 first.1 (refusals-hold c l m few g e) (dec_lt (ground_number g) 10)

-- ---- texts

module _ (b : Bounds) (s : List ℕ) (m : Mesh) where
  many_is : is_too_long b (length s) ≡ true → record { answer = Err (TextRefusal.Refused OverCounts); tables = m } ≡ build_text b s m
  unfolding build_text
  many_is e = rw e

  formless-is : is_too_long b (length s) ≡ false → text s ≡ unparsed → record { answer = Err TextRefusal.NotText; tables = m } ≡ build_text b s m
  unfolding build_text
  formless-is e f = rw (e, f)

  -- what becomes of its lists becomes of the text
  told-comes : (t : TextMesh) → StandsFor b s t → (o : BuildOutcome) → ListsCome (limits_of b) (lists_of t) m o → TextComes b s m (told_outcome o)
  told-comes t h o (lists-built k u x n) = text-built t h k u x n
  told-comes t h o (lists-untouched w g f l) = text-untouched (Err (TextRefusal.Refused g)) (ground_number g) (of-lists t h w g f) refl l
  told-comes t h o (lists-zeroed w g f l) = text-zeroed t h w g f l

  text-comes : TextComes b s m (build_text b s m)
  text-comes = bytes (is_too_long b (length s)) refl
    where
      form : is_too_long b (length s) ≡ false → (x : Parsed TextMesh) → text s ≡ x → TextComes b s m (build_text b s m)
      form e (parsed t n) f =
          let h : StandsFor b s t = record { short = e; place = n; form = f } in
          subst (TextComes b s m) (sym (text-of-lists b s m h))
          (told-comes t h (build (limits_of b) (lists_of t) m) (lists-come (limits_of b) (lists_of t) m (few-faces b)))
      form e unparsed f = subst (TextComes b s m) (formless-is e f) (text-untouched (Err TextRefusal.NotText) 1 (formless e f) refl (omega arith))

      bytes : (x : Bool) → is_too_long b (length s) ≡ x → TextComes b s m (build_text b s m)
      bytes true e = subst (TextComes b s m) (many_is e) (text-untouched (Err (TextRefusal.Refused OverCounts)) 2 (many-bytes e) refl (omega arith))
      bytes false e = form e (text s) refl

  first-not-text : (a : Result Counts TextRefusal) → TextFirst b s m a → a ≡ Err TextRefusal.NotText → (is_too_long b (length s) ≡ false) × (text s ≡ unparsed)
  first-not-text a (many-bytes h) e = let z : ◌≡◌ {A = ℕ} 0 1 = cc in absurd (omega arith)
  first-not-text a (formless h f) e = (h, f)
  first-not-text a (of-lists t h w g f) e = let z : ◌≡◌ {A = ℕ} 0 1 = cc in absurd (omega arith)

  first-refused : (a : Result Counts TextRefusal) → TextFirst b s m a → (g : Ground) → a ≡ Err (TextRefusal.Refused g) → (build_text b s m).answer ≡ Err (TextRefusal.Refused g)
  first-refused a (many-bytes h) g e = ap (λ (o : TextOutcome). o.answer) (sym (many_is h)) ∙ e
  first-refused a (formless h f) g e = let z : ◌≡◌ {A = ℕ} 0 1 = cc in absurd (omega arith)
  first-refused a (of-lists t h w g' f) g e =
      ap (λ (o : TextOutcome). o.answer) (text-of-lists b s m h)
      ∙ ap told ((first-ground (limits_of b) (lists_of t) m (few-faces b) g').1 (w, f)) ∙ e

  refused-first : (g : Ground) → (build_text b s m).answer ≡ Err (TextRefusal.Refused g) → TextFirst b s m (Err (TextRefusal.Refused g))
  refused-first g a = bytes (is_too_long b (length s)) refl
    where
      same : ◌≡◌ {A = Result Counts TextRefusal} (Err (TextRefusal.Refused OverCounts)) (Err (TextRefusal.Refused g)) → OverCounts ≡ g
      same q = cc

      never : ◌≡◌ {A = Result Counts TextRefusal} (Err TextRefusal.NotText) (Err (TextRefusal.Refused g)) → TextFirst b s m (Err (TextRefusal.Refused g))
      never q = let z : ◌≡◌ {A = ℕ} 0 1 = cc in absurd (omega arith)

      form : is_too_long b (length s) ≡ false → (x : Parsed TextMesh) → text s ≡ x → TextFirst b s m (Err (TextRefusal.Refused g))
      form e (parsed t n) f =
          let h : StandsFor b s t = record { short = e; place = n; form = f } in
          let q = ap (λ (o : TextOutcome). o.answer) (sym (text-of-lists b s m h)) ∙ a in
          let first = (first-ground (limits_of b) (lists_of t) m (few-faces b) g).0 (told-refused (build (limits_of b) (lists_of t) m).answer q) in
          of-lists t h first.0 g first.1
      form e unparsed f = never (ap (λ (o : TextOutcome). o.answer) (formless-is e f) ∙ a)

      bytes : (x : Bool) → is_too_long b (length s) ≡ x → TextFirst b s m (Err (TextRefusal.Refused g))
      bytes true e =
          subst (λ v. TextFirst b s m (Err (TextRefusal.Refused v))) (same (ap (λ (o : TextOutcome). o.answer) (many_is e) ∙ a)) (many-bytes e)
      bytes false e = form e (text s) refl

text-first-ground : TextFirstGround
text-first-ground b s m = (
  (
    λ a. let h = (not-text-exactly b s m).0 a in formless h.0 h.1,
    λ f. (not-text-exactly b s m).1 (first-not-text b s m (Err TextRefusal.NotText) f refl),
  ),
  λ g. (refused-first b s m g, λ f. first-refused b s m (Err (TextRefusal.Refused g)) f g refl),
)

-- ---- the step

step-outcome : (o : StepOutcome) {a : Result Counts StepRefusal} {m t : Mesh} → o.answer ≡ a → o.tables ≡ m → o.scratch ≡ t
    → record { answer = a; tables = m; scratch = t } ≡ o
step-outcome o {a} {m} {t} ea em et =
    ap₂ (λ (x : Result Counts StepRefusal) (y : Mesh). record { answer = x; tables = y; scratch = t }) (sym ea) (sym em)
    ∙ ap (λ (y : Mesh). record { answer = o.answer; tables = o.tables; scratch = y }) (sym et)

module _ (ed : Edition) (m : Mesh) (c : Counts) (order : List ℕ) (t : Mesh) where
  -- an accepted step leaves scratch zeroed
  scratch-zeroed : (c' : Counts) → (step ed m c order t).answer ≡ Ok c' → (step ed m c order t).scratch ≡ zeroed_rows (refined_counts c) t
  unfolding step_by ended
  scratch-zeroed c' e = go _ refl _ refl _ refl
    where
      go : (x : Bool) → audit m c.points c.edges c.faces ≡ x → (y : Bool) → each_face_once c.faces order ≡ y → (z : Bool)
          → room_for (refined_counts c) m t ≡ z → (step ed m c order t).scratch ≡ zeroed_rows (refined_counts c) t
      go false ha y hb z hc =
          let k : ◌≡◌ {A = Result Counts StepRefusal} (Err NotClosed) (Ok c') = ap (λ x. x.answer) (sym (step_is ed m c order t ha hb hc)) ∙ e in
          absurd (let w : ◌≡◌ {A = ℕ} 0 1 = cc in omega arith)
      go true ha false hb z hc =
          let k : ◌≡◌ {A = Result Counts StepRefusal} (Err NotEachFaceOnce) (Ok c') = ap (λ x. x.answer) (sym (step_is ed m c order t ha hb hc)) ∙ e in
          absurd (let w : ◌≡◌ {A = ℕ} 0 1 = cc in omega arith)
      go true ha true hb false hc =
          let k : ◌≡◌ {A = Result Counts StepRefusal} (Err NoRoom) (Ok c') = ap (λ x. x.answer) (sym (step_is ed m c order t ha hb hc)) ∙ e in
          absurd (let w : ◌≡◌ {A = ℕ} 0 1 = cc in omega arith)
      go true ha true hb true hc = made-whole (begun ed m c order t) refl
        where
          made-whole : (w : Made) → begun ed m c order t ≡ w → (step ed m c order t).scratch ≡ zeroed_rows (refined_counts c) t
          made-whole (whole n) hw = ap (λ x. x.scratch) (step-made ed m c order t ha hb hc (whole n) hw)
          made-whole not_finite_made hw = ap (λ x. x.scratch) (step-made ed m c order t ha hb hc not_finite_made hw)

  step-comes : Binary64 c m → StepComes ed m c order t (step ed m c order t)
  step-comes numbers = go (step ed m c order t).answer refl
    where
      refusal : (a : Result Counts StepRefusal) (g : ℕ) → step_ground a ≡ some g → g < 33 → (step ed m c order t).answer ≡ a → StepComes ed m c order t (step ed m c order t)
      refusal a g k l e =
          let r = refusal-leaves ed m c order t g (ap step_ground e ∙ k) in
          subst (StepComes ed m c order t) (step-outcome (step ed m c order t) e r.tables (r.scratch l))
          (step-untouched a g k l ((step-first-ground ed m c order t a).0 e))

      go : (a : Result Counts StepRefusal) → (step ed m c order t).answer ≡ a → StepComes ed m c order t (step ed m c order t)
      go (Ok c') e =
          let x = taken ed m c order t c' e in
          let h = (audit-is-closed m c.points c.edges c.faces).0 x.audited in
          let e' : (step ed m c order t).answer ≡ Ok (refined_counts c) = e ∙ ap Ok x.counts in
          let r = (one-step ed m c order t h numbers c' e).refinement in
          subst (StepComes ed m c order t) (step-outcome (step ed m c order t) e' x.tables (scratch-zeroed c' e))
          (step-refined x.mesh h ((step-first-ground ed m c order t (Ok (refined_counts c))).0 e') x.is_made (rw x.tables at r))
      go (Err NotClosed) e = refusal (Err NotClosed) 30 refl (omega arith) e
      go (Err NotEachFaceOnce) e = refusal (Err NotEachFaceOnce) 31 refl (omega arith) e
      go (Err NoRoom) e = refusal (Err NoRoom) 32 refl (omega arith) e
      go (Err NotFinite) e =
          let r = refusal-leaves ed m c order t 33 (ap step_ground e) in
          subst (StepComes ed m c order t) (step-outcome (step ed m c order t) e r.tables (r.zeroed refl))
          (step-not-finite ((step-first-ground ed m c order t (Err NotFinite)).0 e))

pub theorem : Demand1
theorem =
    record {
      lists = lists-come;
      lists-first = first-ground;
      texts = text-comes;
      texts-first = text-first-ground;
      tables = audit-is-closed;
      steps = step-comes;
      steps_first = step-first-ground;
    }
