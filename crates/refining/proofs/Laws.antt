-- The laws of a step: from its tests to the step. Assumes nothing.
--     passed     where the tests answer counts, none of the grounds 30, 31 and 32 holds
--     refused    a ground that holds is answered with everything untouched
use Rattle.std.specs.Prelude.{Result, Ok, Err}
use mathlib.Core.Path.{◌≡◌, refl, sym, ◌∙◌, ap, subst}
use mathlib.Core.Logic.{◌≢◌}
use mathlib.Core.Bool.{Bool, true, false}
use mathlib.Core.List.{List}
use Prim.Native.Nat.{ℕ}
use native.Mathlib.Omega.{arith}
use Rattle.tables.specs.Mesh.{Mesh}
use Rattle.tables.specs.Counted.{first_rows}
use Rattle.tables.specs.declared.Counts.{Counts}
use Rattle.audited_meshes.specs.Audit.{audit}
use Rattle.refined_meshes.specs.declared.Edition.{Edition}
use Rattle.steps.specs.declared.StepRefusal.TheVariants.{NotClosed, NotEachFaceOnce, NoRoom}
use Rattle.steps.specs.Step.{step_refusal, refined_counts, each_face_once, room_for, tested_if, tested, step_by, step}
use Rattle.steps.specs.declared.StepRefusal.{StepRefusal}
use Rattle.steps.proofs.Rows.{room-of-holds, holds-first_rows, room-first_rows, points-fit, edges_fit, faces-fit}
use Rattle.steps.proofs.Grounds.{each_face_once-is, rooms-of-test, step_is}
use Rattle.audited_meshes.proofs.Holds.{audit-is-closed}
use Rattle.step_parts.specs.Passed.{TestsPassed}

module _ (ed : Edition) (m : Mesh) (c : Counts) (order : List ℕ) (t : Mesh) where
  tested-is :
      {a o r : Bool} → audit m c.points c.edges c.faces ≡ a → each_face_once c.faces order ≡ o → room_for (refined_counts c) m t ≡ r →
      tested m c order t ≡ tested_if a o r (refined_counts c)
  tested-is ha ho hr = rw (ha, ho, hr)

  all-passed : audit m c.points c.edges c.faces ≡ true → each_face_once c.faces order ≡ true
      → room_for (refined_counts c) m t ≡ true → TestsPassed ed m c order t (refined_counts c)
  unfolding step_by
  all-passed ha ho hr =
      let h = (audit-is-closed m c.points c.edges c.faces).0 ha in
      let rooms = rooms-of-test (refined_counts c) m t hr in
      let r = room-first_rows (refined_counts c) t rooms.0.1 in
      record {
        rows = room-of-holds h;
        room = rooms.0.0;
        scratch = rooms.0.1;
        ready = record {
          closed = (audit-is-closed (first_rows c m) c.points c.edges c.faces).1 (holds-first_rows h);
          once = each_face_once-is c.faces order ho;
          points-room = points-fit r;
          edges_room = edges_fit r;
          faces-room = faces-fit r;
          ceilings = record { points = rooms.1.points; edges = rooms.1.edges; faces = rooms.1.faces };
        };
        stepped = step_is ed m c order t ha ho hr;
      }

  pub passed : (c' : Counts) → Ok c' ≡ tested m c order t → TestsPassed ed m c order t c'
  passed c' e = go _ refl _ refl _ refl
    where
      go :
          (a : Bool) → audit m c.points c.edges c.faces ≡ a → (o : Bool) → each_face_once c.faces order ≡ o → (r : Bool) →
          room_for (refined_counts c) m t ≡ r → TestsPassed ed m c order t c'
      go false ha o ho r hr =
          let k : ◌≡◌ {A = Result Counts StepRefusal} (Ok c') (Err NotClosed) = e ∙ tested-is ha ho hr in
          absurd (let z : ◌≡◌ {A = ℕ} 0 1 = cc in omega arith)
      go true ha false ho r hr =
          let k : ◌≡◌ {A = Result Counts StepRefusal} (Ok c') (Err NotEachFaceOnce) = e ∙ tested-is ha ho hr in
          absurd (let z : ◌≡◌ {A = ℕ} 0 1 = cc in omega arith)
      go true ha true ho false hr =
          let k : ◌≡◌ {A = Result Counts StepRefusal} (Ok c') (Err NoRoom) = e ∙ tested-is ha ho hr in
          absurd (let z : ◌≡◌ {A = ℕ} 0 1 = cc in omega arith)
      go true ha true ho true hr =
          let k : ◌≡◌ {A = Result Counts StepRefusal} (Ok c') (Ok (refined_counts c)) = e ∙ tested-is ha ho hr in
          let q : refined_counts c ≡ c' = cc in
          subst (λ x. TestsPassed ed m c order t x) q (all-passed ha ho hr)

  -- A ground that holds is answered with everything untouched.
  pub refused : (g : StepRefusal) → Err g ≡ tested m c order t → step_refusal g m t ≡ step ed m c order t
  unfolding step step_by
  refused g e = ap (λ x. step_by ed x m c order t) e
