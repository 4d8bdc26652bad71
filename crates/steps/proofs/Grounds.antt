-- What the tests of a step say, and what an answer says of the tests. Assumes nothing.
--     each_face_once-is, room-of-test, rooms-of-test     what a passed test says
--     Within                    counts within the ceilings
--     step_is                   the step by the answers of its tests
--     begun, step-made          the mesh in the making, and the step by what it came to
--     Taken                     what stands behind the answer Ok
--     taken                     an answer Ok has it
--     untouched                 what a refused step leaves
--     Begun, made-is            what stands behind a mesh that is made whole
use Rattle.std.specs.Prelude.{Result, Ok, Err}
use mathlib.Core.Path.{◌≡◌, refl, sym, ◌∙◌, ap}
use mathlib.Core.Bool.{Bool, true, false}
use mathlib.Core.List.{List}
use mathlib.Core.Option.{none, some}
use Prim.Native.Nat.{ℕ, ◌≤◌, ◌<◌}
use native.Mathlib.Omega.{arith}
use lib.ListN.{length, get_or}
use lib.Ieee.{Float}
use Rattle.tables.specs.Mesh.{Mesh, point_rows, edge_rows, face_rows}
use Rattle.tables.specs.declared.Counts.{Counts}
use Rattle.audited_meshes.specs.Folds.{distinct}
use Rattle.audited_meshes.specs.Audit.{audit}
use Rattle.audited_meshes.proofs.Tests.{and_is, eqb_is, ltb-is, leb-is, not_is, self-is, every-is}
use Rattle.refined_meshes.specs.declared.Edition.{Edition}
use Rattle.refined_meshes.specs.State.{State, with_positions}
use Rattle.refined_meshes.specs.Order.{EachOnce}
use Rattle.refined_meshes.specs.Settled.{settled_rows}
use Rattle.steps.specs.declared.StepRefusal.{StepRefusal}
use Rattle.steps.specs.declared.StepRefusal.TheVariants.{NotClosed, NotEachFaceOnce, NoRoom, NotFinite}
use Rattle.steps.specs.Positions.{Placing, so_far, not_finite, placed_all}
use Rattle.steps.specs.Step.{refusal_number, step_ground, refined_counts, each_face_once, within_ceilings, room_for, Made, whole}
use Rattle.steps.specs.Step.{not_finite_made, made_of, placed_rows, made, step_refusal, ended, tested_if, step_by, step}
use Rattle.tables.specs.Counted.{rows_for, first_rows, over_rows}
use Rattle.steps.specs.Rows.{Room}
use Rattle.steps.specs.OneStep.{Refused, Untouched}
use Rattle.steps.proofs.Rows.{room-of-rows}

pub each_face_once-is : (nf : ℕ) (order : List ℕ) → each_face_once nf order ≡ true → EachOnce nf order
unfolding each_face_once distinct
each_face_once-is nf order e =
    let h = (and_is (and_is (eqb_is (length order) nf) (every-is nf (λ i. ltb-is (get_or order i 0) nf)))
    (every-is (length order) (λ i. every-is i (λ j. not_is (eqb_is (get_or order i 0) (get_or order j 0)))))).0 e in
    record { as_many = h.0.0; in-range = h.0.1; no-face-twice = λ i j a b. h.1 i a j b }

pub room-of-test : (c : Counts) (t : Mesh) → rows_for c t ≡ true → Room c t
unfolding rows_for
room-of-test c t e =
    let h = (and_is (and_is (leb-is c.points (point_rows t)) (leb-is c.edges (edge_rows t))) (leb-is c.faces (face_rows t))).0 e in
    room-of-rows c t h.0.0 h.0.1 h.1

pub record Within (c : Counts) : Type 0 where
  pub points : c.points ≤ 65536
  pub edges : c.edges ≤ 131072
  pub faces : c.faces ≤ 65536

within-of-test : (c : Counts) → within_ceilings c ≡ true → Within c
unfolding within_ceilings
within-of-test c e =
    let h = (and_is (and_is (leb-is c.points 65536) (leb-is c.edges 131072)) (leb-is c.faces 65536)).0 e in
    record { points = h.0.0; edges = h.0.1; faces = h.1 }

pub rooms-of-test : (c : Counts) (m t : Mesh) → room_for c m t ≡ true → (Room c m × Room c t) × Within c
unfolding room_for
rooms-of-test c m t e =
    let h = (and_is (and_is (self-is (rows_for c m)) (self-is (rows_for c t))) (self-is (within_ceilings c))).0 e in
    ((room-of-test c m h.0.0, room-of-test c t h.0.1), within-of-test c h.1)

-- what stands behind the answer Ok
pub record Taken (ed : Edition) (m : Mesh) (c : Counts) (order : List ℕ) (t : Mesh) (c' : Counts) : Type 0 where
  pub counts : c' ≡ refined_counts c
  pub audited : audit m c.points c.edges c.faces ≡ true
  pub once : EachOnce c.faces order
  pub room : Room (refined_counts c) m
  pub scratch-room : Room (refined_counts c) t
  pub within : Within (refined_counts c)
  pub mesh : Mesh
  pub is_made : made ed (first_rows c m) c order (first_rows (refined_counts c) t) ≡ whole mesh
  pub tables : (step ed m c order t).tables ≡ over_rows (refined_counts c) mesh m

module _ (ed : Edition) (m : Mesh) (c : Counts) (order : List ℕ) (t : Mesh) where
  -- The mesh in the making.
  unfoldable pub begun : Made
  begun = made ed (first_rows c m) c order (first_rows (refined_counts c) t)

  -- The step by the answers of its tests.
  pub step_is :
      {a o r : Bool} → audit m c.points c.edges c.faces ≡ a → each_face_once c.faces order ≡ o → room_for (refined_counts c) m t ≡ r →
      step ed m c order t ≡ step_by ed (tested_if a o r (refined_counts c)) m c order t
  unfolding step
  step_is ha ho hr = rw (ha, ho, hr)

  -- The step that 30 to 32 do not refuse.
  pub step-made :
      audit m c.points c.edges c.faces ≡ true → each_face_once c.faces order ≡ true → room_for (refined_counts c) m t ≡ true →
      (w : Made) → begun ≡ w → step ed m c order t ≡ ended m (refined_counts c) t w
  unfolding step_by begun
  step-made ha ho hr w e = step_is ha ho hr ∙ ap (ended m (refined_counts c) t) e

  pub taken : (c' : Counts) → (step ed m c order t).answer ≡ Ok c' → Taken ed m c order t c'
  unfolding step_by ended begun
  taken c' e = go _ refl _ refl _ refl
    where
      mending : audit m c.points c.edges c.faces ≡ true → each_face_once c.faces order ≡ true → room_for (refined_counts c) m t ≡ true
          → (w : Made) → begun ≡ w → Taken ed m c order t c'
      mending ha ho hr (whole n) hw =
          let q = step-made ha ho hr (whole n) hw in
          let k : ◌≡◌ {A = Result Counts StepRefusal} (Ok (refined_counts c)) (Ok c') = ap (λ x. x.answer) (sym q) ∙ e in
          let rooms = rooms-of-test (refined_counts c) m t hr in
          record {
            counts = cc;
            audited = ha;
            once = each_face_once-is c.faces order ho;
            room = rooms.0.0;
            scratch-room = rooms.0.1;
            within = rooms.1;
            mesh = n;
            is_made = hw;
            tables = ap (λ x. x.tables) q;
          }
      mending ha ho hr not_finite_made hw =
          let q = step-made ha ho hr not_finite_made hw in
          let k : ◌≡◌ {A = Result Counts StepRefusal} (Err NotFinite) (Ok c') = ap (λ x. x.answer) (sym q) ∙ e in
          absurd (let z : ◌≡◌ {A = ℕ} 0 1 = cc in omega arith)

      go :
          (a : Bool) → audit m c.points c.edges c.faces ≡ a → (o : Bool) → each_face_once c.faces order ≡ o → (r : Bool) →
          room_for (refined_counts c) m t ≡ r → Taken ed m c order t c'
      go false ha o ho r hr =
          let k : ◌≡◌ {A = Result Counts StepRefusal} (Err NotClosed) (Ok c') = ap (λ x. x.answer) (sym (step_is ha ho hr)) ∙ e in
          absurd (let z : ◌≡◌ {A = ℕ} 0 1 = cc in omega arith)
      go true ha false ho r hr =
          let k : ◌≡◌ {A = Result Counts StepRefusal} (Err NotEachFaceOnce) (Ok c') = ap (λ x. x.answer) (sym (step_is ha ho hr)) ∙ e in
          absurd (let z : ◌≡◌ {A = ℕ} 0 1 = cc in omega arith)
      go true ha true ho false hr =
          let k : ◌≡◌ {A = Result Counts StepRefusal} (Err NoRoom) (Ok c') = ap (λ x. x.answer) (sym (step_is ha ho hr)) ∙ e in
          absurd (let z : ◌≡◌ {A = ℕ} 0 1 = cc in omega arith)
      go true ha true ho true hr = mending ha ho hr begun refl

  -- A step that 30, 31 or 32 refuses leaves everything as found.
  refused-early :
      (b : StepRefusal) → refusal_number b < 33 → step ed m c order t ≡ step_refusal b m t → (g : ℕ) →
      step_ground (step ed m c order t).answer ≡ some g → Refused ed m c order t g
  refused-early b l q g e =
      let z : some (refusal_number b) ≡ some g = ap (λ o. step_ground o.answer) (sym q) ∙ e in
      let w : refusal_number b ≡ g = cc in
      record { tables = ap (λ o. o.tables) q; scratch = λ i. ap (λ o. o.scratch) q; zeroed = λ i. absurd (omega arith) }

-- A refused step leaves the tables as found, and scratch too but for 33.
pub untouched : Untouched
unfolding step_by ended begun
untouched ed m c order t g e = go _ refl _ refl _ refl
  where
    mending :
        audit m c.points c.edges c.faces ≡ true → each_face_once c.faces order ≡ true → room_for (refined_counts c) m t ≡ true →
        (w : Made) → begun ed m c order t ≡ w → Refused ed m c order t g
    mending ha ho hr (whole n) hw =
        let q = step-made ed m c order t ha ho hr (whole n) hw in
        let k : none ≡ some g = ap (λ o. step_ground o.answer) (sym q) ∙ e in
        absurd (let z : ◌≡◌ {A = ℕ} 0 1 = cc in omega arith)
    mending ha ho hr not_finite_made hw =
        let q = step-made ed m c order t ha ho hr not_finite_made hw in
        let k : some 33 ≡ some g = ap (λ o. step_ground o.answer) (sym q) ∙ e in
        let w : 33 ≡ g = cc in
        record { tables = ap (λ o. o.tables) q; scratch = λ i. absurd (omega arith); zeroed = λ i. ap (λ o. o.scratch) q }

    go :
        (a : Bool) → audit m c.points c.edges c.faces ≡ a → (o : Bool) → each_face_once c.faces order ≡ o → (r : Bool) →
        room_for (refined_counts c) m t ≡ r → Refused ed m c order t g
    go false ha o ho r hr = refused-early ed m c order t NotClosed (omega arith) (step_is ed m c order t ha ho hr) g e
    go true ha false ho r hr = refused-early ed m c order t NotEachFaceOnce (omega arith) (step_is ed m c order t ha ho hr) g e
    go true ha true ho false hr = refused-early ed m c order t NoRoom (omega arith) (step_is ed m c order t ha ho hr) g e
    go true ha true ho true hr = mending ha ho hr (begun ed m c order t) refl

-- The mesh that is made: the visits' rows, with all positions put.
pub record Begun (ed : Edition) (m : Mesh) (c : Counts) (order : List ℕ) (t : Mesh) (n : Mesh) : Type 0 where
  pub positions : List Float
  pub put : placed_all ed m c (settled_rows ed m c.points c.edges c.faces order t) t.positions ≡ so_far positions
  pub mesh : n ≡ with_positions positions (settled_rows ed m c.points c.edges c.faces order t)

pub made-is : (ed : Edition) (m : Mesh) (c : Counts) (order : List ℕ) (t n : Mesh) → made ed m c order t ≡ whole n → Begun ed m c order t n
unfolding made placed_rows
made-is ed m c order t n e = go _ refl e
  where
    s : State
    s = settled_rows ed m c.points c.edges c.faces order t

    go : (r : Placing) → placed_all ed m c s t.positions ≡ r → made_of s r ≡ whole n → Begun ed m c order t n
    go (so_far qs) h e = record { positions = qs; put = h; mesh = cc }
    go not_finite h e = absurd (let z : ◌≡◌ {A = ℕ} 0 1 = cc in omega arith)
