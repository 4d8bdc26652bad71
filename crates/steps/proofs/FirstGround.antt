-- The answer of a step is the one that is due, both ways. Assumes nothing.
--     room-is                 what the test for ground 32 says
--     due-once                no two answers are due
--     first-ground            the claim of `specs/FirstGround.antt`
use Rattle.std.specs.Prelude.{Result, Ok, Err}
use mathlib.Core.Path.{◌≡◌, refl, sym, ◌∙◌, ap, subst}
use mathlib.Core.Bool.{Bool, true, false, ◌&&◌}
use mathlib.Core.List.{List}
use mathlib.Core.Logic.{◌⊎◌, inl, inr, ⊎_elim}
use Prim.Native.Nat.{ℕ, ◌≤◌, ◌<◌}
use native.Mathlib.Omega.{arith}
use lib.Dec.{leb}
use lib.ListN.{length, get_or}
use borrow.Author.Tests.{leb-false}
use Rattle.tables.specs.Mesh.{Mesh, none, point_rows, edge_rows, face_rows}
use Rattle.tables.specs.declared.Counts.{Counts}
use Rattle.audited_meshes.specs.Audit.{audit}
use Rattle.audited_meshes.proofs.Tests.{Is, and_is, eqb_is, ltb-is, leb-is, every-is}
use Rattle.audited_meshes.proofs.Audited.{distinct-is, audit-is-audited}
use Rattle.audited_meshes.proofs.Holds.{audit-is-closed}
use Rattle.refined_meshes.specs.declared.Edition.{Edition}
use Rattle.refined_meshes.specs.Order.{EachOnce}
use Rattle.steps.specs.declared.StepRefusal.{StepRefusal}
use Rattle.steps.specs.declared.StepRefusal.TheVariants.{NotClosed, NotEachFaceOnce, NoRoom, NotFinite}
use Rattle.steps.specs.Step.{refined_counts, each_face_once, within_ceilings, room_for, Made, whole, not_finite_made, ended, step_by, step}
use Rattle.tables.specs.Counted.{rows_for, first_rows}
use Rattle.steps.specs.FirstGround.{Short, HasNoRoom, Due, FirstGround}
use Rattle.steps.proofs.Rows.{exact-first_rows, holds-first_rows}
use Rattle.steps.proofs.Grounds.{each_face_once-is, rooms-of-test, begun, step_is, step-made}
use Rattle.steps.proofs.NotFinite.{finite-made, not-finite-exactly}

-- ---- what the tests say

once-test : (nf : ℕ) (order : List ℕ) → EachOnce nf order → each_face_once nf order ≡ true
unfolding each_face_once
once-test nf order h =
    (and_is (and_is (eqb_is (length order) nf) (every-is nf (λ i. ltb-is (get_or order i 0) nf))) (distinct-is order)).1
    ((h.as_many, h.in-range), h.no-face-twice)

and-false : (a b : Bool) → a && b ≡ false → (a ≡ false) ⊎ (b ≡ false)
and-false true b h = inr h
and-false false b h = inl refl

-- three tests of which one fails
three-false : (a b c : Bool) → a && b && c ≡ false → (a ≡ false) ⊎ ((b ≡ false) ⊎ (c ≡ false))
three-false true true c h = inr (inr h)
three-false true false c h = inr (inl refl)
three-false false b c h = inl refl

three-above :
    (a b c a' b' c' : ℕ) → leb a a' && leb b b' && leb c c' ≡ false → (a' < a) ⊎ ((b' < b) ⊎ (c' < c))
three-above a b c a' b' c' h = go (three-false (leb a a') (leb b b') (leb c c') h)
  where
    go : (leb a a' ≡ false) ⊎ ((leb b b' ≡ false) ⊎ (leb c c' ≡ false)) → (a' < a) ⊎ ((b' < b) ⊎ (c' < c))
    go (inl z) = inl (leb-false a a' z)
    go (inr (inl z)) = inr (inl (leb-false b b' z))
    go (inr (inr z)) = inr (inr (leb-false c c' z))

no_room : (c : Counts) (m t : Mesh) → room_for c m t ≡ false → HasNoRoom c m t
unfolding room_for rows_for within_ceilings
no_room c m t h = go (and-false _ _ h)
  where
    rows : (t : Mesh) → rows_for c t ≡ false → Short c t
    rows t h = three-above c.points c.edges c.faces (point_rows t) (edge_rows t) (face_rows t) h

    go : (rows_for c m && rows_for c t ≡ false) ⊎ (within_ceilings c ≡ false) → HasNoRoom c m t
    go (inl h) = inl (⊎_elim (λ z. inl (rows m z)) (λ z. inr (rows t z)) (and-false (rows_for c m) (rows_for c t) h))
    go (inr h) = inr (three-above c.points c.edges c.faces 65536 131072 65536 h)

room-enough : (c : Counts) (m t : Mesh) → room_for c m t ≡ true → ¬ HasNoRoom c m t
unfolding room_for rows_for within_ceilings
room-enough c m t h = go
  where
    -- three numbers, each within its own
    Fit : ℕ → ℕ → ℕ → Type 0
    Fit p e f = ((c.points ≤ p) × (c.edges ≤ e)) × (c.faces ≤ f)

    fit_is : (p e f : ℕ) → Is (leb c.points p && leb c.edges e && leb c.faces f) (Fit p e f)
    fit_is p e f = and_is (and_is (leb-is c.points p) (leb-is c.edges e)) (leb-is c.faces f)

    all : (Fit (point_rows m) (edge_rows m) (face_rows m) × Fit (point_rows t) (edge_rows t) (face_rows t)) × Fit 65536 131072 65536
    all =
        (and_is (and_is (fit_is (point_rows m) (edge_rows m) (face_rows m)) (fit_is (point_rows t) (edge_rows t) (face_rows t))) (fit_is 65536 131072 65536)).0 h

    above : (p e f : ℕ) → Fit p e f → (p < c.points) ⊎ ((e < c.edges) ⊎ (f < c.faces)) → ⊥
    above p e f h (inl z) = omega (arith, h.0.0)
    above p e f h (inr (inl z)) = omega (arith, h.0.1)
    above p e f h (inr (inr z)) = omega (arith, h.1)

    go : HasNoRoom c m t → ⊥
    go (inl (inl z)) = above (point_rows m) (edge_rows m) (face_rows m) all.0.0 z
    go (inl (inr z)) = above (point_rows t) (edge_rows t) (face_rows t) all.0.1 z
    go (inr z) = above 65536 131072 65536 all.1 z

-- ---- the answer

module _ (ed : Edition) (m : Mesh) (c : Counts) (order : List ℕ) (t : Mesh) where
  due-once : (a b : Result Counts StepRefusal) → Due ed m c order t a → Due ed m c order t b → a ≡ b
  due-once (Err NotClosed) (Err NotClosed) x y = refl
  due-once (Err NotClosed) (Err NotEachFaceOnce) x y = absurd (x y.0)
  due-once (Err NotClosed) (Err NoRoom) x y = absurd (x y.0)
  due-once (Err NotClosed) (Err NotFinite) x y = absurd (x y.0)
  due-once (Err NotClosed) (Ok k) x y = absurd (x y.0)
  due-once (Err NotEachFaceOnce) (Err NotClosed) x y = absurd (y x.0)
  due-once (Err NotEachFaceOnce) (Err NotEachFaceOnce) x y = refl
  due-once (Err NotEachFaceOnce) (Err NoRoom) x y = absurd (x.1 y.1)
  due-once (Err NotEachFaceOnce) (Err NotFinite) x y = absurd (x.1 y.1)
  due-once (Err NotEachFaceOnce) (Ok k) x y = absurd (x.1 y.1)
  due-once (Err NoRoom) (Err NotClosed) x y = absurd (y x.0)
  due-once (Err NoRoom) (Err NotEachFaceOnce) x y = absurd (y.1 x.1)
  due-once (Err NoRoom) (Err NoRoom) x y = refl
  due-once (Err NoRoom) (Err NotFinite) x y = absurd (y.2 x.2)
  due-once (Err NoRoom) (Ok k) x y = absurd (y.2 x.2)
  due-once (Err NotFinite) (Err NotClosed) x y = absurd (y x.0)
  due-once (Err NotFinite) (Err NotEachFaceOnce) x y = absurd (y.1 x.1)
  due-once (Err NotFinite) (Err NoRoom) x y = absurd (x.2 y.2)
  due-once (Err NotFinite) (Err NotFinite) x y = refl
  due-once (Err NotFinite) (Ok k) x y = absurd (x.3 y.3)
  due-once (Ok k) (Err NotClosed) x y = absurd (y x.0)
  due-once (Ok k) (Err NotEachFaceOnce) x y = absurd (y.1 x.1)
  due-once (Ok k) (Err NoRoom) x y = absurd (x.2 y.2)
  due-once (Ok k) (Err NotFinite) x y = absurd (y.3 x.3)
  due-once (Ok k) (Ok n) x y = ap Ok (x.4 ∙ sym y.4)

  answer-due : Due ed m c order t (step ed m c order t).answer
  unfolding step_by ended begun
  answer-due = go _ refl _ refl _ refl
    where
      fails : {A : Type 0} {b : Bool} → b ≡ false → (A → b ≡ true) → ¬ A
      fails h k a = let z : true ≡ false = sym (k a) ∙ h in let y : ◌≡◌ {A = ℕ} 0 1 = cc in omega arith

      mending :
          audit m c.points c.edges c.faces ≡ true → each_face_once c.faces order ≡ true → room_for (refined_counts c) m t ≡ true →
          (w : Made) → begun ed m c order t ≡ w → Due ed m c order t (step ed m c order t).answer
      mending ha ho hr (whole n) hw =
          let rooms = rooms-of-test (refined_counts c) m t hr in
          let few : c.faces ≤ none = omega (arith, rooms.1.points) in
          let once = each_face_once-is c.faces order ho in
          subst (λ a. Due ed m c order t a) (sym (ap (λ o. o.answer) (step-made ed m c order t ha ho hr (whole n) hw))) (
            (audit-is-audited m _ _ _).0 ha,
            once,
            room-enough (refined_counts c) m t hr,
            finite-made ed (first_rows c m) c (holds-first_rows ((audit-is-closed m _ _ _).0 ha)) few order once (first_rows (refined_counts c) t)
                (exact-first_rows (refined_counts c) t rooms.0.1) n hw,
            refl,
          )
      mending ha ho hr not_finite_made hw =
          let is : (step ed m c order t).answer ≡ Err NotFinite = ap (λ o. o.answer) (step-made ed m c order t ha ho hr not_finite_made hw) in
          subst (λ a. Due ed m c order t a) (sym is)
          ((audit-is-audited m _ _ _).0 ha, each_face_once-is c.faces order ho, room-enough (refined_counts c) m t hr, (not-finite-exactly ed m c order t ha ho hr).0 is)

      go :
          (a : Bool) → audit m c.points c.edges c.faces ≡ a → (o : Bool) → each_face_once c.faces order ≡ o → (r : Bool) →
          room_for (refined_counts c) m t ≡ r → Due ed m c order t (step ed m c order t).answer
      go false ha o ho r hr =
          subst (λ a. Due ed m c order t a) (sym (ap (λ o. o.answer) (step_is ed m c order t ha ho hr))) (fails ha (audit-is-audited m _ _ _).1)
      go true ha false ho r hr =
          subst (λ a. Due ed m c order t a) (sym (ap (λ o. o.answer) (step_is ed m c order t ha ho hr)))
          ((audit-is-audited m _ _ _).0 ha, fails ho (once-test c.faces order))
      go true ha true ho false hr =
          subst (λ a. Due ed m c order t a) (sym (ap (λ o. o.answer) (step_is ed m c order t ha ho hr)))
          ((audit-is-audited m _ _ _).0 ha, each_face_once-is c.faces order ho, no_room (refined_counts c) m t hr)
      go true ha true ho true hr = mending ha ho hr (begun ed m c order t) refl

pub first-ground : FirstGround
first-ground ed m c order t a = (
  λ e. subst (λ a. Due ed m c order t a) e (answer-due ed m c order t),
  λ d. due-once ed m c order t (step ed m c order t).answer a (answer-due ed m c order t) d,
)
