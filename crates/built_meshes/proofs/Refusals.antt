-- The grounds 20, 21 and 22. Assumes nothing.
--     whole-verdict-is        what the verdict on the whole says: the first of these grounds is met, or none of all is
use mathlib.Core.Path.{◌≡◌, refl, sym, ◌∙◌, ap, ap₂, subst}
use mathlib.Core.Bool.{Bool, true, false, not, cond}
use mathlib.Core.Logic.{inl, inr, ◌≢◌}
use Prim.Native.Nat.{ℕ, zero, suc, ◌+◌, ◌<◌, ◌≤◌}
use native.Mathlib.Omega.{arith}
use lib.Dec.{eqb}
use borrow.Author.Tests.{eqb-true, not-false}
use Rattle.std.specs.Prelude.{Result, Ok, Err, ⊤}
use Rattle.t_spline.specs.Edge.{none}
use Rattle.t_spline.specs.Ends.{face_from_side}
use Rattle.edge_ends.specs.declared.TnurccFaceSide.{TnurccFaceSide}
use Rattle.edge_ends.specs.declared.TnurccFaceSide.TheVariants.{Left, Right}
use Rattle.tables.specs.Mesh.{Mesh, valence, start, origin, dest, right_face}
use Rattle.closed_meshes.specs.Renumbering.{sum_to}
use Rattle.audited_meshes.specs.Folds.{one_if}
use Rattle.audited_meshes.specs.Walks.{passed, touches, point_walk, Touches}
use Rattle.audited_meshes.proofs.Folds.{below_suc}
use Rattle.audited_meshes.proofs.Tests.{not_is, eqb_is, ltb-is, every-is}
use Rattle.audited_meshes.proofs.Audited.{touches-is}
use Rattle.built_meshes.specs.Lists.{Lists, points_of, faces_of}
use Rattle.tables.specs.declared.Sizes.{Sizes}
use Rattle.built_meshes.specs.Perimeters.{BuildState}
use Rattle.built_meshes.specs.Places.{IsPlace, Runs}
use Rattle.built_meshes.specs.Answers.{ground_number}
use Rattle.built_meshes.specs.Whole.{no_missing_face, every_edged, no_missed_edge, whole_verdict}
use Rattle.built_meshes.specs.Grounds.{HasMissingFace, HasNoEdge, HasMissedEdge, Where, whole, Met, missing-face, no_edge, missed-edge, rank, FirstMet}
use Rattle.built_meshes.specs.declared.Ground.{Ground}
use Rattle.built_meshes.specs.declared.Ground.TheVariants.{MissingFace, NoEdge, MissedEdge}
use Rattle.built_meshes.proofs.Connecting.{first_of, second_of}
use Rattle.built_meshes.proofs.Rows.{row}
use Rattle.built_meshes.proofs.Invariant.{Invariant}
use Rattle.built_meshes.proofs.Perimeter.{Done, Chained, Faces}
use Rattle.built_meshes.proofs.Versions.{every-false}
use Rattle.built_meshes.proofs.Before.{Triple, Same, no_same, no-triple, ClearLists, first-whole, nothing-met}
use Rattle.built_meshes.proofs.Faces.{FitFaces, fit-tests, done-down}
use Rattle.built_meshes.proofs.Whole.{a-side}
use Rattle.built_meshes.proofs.Turning.{no-missed, missed-met}

-- a sum is no less than each of its numbers
sum_to-above : (n k : ℕ) (a : ℕ → ℕ) → k < n → a k ≤ sum_to n a
unfolding sum_to
sum_to-above zero k a h = absurd (omega arith)
sum_to-above (suc n) k a h =
    below_suc k n h (λ lt. omega (arith, sum_to-above n k a lt)) (λ same. subst (λ k. a k ≤ sum_to n a + a n) (sym same) (omega arith))

module _ (c : Sizes) (l : Lists) (m₀ : Mesh) (s : BuildState) (all : Faces l (faces_of l) s) where
  abbrev m : Mesh
  m = s.mesh

  abbrev ne : ℕ
  ne = s.edges

  v : Invariant l (Done l (faces_of l) 0) (Chained l (faces_of l) 0) m ne
  v = all.invariant

  place-done : (f i : ℕ) → IsPlace l f i → Done l (faces_of l) 0 f i
  place-done f i h = inl h

  done-place : (f i : ℕ) → Done l (faces_of l) 0 f i → IsPlace l f i
  done-place f i (inl h) = h
  done-place f i (inr h) = absurd (omega (arith, h.1))

  -- a side with a face runs as its place does
  side-runs : (t : TnurccFaceSide) (e : ℕ) → e < ne → face_from_side (row m e) t ≢ none → (f : ℕ) × (i : ℕ) × Runs l f i (first_of t (row m e)) (second_of t (row m e))
  side-runs t e b a =
      let x = v.placed t e b a in
      (face_from_side (row m e) t, x.0, record { is-place = done-place _ x.0 x.1; begins = x.2; ends = x.3 })

  -- ---- 20

  missing-holds : no_missing_face m ne ≡ false → HasMissingFace l
  unfolding no_missing_face
  missing-holds h =
      let w = every-false ne (λ e. not (eqb (right_face m e) none)) h in
      let free : right_face m w.0 ≡ none = eqb-true (right_face m w.0) none (not-false (eqb (right_face m w.0) none) w.2) in
      let x = side-runs Left w.0 w.1 (v.left-face w.0 w.1) in
      record {
        p = origin m w.0;
        q = dest m w.0;
        f = x.0;
        i = x.1;
        runs = x.2;
        none-back = λ g j r.
            let d = place-done g j r.is-place in
            let t = v.entered g j d in
            let same = v.one_side t.1.on-side t.0 Right w.0 t.1.below w.1 (t.1.first-is ∙ r.begins) (t.1.second_is ∙ r.ends) in
            (v.good g j d).a-face (sym t.1.face-is ∙ ap₂ (λ u e. face_from_side (row m e) u) same.0 same.1 ∙ free);
      }

  right-faces : no_missing_face m ne ≡ true → (e : ℕ) → e < ne → (row m e).face_right ≢ none
  unfolding no_missing_face
  right-faces = (every-is ne (λ e. not_is (eqb_is (right_face m e) none))).0

  -- ---- 21

  no-edge-holds : every_edged m (points_of l) ≡ false → HasNoEdge l
  unfolding every_edged
  no-edge-holds h =
      let w = every-false (points_of l) (λ p. not (eqb (valence m p) 0)) h in
      let bare : valence m w.0 ≡ 0 = eqb-true (valence m w.0) 0 (not-false (eqb (valence m w.0) 0) w.2) in
      record {
        point = w.0;
        is-point = w.1;
        none-begins = λ f i is begins.
            let t = v.entered f i (place-done f i is) in
            let touch : one_if (touches m w.0 t.0) ≡ 1 =
            ap one_if ((touches-is m w.0 t.0).1 (touches-first t.1.on-side t.0 w.0 (t.1.first-is ∙ begins))) in
            let least : one_if (touches m w.0 t.0) ≤ sum_to ne (λ e. one_if (touches m w.0 e)) =
            sum_to-above ne t.0 (λ e. one_if (touches m w.0 e)) t.1.below in
            let sum : valence m w.0 ≡ sum_to ne (λ e. one_if (touches m w.0 e)) = v.valence-is w.0 w.1 in
            absurd (never _ _ touch least (sym sum ∙ bare));
      }
    where
      never : (a b : ℕ) → a ≡ 1 → a ≤ b → b ≡ 0 → ⊥
      never a b h k z = omega arith

      touches-first : (t : TnurccFaceSide) (o p : ℕ) → first_of t (row m o) ≡ p → Touches m p o
      touches-first Left o p h = inl h
      touches-first Right o p h = inr h

  edged-is : every_edged m (points_of l) ≡ true → (p : ℕ) → p < points_of l → valence m p ≢ 0
  unfolding every_edged
  edged-is = (every-is (points_of l) (λ p. not_is (eqb_is (valence m p) 0))).0

  -- ---- 22

  walked-is : no_missed_edge m (points_of l) ne ≡ true → (p : ℕ) → p < points_of l → valence m p ≤ passed (point_walk m ne (valence m p) p)
  unfolding no_missed_edge
  walked-is h p b =
      let z = (every-is (points_of l) (λ p. not_is (ltb-is (passed (point_walk m ne (valence m p) p)) (valence m p)))).0 h p b in
      omega arith

  -- ---- the verdict

  pub record WholeFit : Type 0 where
    pub right : (e : ℕ) → e < ne → (row m e).face_right ≢ none
    pub edged : (p : ℕ) → p < points_of l → valence m p ≢ 0
    pub walked : (p : ℕ) → p < points_of l → valence m p ≤ passed (point_walk m ne (valence m p) p)

  missing-none : ((e : ℕ) → e < ne → (row m e).face_right ≢ none) → ¬ HasMissingFace l
  missing-none right h =
      let t = v.entered h.f h.i (place-done _ _ h.runs.is-place) in
      go t.0 t.1.on-side t.1.below (t.1.first-is ∙ h.runs.begins) (t.1.second_is ∙ h.runs.ends)
    where
      runs-back : (u : TnurccFaceSide) (e : ℕ) → e < ne → first_of u (row m e) ≡ h.q → second_of u (row m e) ≡ h.p → ⊥
      runs-back u e b first second =
          let x = side-runs u e b (a-side l m ne v right u e b) in
          h.none-back x.0 x.1 (record { is-place = x.2.is-place; begins = x.2.begins ∙ first; ends = x.2.ends ∙ second })

      go : (e : ℕ) (u : TnurccFaceSide) → e < ne → first_of u (row m e) ≡ h.p → second_of u (row m e) ≡ h.q → ⊥
      go e Left b first second = runs-back Right e b second first
      go e Right b first second = runs-back Left e b second first

  no-edge-none : ((e : ℕ) → e < ne → (row m e).face_right ≢ none) → ((p : ℕ) → p < points_of l → valence m p ≢ 0) → ¬ HasNoEdge l
  no-edge-none right edged h =
      let some = edged h.point h.is-point in
      let t = v.start_is h.point h.is-point (omega arith) in
      go (start m h.point) t.0 t.1
    where
      begins-here : (u : TnurccFaceSide) (e : ℕ) → e < ne → first_of u (row m e) ≡ h.point → ⊥
      begins-here u e b first =
          let x = side-runs u e b (a-side l m ne v right u e b) in
          h.none-begins x.0 x.1 x.2.is-place (x.2.begins ∙ first)

      go : (e : ℕ) → e < ne → Touches m h.point e → ⊥
      go e b (inl z) = begins-here Left e b z
      go e b (inr z) = begins-here Right e b z

  pub data WholeVerdict : Result ⊤ Ground → Type 0 where
    whole-fit : WholeFit → ((w : Where) (g : Ground) → ¬ Met c l m₀ w g) → WholeVerdict (Ok tt)
    whole-unfit : {g : Ground} → FirstMet c l m₀ whole g → 20 ≤ ground_number g → WholeVerdict (Err g)

  module _ (clear : ClearLists c l m₀) (fit : FitFaces c l m₀ (faces_of l)) where
    entered-fit : (f i : ℕ) → IsPlace l f i → (¬ Triple l f i) × (¬ Same l f i)
    entered-fit f i is = (
      no-triple l (Done l (faces_of l) 0) (done-down c l m₀ (faces_of l) 0) v.one_way f i (inl is),
      no_same l (Done l (faces_of l) 0) (done-down c l m₀ (faces_of l) 0) v.one_way f i (inl is),
    )

    first : (n : ℕ) → (20 < n → ¬ HasMissingFace l) → (21 < n → ¬ HasNoEdge l) → (22 < n → ¬ HasMissedEdge l) →
        (g : Ground) → rank g ≡ n → Met c l m₀ whole g → FirstMet c l m₀ whole g
    first = first-whole c l m₀ clear (fit-tests c l m₀ (faces_of l) fit) entered-fit

    pub whole-verdict-is : WholeVerdict (whole_verdict m (points_of l) ne)
    unfolding whole_verdict
    whole-verdict-is = faces (no_missing_face m ne) refl
      where
        walks : no_missing_face m ne ≡ true → every_edged m (points_of l) ≡ true → (b : Bool) → no_missed_edge m (points_of l) ne ≡ b
            → WholeVerdict (cond (not b) (Err MissedEdge) (Ok tt))
        walks f e true h =
            whole-fit (record { right = right-faces f; edged = edged-is e; walked = walked-is h })
            (nothing-met c l m₀ clear (fit-tests c l m₀ (faces_of l) fit) entered-fit (missing-none (right-faces f)) (no-edge-none (right-faces f) (edged-is e))
            (no-missed l m ne v (right-faces f) (edged-is e) (walked-is h)))
        walks f e false h =
            whole-unfit {g = MissedEdge}
            (first 22 (λ z. missing-none (right-faces f)) (λ z. no-edge-none (right-faces f) (edged-is e)) (λ z. absurd (omega arith)) MissedEdge refl
            (missed-edge (missed-met l m ne v (right-faces f) (edged-is e) h))) (omega arith)

        edges : no_missing_face m ne ≡ true → (b : Bool) → every_edged m (points_of l) ≡ b →
            WholeVerdict (cond (not b) (Err NoEdge) (cond (not (no_missed_edge m (points_of l) ne)) (Err MissedEdge) (Ok tt)))
        edges f true h = walks f h (no_missed_edge m (points_of l) ne) refl
        edges f false h =
            whole-unfit {g = NoEdge}
            (first 21 (λ z. missing-none (right-faces f)) (λ z. absurd (omega arith)) (λ z. absurd (omega arith)) NoEdge refl (no_edge (no-edge-holds h)))
            (omega arith)

        faces : (b : Bool) → no_missing_face m ne ≡ b →
            WholeVerdict (cond (not b) (Err MissingFace) (cond (not (every_edged m (points_of l))) (Err NoEdge) (cond (not (no_missed_edge m (points_of l) ne)) (Err MissedEdge) (Ok tt))))
        faces true h = edges h (every_edged m (points_of l)) refl
        faces false h =
            whole-unfit {g = MissingFace}
            (first 20 (λ z. absurd (omega arith)) (λ z. absurd (omega arith)) (λ z. absurd (omega arith)) MissingFace refl (missing-face (missing-holds h)))
            (omega arith)
