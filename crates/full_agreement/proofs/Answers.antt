-- The next steps of two meshes that agree have the same answer: 30 and 31 refuse neither, 32 looks at counts and lengths, 33 at
-- positions. Assumes nothing.
--     room-same              32 is the same by lengths
--     finite-there, finite-here      every new position is finite on the one side exactly if it is on the other
--     same_answer            the answers are the same
use Rattle.std.specs.Prelude.{Ok, Err}
use mathlib.Core.Path.{◌≡◌, refl, sym, ◌∙◌, ap, ap₂}
use mathlib.Core.Bool.{Bool, true, false, ◌&&◌}
use mathlib.Core.List.{List}
use mathlib.Core.Logic.{◌⊎◌, inl, inr}
use Prim.Native.Nat.{ℕ, ◌/◌, ◌≤◌, min}
use native.Mathlib.Omega.{arith}
use lib.Dec.{leb}
use Rattle.positions.specs.Position.{finite_position}
use Rattle.tables.specs.Mesh.{Mesh, none}
use Rattle.tables.specs.Counted.{rows_for, first_rows}
use Rattle.tables.specs.declared.Counts.{Counts}
use Rattle.closed_meshes.specs.Mesh.{MeshOver}
use Rattle.closed_meshes.specs.Closed.{Closed}
use Rattle.closed_meshes.specs.Renumbering.{Isomorphism, Row}
use Rattle.closed_meshes.proofs.Isomorphisms.{onto}
use Rattle.audited_meshes.specs.Audit.{audit}
use Rattle.audited_meshes.specs.Rows.{Stands, Fit}
use Rattle.audited_meshes.proofs.Holds.{audit-is-closed}
use Rattle.refined_meshes.specs.declared.Edition.TheVariants.{Second}
use Rattle.position_rules.specs.FacePoint.{face_point_in}
use Rattle.position_rules.specs.Rules.{edge_point_in, old_point_in}
use Rattle.steps.specs.declared.StepRefusal.TheVariants.{NotFinite}
use Rattle.steps.specs.Step.{refined_counts, each_face_once, within_ceilings, room_for, Made, whole, not_finite_made, ended, step_by, step}
use Rattle.steps.specs.OneStep.{AllFinite}
use Rattle.steps.proofs.Grounds.{rooms-of-test, begun, step_is, step-made}
use Rattle.steps.proofs.NotFinite.{not-finite-exactly}
use Rattle.runs.specs.Lengths.{SameLengths}
use Rattle.runs.specs.Runs.{Lent, Handed, outcome, NamedMesh}
use Rattle.renumbered_meshes.specs.Renumbered.{Kept}
use Rattle.full_agreement.specs.Agreement.{PairedStep}
use Rattle.full_agreement.proofs.OnKinds.{new-same}
use Rattle.full_agreement.proofs.Agreement.{Agreement, kept-first_rows, stands-first_rows, fit-first_rows}

rows_same : (c : Counts) (m m' : Mesh) → SameLengths m m' → rows_for c m ≡ rows_for c m'
unfolding rows_for
rows_same c m m' e =
    let points = ap₂ (λ x y. leb c.points (min (x / 3) (y / 3))) e.positions e.points in
    let edges = ap₂ (λ x y. leb c.edges (min (x / 8) y)) e.edges e.intervals in
    let faces = ap (λ x. leb c.faces (x / 5)) e.faces in
    ap₂ ◌&&◌ (ap₂ ◌&&◌ points edges) faces

room-same : (c c' : Counts) (m m' t t' : Mesh) → c ≡ c' → SameLengths m m' → SameLengths t t' → room_for c m t ≡ room_for c' m' t'
unfolding room_for
room-same c c' m m' t t' q e s =
    ap₂ (λ x y. x && y && within_ceilings c) (rows_same c m m' e) (rows_same c t t' s) ∙ ap (λ x. room_for x m' t') q

-- Meshes that correspond.
module _
    {c c' : Counts} {m m' : Mesh} {t : MeshOver (Row c.points) (Row c.edges) (Row c.faces)}
    {t' : MeshOver (Row c'.points) (Row c'.edges) (Row c'.faces)} (d : Closed t) (d' : Closed t') (s : Stands m t)
    (s' : Stands m' t') (fit : Fit m c.points c.edges c.faces) (fit' : Fit m' c'.points c'.edges c'.faces)
    (i : Isomorphism t t') (k : Kept m m' i) (few : c.faces ≤ none) (few' : c'.faces ≤ none)
  where
    finite-here : AllFinite Second m' c' → AllFinite Second m c
    finite-here w =
        let new = new-same d d' s s' fit fit' i k few few' in
        record {
          face-points = λ f l. sym (new.face-finite (f, l)) ∙ w.face-points (i.faces.to (f, l)).0 (i.faces.to (f, l)).1;
          edge-points = λ e l. sym (new.edge-finite (e, l)) ∙ w.edge-points (i.edges.to (e, l)).0 (i.edges.to (e, l)).1;
          old-points = λ p l. sym (new.old-finite Second (p, l)) ∙ w.old-points (i.points.to (p, l)).0 (i.points.to (p, l)).1;
        }

    finite-there : AllFinite Second m c → AllFinite Second m' c'
    finite-there w =
        let new = new-same d d' s s' fit fit' i k few few' in
        record {
          face-points = λ f l.
              onto i.faces (λ y. finite_position (face_point_in m' c'.edges y.0) ≡ true)
              (λ x. new.face-finite x ∙ w.face-points x.0 x.1) (f, l);
          edge-points = λ e l.
              onto i.edges (λ y. finite_position (edge_point_in m' c'.edges y.0) ≡ true)
              (λ x. new.edge-finite x ∙ w.edge-points x.0 x.1) (e, l);
          old-points = λ p l.
              onto i.points (λ y. finite_position (old_point_in Second m' c'.edges y.0) ≡ true)
              (λ x. new.old-finite Second x ∙ w.old-points x.0 x.1) (p, l);
        }

-- A step that 30 to 32 do not refuse is accepted, or 33 refuses it.
module _
    (m : Mesh) (c : Counts) (order : List ℕ) (t : Mesh) (ha : audit m c.points c.edges c.faces ≡ true)
    (ho : each_face_once c.faces order ≡ true) (hr : room_for (refined_counts c) m t ≡ true)
  where
    either : ((step Second m c order t).answer ≡ Err NotFinite) ⊎ ((step Second m c order t).answer ≡ Ok (refined_counts c))
    unfolding ended
    either = go (begun Second m c order t) refl
      where
        go :
            (w : Made) → begun Second m c order t ≡ w →
            ((step Second m c order t).answer ≡ Err NotFinite) ⊎ ((step Second m c order t).answer ≡ Ok (refined_counts c))
        go (whole n) e = inr (ap (λ o. o.answer) (step-made Second m c order t ha ho hr (whole n) e))
        go not_finite_made e = inl (ap (λ o. o.answer) (step-made Second m c order t ha ho hr not_finite_made e))

-- Two steps whose tests answer the same.
module _
    (m m' : Mesh) (c c' : Counts) (order order' : List ℕ) (t t' : Mesh) (ha : audit m c.points c.edges c.faces ≡ true)
    (ha' : audit m' c'.points c'.edges c'.faces ≡ true) (ho : each_face_once c.faces order ≡ true)
    (ho' : each_face_once c'.faces order' ≡ true) (same : c ≡ c') (room : room_for (refined_counts c) m t ≡ room_for (refined_counts c') m' t')
  where
    module _
        (hr : room_for (refined_counts c) m t ≡ true) (there : AllFinite Second (first_rows c m) c → AllFinite Second (first_rows c' m') c')
        (here : AllFinite Second (first_rows c' m') c' → AllFinite Second (first_rows c m) c)
      where
        -- 33 refuses the one exactly if it refuses the other.
        lost-there : (step Second m c order t).answer ≡ Err NotFinite → (step Second m' c' order' t').answer ≡ Err NotFinite
        lost-there e =
            (not-finite-exactly Second m' c' order' t' ha' ho' (sym room ∙ hr)).1
            (λ w. (not-finite-exactly Second m c order t ha ho hr).0 e (here w))

        lost-here : (step Second m' c' order' t').answer ≡ Err NotFinite → (step Second m c order t).answer ≡ Err NotFinite
        lost-here e =
            (not-finite-exactly Second m c order t ha ho hr).1
            (λ w. (not-finite-exactly Second m' c' order' t' ha' ho' (sym room ∙ hr)).0 e (there w))

        answer-finite : (step Second m c order t).answer ≡ (step Second m' c' order' t').answer
        answer-finite = go (either m c order t ha ho hr) (either m' c' order' t' ha' ho' (sym room ∙ hr))
          where
            go :
                ((step Second m c order t).answer ≡ Err NotFinite) ⊎ ((step Second m c order t).answer ≡ Ok (refined_counts c)) →
                ((step Second m' c' order' t').answer ≡ Err NotFinite) ⊎ ((step Second m' c' order' t').answer ≡ Ok (refined_counts c')) →
                (step Second m c order t).answer ≡ (step Second m' c' order' t').answer
            go (inl e) x = e ∙ sym (lost-there e)
            go (inr e) (inl e') = lost-here e' ∙ sym e'
            go (inr e) (inr e') = e ∙ ap (λ x. Ok (refined_counts x)) same ∙ sym e'

    answer-same :
        (room_for (refined_counts c) m t ≡ true →
        (AllFinite Second (first_rows c m) c → AllFinite Second (first_rows c' m') c')
        × (AllFinite Second (first_rows c' m') c' → AllFinite Second (first_rows c m) c)) →
        (step Second m c order t).answer ≡ (step Second m' c' order' t').answer
    unfolding step_by
    answer-same f = go (room_for (refined_counts c) m t) refl
      where
        go : (b : Bool) → room_for (refined_counts c) m t ≡ b → (step Second m c order t).answer ≡ (step Second m' c' order' t').answer
        go true hr = answer-finite hr (f hr).0 (f hr).1
        go false hr =
            ap (λ o. o.answer) (step_is Second m c order t ha ho hr)
            ∙ sym (ap (λ o. o.answer) (step_is Second m' c' order' t' ha' ho' (sym room ∙ hr)))

-- few faces, where there is room
pub few-faces : (c : Counts) (m t : Mesh) → room_for (refined_counts c) m t ≡ true → c.faces ≤ none
few-faces c m t hr = omega (arith, (rooms-of-test (refined_counts c) m t hr).1.points)

module _ {first : Counts} {l l' : Lent} (n : NamedMesh first l) (n' : NamedMesh first l') (a : Agreement n n') (h h' : Handed) (p : PairedStep l l' h h') where
  pub same_answer : (outcome l h).answer ≡ (outcome l' h').answer
  same_answer =
      let m = l.tables in
      let m' = l'.tables in
      let room = room-same (refined_counts l.counts) (refined_counts l'.counts) m m' h.scratch h'.scratch (ap refined_counts a.counts) a.lengths p.scratch in
      let k = kept-first_rows m m' a.matching.isomorphism a.kept in
      ap (λ ed. (step ed m l.counts h.order h.scratch).answer) p.second-A
      ∙ answer-same m m' l.counts l'.counts h.order h'.order h.scratch h'.scratch ((audit-is-closed _ _ _ _).1 n.holds)
      ((audit-is-closed _ _ _ _).1 n'.holds) p.once-A p.once-B a.counts room
      (λ hr.
      let few = few-faces l.counts m h.scratch hr in
      let few' = few-faces l'.counts m' h'.scratch (sym room ∙ hr) in (
        finite-there n.holds.closed n'.holds.closed (stands-first_rows n) (stands-first_rows n') (fit-first_rows n) (fit-first_rows n')
            a.matching.isomorphism k few few',
        finite-here n.holds.closed n'.holds.closed (stands-first_rows n) (stands-first_rows n') (fit-first_rows n) (fit-first_rows n')
            a.matching.isomorphism k few few',
      ))
      ∙ sym (ap (λ ed. (step ed m' l'.counts h'.order h'.scratch).answer) p.second-B)
