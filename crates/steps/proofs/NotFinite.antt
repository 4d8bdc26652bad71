-- Ground 33 by the position rules: positions are put, each by its rule, exactly as long as they are finite. Assumes nothing.
--     made-finite, finite-made     the mesh is made whole exactly if every new position is finite
--     not-finite-exactly           the claim of `specs/OneStep.antt`
use Rattle.std.specs.Prelude.{Ok, Err, Result}
use mathlib.Core.Path.{◌≡◌, refl, sym, ◌∙◌, ap}
use mathlib.Core.List.{List}
use Prim.Native.Nat.{ℕ, ◌*◌, ◌≤◌}
use native.Mathlib.Omega.{arith}
use lib.ListN.{length}
use Rattle.tables.specs.Mesh.{Mesh, none}
use Rattle.tables.specs.declared.Counts.{Counts}
use Rattle.audited_meshes.specs.Audited.{Audited}
use Rattle.audited_meshes.specs.Rows.{HoldsClosed}
use Rattle.audited_meshes.proofs.Holds.{audited-of-closed, audit-is-closed}
use Rattle.refined_meshes.specs.declared.Edition.{Edition}
use Rattle.refined_meshes.specs.State.{State, with_positions}
use Rattle.refined_meshes.specs.Order.{EachOnce}
use Rattle.refined_meshes.specs.Settled.{settled_rows}
use Rattle.refined_meshes.proofs.Settled.{visits-refine}
use Rattle.steps.specs.declared.StepRefusal.{StepRefusal}
use Rattle.steps.specs.declared.StepRefusal.TheVariants.{NotFinite}
use Rattle.steps.specs.Step.{refined_counts, Made, whole, not_finite_made, made_of, placed_rows, made, ended, step}
use Rattle.tables.specs.Counted.{first_rows}
use Rattle.steps.specs.OneStep.{AllFinite, NotFiniteExactly}
use Rattle.steps.proofs.Rows.{points-fit, edges_fit, faces-fit, Exact, exact-first_rows, room-of-exact, holds-first_rows}
use Rattle.steps.proofs.NewPositions.{PointRows, placed-all, all-put}
use Rattle.steps.proofs.Grounds.{each_face_once-is, rooms-of-test, begun, step-made, made-is}
use Rattle.steps.proofs.OneStep.{point-rows}

-- A closed mesh m, made in tables t of exactly the rows that the mesh after the step has.
module _
    (ed : Edition) (m : Mesh) (c : Counts) (h : HoldsClosed m c.points c.edges c.faces) (few : c.faces ≤ none) (order : List ℕ)
    (once : EachOnce c.faces order) (t : Mesh) (x : Exact (refined_counts c) t)
  where
    -- the state after the visits
    abbrev s : State
    s = settled_rows ed m c.points c.edges c.faces order t

    audited : Audited m c.points c.edges c.faces
    audited = audited-of-closed m h.mesh h.stands h.closed h.fit

    rows : PointRows c s (refined_counts c).points
    rows =
        let r = room-of-exact x in
        point-rows ed m c h order t t.positions
        (visits-refine ed m c.points c.edges c.faces h order once t (points-fit r) (edges_fit r) (faces-fit r) t.positions)

    room : (refined_counts c).points * 3 ≤ length t.positions
    room = omega (arith, x.positions)

    made-finite : AllFinite ed m c → (n : Mesh) × (made ed m c order t ≡ whole n)
    unfolding made placed_rows
    made-finite w =
        let b = all-put m c audited few s (refined_counts c).points rows ed t.positions room w in
        (with_positions b.0 s, ap (made_of s) b.1)

    pub finite-made : (n : Mesh) → made ed m c order t ≡ whole n → AllFinite ed m c
    finite-made n e =
        let b = made-is ed m c order t n e in
        (placed-all m c audited few s (refined_counts c).points rows ed t.positions room b.positions b.put).finite

-- Where 30 to 32 do not refuse, 33 does exactly if not every new position is finite.
pub not-finite-exactly : NotFiniteExactly
unfolding ended begun
not-finite-exactly ed m c order t ha ho hr =
    let h = holds-first_rows ((audit-is-closed m _ _ _).0 ha) in
    let rooms = rooms-of-test (refined_counts c) m t hr in
    let few : c.faces ≤ none = omega (arith, rooms.1.points) in
    let once = each_face_once-is c.faces order ho in
    let u = first_rows (refined_counts c) t in
    let x = exact-first_rows (refined_counts c) t rooms.0.1 in (
      λ e w.
          let f = made-finite ed (first_rows c m) c h few order once u x w in
          refused-or-refined e (ap (λ o. o.answer) (step-made ed m c order t ha ho hr (whole f.0) f.1)),
      λ k. go (λ n e. k (finite-made ed (first_rows c m) c h few order once u x n e)) (begun ed m c order t) refl,
    )
  where
    refused-or-refined : (step ed m c order t).answer ≡ Err NotFinite → ¬ ((step ed m c order t).answer ≡ Ok (refined_counts c))
    refused-or-refined e q = let k : ◌≡◌ {A = Result Counts StepRefusal} (Err NotFinite) (Ok (refined_counts c)) = sym e ∙ q in let z : ◌≡◌ {A = ℕ} 0 1 = cc in omega arith

    go : ((n : Mesh) → ¬ (begun ed m c order t ≡ whole n)) → (w : Made) → begun ed m c order t ≡ w → (step ed m c order t).answer ≡ Err NotFinite
    go k (whole n) e = absurd (k n e)
    go k not_finite_made e = ap (λ o. o.answer) (step-made ed m c order t ha ho hr not_finite_made e)
