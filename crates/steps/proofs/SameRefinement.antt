-- The refinement that visits make stands in all tables of the same rows. Assumes nothing.
--     faces-fewer              the mesh after a step has at least as many faces as the mesh before
--     refines-same             what the visits make of a closed mesh, in tables of the same rows
use mathlib.Core.Path.{sym, ◌∙◌, subst}
use mathlib.Core.List.{List}
use Prim.Native.Nat.{ℕ, ◌+◌, ◌*◌, ◌≤◌, ◌<◌}
use native.Mathlib.Omega.{arith}
use native.Mathlib.Decide.{dec_lt}
use Rattle.tables.specs.Mesh.{Mesh, start}
use Rattle.tables.specs.declared.Counts.{Counts}
use Rattle.closed_meshes.specs.Mesh.{MeshOver}
use Rattle.closed_meshes.specs.Closed.{Closed}
use Rattle.closed_meshes.specs.Refinement.{mid, face_point, dst, join}
use Rattle.closed_meshes.specs.Renumbering.{Row}
use Rattle.refined_meshes.specs.declared.Edition.{Edition}
use Rattle.refined_meshes.specs.Refines.{OldStart, Refines}
use Rattle.steps.specs.Step.{refined_counts}
use Rattle.steps.proofs.Rows.{SameRows, stands_same}

module _
    {ed : Edition} {m : Mesh} {c : Counts} {t : MeshOver (Row c.points) (Row c.edges) (Row c.faces)} {d : Closed t} {order : List ℕ} {m' : Mesh}
    (r : Refines ed m t d order m')
  where
    -- Every face has a first new face.
    pub faces-fewer : c.faces ≤ 2 * c.edges
    faces-fewer = go (dec_lt (2 * c.edges) c.faces)
      where
        go : Dec (2 * c.edges < c.faces) → c.faces ≤ 2 * c.edges
        go (yes l) =
            let f = r.numbering.faces.to (d.face_dart (2 * c.edges, l)) in omega (arith, f.1, r.first-row (2 * c.edges, l))
        go (no l) = omega arith

    -- Every row that the counts after the step count is the same.
    module _ {m'' : Mesh} (s : SameRows (refined_counts c) m' m'') where
      unfoldable pub refines-same : Refines ed m t d order m''
      refines-same =
          record {
            mesh = r.mesh;
            stands = stands_same s r.stands;
            numbering = r.numbering;
            touching = r.touching;
            old_row = r.old_row;
            origin-row = r.origin-row;
            first-row = r.first-row;
            mid_row = λ e. s.edges (e.0 * 8 + 1) (omega (arith, e.1)) ∙ r.mid_row e;
            centre-row = λ f. s.faces (f.0 * 5 + 1) (omega (arith, f.1, faces-fewer)) ∙ r.centre-row f;
            old-mark = λ p. s.points (p.0 * 3 + 2) (omega (arith, p.1)) ∙ r.old-mark p;
            mid-mark = λ e. let p = r.numbering.points.to (mid e) in s.points (p.0 * 3 + 2) (omega (arith, p.1)) ∙ r.mid-mark e;
            centre-mark =
                λ f. let p = r.numbering.points.to (face_point f) in s.points (p.0 * 3 + 2) (omega (arith, p.1)) ∙ r.centre-mark f;
            origin-interval = λ e. s.intervals e.0 (omega (arith, e.1)) ∙ r.origin-interval e;
            destination-interval = λ e. let i = r.numbering.edges.to (dst e) in s.intervals i.0 i.1 ∙ r.destination-interval e;
            join-interval = λ x. let i = r.numbering.edges.to (join x) in s.intervals i.0 i.1 ∙ r.join-interval x;
            old-start =
                λ p.
                subst (OldStart ed t d (λ x. (r.numbering.edges.to x).0) p (start m p.0))
                (sym (s.points (p.0 * 3 + 1) (omega (arith, p.1)))) (r.old-start p);
            mid_start = λ e. let p = r.numbering.points.to (mid e) in s.points (p.0 * 3 + 1) (omega (arith, p.1)) ∙ r.mid_start e;
            centre-start =
                λ f. let p = r.numbering.points.to (face_point f) in s.points (p.0 * 3 + 1) (omega (arith, p.1)) ∙ r.centre-start f;
            face-start = λ x. let f = r.numbering.faces.to x in s.faces (f.0 * 5) (omega (arith, f.1)) ∙ r.face-start x;
          }
