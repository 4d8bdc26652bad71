-- What an accepted step of an edition ed makes of a mesh, and what a refused one leaves.
--     Refinement ed m c t d order m'   the tables m' hold the refinement of the mesh t, which is closed by d and stands in the rows m,
--                                   as visits in the order make it; and the position of each point is its rule's answer from m alone
--     Binary64 c m                  the intervals of the mesh are binary64 numbers, as all numbers of the lent tables are
--     Accepted ed m c order t h c'  what is claimed of an accepted step
--     OneStep                       the claim: it holds of every accepted step
--     Refused ed m c order t g      what is claimed of a step that is refused by the ground number g
--     Untouched                     the claim: it holds of every refused step
--     AllFinite ed m c              every new position is finite, by its rule from the rows m of the mesh alone
--     NotFiniteExactly            the claim: where 30 to 32 do not refuse, 33 does exactly if not every new position is finite
use Rattle.std.specs.Prelude.{◌≡◌, true, List, ◌↔◌, ℕ, ◌<◌, T, Ok, Err}
use Rattle.std.proofs.Math.Option.{some}
use Rattle.std.specs.Float.Ieee.{fits}
use Rattle.std.specs.Float.{binary64}
use Rattle.positions.specs.Position.{finite_position}
use Rattle.tables.specs.Mesh.{Mesh, interval}
use Rattle.tables.specs.Records.{position_at}
use Rattle.tables.specs.declared.Counts.{Counts}
use Rattle.closed_meshes.specs.Mesh.{MeshOver}
use Rattle.closed_meshes.specs.Closed.{Closed}
use Rattle.closed_meshes.specs.Refinement.{old, mid, face_point}
use Rattle.closed_meshes.specs.Renumbering.{Row}
use Rattle.audited_meshes.specs.Audit.{audit}
use Rattle.audited_meshes.specs.Rows.{HoldsClosed}
use Rattle.refined_meshes.specs.declared.Edition.{Edition}
use Rattle.refined_meshes.specs.Refines.{Refines}
use Rattle.position_rules.specs.FacePoint.{face_point_in}
use Rattle.position_rules.specs.Rules.{edge_point_in, old_point_in}
use Rattle.steps.specs.declared.StepRefusal.TheVariants.{NotFinite}
use Rattle.steps.specs.Step.{step_ground, refined_counts, each_face_once, room_for, whole, made, step}
use Rattle.tables.specs.Counted.{first_rows, zeroed_rows}

pub record Refinement
    (ed : Edition) (m : Mesh) (c : Counts) (t : MeshOver (Row c.points) (Row c.edges) (Row c.faces)) (d : Closed t) (order : List ℕ) (m' : Mesh) : Type 0
  where
    -- The mesh after the step is closed.
    pub holds : HoldsClosed m' (refined_counts c).points (refined_counts c).edges (refined_counts c).faces
    -- It is the refinement of the mesh before, in rows that are numbered by the visits, with its marks, intervals and start edges.
    pub refines : Refines ed m t d order m'
    -- What is closed and what is the refinement is one mesh.
    pub one-mesh : holds.mesh ≡ refines.mesh
    -- Every position is its rule's answer.
    pub old-point :
        (p : Row c.points) →
        position_at m'.positions (refines.numbering.points.to (old p)).0 ≡ old_point_in ed m c.edges p.0
    pub edge-point :
        (e : Row c.edges) →
        position_at m'.positions (refines.numbering.points.to (mid e)).0 ≡ edge_point_in m c.edges e.0
    pub face-point :
        (f : Row c.faces) →
        position_at m'.positions (refines.numbering.points.to (face_point f)).0 ≡ face_point_in m c.edges f.0

-- A number of a definition may have more digits than a binary64 number. Those that are stored in the tables are binary64.
abbrev pub Binary64 : Counts → Mesh → Type 0
Binary64 c m = (e : ℕ) → e < c.edges → T (fits binary64 (interval m e))

pub record Accepted
    (ed : Edition) (m : Mesh) (c : Counts) (order : List ℕ) (t : Mesh) (h : HoldsClosed m c.points c.edges c.faces) (c' : Counts) : Type 0
  where
    -- V, E, F become V + E + F, 4 E, 2 E.
    pub counts : c' ≡ refined_counts c
    -- What stands in the tables is the mesh that visits in the order handed in and the position rules make.
    pub in_order :
        made ed (first_rows c m) c order (first_rows (refined_counts c) t) ≡ whole (first_rows (refined_counts c) (step ed m c order t).tables)
    pub refinement : Refinement ed (first_rows c m) c h.mesh h.closed order (step ed m c order t).tables
    pub numbers : Binary64 (refined_counts c) (step ed m c order t).tables

abbrev pub OneStep : Type 0
OneStep =
    (ed : Edition) (m : Mesh) (c : Counts) (order : List ℕ) (t : Mesh) (h : HoldsClosed m c.points c.edges c.faces) → Binary64 c m →
    (c' : Counts) → (step ed m c order t).answer ≡ Ok c' → Accepted ed m c order t h c'

pub record Refused (ed : Edition) (m : Mesh) (c : Counts) (order : List ℕ) (t : Mesh) (g : ℕ) : Type 0 where
  -- Every ground leaves the tables as found, and all but 33 leave scratch as found.
  pub tables : (step ed m c order t).tables ≡ m
  pub scratch : g < 33 → (step ed m c order t).scratch ≡ t
  -- 33 leaves the rows of scratch that 32 counts zeroed.
  pub zeroed : g ≡ 33 → (step ed m c order t).scratch ≡ zeroed_rows (refined_counts c) t

abbrev pub Untouched : Type 0
Untouched =
    (ed : Edition) (m : Mesh) (c : Counts) (order : List ℕ) (t : Mesh) (g : ℕ) → step_ground (step ed m c order t).answer ≡ some g → Refused ed m c order t g

-- In it is no visiting order, and no row number of a new point.
pub record AllFinite (ed : Edition) (m : Mesh) (c : Counts) : Type 0 where
  pub face-points : (f : ℕ) → f < c.faces → finite_position (face_point_in m c.edges f) ≡ true
  pub edge-points : (e : ℕ) → e < c.edges → finite_position (edge_point_in m c.edges e) ≡ true
  pub old-points : (p : ℕ) → p < c.points → finite_position (old_point_in ed m c.edges p) ≡ true

-- Where they are, the other stored numbers are finite too: `OneStep` has it in `holds`.
abbrev pub NotFiniteExactly : Type 0
NotFiniteExactly =
    (ed : Edition) (m : Mesh) (c : Counts) (order : List ℕ) (t : Mesh) → audit m c.points c.edges c.faces ≡ true →
    each_face_once c.faces order ≡ true → room_for (refined_counts c) m t ≡ true →
    ((step ed m c order t).answer ≡ Err NotFinite) ↔ (¬ AllFinite ed (first_rows c m) c)
