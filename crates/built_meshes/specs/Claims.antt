-- What is claimed of building, within limits under which every face number differs from the none mark.
--     FirstGround          building refuses by a ground exactly if it is the first that is met, in document 01's order
--     RefusalsHold         a refusal by a ground: the ground holds, and the tables are untouched (2, 3, 4) or zeroed
--     AcceptsExactly       building accepts exactly if no ground holds
--     AcceptedAudited      what it accepts passes the audit, with all points and faces and half as many edges as points listed;
--                           the edge rows that ground 4 counts beyond the last edge are zero
--     UntouchedBeyond      whatever the answer, the rows beyond those that ground 4 counts are untouched
use Rattle.std.specs.Prelude.{◌≡◌, true, [], ◌∷◌, ◌↔◌, ℕ, ◌*◌, ◌<◌, ◌≤◌, length, Ok, Err}
use Rattle.std.specs.Float.Ieee.{of_bits}
use Rattle.std.specs.Float.{binary64}
use Rattle.t_spline.specs.declared.TnurccEdge.{TnurccEdge}
use Rattle.tables.specs.Mesh.{Mesh, none}
use Rattle.tables.specs.Counted.{zeroed_rows}
use Rattle.tables.specs.Records.{edge_at}
use Rattle.tables.specs.declared.Counts.{Counts}
use Rattle.audited_meshes.specs.Audit.{audit}
use Rattle.built_meshes.specs.Lists.{Lists, points_of, faces_of, rows_of}
use Rattle.tables.specs.declared.Sizes.{Sizes}
use Rattle.built_meshes.specs.Answers.{ground_number}
use Rattle.built_meshes.specs.Building.{build}
use Rattle.built_meshes.specs.Beyond.{Within}
use Rattle.built_meshes.specs.Grounds.{Where, FirstMet, Holds}
use Rattle.built_meshes.specs.declared.Ground.{Ground}

abbrev pub FirstGround : Type 0
FirstGround =
    (c : Sizes) (l : Lists) (m : Mesh) → c.faces ≤ none → (g : Ground) →
    ((build c l m).answer ≡ Err g) ↔ ((w : Where) × FirstMet c l m w g)

pub record RefusedBy (c : Sizes) (l : Lists) (m : Mesh) (g : Ground) : Type 0 where
  pub holds : Holds c l m g
  pub untouched : ground_number g < 10 → (build c l m).tables ≡ m
  pub zeroed : 10 ≤ ground_number g → (build c l m).tables ≡ zeroed_rows (rows_of l) m

abbrev pub RefusalsHold : Type 0
RefusalsHold = (c : Sizes) (l : Lists) (m : Mesh) → c.faces ≤ none → (g : Ground) → (build c l m).answer ≡ Err g → RefusedBy c l m g

abbrev pub AcceptsExactly : Type 0
AcceptsExactly =
    (c : Sizes) (l : Lists) (m : Mesh) → c.faces ≤ none →
    ((k : Counts) × ((build c l m).answer ≡ Ok k)) ↔ ((g : Ground) → ¬ Holds c l m g)

abbrev pub zero_edge : TnurccEdge
zero_edge =
    record {
      connections = 0 ∷ 0 ∷ 0 ∷ 0 ∷ [];
      face_left = 0;
      face_right = 0;
      origin = 0;
      dest = 0;
      knot_interval = of_bits binary64 0;
    }

pub record AuditedCounts (l : Lists) (t : Mesh) (k : Counts) : Type 0 where
  pub passes : audit t k.points k.edges k.faces ≡ true
  pub all-points : k.points ≡ points_of l
  pub all-faces : k.faces ≡ faces_of l
  pub half-listed : 2 * k.edges ≡ length l.listed
  pub zero-beyond : (e : ℕ) → k.edges ≤ e → e < length l.listed → edge_at t.edges t.intervals e ≡ zero_edge

abbrev pub AcceptedAudited : Type 0
AcceptedAudited =
    (c : Sizes) (l : Lists) (m : Mesh) → c.faces ≤ none → (k : Counts) → (build c l m).answer ≡ Ok k →
    AuditedCounts l (build c l m).tables k

abbrev pub UntouchedBeyond : Type 0
UntouchedBeyond = (c : Sizes) (l : Lists) (m : Mesh) → c.faces ≤ none → Within l m (build c l m).tables
