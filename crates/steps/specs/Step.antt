-- One step of refining in an edition ed, for tables, counts, order and scratch of any content and any lengths, in document 01's words and
-- order. The grounds 30 to 32 are the same in both editions.
--     refusal_number g          document 01's number of the ground g
--     step_numbers a            the answer in document 01's numbers: points, edges and faces, or the number of the ground
--     step_ground a             the number of the ground that is answered
--     refined_counts c          V, E, F become V + E + F, 4 E, 2 E
--     each_face_once nf order    the order is each of nf faces once
--     within_ceilings c         at most 65,536 points, 131,072 edges and 65,536 faces
--     room_for c m t            room for the mesh with the counts c, in the tables m and in scratch t
--     made ed m c order t      the refined mesh of m, made in the tables t; or the word that a position is not finite
--     StepOutcome              the answer, the tables afterwards, the scratch tables afterwards
--     tested m c order t       the first of the grounds 30, 31 and 32 that holds, or the counts after the step
--     step ed m c order t      the step of the mesh in the tables m with the counts c, in the order handed in, by scratch t
use Rattle.std.specs.Prelude.{Bool, true, false, ◌&&◌, List, [], ◌∷◌, ℕ, ◌+◌, ◌*◌, eqb, ltb, leb, length, get_or, Float, Result, Ok, Err}
use Rattle.std.proofs.Math.Option.{Option, none, some}
use Rattle.tables.specs.Layout.{position_width, point_width, edge_width, face_width, point_ceiling, edge_ceiling, face_ceiling}
use Rattle.tables.specs.Mesh.{Mesh}
use Rattle.tables.specs.Counted.{rows_for, first_rows, zeroed_rows, over_rows}
use Rattle.tables.specs.declared.Counts.{Counts}
use Rattle.audited_meshes.specs.Folds.{every, distinct}
use Rattle.audited_meshes.specs.Audit.{audit}
use Rattle.refined_meshes.specs.declared.Edition.{Edition}
use Rattle.refined_meshes.specs.State.{State, with_positions}
use Rattle.refined_meshes.specs.Settled.{settled_rows}
use Rattle.steps.specs.declared.StepRefusal.{StepRefusal}
use Rattle.steps.specs.declared.StepRefusal.TheVariants.{NotClosed, NotEachFaceOnce, NoRoom, NotFinite}
use Rattle.steps.specs.Positions.{Placing, so_far, not_finite, placed_all}

abbrev pub refusal_number : StepRefusal → ℕ
refusal_number NotClosed = 30
refusal_number NotEachFaceOnce = 31
refusal_number NoRoom = 32
refusal_number NotFinite = 33

abbrev pub step_numbers : Result Counts StepRefusal → List ℕ
step_numbers (Ok c) = c.points ∷ c.edges ∷ c.faces ∷ []
step_numbers (Err g) = refusal_number g ∷ []

-- one number is a ground's, three are counts
abbrev ground : List ℕ → Option ℕ
ground [] = none
ground (g ∷ []) = some g
ground (p ∷ e ∷ ns) = none

abbrev pub step_ground : Result Counts StepRefusal → Option ℕ
step_ground a = ground (step_numbers a)

abbrev pub refined_counts : Counts → Counts
refined_counts c =
    record { points = c.points + c.edges + c.faces; edges = 4 * c.edges; faces = 2 * c.edges }

-- as many entries as faces, each a face, no face twice
unfoldable pub each_face_once : ℕ → List ℕ → Bool
unfolding every distinct
each_face_once nf order = eqb (length order) nf && every nf (λ i. ltb (get_or order i 0) nf) && distinct order

unfoldable pub within_ceilings : Counts → Bool
within_ceilings c = leb c.points point_ceiling && leb c.edges edge_ceiling && leb c.faces face_ceiling

unfoldable pub room_for : Counts → Mesh → Mesh → Bool
unfolding rows_for within_ceilings
room_for c m t = rows_for c m && rows_for c t && within_ceilings c

pub data Made : Type 0 where
  whole : Mesh → Made
  not_finite_made : Made

abbrev pub made_of : State → Placing → Made
made_of s (so_far ps) = whole (with_positions ps s)
made_of s not_finite = not_finite_made

-- the positions, once all faces are visited
unfoldable pub placed_rows : Edition → Mesh → Counts → List Float → State → Made
unfolding placed_all
placed_rows ed m c ps s = made_of s (placed_all ed m c s ps)

-- the faces are visited in the order handed in and the rows settled, then the positions are put into their rows
unfoldable pub made : Edition → Mesh → Counts → List ℕ → Mesh → Made
unfolding placed_rows settled_rows
made ed m c order t = placed_rows ed m c t.positions (settled_rows ed m c.points c.edges c.faces order t)

pub record StepOutcome : Type 0 where
  pub answer : Result Counts StepRefusal
  pub tables : Mesh
  pub scratch : Mesh

-- everything untouched
abbrev pub step_refusal : StepRefusal → Mesh → Mesh → StepOutcome
step_refusal g m t = record { answer = Err g; tables = m; scratch = t }

-- the mesh is written only when it is made whole; scratch is zeroed either way
unfoldable pub ended : Mesh → Counts → Mesh → Made → StepOutcome
unfolding zeroed_rows over_rows
ended m c t (whole n) =
    record { answer = Ok c; tables = over_rows c n m; scratch = zeroed_rows c t }
ended m c t not_finite_made = record { answer = Err NotFinite; tables = m; scratch = zeroed_rows c t }

-- by the answers of the tests for 30, 31 and 32, and the counts after the step
abbrev pub tested_if : Bool → Bool → Bool → Counts → Result Counts StepRefusal
tested_if false once room c = Err NotClosed
tested_if true false room c = Err NotEachFaceOnce
tested_if true true false c = Err NoRoom
tested_if true true true c = Ok c

abbrev pub tested : Mesh → Counts → List ℕ → Mesh → Result Counts StepRefusal
tested m c order t =
    tested_if (audit m c.points c.edges c.faces) (each_face_once c.faces order) (room_for (refined_counts c) m t) (refined_counts c)

-- the step, by the answer of its tests
unfoldable pub step_by : Edition → Result Counts StepRefusal → Mesh → Counts → List ℕ → Mesh → StepOutcome
unfolding ended made first_rows
step_by ed (Ok c') m c order t = ended m c' t (made ed (first_rows c m) c order (first_rows c' t))
step_by ed (Err g) m c order t = step_refusal g m t

unfoldable pub step : Edition → Mesh → Counts → List ℕ → Mesh → StepOutcome
unfolding audit each_face_once room_for step_by
step ed m c order t = step_by ed (tested m c order t) m c order t
