-- When a step of an edition ed gives each of its answers, in document 01's words and order.
--     Short c t                the tables t have fewer rows of a kind than a mesh with the counts c
--     HasNoRoom c m t            so have the tables m or scratch t, or the counts c are over the ceilings
--     Due ed m c order t a     the answer a is due: its condition holds, and that of no ground before it
--     FirstGround             the claim: the answer is the one that is due, both ways
use Rattle.std.specs.Prelude.{◌≡◌, List, ◌⊎◌, ◌↔◌, ℕ, ◌<◌, Result, Ok, Err}
use Rattle.tables.specs.Layout.{point_ceiling, edge_ceiling, face_ceiling}
use Rattle.tables.specs.Mesh.{Mesh, point_rows, edge_rows, face_rows}
use Rattle.tables.specs.declared.Counts.{Counts}
use Rattle.audited_meshes.specs.Audited.{Audited}
use Rattle.refined_meshes.specs.declared.Edition.{Edition}
use Rattle.refined_meshes.specs.Order.{EachOnce}
use Rattle.steps.specs.declared.StepRefusal.{StepRefusal}
use Rattle.steps.specs.declared.StepRefusal.TheVariants.{NotClosed, NotEachFaceOnce, NoRoom, NotFinite}
use Rattle.steps.specs.Step.{refined_counts, step}
use Rattle.tables.specs.Counted.{first_rows}
use Rattle.steps.specs.OneStep.{AllFinite}

abbrev pub Short : Counts → Mesh → Type 0
Short c t = (point_rows t < c.points) ⊎ ((edge_rows t < c.edges) ⊎ (face_rows t < c.faces))

abbrev pub HasNoRoom : Counts → Mesh → Mesh → Type 0
HasNoRoom c m t =
    (Short c m ⊎ Short c t) ⊎ ((point_ceiling < c.points) ⊎ ((edge_ceiling < c.edges) ⊎ (face_ceiling < c.faces)))

module _ (ed : Edition) (m : Mesh) (c : Counts) (order : List ℕ) (t : Mesh) where
  -- the grounds that are not met
  abbrev pub ClosedMesh : Type 0
  ClosedMesh = Audited m c.points c.edges c.faces

  abbrev pub RoomEnough : Type 0
  RoomEnough = ¬ HasNoRoom (refined_counts c) m t

  abbrev pub Due : Result Counts StepRefusal → Type 0
  Due (Err NotClosed) = ¬ ClosedMesh
  Due (Err NotEachFaceOnce) = ClosedMesh × (¬ EachOnce c.faces order)
  Due (Err NoRoom) = ClosedMesh × EachOnce c.faces order × HasNoRoom (refined_counts c) m t
  Due (Err NotFinite) = ClosedMesh × EachOnce c.faces order × RoomEnough × (¬ AllFinite ed (first_rows c m) c)
  Due (Ok k) = ClosedMesh × EachOnce c.faces order × RoomEnough × AllFinite ed (first_rows c m) c × (k ≡ refined_counts c)

abbrev pub FirstGround : Type 0
FirstGround =
    (ed : Edition) (m : Mesh) (c : Counts) (order : List ℕ) (t : Mesh) (a : Result Counts StepRefusal) → ((step ed m c order t).answer ≡ a) ↔ Due ed m c order t a
