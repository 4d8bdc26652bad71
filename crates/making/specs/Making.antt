-- What must hold so that the refined mesh can be made in scratch, and what making answers.
--     Ready m c order t     the mesh m with the counts c is closed, the order is each face once, and there is room in the tables t
--     made_as r t            the refined mesh, made in the tables t; or the word that a position is not finite
use Rattle.std.specs.Prelude.{◌≡◌, Bool, true, false, List, ℕ, ◌+◌, ◌*◌, ◌≤◌}
use Rattle.tables.specs.Mesh.{Mesh, point_rows, edge_rows, face_rows}
use Rattle.tables.specs.declared.Counts.{Counts}
use Rattle.audited_meshes.specs.Audit.{audit}
use Rattle.refined_meshes.specs.Order.{EachOnce}
use Rattle.visiting.specs.Visiting.{Ceilings}
use Rattle.steps.specs.Step.{Made, whole, not_finite_made}

pub record Ready (m : Mesh) (c : Counts) (order : List ℕ) (t : Mesh) : Type 0 where
  pub closed : audit m c.points c.edges c.faces ≡ true
  pub once : EachOnce c.faces order
  pub points-room : c.points + c.edges + c.faces ≤ point_rows t
  pub edges_room : 4 * c.edges ≤ edge_rows t
  pub faces-room : 2 * c.edges ≤ face_rows t
  pub ceilings : Ceilings c.points c.edges c.faces

abbrev pub made_as : Bool → Mesh → Made
made_as true t = whole t
made_as false t = not_finite_made
