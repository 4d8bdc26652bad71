-- The positions before the edge points are put over what weighed for the edges, and what is asked so that they can be.
--     placed_three        face points, what weighs for the edges, old points
--     OverFits           what the loop that puts the edge points over m asks of the tables
--     MiddlesThere       m stands in the rows of the edge points
--     MidRows            these rows come after those of the old points, and each edge has its own
use Rattle.std.specs.Prelude.{◌≡◌, List, ℕ, ◌+◌, ◌*◌, ◌≤◌, ◌<◌, get_or, length, Float}
use Rattle.tables.specs.Layout.{position_width, edge_width, dest_word}
use Rattle.tables.specs.Mesh.{Mesh}
use Rattle.tables.specs.Records.{position_at}
use Rattle.tables.specs.declared.Counts.{Counts}
use Rattle.position_rules.specs.EdgePoint.{edge_middle_of}
use Rattle.edge_points.specs.Sides.{SidesThere}
use Rattle.refined_meshes.specs.declared.Edition.{Edition}
use Rattle.refined_meshes.specs.State.{State}
use Rattle.steps.specs.Positions.{Placing, so_far, placed_by, face_point_row, edge_point_row, face_point_rule, weighted_rule, old_point_rule}

pub record OverFits (es : List ℕ) (is : List Float) (ne : ℕ) (newedges newfaces : List ℕ) (newpositions : List Float) : Type 0 where
  pub sides-there : (new : List Float) → length new ≡ length newpositions → (e : ℕ) → e < ne → SidesThere es is new newfaces e
  pub row-there : (e : ℕ) → e < ne → e * edge_width + edge_width ≤ length newedges
  pub place-there : (e : ℕ) → e < ne →
      get_or newedges (e * edge_width + dest_word) 0 * position_width + position_width ≤ length newpositions
  pub apart : (i j : ℕ) → i < ne → j < ne → get_or newedges (i * edge_width + dest_word) 0 ≡ get_or newedges (j * edge_width + dest_word) 0 → i ≡ j

abbrev pub MiddlesThere : List Float → List ℕ → List Float → ℕ → List ℕ → List Float → Type 0
MiddlesThere ps es is ne newedges newpositions =
    (e : ℕ) → e < ne → position_at newpositions (get_or newedges (e * edge_width + dest_word) 0) ≡ edge_middle_of ps es is e

pub record MidRows (np ne : ℕ) (newedges : List ℕ) : Type 0 where
  pub behind : (e : ℕ) → e < ne → np ≤ get_or newedges (e * edge_width + dest_word) 0
  pub apart : (i j : ℕ) → i < ne → j < ne → get_or newedges (i * edge_width + dest_word) 0 ≡ get_or newedges (j * edge_width + dest_word) 0 → i ≡ j

abbrev pub placed_three : Edition → Mesh → Counts → State → List Float → Placing
placed_three ed m c s ps =
    placed_by c.points (λ p. p) (old_point_rule m s)
    (placed_by c.edges (edge_point_row s) (weighted_rule ed m s) (placed_by c.faces (face_point_row s) (face_point_rule m c) (so_far ps)))
