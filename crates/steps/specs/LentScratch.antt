-- What the content of scratch cannot do: it shows neither in the answer of a step nor in what it leaves in the tables.
--     SameNumbers t t'         the tables have as many rows of each kind
--     SameMesh c t t'          the rows that the counts c count are the same
--     LentScratch              the claim: with as many rows of scratch the answers are the same, and so are the rows of the mesh
--                               afterwards, be it refined or as found
-- Scratch itself is left as found by 30, 31 and 32, and its counted rows are zero otherwise: `Untouched` and `step` say so.
use Rattle.std.specs.Prelude.{◌≡◌, List, ℕ, ◌<◌, Ok}
use Rattle.tables.specs.Mesh.{Mesh, valence, start, mark, face_start, corner, point_rows, edge_rows, face_rows}
use Rattle.tables.specs.Records.{position_at, edge_at}
use Rattle.tables.specs.declared.Counts.{Counts}
use Rattle.refined_meshes.specs.declared.Edition.{Edition}
use Rattle.steps.specs.Step.{step}

pub record SameNumbers (t t' : Mesh) : Type 0 where
  pub points : point_rows t' ≡ point_rows t
  pub edges : edge_rows t' ≡ edge_rows t
  pub faces : face_rows t' ≡ face_rows t

pub record SameMesh (c : Counts) (t t' : Mesh) : Type 0 where
  pub position : (p : ℕ) → p < c.points → position_at t'.positions p ≡ position_at t.positions p
  pub valence : (p : ℕ) → p < c.points → valence t' p ≡ valence t p
  pub start : (p : ℕ) → p < c.points → start t' p ≡ start t p
  pub mark : (p : ℕ) → p < c.points → mark t' p ≡ mark t p
  pub edge : (e : ℕ) → e < c.edges → edge_at t'.edges t'.intervals e ≡ edge_at t.edges t.intervals e
  pub face-start : (f : ℕ) → f < c.faces → face_start t' f ≡ face_start t f
  pub corner : (f k : ℕ) → f < c.faces → k < 4 → corner t' f k ≡ corner t f k

pub record ShowsNothing (ed : Edition) (m : Mesh) (c : Counts) (order : List ℕ) (t t' : Mesh) : Type 0 where
  pub answer : (step ed m c order t').answer ≡ (step ed m c order t).answer
  pub refined : (k : Counts) → (step ed m c order t).answer ≡ Ok k → SameMesh k (step ed m c order t).tables (step ed m c order t').tables

abbrev pub LentScratch : Type 0
LentScratch =
    (ed : Edition) (m : Mesh) (c : Counts) (order : List ℕ) (t t' : Mesh) → SameNumbers t t' → ShowsNothing ed m c order t t'
