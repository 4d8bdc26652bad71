-- What building from a text s in the tables m leaves, within the limits b.
--     UntouchedEarly         1 and 2 leave the tables as they are
--     AsLong m t              the tables t are as long as the tables m
--     WithinLimits b m t k   the tables t, as long as m, hold a mesh with the counts k that passes the audit and is within the limits
--     AcceptedWithin         what is accepted is such a mesh
use Rattle.std.specs.Prelude.{◌≡◌, true, List, ◌⊎◌, ℕ, ◌*◌, ◌≤◌, length, Ok, Err}
use Rattle.tables.specs.Mesh.{Mesh}
use Rattle.tables.specs.declared.Counts.{Counts}
use Rattle.audited_meshes.specs.Audit.{audit}
use Rattle.built_meshes.specs.declared.Ground.TheVariants.{OverCounts}
use Rattle.building_tests.specs.Lent.{limits_of}
use Rattle.building_tests.specs.declared.Bounds.{Bounds}
use Rattle.text_meshes.specs.TextBuilding.{build_text}
use Rattle.text_meshes.specs.declared.TextRefusal.TheVariants.{NotText, Refused}

abbrev pub UntouchedEarly : Type 0
UntouchedEarly =
    (b : Bounds) (s : List ℕ) (m : Mesh) →
    ((build_text b s m).answer ≡ Err NotText) ⊎ ((build_text b s m).answer ≡ Err (Refused OverCounts)) → (build_text b s m).tables ≡ m

pub record AsLong (m t : Mesh) : Type 0 where
  pub positions : length t.positions ≡ length m.positions
  pub points : length t.points ≡ length m.points
  pub edges : length t.edges ≡ length m.edges
  pub intervals : length t.intervals ≡ length m.intervals
  pub faces : length t.faces ≡ length m.faces

-- each edge is listed twice
pub record WithinLimits (b : Bounds) (m t : Mesh) (k : Counts) : Type 0 where
  pub passes : audit t k.points k.edges k.faces ≡ true
  pub few-points : k.points ≤ (limits_of b).points
  pub few-edges : 2 * k.edges ≤ (limits_of b).listed
  pub few-faces : k.faces ≤ (limits_of b).faces
  pub as_long : AsLong m t

abbrev pub AcceptedWithin : Type 0
AcceptedWithin =
    (b : Bounds) (s : List ℕ) (m : Mesh) (k : Counts) → (build_text b s m).answer ≡ Ok k →
    WithinLimits b m (build_text b s m).tables k
