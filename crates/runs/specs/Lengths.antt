-- Tables of the same lengths.
--     SameLengths m m'    each of the five tables is as long in m as in m'
use Rattle.std.specs.Prelude.{◌≡◌, length}
use Rattle.tables.specs.Mesh.{Mesh}

pub record SameLengths (m m' : Mesh) : Type 0 where
  pub positions : length m.positions ≡ length m'.positions
  pub points : length m.points ≡ length m'.points
  pub edges : length m.edges ≡ length m'.edges
  pub intervals : length m.intervals ≡ length m'.intervals
  pub faces : length m.faces ≡ length m'.faces
