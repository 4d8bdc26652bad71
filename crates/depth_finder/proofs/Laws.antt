-- The laws of a search in an audited mesh. Assumes nothing.
use mathlib.Core.Path.{◌≡◌}
use mathlib.Core.Bool.{true}
use Prim.Native.Nat.{ℕ, ◌*◌, ◌≤◌, ◌<◌}
use lib.ListN.{length}
use native.Mathlib.Omega.{arith}
use Rattle.tables.specs.Mesh.{Mesh}
use Rattle.tables.specs.declared.Counts.{Counts}
use Rattle.audited_meshes.specs.Audit.{audit}
use Rattle.audited_meshes.proofs.Audited.{audit-is-audited}
use Rattle.depth_finder.specs.Ends.{EndsStand}

module _ (m : Mesh) (c : Counts) (passes : audit m c.points c.edges c.faces ≡ true) where
  -- the rows of the edges stand in their table
  pub rows-stand : c.edges * 8 ≤ length m.edges
  rows-stand = omega (arith, ((audit-is-audited m c.points c.edges c.faces).0 passes).edges_fit)

  -- the ends of each edge are points, whose positions stand in theirs
  pub ends-stand : (e : ℕ) → e < c.edges → EndsStand m.positions m.edges e
  ends-stand e l =
      let a = (audit-is-audited m c.points c.edges c.faces).0 passes in
      let r = a.edge-in-range e l in
      record {
        origin-stands = omega (arith, a.points-fit, r.origin-in-range);
        dest-stands = omega (arith, a.points-fit, r.dest-in-range);
      }
