-- is_sole meets its contract. The invariant: the walk passed with each window before.
use Prim.Native.Nat.{ℕ, ◌+◌, ◌*◌, ◌/◌, ◌<◌}
use mathlib.Core.Path.{◌≡◌}
use Rattle.tables.specs.Parts.{point_tables}
use Rattle.sole_edges.specs.Sole.{ends_window, RoundIn}
use Rattle.sole_edges.proofs.is_sole.Given as goal

abbrev pub invariant-loop-k : goal.invariant-loop-k
invariant-loop-k l =
    (l.passes ≡ l.np / 32768 + 1) × ((j : ℕ) → j < l.k → RoundIn (point_tables l.points l.edges) l.ne l.p (j * ends_window))
