-- put_joins meets its contract. The invariant: the first i turns are made.
use Rattle.ring_rows.specs.Rings.{ring}
use Rattle.splitting.specs.Scratch.{tables_of}
use Rattle.refined_meshes.specs.Ring.{put_join}
use Rattle.refined_meshes.specs.State.{State}
use Rattle.refined_meshes.specs.Turns.{turns}
use Rattle.tables.specs.declared.Counts.{Counts}
use lib.ListN.{length}
use Prim.Native.Nat.{ℕ}
use mathlib.Core.List.{List}
use mathlib.Core.Path.{◌≡◌}
use Rattle.ring_edges.proofs.put_joins.Given as goal

abbrev pub invariant-loop-i : goal.invariant-loop-i
invariant-loop-i l = (length l.edges ≡ length l.initial.edges) × (length l.intervals ≡ length l.initial.intervals) ×
    ((es ps fs : List ℕ) (c : Counts) → ◌≡◌ {A = State} (tables_of ps l.edges l.intervals fs c)
    (turns l.i (put_join (ring l.rows es l.firsts l.seconds l.mids l.found)) (tables_of ps l.initial.edges l.initial.intervals fs c)))
