-- put_firsts meets its contract. The invariant: the first i turns are made.
use Rattle.ring_rows.specs.Rings.{ring}
use Rattle.splitting.specs.Scratch.{tables_of}
use Rattle.refined_meshes.specs.Ring.{put_first}
use Rattle.refined_meshes.specs.State.{State}
use Rattle.refined_meshes.specs.Turns.{turns}
use Rattle.tables.specs.Parts.{face_tables}
use Rattle.tables.specs.declared.Counts.{Counts}
use lib.Ieee.{Float}
use lib.ListN.{length}
use Prim.Native.Nat.{ℕ}
use mathlib.Core.List.{List, []}
use mathlib.Core.Path.{◌≡◌}
use Rattle.ring_edges.proofs.put_firsts.Given as goal

abbrev pub invariant-loop-i : goal.invariant-loop-i
invariant-loop-i l = (length l.newedges ≡ length l.initial.newedges) × ((ms ps fs : List ℕ) (ds is : List Float) (c : Counts) → ◌≡◌ {A = State}
    (tables_of ps l.newedges is fs c) (turns l.i (put_first (face_tables l.edges []) (ring l.rows l.perimeter l.firsts l.seconds ms ds))
    (tables_of ps l.initial.newedges is fs c)))
