-- The laws of the tests of a step, one after the other. Assumes nothing.
use Rattle.std.specs.Prelude.{Ok, Err}
use mathlib.Core.Path.{◌≡◌}
use mathlib.Core.Bool.{Bool, true, false}
use mathlib.Core.List.{List}
use Prim.Native.Nat.{ℕ, ◌+◌, ◌*◌, ◌<◌}
use lib.ListN.{length}
use native.Mathlib.Omega.{arith}
use Rattle.tables.specs.Mesh.{Mesh}
use Rattle.tables.specs.declared.Counts.{Counts}
use Rattle.audited_meshes.specs.Audit.{audit}
use Rattle.audited_meshes.proofs.Audited.{audit-is-audited}
use Rattle.steps.specs.declared.StepRefusal.TheVariants.{NotClosed, NotEachFaceOnce, NoRoom}
use Rattle.steps.specs.Step.{refined_counts, each_face_once, within_ceilings, room_for, tested}
use Rattle.tables.specs.Counted.{rows_for}

module _ (m : Mesh) (c : Counts) (order : List ℕ) (t : Mesh) where
  abbrev Passes : Type 0
  Passes = audit m c.points c.edges c.faces ≡ true

  abbrev once : Bool
  once = each_face_once c.faces order

  pub not-closed : audit m c.points c.edges c.faces ≡ false → Err NotClosed ≡ tested m c order t
  not-closed a = rw a

  pub not-once : Passes → once ≡ false → Err NotEachFaceOnce ≡ tested m c order t
  not-once a o = rw (a, o)

  pub no-room-in-tables : Passes → once ≡ true → rows_for (refined_counts c) m ≡ false → Err NoRoom ≡ tested m c order t
  unfolding room_for
  no-room-in-tables a o r = rw (a, o, r)

  pub no-room-in-scratch : Passes → once ≡ true → rows_for (refined_counts c) m ≡ true → rows_for (refined_counts c) t ≡ false
      → Err NoRoom ≡ tested m c order t
  unfolding room_for
  no-room-in-scratch a o r s = rw (a, o, r, s)

  pub over-ceilings : Passes → once ≡ true → rows_for (refined_counts c) m ≡ true → rows_for (refined_counts c) t ≡ true
      → within_ceilings (refined_counts c) ≡ false → Err NoRoom ≡ tested m c order t
  unfolding room_for
  over-ceilings a o r s w = rw (a, o, r, s, w)

  pub no-ground : Passes → once ≡ true → rows_for (refined_counts c) m ≡ true → rows_for (refined_counts c) t ≡ true
      → within_ceilings (refined_counts c) ≡ true → Ok (refined_counts c) ≡ tested m c order t
  unfolding room_for
  no-ground a o r s w = rw (a, o, r, s, w)

  -- the counts of an audited mesh are far below what a number holds
  pub counts-fit : Passes → length m.positions < 18446744073709551616 → length m.edges < 18446744073709551616
      → length m.faces < 18446744073709551616
      → (c.points + c.edges + c.faces < 18446744073709551616) × (4 * c.edges < 18446744073709551616)
  counts-fit a lp le lf =
      let h = (audit-is-audited m c.points c.edges c.faces).0 a in
      (omega (arith, h.points-fit, h.edges_fit, h.faces-fit), omega (arith, h.edges_fit))
