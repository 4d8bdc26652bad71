-- The laws of what the C functions that audit and find a depth answer. Assumes nothing.
use mathlib.Core.Path.{◌≡◌, sym}
use mathlib.Core.Bool.{true, false}
use mathlib.Core.List.{List}
use Prim.Native.Nat.{ℕ}
use lib.Ieee.{Float}
use Rattle.std.specs.Prelude.{Result}
use Rattle.crossings.specs.declared.NoCrossing.{NoCrossing}
use Rattle.tables.specs.Mesh.{Mesh}
use Rattle.tables.specs.declared.Counts.{Counts}
use Rattle.audited_meshes.specs.Audit.{audit}
use Rattle.crossings.specs.Crossings as crossings
use Rattle.station_answers.specs.Answers.{edge_after}
use Rattle.station_audits.specs.Told.{audited, Finding, found}

-- k are the counts as the code loaded them
module _ (m : Mesh) {k c : Counts} (e : k ≡ c) where
  pub audited-closed : audit m k.points k.edges k.faces ≡ true → 0 ≡ audited m c
  audited-closed h = rw (sym e, h)

  pub audited-open : audit m k.points k.edges k.faces ≡ false → 30 ≡ audited m c
  audited-open h = rw (sym e, h)

-- the answer of the depth finder, from the counts k as the code loaded them
pub crossing-told : (xs : List ℕ) (m : Mesh) {k : Counts} (c : Counts) (d : Float) {ys : List ℕ} {a : Result ℕ NoCrossing} {n : ℕ} → k ≡ c
    → a ≡ crossings.find m k d → n ≡ crossings.number_of a → ys ≡ edge_after xs a
    → ◌≡◌ {A = Finding} (record { answer = n; edge = ys }) (found xs (crossings.find m c d))
crossing-told xs m c d p e n q = rw (sym p, sym e, n, q)
