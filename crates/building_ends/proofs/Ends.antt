-- The two ends of `conclude`, over plain variables. Assumes nothing.
use mathlib.Core.Path.{◌≡◌}
use mathlib.Core.List.{List}
use Prim.Native.Nat.{ℕ, ◌*◌}
use lib.Ieee.{Float}
use Rattle.std.specs.Prelude.{Result, Ok, Err, ⊤}
use Rattle.tables.specs.Mesh.{Mesh, mesh_of}
use Rattle.tables.specs.Rows.{over}
use Rattle.tables.specs.Counted.{counts_of, zeroed_rows}
use Rattle.built_meshes.specs.Building.{BuildOutcome}
use Rattle.built_meshes.specs.Whole.{marked}
use Rattle.built_meshes.specs.declared.Ground.{Ground}
use Rattle.building_ends.specs.Concluding.{concluded}

module _ (cs : List Float) (np nl nf : ℕ) (m : Mesh) (k : ℕ) (v : Result ⊤ Ground) where
  pub concluded-fit : (row : ℕ) (ps : List Float) (pts : List ℕ) → v ≡ Ok tt → row ≡ k → ps ≡ over (np * 3) cs m.positions
      → pts ≡ marked np m.points
      → ◌≡◌ {A = BuildOutcome}
      (record {
        answer = Ok (record { points = np; edges = row; faces = nf });
        tables = mesh_of ps pts m.edges m.intervals m.faces;
      })
      (concluded cs np nl nf m k v)
  unfolding concluded
  concluded-fit row ps pts h r a b = rw (h, r, a, b)

  pub concluded-unfit : (g : Ground) (new : Mesh) → v ≡ Err g → new ≡ zeroed_rows (counts_of np nl nf) m
      → ◌≡◌ {A = BuildOutcome} (record { answer = Err g; tables = new }) (concluded cs np nl nf m k v)
  unfolding concluded
  concluded-unfit g new h z = rw (h, z)
