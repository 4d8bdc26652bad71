-- The step by scratch of zeros, and in numbered order. Assumes nothing.
use Rattle.std.specs.Prelude.{Result}
use mathlib.Core.Path.{◌≡◌, ap, ◌∙◌}
use mathlib.Core.List.{List}
use lib.ListN.{take, replicate}
use lib.Ieee.{of_bits, binary64}
use Prim.Native.Nat.{ℕ, ◌≤◌}
use Rattle.tables.specs.Mesh.{Mesh, mesh_of}
use Rattle.tables.specs.declared.Counts.{Counts}
use Rattle.refined_meshes.specs.declared.Edition.TheVariants.{First}
use Rattle.steps.specs.Step.{StepOutcome, step}
use Rattle.steps.specs.declared.StepRefusal.{StepRefusal}
use Rattle.runs.specs.Runs.{numbered}
use Rattle.refine_outputs.specs.Output.{zero_tables, numbered_step}
use Rattle.refine_outputs.proofs.Orders.{take-numbered}
use Rattle.numbered_steps.specs.Parts.{SteppedTo}

pub stepped-to : (m : Mesh) (c : Counts) (order : List ℕ) {a : Result Counts StepRefusal} {m' t' : Mesh} → record { answer = a; tables = m'; scratch = t' }
    ≡ step First m c order (mesh_of (replicate 768 (of_bits binary64 0)) (replicate 768 0) (replicate 4096 0) (replicate 512 (of_bits binary64 0)) (replicate 1280 0))
    → SteppedTo a m' (step First m c order zero_tables)
unfolding zero_tables
stepped-to m c order e = record { answer = ap (λ (o : StepOutcome). o.answer) e; tables = ap (λ (o : StepOutcome). o.tables) e }

-- the order that is handed in is the numbered one
pub in-numbered-order : (m : Mesh) (c : Counts) (o : List ℕ) {a : Result Counts StepRefusal} {m' : Mesh} → c.faces ≤ 64 → o ≡ numbered 64
    → SteppedTo a m' (step First m c (take c.faces o) zero_tables) → SteppedTo a m' (numbered_step c m)
unfolding numbered_step
in-numbered-order m c o few e h =
    let q : take c.faces o ≡ numbered c.faces = ap (take c.faces) e ∙ take-numbered c.faces 64 few in
    rw q at h
