-- run_steps meets its contract. The invariant `Going`: what is left of the run, from the tables and counts before step `length-index` on, is
-- the whole run.
use Rattle.tables.specs.Mesh.{mesh_of}
use Rattle.ordered_runs.proofs.Runs.{Going}
use Rattle.step_runs.proofs.run_steps.Given as goal

abbrev pub invariant-loop-length : goal.invariant-loop-length
invariant-loop-length l = Going l.edition
    (mesh_of l.initial.positions l.initial.points l.initial.edges l.initial.intervals l.initial.faces) l.initial.c
    (mesh_of l.initial.newpositions l.initial.newpoints l.initial.newedges l.initial.newintervals l.initial.newfaces)
    l.orders l.lengths (mesh_of l.positions l.points l.edges l.intervals l.faces) l.c
    (mesh_of l.newpositions l.newpoints l.newedges l.newintervals l.newfaces) l.accepted l.at l.length-index
