-- write_built meets its contract: the line of the counts, then those of the step.
use mathlib.Core.Path.{◌∙◌}
use Rattle.tables.specs.Mesh.{mesh_of}
use Rattle.refine.proofs.Outputs.{ready, written_both, step_room}
use Rattle.refine.proofs.refine_text.write_built.Goals as goal

pub write_stepped-requires : goal.write_stepped-requires
write_stepped-requires c =
    record {
      at_in_bounds = step_room c.args.counts c.write_mesh-i.ensures c.requires.output_bytes_in_bounds c.write_mesh-i.auto.out;
      point_ready = ready c.args.counts
          (mesh_of c.args.positions.now c.args.points.now c.args.edges.now c.args.intervals.now c.args.faces.now)
          c.numbered_step-answer.ensures;
    }

pub returns : goal.returns
returns c =
    written_both c.args.counts
    (mesh_of c.args.positions.now c.args.points.now c.args.edges.now c.args.intervals.now c.args.faces.now)
    c.numbered_step-answer.ensures c.write_mesh-i.ensures c.write_stepped.ensures
