-- write_output meets its contract: by the answer of building.
use mathlib.Core.Path.{ap, ◌∙◌}
use Rattle.std.specs.Prelude.{Err}
use Rattle.tables.specs.Mesh.{mesh_of}
use Rattle.handover.proofs.Outputs.{few, written-built, written-not-text, written-refused}
use Rattle.handover.proofs.handover_text.write_output.Goals as goal

pub write_built-requires : goal.write_built-requires
write_built-requires c =
    record {
      faces_le_faces = few c.args.text.now
          (mesh_of c.args.positions.now c.args.points.now c.args.edges.now c.args.intervals.now c.args.faces.now)
          c.build_text.ensures.outcome c.in-Ok.is;
      output_bytes_in_bounds = c.requires;
    }

pub returns-in-Ok : goal.returns-in-Ok
returns-in-Ok c =
    written-built c.args.text.now
    (mesh_of c.args.positions.now c.args.points.now c.args.edges.now c.args.intervals.now c.args.faces.now)
    c.build_text.ensures.outcome c.in-Ok.is c.write_built.ensures

pub returns-in-Err-NotText : goal.returns-in-Err-NotText
returns-in-Err-NotText c =
    written-not-text c.args.text.now
    (mesh_of c.args.positions.now c.args.points.now c.args.edges.now c.args.intervals.now c.args.faces.now)
    c.build_text.ensures.outcome (c.in-Err-NotText.is ∙ ap Err c.in-Err-NotText.field-0-is)
    c.write_refused.ensures

pub returns-in-Err-Refused : goal.returns-in-Err-Refused
returns-in-Err-Refused c =
    written-refused c.args.text.now
    (mesh_of c.args.positions.now c.args.points.now c.args.edges.now c.args.intervals.now c.args.faces.now)
    c.build_text.ensures.outcome (c.in-Err-Refused.is ∙ ap Err c.in-Err-Refused.field-0-is)
    c.ground_number.ensures c.write_refused-in-Err-Refused.ensures
