-- store_faces meets its contract: the lines are of the form, so that what `faces` promises then, holds.
use Rattle.mesh_lines.proofs.Answers.{at-lines}
use Rattle.face_lines.proofs.store_faces.Goals as goal

pub returns : goal.returns
returns c = record {
  lengths = at-lines _ c.requires.parses _ c.faces.ensures.faces _ c.faces.ensures.lengths;
  firsts = at-lines _ c.requires.parses _ c.faces.ensures.faces _ c.faces.ensures.firsts;
  points = at-lines _ c.requires.parses _ c.faces.ensures.faces _ c.faces.ensures.points;
  intervals = at-lines _ c.requires.parses _ c.faces.ensures.faces _ c.faces.ensures.intervals;
}
