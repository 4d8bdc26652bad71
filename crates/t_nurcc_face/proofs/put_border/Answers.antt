-- put_border meets its contract: the border is laid into arrays of 0, which are made 0 again where the walk is lost.
use Rattle.tables.specs.Parts.{face_tables}
use Rattle.walks.proofs.Border.{border-of-laid, cleared}
use Rattle.t_nurcc_face.proofs.put_border.Goals as goal

pub returns-then-is_none : goal.returns-then-is_none
returns-then-is_none c =
    cleared (face_tables c.args.edges.now c.args.faces.now) c.args.ne c.args.f _ _ _ c.clear.ensures.perimeter_after
    c.clear.ensures.points_after c.if-is_none.ensures c.lay_border-passed.ensures.answered

pub returns-else-is_none : goal.returns-else-is_none
returns-else-is_none c =
    border-of-laid (face_tables c.args.edges.now c.args.faces.now) c.args.ne c.args.f _ _ _ _ _
    c.lay_border-passed.ensures c.requires.perimeter_value c.requires.points_value c.if-is_none.ensures
