-- likely_face meets its contract: the side by number is that of the definition.
use native.Mathlib.Omega.{arith}
use Rattle.common_faces.proofs.Sides.{number-at-most, likely-answer}
use Rattle.common_faces.proofs.likely_face.Goals as goal

pub overflow_add-result : goal.overflow_add-result
overflow_add-result c =
    omega (arith, number-at-most _ c.has_face.result c.number_of-s.ensures)

pub offset_bounds-edges-b-2 : goal.offset_bounds-edges-b-2
offset_bounds-edges-b-2 c =
    omega (arith, number-at-most _ c.has_face.result c.number_of-s.ensures)

pub bounds-edges-b-2 : goal.bounds-edges-b-2
bounds-edges-b-2 c =
    omega (arith, number-at-most _ c.has_face.result c.number_of-s.ensures)

pub returns : goal.returns
returns c =
    likely-answer c.args.edges.now c.args.r c.args.next _ _ c.has_face.ensures
    c.number_of-s.ensures
