-- has_face meets its contract: the face on the side by number is compared, and so are both.
use native.Mathlib.Omega.{arith}
use Rattle.common_faces.proofs.Sides.{side-at-most, has-face-answer}
use Rattle.common_faces.proofs.has_face.Goals as goal

pub overflow_add-result : goal.overflow_add-result
overflow_add-result c =
    omega (arith, side-at-most c.args.edges.now c.args.e c.args.f _ c.number_of-s.ensures)

pub offset_bounds-edges-b-2 : goal.offset_bounds-edges-b-2
offset_bounds-edges-b-2 c =
    omega (arith, side-at-most c.args.edges.now c.args.e c.args.f _ c.number_of-s.ensures)

pub bounds-edges-b-2 : goal.bounds-edges-b-2
bounds-edges-b-2 c =
    omega (arith, side-at-most c.args.edges.now c.args.e c.args.f _ c.number_of-s.ensures)

pub returns : goal.returns
returns c =
    has-face-answer c.args.edges.now c.args.e c.args.f _ c.number_of-s.ensures
