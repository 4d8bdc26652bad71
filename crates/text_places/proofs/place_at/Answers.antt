-- place_at meets its contract, case by case.
use mathlib.Core.Path.{◌∙◌, ap}
use native.Mathlib.Omega.{arith}
use Rattle.std.specs.Prelude.{Err}
use Rattle.text_places.proofs.Laws.{place-clear, place-face, place-edge, few-face, few-edge}
use Rattle.text_places.proofs.place_at.Goals as goal

-- src/lib.rt:108:19
pub overflow_add-result : goal.overflow_add-result
overflow_add-result c =
    omega (
      arith,
      c.requires.np_bound,
      few-face _ _ _ (c.in-Err-Face.is ∙ ap Err (rw c.in-Err-Face.is at c.in-Err-Face.field-0-is)) c.requires.few_faces,
    )

-- src/lib.rt:108:19
pub overflow_add-result-in-Err-Face : goal.overflow_add-result-in-Err-Face
overflow_add-result-in-Err-Face c =
    omega (
      arith,
      c.requires.np_bound,
      few-face _ _ _ (c.in-Err-Face.is ∙ ap Err (rw c.in-Err-Face.is at c.in-Err-Face.field-0-is)) c.requires.few_faces,
    )

-- src/lib.rt:113:19
pub overflow_add-result-in-Err-Edge : goal.overflow_add-result-in-Err-Edge
overflow_add-result-in-Err-Edge c =
    omega (
      arith,
      c.requires.np_bound,
      few-edge _ _ _ _ (c.in-Err-Edge.is ∙ ap Err (rw c.in-Err-Edge.is at c.in-Err-Edge.field-0-is)) c.requires.few_faces,
    )

-- src/lib.rt:113:19
pub overflow_add-result-in-Err-Edge-2 : goal.overflow_add-result-in-Err-Edge-2
overflow_add-result-in-Err-Edge-2 c =
    omega (
      arith,
      c.requires.np_bound,
      few-edge _ _ _ _ (c.in-Err-Edge.is ∙ ap Err (rw c.in-Err-Edge.is at c.in-Err-Edge.field-0-is)) c.requires.few_faces,
    )

-- src/lib.rt:96:1
pub returns-in-Ok : goal.returns-in-Ok
returns-in-Ok c =
    place-clear c.args.np c.args.spot c.in-Ok.is

-- src/lib.rt:96:1
pub returns-in-Err-Face : goal.returns-in-Err-Face
returns-in-Err-Face c =
    place-face c.args.np c.args.spot _ _
    (c.in-Err-Face.is ∙ ap Err (rw c.in-Err-Face.is at c.in-Err-Face.field-0-is))

-- src/lib.rt:96:1
pub returns-in-Err-Edge : goal.returns-in-Err-Edge
returns-in-Err-Edge c =
    place-edge c.args.np c.args.spot _ _ _
    (c.in-Err-Edge.is ∙ ap Err (rw c.in-Err-Edge.is at c.in-Err-Edge.field-0-is))
