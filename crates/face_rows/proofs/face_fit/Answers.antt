-- face_fit meets its contract: each test decides one of the definition's.
use mathlib.Core.List.{[]}
use mathlib.Core.Path.{sym, ◌∙◌}
use native.Mathlib.Omega.{arith}
use Rattle.face_rows.proofs.RowTests.{face-start, face-corner, face-last}
use Rattle.tables.specs.Parts.{face_tables}
use Rattle.face_rows.proofs.face_fit.Goals as goal

pub returns-then-ne-index : goal.returns-then-ne-index
returns-then-ne-index c =
    sym (face-start (face_tables [] c.args.faces.now) c.args.np c.args.ne c.args.f (omega (arith, c.index.ensures)))

pub returns-then-not-corner_fit : goal.returns-then-not-corner_fit
returns-then-not-corner_fit c =
    sym (face-corner (face_tables [] c.args.faces.now) c.args.np c.args.ne c.args.f 0 (omega arith)
    (sym c.corner_fit.ensures ∙ c.if-not-corner_fit.true))

pub returns-then-not-corner_fit-2 : goal.returns-then-not-corner_fit-2
returns-then-not-corner_fit-2 c =
    sym (face-corner (face_tables [] c.args.faces.now) c.args.np c.args.ne c.args.f 1 (omega arith)
    (sym c.corner_fit-2.ensures ∙ c.if-not-corner_fit-2.true))

pub returns-then-not-corner_fit-3 : goal.returns-then-not-corner_fit-3
returns-then-not-corner_fit-3 c =
    sym (face-corner (face_tables [] c.args.faces.now) c.args.np c.args.ne c.args.f 2 (omega arith)
    (sym c.corner_fit-3.ensures ∙ c.if-not-corner_fit-3.true))

pub returns : goal.returns
returns c =
    c.corner_fit-4.ensures
    ∙ sym (face-last (face_tables [] c.args.faces.now) c.args.np c.args.ne c.args.f (omega (arith, c.index.ensures, c.if-ne-index.false))
    (sym c.corner_fit.ensures ∙ c.if-not-corner_fit.false)
    (sym c.corner_fit-2.ensures
    ∙ c.if-not-corner_fit-2.false)
    (sym c.corner_fit-3.ensures ∙ c.if-not-corner_fit-3.false))
