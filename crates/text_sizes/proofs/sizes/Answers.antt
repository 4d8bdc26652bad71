-- `sizes` meets its contract: each return answers for the parts that were read before it.
pub mod Parts
use mathlib.Core.Path.{sym, ◌∙◌}
use Rattle.text_sizes.proofs.sizes.Answers.Parts.{no-head, head-inside, no-points, points-inside, no-faces, faces-inside, no_end, whole}
use Rattle.text_sizes.proofs.sizes.Goals as goal

pub returns-in_err-version : goal.returns-in_err-version
returns-in_err-version c =
    c.from_residual.ensures ∙ no-head _ c.read_head.ensures c.in_err-version.was

pub count_points-requires : goal.count_points-requires
count_points-requires c =
    head-inside _ c.read_head.ensures c.in_ok-version.was

pub returns-in_err-points : goal.returns-in_err-points
returns-in_err-points c =
    c.from_residual-in_err-points.ensures ∙ no-points _ c.read_head.ensures
    c.in_ok-version.was c.count_points.ensures
    c.in_err-points.was

pub count_faces-requires : goal.count_faces-requires
count_faces-requires c =
    points-inside _ c.read_head.ensures
    c.in_ok-version.was c.count_points.ensures
    c.in_ok-points.was

pub returns-in_err-lines : goal.returns-in_err-lines
returns-in_err-lines c =
    c.from_residual-in_err-lines.ensures ∙ no-faces _ c.read_head.ensures c.in_ok-version.was
    c.count_points.ensures
    c.in_ok-points.was c.count_faces.ensures c.in_err-lines.was

pub ends-requires : goal.ends-requires
ends-requires c =
    faces-inside _ c.read_head.ensures c.in_ok-version.was
    c.count_points.ensures
    c.in_ok-points.was c.count_faces.ensures
    c.in_ok-lines.was

pub returns-then-not-ends : goal.returns-then-not-ends
returns-then-not-ends c =
    no_end _ c.read_head.ensures c.in_ok-version.was c.count_points.ensures
    c.in_ok-points.was
    c.count_faces.ensures c.in_ok-lines.was
    (sym c.ends.ensures ∙ c.if-not-ends.true)

pub returns : goal.returns
returns c =
    whole _ c.read_head.ensures c.in_ok-version.was c.count_points.ensures
    c.in_ok-points.was
    c.count_faces.ensures c.in_ok-lines.was
    (sym c.ends.ensures ∙ c.if-not-ends.false)
