-- whole_verdict meets its contract: the tests in the definition's order.
use mathlib.Core.Path.{◌∙◌, sym}
use Rattle.building_whole.proofs.Laws.{whole_is}
use Rattle.building_whole.proofs.whole.whole_verdict.Goals as goal

pub returns-then-not-no_missing_face : goal.returns-then-not-no_missing_face
returns-then-not-no_missing_face c =
    λ ps is fs. rw (
      whole_is ps c.args.points.now c.args.edges.now is fs c.args.np c.args.ne,
      sym c.no_missing_face.ensures ∙ c.if-not-no_missing_face.true,
    )

pub returns-then-not-every_edged : goal.returns-then-not-every_edged
returns-then-not-every_edged c =
    λ ps is fs. rw (
      whole_is ps c.args.points.now c.args.edges.now is fs c.args.np c.args.ne,
      sym c.no_missing_face.ensures ∙ c.if-not-no_missing_face.false,
      sym c.every_edged.ensures ∙ c.if-not-every_edged.true,
    )

pub returns-then-not-no_missed_edge : goal.returns-then-not-no_missed_edge
returns-then-not-no_missed_edge c =
    λ ps is fs. rw (
      whole_is ps c.args.points.now c.args.edges.now is fs c.args.np c.args.ne,
      sym c.no_missing_face.ensures
          ∙ c.if-not-no_missing_face.false,
      sym c.every_edged.ensures ∙ c.if-not-every_edged.false,
      sym c.no_missed_edge.ensures ∙ c.if-not-no_missed_edge.true,
    )

pub returns : goal.returns
returns c =
    λ ps is fs. rw (
      whole_is ps c.args.points.now c.args.edges.now is fs c.args.np c.args.ne,
      sym c.no_missing_face.ensures
          ∙ c.if-not-no_missing_face.false,
      sym c.every_edged.ensures ∙ c.if-not-every_edged.false,
      sym c.no_missed_edge.ensures ∙ c.if-not-no_missed_edge.false,
    )
