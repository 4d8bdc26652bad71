-- `read_head` meets its contract.
use mathlib.Core.Path.{sym, ◌∙◌}
use Rattle.mesh_text.proofs.Heads.{head-one, head-two, head-missing}
use Rattle.text_ends.proofs.read_head.Goals as goal

pub returns-then-stands : goal.returns-then-stands
returns-then-stands c =
    head-one _ (sym c.stands.ensures ∙ c.if-stands.true)

pub returns-then-stands-2 : goal.returns-then-stands-2
returns-then-stands-2 c =
    head-two _ (sym c.stands.ensures ∙ c.if-stands.false)
    (sym c.stands-2.ensures ∙ c.if-stands-2.true)

pub returns : goal.returns
returns c =
    head-missing _ (sym c.stands.ensures ∙ c.if-stands.false)
    (sym c.stands-2.ensures ∙ c.if-stands-2.false)
