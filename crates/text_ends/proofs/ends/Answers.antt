-- `ends` meets its contract.
use mathlib.Core.Path.{sym, ◌∙◌}
use Rattle.mesh_text.specs.Text.{ends}
use Rattle.text_ends.proofs.ends.Goals as goal

pub returns-then-not-stands : goal.returns-then-not-stands
unfolding ends
returns-then-not-stands c =
    rw (sym c.stands.ensures ∙ c.if-not-stands.true)

pub returns : goal.returns
unfolding ends
returns c =
    rw (sym c.stands.ensures ∙ c.if-not-stands.false)
