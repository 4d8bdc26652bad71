-- `coordinate_form` meets its contract.
use mathlib.Core.Path.{sym, ◌∙◌, refl}
use Rattle.mesh_lines.specs.Grammar.{coordinate_form}
use Rattle.text_numbers.specs.Form.{bytes}
use Rattle.text_numbers.proofs.Laws.{stands-inside}
use Rattle.text_numbers.proofs.Turns.{literal-found, literal-none}
use Rattle.point_lines.proofs.coordinate.Goals as goal

pub returns-then-not-stands : goal.returns-then-not-stands
unfolding coordinate_form
returns-then-not-stands c =
    rw (literal-none _ _ _ (sym c.stands.ensures ∙ c.if-not-stands.true))

pub bits-requires : goal.bits-requires
bits-requires c =
    stands-inside c.args.s.now (bytes " ") c.args.at refl c.requires
    (sym c.stands.ensures ∙ c.if-not-stands.false)

pub returns : goal.returns
unfolding coordinate_form
returns c =
    rw (literal-found _ _ _ (sym c.stands.ensures ∙ c.if-not-stands.false))
    c.bits.ensures
