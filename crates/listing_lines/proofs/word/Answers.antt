-- `word_form` meets its contract.
use mathlib.Core.Path.{sym, ◌∙◌, refl}
use Rattle.text_numbers.specs.Form.{bytes}
use Rattle.text_numbers.proofs.Laws.{stands-inside}
use Rattle.text_numbers.proofs.Turns.{literal-found, literal-none}
use Rattle.listings.specs.Grammar.{word_form}
use Rattle.listing_lines.proofs.word.Goals as goal

pub returns-then-not-stands : goal.returns-then-not-stands
unfolding word_form
returns-then-not-stands c =
    rw (literal-none _ _ _ (sym c.stands.ensures ∙ c.if-not-stands.true))

pub decimal-requires : goal.decimal-requires
decimal-requires c =
    stands-inside c.args.s.now (bytes " ") c.args.at refl c.requires
    (sym c.stands.ensures ∙ c.if-not-stands.false)

pub returns : goal.returns
unfolding word_form
returns c =
    rw (literal-found _ _ _ (sym c.stands.ensures ∙ c.if-not-stands.false))
    c.decimal.ensures
