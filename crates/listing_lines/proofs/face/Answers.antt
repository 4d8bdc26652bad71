-- `face` meets its contract: each return answers for the parts that were read before it.
use native.Mathlib.Omega.{arith}
use mathlib.Core.Path.{sym, ◌∙◌}
use Rattle.listing_lines.proofs.FaceLine.{no_words, words_inside, no_end, whole}
use Rattle.listing_lines.proofs.face.Goals as goal

pub returns-in_err-i-clause-place : goal.returns-in_err-i-clause-place
returns-in_err-i-clause-place c =
    c.from_residual.ensures ∙ no_words _ _ c.words.ensures.last c.in_err-i.was

pub stands-requires : goal.stands-requires
stands-requires c =
    words_inside _ _ c.words.ensures.last
    c.in_ok-i.was c.requires.0

pub returns-then-not-stands-clause-place : goal.returns-then-not-stands-clause-place
returns-then-not-stands-clause-place c =
    no_end _ _ c.words.ensures.last c.in_ok-i.was
    (sym c.stands.ensures ∙ c.if-not-stands.true)

pub overflow_add-result : goal.overflow_add-result
overflow_add-result c =
    let h = words_inside _ _ c.words.ensures.last c.in_ok-i.was c.requires.0 in
    omega arith

pub returns : goal.returns
returns c =
    let whole = whole _ _ c.words.ensures.last c.in_ok-i.was
    (sym c.stands.ensures ∙ c.if-not-stands.false) _ _ c.words.ensures.list in record { place = whole.0; words = whole.1 }
