-- `point` meets its contract: each return answers for the parts that were read before it.
use native.Mathlib.Omega.{arith}
use mathlib.Core.Path.{sym, ◌∙◌}
use native.Mathlib.Nat.{le_trans}
use Rattle.listing_lines.proofs.PointLine.{no-coordinates, numbers-inside, no_words, words_inside, no-mark, no_end, whole}
use Rattle.listing_lines.proofs.point.Goals as goal

pub returns-in_err-i-clause-place : goal.returns-in_err-i-clause-place
returns-in_err-i-clause-place c =
    c.from_residual.ensures ∙ no-coordinates _ _ c.coordinates.ensures.place c.in_err-i.was

pub words-requires : goal.words-requires
words-requires c =
    let h = numbers-inside _ _ c.coordinates.ensures.place
    c.in_ok-i.was c.requires.0 in
    (h.1, le_trans c.requires.1 h.0)

pub returns-in_err-v-clause-place : goal.returns-in_err-v-clause-place
returns-in_err-v-clause-place c =
    c.from_residual-in_err-v.ensures ∙ no_words _ _ c.coordinates.ensures.place c.in_ok-i.was
    c.words.ensures.last c.in_err-v.was

pub returns-then-v-ge2-clause-place : goal.returns-then-v-ge2-clause-place
returns-then-v-ge2-clause-place c =
    no-mark _ _ c.coordinates.ensures.place c.in_ok-i.was
    c.words.ensures.last c.in_ok-v.was
    c.if-v-ge2.true

pub stands-requires : goal.stands-requires
stands-requires c =
    words_inside _ _ c.coordinates.ensures.place c.in_ok-i.was
    c.words.ensures.last
    c.in_ok-v.was c.requires.0

pub returns-then-not-stands-clause-place : goal.returns-then-not-stands-clause-place
returns-then-not-stands-clause-place c =
    no_end _ _ c.coordinates.ensures.place c.in_ok-i.was c.words.ensures.last
    c.in_ok-v.was c.if-v-ge2.false
    (sym c.stands.ensures ∙ c.if-not-stands.true)

pub overflow_add-result : goal.overflow_add-result
overflow_add-result c =
    let h = words_inside _ _ c.coordinates.ensures.place c.in_ok-i.was c.words.ensures.last
    c.in_ok-v.was c.requires.0 in
    omega arith

pub returns : goal.returns
returns c =
    let whole = whole _ _ c.coordinates.ensures.place c.in_ok-i.was c.words.ensures.last
    c.in_ok-v.was c.if-v-ge2.false
    (sym c.stands.ensures ∙ c.if-not-stands.false) _ _ _ c.coordinates.ensures.list c.words.ensures.list in record { place = whole.0; numbers = whole.1.0; words = whole.1.1 }
