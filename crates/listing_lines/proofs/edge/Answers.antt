-- `edge` meets its contract: each return answers for the parts that were read before it.
use native.Mathlib.Omega.{arith}
use mathlib.Core.Path.{sym, ◌∙◌}
use native.Mathlib.Nat.{le_trans}
use Rattle.listing_lines.proofs.EdgeLine.{no_words, words_inside, no-interval, interval-inside, no_end, whole}
use Rattle.listing_lines.proofs.edge.Goals as goal

pub returns-in_err-i-clause-place : goal.returns-in_err-i-clause-place
returns-in_err-i-clause-place c =
    c.from_residual.ensures ∙ no_words _ _ c.words.ensures.last c.in_err-i.was

pub coordinates-requires : goal.coordinates-requires
coordinates-requires c =
    let h = words_inside _ _ c.words.ensures.last
    c.in_ok-i.was c.requires.0 in
    (h.1, le_trans c.requires.1.1 h.0)

pub returns-in_err-j-clause-place : goal.returns-in_err-j-clause-place
returns-in_err-j-clause-place c =
    c.from_residual-in_err-j.ensures ∙ no-interval _ _ c.words.ensures.last c.in_ok-i.was
    c.coordinates.ensures.place c.in_err-j.was

pub stands-requires : goal.stands-requires
stands-requires c =
    interval-inside _ _ c.words.ensures.last c.in_ok-i.was
    c.coordinates.ensures.place c.in_ok-j.was
    c.requires.0

pub returns-then-not-stands-clause-place : goal.returns-then-not-stands-clause-place
returns-then-not-stands-clause-place c =
    no_end _ _ c.words.ensures.last c.in_ok-i.was c.coordinates.ensures.place
    c.in_ok-j.was (sym c.stands.ensures ∙ c.if-not-stands.true)

pub overflow_add-result : goal.overflow_add-result
overflow_add-result c =
    let h = interval-inside _ _ c.words.ensures.last c.in_ok-i.was c.coordinates.ensures.place
    c.in_ok-j.was c.requires.0 in
    omega arith

pub returns : goal.returns
returns c =
    let whole = whole _ _ c.words.ensures.last c.in_ok-i.was c.coordinates.ensures.place
    c.in_ok-j.was (sym c.stands.ensures ∙ c.if-not-stands.false) _ _
    _ _ c.words.ensures.list c.coordinates.ensures.list in record { place = whole.0; words = whole.1.0; numbers = whole.1.1 }
