-- `words` meets its contract. The invariant is `Words`.
use mathlib.Core.Path.{sym, ◌∙◌}
use native.Mathlib.Omega.{arith}
use Rattle.text_numbers.proofs.Turns.{number_is, number-none}
use Rattle.listing_lines.proofs.Laws.{word_below}
use Rattle.listing_lines.proofs.WordRun.{start, turn, stop, end}
use Rattle.listing_lines.proofs.words.Goals as goal

pub loop-k-init : goal.loop-k-init
loop-k-init c =
    start _ _ _ _ _ c.requires.0

pub word-requires : goal.word-requires
word-requires c =
    c.loop-k.invariant.inside

pub returns-in_err-v-clause-last : goal.returns-in_err-v-clause-last
returns-in_err-v-clause-last c =
    c.from_residual.ensures ∙ stop _ _ _ _ _ _ _ _ _ c.loop-k.invariant c.loop-k-test.true
    (number-none _ (sym c.word.ensures ∙ c.in_err-v.was))

pub overflow_cast-v : goal.overflow_cast-v
overflow_cast-v c =
    record {
      fits = word_below _ _ _ _
          (number_is _ (sym c.word.ensures ∙ c.in_ok-v.was));
    }

pub loop-k-preserved : goal.loop-k-preserved
loop-k-preserved c =
    turn _ _ _ _ _ _ _ _ _ c.loop-k.invariant c.loop-k-test.true
    (number_is _ (sym c.word.ensures
    ∙ c.in_ok-v.was)) c.put.ensures

pub returns : goal.returns
returns c =
    let whole = end _ _ _ _ _ _ _ _ _ c.loop-k.invariant (omega arith) in record { last = whole.0; list = whole.1 }
