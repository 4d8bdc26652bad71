-- `words_length` meets its contract. The invariant: r is how long the first i words are.
use native.Mathlib.Omega.{arith}
use mathlib.Core.Path.{ap, ◌∙◌}
use Prim.Native.Nat.{ℕ, ◌-◌}
use lib.ListN.{length}
use Rattle.mesh_answers.specs.Lines.{decimal_digits}
use Rattle.mesh_answers.proofs.Laws.{length-decimal}
use Rattle.listing_printing.proofs.Lengths.{words-start, words_more, words-end, words-bound}
use Rattle.listing_printing.proofs.words_length.Goals as goal

pub loop-i-init : goal.loop-i-init
loop-i-init c =
    words-start c.args.words.now

pub overflow_add-r : goal.overflow_add-r
overflow_add-r c =
    let b = words-bound c.args.words.now c.loop-i.i in
    omega arith

pub overflow_add-r-in-loop-i : goal.overflow_add-r-in-loop-i
overflow_add-r-in-loop-i c =
    let b = words-bound c.args.words.now c.loop-i.i in
    let l = length-decimal 20 c.wide-v.result in
    omega arith

pub loop-i-preserved : goal.loop-i-preserved
loop-i-preserved c =
    let bound = c.loop-i-test.true in
    let m = words_more c.args.words.now c.loop-i.i (omega arith) in
    let d = c.digits_length.ensures ∙ ap (λ (v : ℕ). length (decimal_digits 20 v)) c.wide-v.ensures in
    omega arith

pub returns : goal.returns
returns c =
    words-end c.args.words.now _ _ (omega arith) (omega arith)
    c.loop-i.invariant
