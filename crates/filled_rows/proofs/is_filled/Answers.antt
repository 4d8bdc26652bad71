-- is_filled meets its contract: what is left of the entries is as filled exactly if all of them from the place on are.
use mathlib.Core.Path.{refl, sym, ◌∙◌, ap}
use borrow.Author.Tests.{not-true, not-false}
use Rattle.filled_rows.proofs.Laws.{all-stop, all-turn, all_end}
use Rattle.filled_rows.proofs.is_filled.Goals as goal

pub loop-i-init : goal.loop-i-init
loop-i-init g c = refl

pub returns-then-ne : goal.returns-then-ne
returns-then-ne g c =
    all-stop (λ x. g.T.PartialEq.eq x c.args.filling) c.index-entries-i.result _ _ c.loop-i-test.true
    (ap (λ x. g.T.PartialEq.eq x c.args.filling) (sym c.index-entries-i.is) ∙ not-true _ (sym c.ne.ensures ∙ c.if-ne.true))
    ∙ c.loop-i.invariant

pub loop-i-preserved : goal.loop-i-preserved
loop-i-preserved g c =
    all-turn (λ x. g.T.PartialEq.eq x c.args.filling) c.index-entries-i.result _ _ c.loop-i-test.true
    (ap (λ x. g.T.PartialEq.eq x c.args.filling) (sym c.index-entries-i.is) ∙ not-false _ (sym c.ne.ensures ∙ c.if-ne.false))
    ∙ c.loop-i.invariant

pub returns : goal.returns
returns g c =
    all_end (λ x. g.T.PartialEq.eq x c.args.filling) c.args.filling _ _ c.loop-i-test.false ∙ c.loop-i.invariant
