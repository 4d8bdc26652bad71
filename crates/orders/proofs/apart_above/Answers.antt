-- apart_above meets its contract. The invariant: the marks are those of the entries passed, which stand apart in the window.
use mathlib.Core.Bool.{true, false, false≢true}
use mathlib.Core.Path.{◌≡◌, refl, sym, ◌∙◌, ap}
use native.Mathlib.Numerals.{add-one}
use native.Mathlib.Nat.{not-suc-le-zero}
use native.Mathlib.Omega.{arith}
use lib.ListN.{get_or}
use Rattle.orders.proofs.Laws.{marks-none, marks-more, apart_more, not-apart}
use Rattle.orders.specs.Orders.{fresh}
use Rattle.orders.proofs.apart_above.Goals as goal

pub loop-face-init : goal.loop-face-init
loop-face-init c =
    (marks-none c.args.base c.args.order.now, λ i j l. absurd (not-suc-le-zero l))

pub returns-then-not-mark : goal.returns-then-not-mark
returns-then-not-mark c =
    let o : c.index.result ≡ get_or c.args.order.now c.loop-face.face-index 0 = c.index.ensures in
    let stale : fresh c.args.base c.loop-face.seen (get_or c.args.order.now c.loop-face.face-index 0) ≡ false = ap (fresh c.args.base c.loop-face.seen) (sym o)
    ∙ sym c.mark.ensures.value ∙ c.if-not-mark.true in (
      λ e. absurd (false≢true e),
      λ apart. absurd (not-apart c.args.base c.args.order.now c.loop-face.face-index c.loop-face.seen c.loop-face.invariant.0 stale (λ i j l. apart i j (omega arith))),
    )

pub loop-face-preserved : goal.loop-face-preserved
loop-face-preserved c =
    let o : c.index.result ≡ get_or c.args.order.now c.loop-face.face-index 0 = c.index.ensures in
    let new : fresh c.args.base c.loop-face.seen (get_or c.args.order.now c.loop-face.face-index 0) ≡ true = ap (fresh c.args.base c.loop-face.seen) (sym o) ∙ sym c.mark.ensures.value
    ∙ c.if-not-mark.false in
    let marks = marks-more c.args.base c.args.order.now c.loop-face.face-index c.loop-face.seen c.loop-face.invariant.0 in (
      rw (add-one c.loop-face.face-index, c.mark.ensures.seen_after, o) marks,
      rw (add-one c.loop-face.face-index) (apart_more c.args.base c.args.order.now c.loop-face.face-index c.loop-face.seen c.loop-face.invariant.0 new c.loop-face.invariant.1),
    )

pub returns : goal.returns
returns c =
    (λ e i j l. c.loop-face.invariant.1 i j (omega arith), λ apart. refl)
