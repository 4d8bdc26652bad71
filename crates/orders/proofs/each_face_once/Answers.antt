-- each_face_once meets its contract: each test decides one of the definition's.
use Prim.Native.Nat.{ℕ}
use mathlib.Core.Path.{sym, ◌∙◌}
use native.Mathlib.Omega.{arith}
use lib.ListN.{get_or}
use borrow.Author.Tests.{eq-eqb, ne_eqb}
use Rattle.audited_meshes.proofs.Tests.{every-is, ltb-is}
use Rattle.steps.specs.Step.{each_face_once}
use Rattle.orders.proofs.each_face_once.Goals as goal

pub returns-then-order-nf : goal.returns-then-order-nf
unfolding each_face_once
returns-then-order-nf c =
    rw (ne_eqb _ _ c.if-order-nf.true)

pub returns-then-not-all_below : goal.returns-then-not-all_below
unfolding each_face_once
returns-then-not-all_below c =
    rw (eq-eqb _ _ c.if-order-nf.false, sym c.all_below.ensures ∙ c.if-not-all_below.true)

pub all_apart-requires : goal.all_apart-requires
all_apart-requires c =
    λ i l.
    let below = (every-is c.args.nf (λ (k : ℕ). ltb-is (get_or c.args.order.now k 0) c.args.nf)).0
    (sym c.all_below.ensures ∙ c.if-not-all_below.false) i (omega arith) in
    omega arith

pub returns : goal.returns
unfolding each_face_once
returns c =
    rw (
      eq-eqb _ _ c.if-order-nf.false,
      sym c.all_below.ensures ∙ c.if-not-all_below.false,
    ) c.all_apart.ensures
