-- `digits_length` meets its contract: the digits but the last are counted first. The measure is how many digits there may be.
use Prim.Native.Nat.{◌-◌, ◌/◌}
use mathlib.Core.Path.{sym}
use native.Mathlib.Omega.{arith}
use Rattle.mesh_answers.specs.Lines.{decimal_digits}
use Rattle.mesh_answers.proofs.Laws.{length-decimal, length-short, length-long}
use Rattle.listing_printing.proofs.+digits_length.Goals as goal

pub returns-then-k-eq0 : goal.returns-then-k-eq0
unfolding decimal_digits
returns-then-k-eq0 t c = rw c.if-k-eq0.true

pub returns-then-n-lt10 : goal.returns-then-n-lt10
returns-then-n-lt10 t c = sym (length-short _ _ c.if-k-eq0.false c.if-n-lt10.true)

pub overflow_add-result : goal.overflow_add-result
overflow_add-result t c =
    let e = c.digits_length.ensures in
    let l = length-decimal (c.args.k - 1) (c.args.n / 10) in
    omega arith

pub returns : goal.returns
returns t c =
    let e = c.digits_length.ensures in
    let l = length-long c.args.k c.args.n c.if-k-eq0.false c.if-n-lt10.false in
    omega arith
