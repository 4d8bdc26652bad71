-- `write_decimal` meets its contract: the digits but the last are written first. The measure is how many digits there may be.
use native.Mathlib.Omega.{arith}
use Rattle.mesh_answers.proofs.Laws.{length-short, length-long, decimal-none, decimal-one, decimal-last}
use Rattle.mesh_answers.proofs.+write_decimal.Goals as goal

pub returns-then-k-eq0 : goal.returns-then-k-eq0
returns-then-k-eq0 t c = decimal-none _ _ _ _ c.if-k-eq0.true

pub bounds-out-at : goal.bounds-out-at
bounds-out-at t c =
    let l = length-short c.args.k c.args.n c.if-k-eq0.false c.if-n-lt10.true in
    omega (arith, c.requires)

pub returns-then-n-lt10 : goal.returns-then-n-lt10
returns-then-n-lt10 t c = decimal-one _ _ _ _ c.if-k-eq0.false c.if-n-lt10.true c.byte_of.ensures

pub write_decimal-i-requires : goal.write_decimal-i-requires
write_decimal-i-requires t c =
    let l = length-long c.args.k c.args.n c.if-k-eq0.false c.if-n-lt10.false in
    let smaller = c.decreases in
    (omega (arith, c.if-k-eq0.false), omega (arith, c.requires))

pub bounds-out-i : goal.bounds-out-i
bounds-out-i t c =
    let e = c.write_decimal-i.ensures.place in
    let l = length-long c.args.k c.args.n c.if-k-eq0.false c.if-n-lt10.false in
    let s = c.write_decimal-i.auto.out in
    omega (arith, c.requires)

pub overflow_add-result-2 : goal.overflow_add-result-2
overflow_add-result-2 t c =
    let e = c.write_decimal-i.ensures.place in
    let l = length-long c.args.k c.args.n c.if-k-eq0.false c.if-n-lt10.false in
    let s = c.write_decimal-i.auto.out in
    omega (arith, c.requires)

pub returns : goal.returns
returns t c =
    decimal-last _ _ _ _ c.if-k-eq0.false c.if-n-lt10.false c.write_decimal-i.ensures
    c.byte_of-2.ensures
