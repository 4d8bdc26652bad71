-- `write_hex` meets its contract: the digits but the last are written first. The measure is the number of digits.
use Prim.Native.Nat.{◌-◌, ◌/◌}
use native.Mathlib.Omega.{arith}
use Rattle.mesh_answers.proofs.Laws.{length-hex, hex-none, hex-last}
use Rattle.mesh_answers.proofs.+write_hex.Goals as goal

pub returns-then-k-eq0 : goal.returns-then-k-eq0
returns-then-k-eq0 t c = hex-none _ _ _ _ c.if-k-eq0.true

pub bounds-out-i : goal.bounds-out-i
bounds-out-i t c =
    let e = c.write_hex-i.ensures.place in
    let l = length-hex (c.args.k - 1) (c.args.n / 16) in
    let s = c.write_hex-i.auto.out in
    omega (arith, c.requires)

pub overflow_add-result : goal.overflow_add-result
overflow_add-result t c =
    let e = c.write_hex-i.ensures.place in
    let l = length-hex (c.args.k - 1) (c.args.n / 16) in
    omega (arith, c.requires)

pub returns : goal.returns
returns t c = hex-last _ _ _ _ c.if-k-eq0.false c.write_hex-i.ensures c.hex_byte.ensures
