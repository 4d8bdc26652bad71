-- `write_at` meets its contract: one run of bytes after another.
use native.Mathlib.Omega.{arith}
use Rattle.mesh_answers.proofs.Laws.{written-append, length-bits}
use Rattle.answer_lines.proofs.write_at.Goals as goal

pub write_bits-k-requires : goal.write_bits-k-requires
write_bits-k-requires c =
    let l1 = length-bits c.args.x in
    omega arith

pub write_bits-l-requires : goal.write_bits-l-requires
write_bits-l-requires c =
    let l1 = length-bits c.args.x in
    let l2 = length-bits c.args.y in
    omega arith

pub write-requires : goal.write-requires
write-requires c =
    let l1 = length-bits c.args.x in
    let l2 = length-bits c.args.y in
    let l3 = length-bits c.args.z in
    omega arith

pub returns : goal.returns
returns c =
    written-append (written-append
    (written-append (written-append c.write-i.ensures c.write_bits-j.ensures) c.write_bits-k.ensures)
    c.write_bits-l.ensures)
    c.write.ensures
