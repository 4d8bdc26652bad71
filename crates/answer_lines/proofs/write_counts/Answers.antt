-- `write_counts` meets its contract: one run of bytes after another.
use native.Mathlib.Omega.{arith}
use Rattle.mesh_answers.proofs.Laws.{written-append, length-number}
use Rattle.answer_lines.proofs.write_counts.Goals as goal

pub write_number-j-requires : goal.write_number-j-requires
write_number-j-requires c =
    let l1 = length-number c.args.p in
    omega arith

pub write_number-k-requires : goal.write_number-k-requires
write_number-k-requires c =
    let l1 = length-number c.args.p in
    let l2 = length-number c.args.e in
    omega arith

pub write_number-l-requires : goal.write_number-l-requires
write_number-l-requires c =
    let l1 = length-number c.args.p in
    let l2 = length-number c.args.e in
    let l3 = length-number c.args.f in
    omega arith

pub write-requires : goal.write-requires
write-requires c =
    let l1 = length-number c.args.p in
    let l2 = length-number c.args.e in
    let l3 = length-number c.args.f in
    omega arith

pub returns : goal.returns
returns c =
    written-append (written-append
    (written-append (written-append c.write-i.ensures c.write_number-j.ensures) c.write_number-k.ensures)
    c.write_number-l.ensures)
    c.write.ensures
