-- `write_refused` meets its contract: one run of bytes after another.
use native.Mathlib.Omega.{arith}
use Rattle.mesh_answers.proofs.Laws.{written-append, length-number}
use Rattle.answer_lines.proofs.write_refused.Goals as goal

pub write_number-j-requires : goal.write_number-j-requires
write_number-j-requires c =
    let l1 = length-number c.args.n in omega arith

pub write-requires : goal.write-requires
write-requires c =
    let l1 = length-number c.args.n in
    omega arith

pub returns : goal.returns
returns c =
    written-append
    (written-append c.write-i.ensures c.write_number-j.ensures)
    c.write.ensures
