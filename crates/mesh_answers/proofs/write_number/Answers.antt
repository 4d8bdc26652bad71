-- `write_number` meets its contract.
use Rattle.mesh_answers.proofs.Laws.{written-append}
use Rattle.mesh_answers.proofs.write_number.Goals as goal

-- src/lib.rt:72:1
pub returns : goal.returns
returns c =
    written-append c.write-i.ensures
    c.write_decimal.ensures
