-- refine meets its contract: what is written by tables of zeros, at the front of the bytes that are lent.
use Rattle.refine.proofs.Outputs.{written-by-zeros}
use Rattle.refine.proofs.refine_text.refine.Goals as goal

pub returns : goal.returns
returns c =
    written-by-zeros c.args.text.now c.args.out.now c.write_output.ensures
