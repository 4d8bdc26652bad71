-- handover meets its contract.
use Rattle.handover.proofs.Outputs.{no_room, written-by-zeros}
use Rattle.handover.proofs.handover_text.handover.Goals as goal

pub returns-then-out-lt-LEAST_BYTES : goal.returns-then-out-lt-LEAST_BYTES
returns-then-out-lt-LEAST_BYTES c =
    no_room c.args.text.now c.args.out.now c.if-out-lt-LEAST_BYTES.true

pub returns : goal.returns
returns c =
    written-by-zeros c.args.text.now c.args.out.now c.if-out-lt-LEAST_BYTES.false
    c.write_output.ensures
