-- The bytes that are written are there.
use Rattle.std.proofs.Common.{sym, length-take-le}
use Rattle.handover_outputs.proofs.Theorem.{answer-fits}
use Rattle.handover.proofs.main.Goals as goal

pub slice_bounds-out-end : goal.slice_bounds-out-end
slice_bounds-out-end c = answer-fits _ _ c.handover-k.ensures

pub slice_bounds-write_output-end-2 : goal.slice_bounds-write_output-end-2
slice_bounds-write_output-end-2 c =
    let r = c.handover-k in
    sym (length-take-le r.result r.new.out (answer-fits _ _ r.ensures))
