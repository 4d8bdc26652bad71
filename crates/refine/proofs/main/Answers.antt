-- The bytes that are written are there.
use Rattle.std.proofs.Common.{rules, sym, length-take-le}
use Rattle.refine_outputs.proofs.Theorem.{answer-fits}
use Rattle.refine.proofs.main.Goals as goal

pub slice_bounds-out-end : goal.slice_bounds-out-end
slice_bounds-out-end c = answer-fits _ _ (search rules) c.refine-k.ensures

pub slice_bounds-write_output-end-2 : goal.slice_bounds-write_output-end-2
slice_bounds-write_output-end-2 c =
    let r = c.refine-k in
    sym (length-take-le r.result r.new.out (answer-fits _ _ (search rules) r.ensures))
