-- told_first meets its contract: the first entries of the two lists are looked at.
use mathlib.Core.Path.{sym}
use Prim.Native.Nat.{◌*◌}
use lib.Seq.{length-take-le}
use Rattle.text_edges.proofs.told_first.Goals as goal

pub slice_bounds-told_edge-end : goal.slice_bounds-told_edge-end
slice_bounds-told_edge-end c =
    sym (length-take-le (4 * c.args.nf) c.args.sides.now
    c.requires.nf_in_bounds)

pub slice_bounds-told_edge-end-2 : goal.slice_bounds-told_edge-end-2
slice_bounds-told_edge-end-2 c =
    sym (length-take-le c.args.n c.args.listed.now c.requires.n_in_bounds)
