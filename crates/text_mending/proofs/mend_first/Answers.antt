-- mend_first meets its contract: the first entries of the five lists are handed on.
use mathlib.Core.Path.{sym}
use Prim.Native.Nat.{◌*◌}
use lib.Seq.{length-take-le}
use Rattle.text_mending.proofs.mend_first.Goals as goal

pub slice_bounds-mend_by_lists-end : goal.slice_bounds-mend_by_lists-end
slice_bounds-mend_by_lists-end c =
    sym (length-take-le (3 * c.args.p) c.args.coordinates.now c.requires.p_in_bounds)

pub slice_bounds-mend_by_lists-end-3 : goal.slice_bounds-mend_by_lists-end-3
slice_bounds-mend_by_lists-end-3 c =
    sym (length-take-le (4 * c.args.f) c.args.sides.now c.requires.f_in_bounds)

pub slice_bounds-mend_by_lists-end-5 : goal.slice_bounds-mend_by_lists-end-5
slice_bounds-mend_by_lists-end-5 c =
    sym (length-take-le (4 * c.args.f) c.args.firsts.now c.requires.f_in_bounds_2)

pub slice_bounds-mend_by_lists-end-7 : goal.slice_bounds-mend_by_lists-end-7
slice_bounds-mend_by_lists-end-7 c =
    sym (length-take-le c.args.n c.args.listed.now c.requires.n_in_bounds)

pub slice_bounds-mend_by_lists-end-9 : goal.slice_bounds-mend_by_lists-end-9
slice_bounds-mend_by_lists-end-9 c =
    sym (length-take-le c.args.n c.args.beside.now c.requires.n_in_bounds_2)

pub shape_of-text : goal.shape_of-text
shape_of-text c =
    c.mend_by_lists.auto.text
