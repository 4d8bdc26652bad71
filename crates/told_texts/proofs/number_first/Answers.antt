-- number_first meets its contract: the first entries of the five lists are looked at.
use mathlib.Core.Path.{sym, ◌∙◌, ap}
use Prim.Native.Nat.{◌*◌}
use lib.Seq.{length-take-le}
use Rattle.told_texts.specs.Told.{verdict_number}
use Rattle.told_texts.proofs.number_first.Goals as goal

-- src/lib.rt:173:9
pub slice_bounds-met_in-end : goal.slice_bounds-met_in-end
slice_bounds-met_in-end c =
    sym
    (length-take-le (3 * c.args.p) c.args.coordinates.now c.requires.p_in_bounds)

-- src/lib.rt:174:9
pub slice_bounds-met_in-end-2 : goal.slice_bounds-met_in-end-2
slice_bounds-met_in-end-2 c =
    sym (length-take-le (4 * c.args.f) c.args.sides.now
    c.requires.f_in_bounds)

-- src/lib.rt:175:9
pub slice_bounds-met_in-end-3 : goal.slice_bounds-met_in-end-3
slice_bounds-met_in-end-3 c =
    sym (length-take-le (4 * c.args.f) c.args.firsts.now c.requires.f_in_bounds_2)

-- src/lib.rt:176:9
pub slice_bounds-met_in-end-4 : goal.slice_bounds-met_in-end-4
slice_bounds-met_in-end-4 c =
    sym (length-take-le c.args.n c.args.listed.now c.requires.n_in_bounds)

-- src/lib.rt:177:9
pub slice_bounds-met_in-end-5 : goal.slice_bounds-met_in-end-5
slice_bounds-met_in-end-5 c =
    sym (length-take-le c.args.n c.args.beside.now c.requires.n_in_bounds_2)

-- src/lib.rt:171:9
pub met_in-verdict-requires : goal.met_in-verdict-requires
met_in-verdict-requires c =
    length-take-le (4 * c.args.f) c.args.firsts.now c.requires.f_in_bounds_2
    ∙ sym (length-take-le (4 * c.args.f) c.args.sides.now c.requires.f_in_bounds)

-- src/lib.rt:147:1
pub returns : goal.returns
returns c =
    c.verdict_number.ensures ∙ ap verdict_number c.met_in-verdict.ensures
