-- sums_fit meets its contract: the sums are the definition's.
use native.Mathlib.Omega.{arith}
use mathlib.Core.Path.{◌∙◌}
use Rattle.building_tests.proofs.Laws.{size-read, sums-read}
use Rattle.building_tests.proofs.faces.sums_fit.Goals as goal

pub side_sum-s0-requires : goal.side_sum-s0-requires
side_sum-s0-requires c =
    let z = size-read c.args.sides.now c.args.f c.index-n0.ensures
    c.index-n1.ensures c.index-n2.ensures c.index-n3.ensures in
    omega (arith, c.requires.f_in_bounds_2, c.well_formed)

pub overflow_add-a : goal.overflow_add-a
overflow_add-a c =
    let z = size-read c.args.sides.now c.args.f
    c.index-n0.ensures
    c.index-n1.ensures c.index-n2.ensures
    c.index-n3.ensures in
    omega (arith, c.requires.f_in_bounds_2, c.well_formed)

pub side_sum-s1-requires : goal.side_sum-s1-requires
side_sum-s1-requires c =
    let z = size-read c.args.sides.now c.args.f
    c.index-n0.ensures
    c.index-n1.ensures c.index-n2.ensures
    c.index-n3.ensures in
    omega (arith, c.requires.f_in_bounds_2, c.well_formed)

pub overflow_add-a-2 : goal.overflow_add-a-2
overflow_add-a-2 c =
    let z = size-read c.args.sides.now c.args.f c.index-n0.ensures
    c.index-n1.ensures
    c.index-n2.ensures c.index-n3.ensures in
    omega (arith, c.requires.f_in_bounds_2, c.well_formed)

pub overflow_add-a-3 : goal.overflow_add-a-3
overflow_add-a-3 c =
    let z = size-read c.args.sides.now c.args.f c.index-n0.ensures
    c.index-n1.ensures
    c.index-n2.ensures c.index-n3.ensures in
    omega (arith, c.requires.f_in_bounds_2, c.well_formed)

pub side_sum-s2-requires : goal.side_sum-s2-requires
side_sum-s2-requires c =
    let z = size-read c.args.sides.now c.args.f c.index-n0.ensures
    c.index-n1.ensures
    c.index-n2.ensures c.index-n3.ensures in
    omega (arith, c.requires.f_in_bounds_2, c.well_formed)

pub overflow_add-a-4 : goal.overflow_add-a-4
overflow_add-a-4 c =
    let z = size-read c.args.sides.now c.args.f c.index-n0.ensures
    c.index-n1.ensures
    c.index-n2.ensures c.index-n3.ensures in
    omega (arith, c.requires.f_in_bounds_2, c.well_formed)

pub overflow_add-a-5 : goal.overflow_add-a-5
overflow_add-a-5 c =
    let z = size-read c.args.sides.now c.args.f c.index-n0.ensures
    c.index-n1.ensures
    c.index-n2.ensures c.index-n3.ensures in
    omega (arith, c.requires.f_in_bounds_2, c.well_formed)

pub overflow_add-a-6 : goal.overflow_add-a-6
overflow_add-a-6 c =
    let z = size-read c.args.sides.now c.args.f c.index-n0.ensures
    c.index-n1.ensures
    c.index-n2.ensures c.index-n3.ensures in
    omega (arith, c.requires.f_in_bounds_2, c.well_formed)

pub side_sum-s3-requires : goal.side_sum-s3-requires
side_sum-s3-requires c =
    let z = size-read c.args.sides.now c.args.f c.index-n0.ensures
    c.index-n1.ensures
    c.index-n2.ensures c.index-n3.ensures in
    omega (arith, c.requires.f_in_bounds_2, c.well_formed)

pub returns : goal.returns
returns c =
    c.sums_agree.ensures
    ∙ sums-read c.args.sides.now c.args.f c.index-n0.ensures c.index-n1.ensures
    c.index-n2.ensures
    c.index-n3.ensures c.args.version c.args.beside.now c.args.a
    c.side_sum-s0.ensures c.side_sum-s1.ensures
    c.side_sum-s2.ensures c.side_sum-s3.ensures
