-- face_size meets its contract.
use Rattle.building_tests.proofs.Laws.{size-read}
use Prim.Native.Nat.{◌+◌, ◌*◌}
use native.Mathlib.Omega.{arith}
use Rattle.building_tests.proofs.faces.face_size.Goals as goal

pub overflow_add-result : goal.overflow_add-result
overflow_add-result c =
    omega (
      arith,
      c.index.ensures,
      c.index-2.ensures,
      c.shared_slice_known-2-1.given (c.args.f * 4),
      c.shared_slice_known-3-1.given (c.args.f * 4 + 1),
    )

pub overflow_add-result-2 : goal.overflow_add-result-2
overflow_add-result-2 c =
    omega (
      arith,
      c.index.ensures,
      c.index-2.ensures,
      c.index-3.ensures,
      c.shared_slice_known-2-1.given (c.args.f * 4),
      c.shared_slice_known-3-1.given (c.args.f * 4 + 1),
      c.shared_slice_known-4-1.given (c.args.f * 4 + 2),
    )

pub overflow_add-result-3 : goal.overflow_add-result-3
overflow_add-result-3 c =
    omega (
      arith,
      c.index.ensures,
      c.index-2.ensures,
      c.index-3.ensures,
      c.index-4.ensures,
      c.shared_slice_known-2-1.given (c.args.f * 4),
      c.shared_slice_known-3-1.given (c.args.f * 4 + 1),
      c.shared_slice_known-4-1.given (c.args.f * 4 + 2),
      c.shared_slice_known-5-1.given (c.args.f * 4 + 3),
    )

pub returns : goal.returns
returns c =
    size-read c.args.sides.now c.args.f c.index.ensures
    c.index-2.ensures c.index-3.ensures c.index-4.ensures
