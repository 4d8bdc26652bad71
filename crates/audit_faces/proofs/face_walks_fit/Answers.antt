-- face_walks_fit meets its contract. The invariant: the walks about the first f faces come back, and their sizes add up to the sum, which
-- is not past the total, and the arrays for a border have their lengths.
use mathlib.Core.Path.{refl, sym, ◌∙◌}
use native.Mathlib.Omega.{arith}
use Rattle.audit_faces.proofs.FaceTests.{added-start, added-none, added-past, added_more, added-all, size_small}
use Rattle.audit_faces.proofs.face_walks_fit.Goals as goal

pub loop-f-init : goal.loop-f-init
loop-f-init c = (added-start _ _ _, refl, refl)

pub face_size-requires : goal.face_size-requires
face_size-requires c = record {
  edge_width_in_bounds = c.requires.edge_width_in_bounds;
  face_width_in_bounds = omega (arith, c.requires.face_width_in_bounds, c.loop-f-test.true);
  perimeter_len = c.loop-f.invariant.1;
  points_len = c.loop-f.invariant.2;
}

pub returns-in_default : goal.returns-in_default
returns-in_default c =
    added-none _ _ _ _ _ _ c.loop-f.invariant.0 c.loop-f-test.true (sym c.in_default.is ∙ c.face_size.ensures.value)

pub overflow_add-sum : goal.overflow_add-sum
overflow_add-sum c =
    omega (arith, size_small _ _ _ _ (sym c.in-Some.is ∙ c.face_size.ensures.value), c.loop-f.invariant.0.not-past)

pub returns-then-total-sum : goal.returns-then-total-sum
returns-then-total-sum c =
    added-past _ _ _ _ _ _ c.loop-f.invariant.0 _ (sym c.in-Some.is ∙ c.face_size.ensures.value) c.loop-f-test.true c.if-total-sum.true

pub loop-f-preserved : goal.loop-f-preserved
loop-f-preserved c = (
  added_more _ _ c.args.nf _ _ _ c.loop-f.invariant.0 _ (sym c.in-Some.is ∙ c.face_size.ensures.value) c.if-total-sum.false,
  c.face_size.ensures.perimeter_len_2,
  c.face_size.ensures.points_len_2,
)

pub returns : goal.returns
returns c = added-all _ _ _ _ _ _ c.loop-f.invariant.0 (omega arith)
