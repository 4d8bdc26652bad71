-- firsts_fit meets its contract. The invariant: the first points of the sides before side k fit, and b points are listed before it.
use native.Mathlib.Omega.{arith}
use Prim.Native.Nat.{◌+◌, ◌*◌}
use mathlib.Core.Path.{refl, ◌∙◌, sym}
use Rattle.built_meshes.specs.Faces.{firsts_fit}
use Rattle.built_meshes.specs.declared.Version.TheVariants.{Two}
use Rattle.audited_meshes.proofs.Folds.{every-none, every_more, every-stop}
use Rattle.listed_points.proofs.Laws.{whole}
use Rattle.building_tests.proofs.Laws.{from_more, from-below, fits, fits_read}
use Rattle.building_tests.proofs.faces.firsts_fit.Goals as goal

-- src/faces.rt:130:5
pub loop-k-init : goal.loop-k-init
loop-k-init c = (
  refl,
  every-none (fits c.args.sides.now c.args.firsts.now c.args.listed.now c.args.f c.args.a),
)

-- src/faces.rt:131:13
pub first_fits-requires : goal.first_fits-requires
first_fits-requires c =
    record {
      s_in_bounds = omega (arith, c.requires.f_in_bounds_2);
      n_in_bounds = c.requires.n_in_bounds;
      n_nonzero = c.requires.n_nonzero;
      b_le_n = from-below c.args.sides.now c.args.firsts.now c.args.listed.now c.args.f c.loop-k.k c.requires.n_value
          c.loop-k.invariant.0 c.loop-k-test.true;
    }

-- src/faces.rt:132:13
pub returns-then-not-first_fits : goal.returns-then-not-first_fits
unfolding firsts_fit
returns-then-not-first_fits c =
    sym (every-stop 4 c.loop-k.k (fits c.args.sides.now c.args.firsts.now c.args.listed.now c.args.f c.args.a)
    c.loop-k-test.true
    (sym (fits_read c.args.sides.now c.args.firsts.now c.args.listed.now c.args.f c.args.a c.args.n c.loop-k.k
    c.loop-k.b c.requires.n_value c.loop-k.invariant.0
    c.first_fits.ensures) ∙ c.if-not-first_fits.true))

-- src/faces.rt:134:13
pub overflow_add-b : goal.overflow_add-b
overflow_add-b c =
    omega (
      arith,
      from-below c.args.sides.now c.args.firsts.now c.args.listed.now c.args.f c.loop-k.k c.requires.n_value
          c.loop-k.invariant.0 c.loop-k-test.true,
      c.requires.n_in_bounds,
      c.index-b.ensures,
      c.shared_slice_known-in-loop-k-1.given (c.args.f * 4 + c.loop-k.k),
      c.well_formed,
    )

-- src/faces.rt:130:5
pub loop-k-preserved : goal.loop-k-preserved
loop-k-preserved c = (
  rw (c.loop-k.invariant.0, c.index-b.ensures)
      (sym (from_more c.args.sides.now c.args.firsts.now c.args.listed.now c.args.f c.loop-k.k Two)),
  every_more c.loop-k.k (fits c.args.sides.now c.args.firsts.now c.args.listed.now c.args.f c.args.a)
      c.loop-k.invariant.1 (sym (fits_read c.args.sides.now c.args.firsts.now c.args.listed.now c.args.f c.args.a
      c.args.n c.loop-k.k c.loop-k.b c.requires.n_value c.loop-k.invariant.0
      c.first_fits.ensures) ∙ c.if-not-first_fits.false),
)

-- src/faces.rt:112:1
pub returns : goal.returns
unfolding firsts_fit
returns c =
    sym (rw (whole c.loop-k.k 4 c.loop-k.auto.k-end c.loop-k-test.false) at c.loop-k.invariant.1)
