-- face_verdict meets its contract: the tests in the definition's order.
use mathlib.Core.Path.{◌∙◌, sym}
use Rattle.building_tests.proofs.Laws.{size-some, verdict-is}
use Rattle.building_tests.proofs.faces.face_verdict.Goals as goal

pub returns-then-not-size_fits : goal.returns-then-not-size_fits
returns-then-not-size_fits c =
    λ cs. rw (
      verdict-is c.args.version cs c.args.sides.now c.args.firsts.now c.args.listed.now
          c.args.beside.now c.args.np c.args.f c.args.a c.args.n
          c.requires.n_value,
      sym c.size_fits.ensures ∙ c.if-not-size_fits.true,
    )

pub returns-then-not-are_points : goal.returns-then-not-are_points
returns-then-not-are_points c =
    λ cs. rw (
      verdict-is c.args.version cs c.args.sides.now c.args.firsts.now c.args.listed.now
          c.args.beside.now c.args.np c.args.f c.args.a c.args.n c.requires.n_value,
      sym c.size_fits.ensures ∙ c.if-not-size_fits.false,
      sym c.are_points.ensures ∙ c.if-not-are_points.true,
    )

pub returns-then-not-no_point_twice : goal.returns-then-not-no_point_twice
returns-then-not-no_point_twice c =
    λ cs. rw (
      verdict-is c.args.version cs c.args.sides.now c.args.firsts.now c.args.listed.now
          c.args.beside.now c.args.np c.args.f c.args.a c.args.n c.requires.n_value,
      sym c.size_fits.ensures
          ∙ c.if-not-size_fits.false,
      sym c.are_points.ensures ∙ c.if-not-are_points.false,
      sym c.no_point_twice.ensures ∙ c.if-not-no_point_twice.true,
    )

pub firsts_agree-requires : goal.firsts_agree-requires
firsts_agree-requires c =
    record {
      f_in_bounds = c.requires.f_in_bounds;
      firsts_given = c.requires.firsts_given;
      n_value = c.requires.n_value;
      n_in_bounds = c.requires.n_in_bounds;
      n_nonzero = size-some c.args.n
          (sym c.size_fits.ensures
          ∙ c.if-not-size_fits.false);
    }

pub returns-then-not-firsts_agree : goal.returns-then-not-firsts_agree
returns-then-not-firsts_agree c =
    λ cs. rw (
      verdict-is c.args.version cs c.args.sides.now c.args.firsts.now c.args.listed.now
          c.args.beside.now c.args.np c.args.f c.args.a c.args.n c.requires.n_value,
      sym c.size_fits.ensures
          ∙ c.if-not-size_fits.false,
      sym c.are_points.ensures
          ∙ c.if-not-are_points.false,
      sym c.no_point_twice.ensures ∙ c.if-not-no_point_twice.false,
      sym c.firsts_agree.ensures ∙ c.if-not-firsts_agree.true,
    )

pub returns-then-not-sums_fit : goal.returns-then-not-sums_fit
returns-then-not-sums_fit c =
    λ cs. rw (
      verdict-is c.args.version cs c.args.sides.now c.args.firsts.now c.args.listed.now
          c.args.beside.now c.args.np c.args.f c.args.a c.args.n c.requires.n_value,
      sym c.size_fits.ensures ∙ c.if-not-size_fits.false,
      sym c.are_points.ensures
          ∙ c.if-not-are_points.false,
      sym c.no_point_twice.ensures
          ∙ c.if-not-no_point_twice.false,
      sym c.firsts_agree.ensures ∙ c.if-not-firsts_agree.false,
      sym c.sums_fit.ensures ∙ c.if-not-sums_fit.true,
    )

pub returns : goal.returns
returns c =
    λ cs. rw (
      verdict-is c.args.version cs c.args.sides.now c.args.firsts.now c.args.listed.now
          c.args.beside.now c.args.np c.args.f c.args.a c.args.n c.requires.n_value,
      sym c.size_fits.ensures ∙ c.if-not-size_fits.false,
      sym c.are_points.ensures
          ∙ c.if-not-are_points.false,
      sym c.no_point_twice.ensures
          ∙ c.if-not-no_point_twice.false,
      sym c.firsts_agree.ensures ∙ c.if-not-firsts_agree.false,
      sym c.sums_fit.ensures ∙ c.if-not-sums_fit.false,
    )
