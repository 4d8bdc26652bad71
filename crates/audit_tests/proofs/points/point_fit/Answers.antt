-- point_fit meets its contract: each test decides one of the definition's.
use mathlib.Core.Path.{sym, ◌∙◌, ap}
use native.Mathlib.Omega.{arith}
use borrow.Author.Tests.{eq-eqb, ne_eqb}
use Rattle.audit_tests.proofs.PointTests.{point-start, point-numbers, point-valence, point-mark}
use Rattle.tables.specs.Parts.{position_tables}
use Rattle.positions.specs.Position.{finite_position}
use Rattle.audit_tests.proofs.points.point_fit.Goals as goal

pub returns-then-ne-index : goal.returns-then-ne-index
returns-then-ne-index c =
    sym (point-start (position_tables c.args.positions.now c.args.points.now) c.args.ne c.args.p
    (omega (arith, c.index.ensures)))

pub returns-then-not-is_finite : goal.returns-then-not-is_finite
returns-then-not-is_finite c =
    let bad = sym (ap finite_position c.load_position.ensures) ∙ sym c.is_finite.ensures
    ∙ c.if-not-is_finite.true in
    sym (point-numbers (position_tables c.args.positions.now c.args.points.now) c.args.ne c.args.p bad)

pub returns-then-points-b-lt2 : goal.returns-then-points-b-lt2
returns-then-points-b-lt2 c =
    sym (point-valence (position_tables c.args.positions.now c.args.points.now) c.args.ne c.args.p c.if-points-b-lt2.true)

pub returns-then-points-b-eq0 : goal.returns-then-points-b-eq0
returns-then-points-b-eq0 c =
    let good = sym (ap finite_position c.load_position.ensures)
    ∙ sym c.is_finite.ensures
    ∙ c.if-not-is_finite.false in
    sym (point-mark (position_tables c.args.positions.now c.args.points.now) c.args.ne c.args.p
    (omega (arith, c.index.ensures, c.if-ne-index.false)) good
    c.if-points-b-lt2.false ∙ rw (eq-eqb _ _ c.if-points-b-eq0.true))

pub returns : goal.returns
returns c =
    let good = sym
    (ap finite_position c.load_position.ensures)
    ∙ sym c.is_finite.ensures
    ∙ c.if-not-is_finite.false in
    sym (point-mark (position_tables c.args.positions.now c.args.points.now) c.args.ne c.args.p
    (omega (arith, c.index.ensures, c.if-ne-index.false)) good c.if-points-b-lt2.false
    ∙ rw (ne_eqb _ _ c.if-points-b-eq0.false))
