-- sole_by_table meets its contract. The invariant: the points before pass.
use mathlib.Core.Bool.{false≢true}
use mathlib.Core.Path.{refl, sym, ◌∙◌}
use native.Mathlib.Omega.{arith}
use Rattle.tables.specs.Parts.{point_tables}
use Rattle.sole_edges.proofs.Walking.{rounds-more}
use Rattle.sole_edges.proofs.sole_by_table.Goals as goal

pub loop-p-init : goal.loop-p-init
loop-p-init c = λ q a b. absurd (omega arith)

pub point_sole-requires : goal.point_sole-requires
point_sole-requires c = record {
  point_width_in_bounds = c.requires.point_width_in_bounds;
  p_lt_np = c.loop-p-test.true;
  edge_width_in_bounds = c.requires.edge_width_in_bounds;
  ends_window_in_bounds = omega (arith, c.requires.ends_window_in_bounds, c.loop-p.auto.seen);
  ends = c.requires.ends;
}

pub returns-then-not-point_sole : goal.returns-then-not-point_sole
returns-then-not-point_sole c =
    record {
      rounds_from = λ e. absurd (false≢true e);
      value = λ good. absurd (false≢true (sym (c.if-not-point_sole.true)
          ∙ c.point_sole.ensures.value
          (good c.loop-p.p c.loop-p.auto.p c.loop-p-test.true)));
    }

pub loop-p-preserved : goal.loop-p-preserved
loop-p-preserved c =
    rounds-more (point_tables c.args.points.now c.args.edges.now) c.args.ne c.args.from c.loop-p.p c.loop-p.invariant
    (c.point_sole.ensures.round_apart (c.if-not-point_sole.false))

pub returns : goal.returns
returns c =
    record { rounds_from = λ e q a b. c.loop-p.invariant q a (omega arith); value = λ s. refl }
