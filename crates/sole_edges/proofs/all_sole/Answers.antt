-- all_sole meets its contract. The invariant: the points before pass.
use mathlib.Core.Bool.{false≢true}
use mathlib.Core.Path.{refl, sym, ◌∙◌}
use native.Mathlib.Omega.{arith}
use Rattle.tables.specs.Parts.{point_tables}
use Rattle.sole_edges.proofs.Walking.{rounds-more, rounds-joined}
use Rattle.sole_edges.proofs.all_sole.Goals as goal

pub loop-p-init : goal.loop-p-init
loop-p-init c = λ q a b. absurd (omega arith)

pub sole_from-requires : goal.sole_from-requires
sole_from-requires c =
    record { point_width_in_bounds = c.requires.point_width_in_bounds; edge_width_in_bounds = c.requires.edge_width_in_bounds; from_le_np = c.loop-p.auto.p-end; ends = c.requires.ends }

pub returns-then-index-gt-FEW : goal.returns-then-index-gt-FEW
returns-then-index-gt-FEW c = record {
  rounds_from = λ e. rounds-joined
      (point_tables c.args.points.now c.args.edges.now) c.args.np c.args.ne c.loop-p.p c.loop-p.invariant
      (c.sole_from.ensures.rounds_from e);
  value = λ s. c.sole_from.ensures.value (λ q l b. s q (omega arith) b);
}

pub few_sole-requires : goal.few_sole-requires
few_sole-requires c = record {
  point_width_in_bounds = omega
      (arith, c.requires.point_width_in_bounds, c.loop-p-test.true);
  edge_width_in_bounds = c.requires.edge_width_in_bounds;
  p_in_bounds = omega
      (arith, c.index.ensures, c.if-index-gt-FEW.false, c.requires.few_in_bounds, c.loop-p.auto.ends);
  ends = c.requires.ends;
}

pub returns-then-not-few_sole : goal.returns-then-not-few_sole
returns-then-not-few_sole c =
    record {
      rounds_from = λ e. absurd (false≢true e);
      value = λ good. absurd (false≢true (sym (c.if-not-few_sole.true)
          ∙ c.few_sole.ensures.value (good c.loop-p.p (omega arith) c.loop-p-test.true)));
    }

pub loop-p-preserved : goal.loop-p-preserved
loop-p-preserved c =
    rounds-more (point_tables c.args.points.now c.args.edges.now) c.args.ne 0 c.loop-p.p c.loop-p.invariant
    (c.few_sole.ensures.round_apart (c.if-not-few_sole.false))

pub returns : goal.returns
returns c =
    record { rounds_from = λ e q a b. c.loop-p.invariant q a (omega arith); value = λ s. refl }
