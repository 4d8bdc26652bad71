-- is_sole meets its contract. The invariant: the walk passed with each window before.
use Prim.Native.Nat.{ℕ, ◌*◌}
use mathlib.Core.Bool.{false≢true}
use mathlib.Core.Path.{refl, sym, ◌∙◌}
use native.Mathlib.Omega.{arith}
use Rattle.tables.specs.Parts.{point_tables}
use Rattle.sole_edges.specs.Sole.{ends_window, RoundIn}
use Rattle.sole_edges.proofs.Walking.{below_more, apart-of-windows, other-below}
use Rattle.sole_edges.proofs.is_sole.Goals as goal

pub loop-k-init : goal.loop-k-init
loop-k-init c = (
  refl,
  λ j l. absurd (omega arith),
)

pub is_sole_in-requires : goal.is_sole_in-requires
is_sole_in-requires c = record {
  point_width_in_bounds = omega
      (arith, c.requires.point_width_in_bounds, c.requires.p_lt_np);
  edge_width_in_bounds = c.requires.edge_width_in_bounds;
  ends_window_in_bounds = omega (arith, c.requires.ends_window_in_bounds, c.loop-k.auto.seen);
  ends = c.requires.ends;
  p_nonzero = c.requires.p_nonzero;
}

pub returns-then-not-is_sole_in : goal.returns-then-not-is_sole_in
returns-then-not-is_sole_in c =
    record {
      round_apart = λ e. absurd (false≢true e);
      value = λ good. absurd (false≢true (sym (c.if-not-is_sole_in.true)
          ∙ c.is_sole_in.ensures.value (good.0, λ i j li lj t same lo hi. good.1 i j li lj t same)));
    }

pub loop-k-preserved : goal.loop-k-preserved
loop-k-preserved c = (
  c.loop-k.invariant.0,
  below_more (λ (j : ℕ). RoundIn (point_tables c.args.points.now c.args.edges.now) c.args.ne c.args.p (j * ends_window)) c.loop-k.k
      c.loop-k.invariant.1 (c.is_sole_in.ensures.round_in (c.if-not-is_sole_in.false)),
)

pub returns : goal.returns
returns c =
    let m = point_tables c.args.points.now c.args.edges.now in let round = (c.loop-k.invariant.1 0 (omega arith)).0 in let apart = apart-of-windows m c.args.np c.args.ne c.args.p
    (λ i l. other-below m c.args.np c.args.p i (c.requires.ends.origin-below i l) (c.requires.ends.dest-below i l)) round
    (λ k l. (c.loop-k.invariant.1 k (omega arith)).1) in record { round_apart = λ e. (round, apart); value = λ good. refl }
