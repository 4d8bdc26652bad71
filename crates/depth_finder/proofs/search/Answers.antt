-- search meets its contract: what the definition finds among the edges that are left is what it finds among all.
use Prim.Native.Nat.{ℕ}
use mathlib.Core.Path.{◌∙◌, sym, ap}
use native.Mathlib.Omega.{arith}
use native.Mathlib.Nat.{sub-zero}
use Rattle.crossings.specs.Crossings.{first_from}
use Rattle.crossings.proofs.First.{first-here, first-later, first-none}
use Rattle.depth_finder.proofs.search.Invariants.{test}
use Rattle.depth_finder.proofs.search.Goals as goal

pub loop-e-init : goal.loop-e-init
loop-e-init c =
    ap (λ (n : ℕ). first_from (λ k. test c.args.positions.now c.args.edges.now c.args.depth k) n 0) (sub-zero c.args.ne)

pub crosses_depth-requires : goal.crosses_depth-requires
crosses_depth-requires c =
    record { edge_width_in_bounds = omega arith; ends_stand = c.requires.by_index c.loop-e.e (omega arith) }

pub returns-then-crosses_depth : goal.returns-then-crosses_depth
returns-then-crosses_depth c =
    sym (first-here (λ k. test c.args.positions.now c.args.edges.now c.args.depth k) c.args.ne
    c.loop-e.e (omega arith) (sym c.crosses_depth.ensures ∙ c.if-crosses_depth.true))
    ∙ c.loop-e.invariant

pub loop-e-preserved : goal.loop-e-preserved
loop-e-preserved c =
    sym (first-later (λ k. test c.args.positions.now c.args.edges.now c.args.depth k) c.args.ne
    c.loop-e.e (omega arith) (sym c.crosses_depth.ensures ∙ c.if-crosses_depth.false))
    ∙ c.loop-e.invariant

pub returns : goal.returns
returns c =
    sym
    (first-none (λ k. test c.args.positions.now c.args.edges.now c.args.depth k) c.args.ne c.loop-e.e (omega arith))
    ∙ c.loop-e.invariant
