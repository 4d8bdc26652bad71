-- edges_fit meets its contract. The invariant: the first e edges pass the test but for their clockwise links. All edges pass that test
-- exactly if all pass the whole.
use mathlib.Core.Path.{sym, ◌∙◌}
use native.Mathlib.Omega.{arith}
use Rattle.audited_meshes.proofs.Folds.{every-none, every_more, every-stop}
use Rattle.audit_tests.proofs.Laws.{every-all}
use Rattle.audit_edges.proofs.Links.{every-half}
use Rattle.tables.specs.Parts.{edge_tables}
use Rattle.audit_edges.proofs.edges_fit.Goals as goal

pub loop-e-init : goal.loop-e-init
loop-e-init c =
    every-none _

pub returns-then-not-edge_fit : goal.returns-then-not-edge_fit
returns-then-not-edge_fit c =
    sym (every-stop _ _ _ c.loop-e-test.true
    (sym c.edge_fit.ensures ∙ c.if-not-edge_fit.true))
    ∙ every-half (edge_tables c.args.edges.now c.args.intervals.now) c.args.np c.args.ne c.args.nf

pub loop-e-preserved : goal.loop-e-preserved
loop-e-preserved c =
    every_more _ _ c.loop-e.invariant
    (sym c.edge_fit.ensures ∙ c.if-not-edge_fit.false)

pub returns : goal.returns
returns c =
    sym (every-all _ _ _ c.loop-e.invariant (omega arith))
    ∙ every-half (edge_tables c.args.edges.now c.args.intervals.now) c.args.np c.args.ne c.args.nf
