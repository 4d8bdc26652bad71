-- edge_in_range meets its contract, four references at a time.
use mathlib.Core.Path.{sym, ◌∙◌}
use Rattle.audit_edges.proofs.EdgeTests.{in-range-is}
use Rattle.audit_edges.proofs.edge_in_range.Goals as goal

pub returns-then-are_below : goal.returns-then-are_below
returns-then-are_below c =
    c.are_below-then-are_below.ensures
    ∙ sym (in-range-is c.args.edges.now c.args.np c.args.ne c.args.nf c.args.e
    ∙ rw (sym c.are_below.ensures
    ∙ c.if-are_below.true))

pub returns : goal.returns
returns c =
    sym (in-range-is c.args.edges.now c.args.np c.args.ne c.args.nf c.args.e ∙ rw (sym c.are_below.ensures ∙ c.if-are_below.false))
