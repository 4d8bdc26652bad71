-- edge_fit meets its contract: each test decides one of the definition's.
use mathlib.Core.List.{[]}
use mathlib.Core.Path.{sym, ◌∙◌}
use borrow.Author.Rules.{rules}
use Rattle.audit_edges.proofs.EdgeTests.{edge-range, edge-interval, edge-ends, edge-sides, edge-links, edge-in-range, edge-range-rows, acw_linked-rows}
use Rattle.tables.specs.Parts.{edge_tables, face_tables}
use Rattle.audit_edges.proofs.edge_fit.Goals as goal

pub returns-then-not-edge_in_range : goal.returns-then-not-edge_in_range
returns-then-not-edge_in_range c =
    sym (edge-range (edge_tables c.args.edges.now c.args.intervals.now) c.args.np c.args.ne c.args.nf c.args.e
    (edge-range-rows _ _ _ _ _ _ ∙ sym c.edge_in_range.ensures ∙ c.if-not-edge_in_range.true))

pub returns-then-not-interval_fits : goal.returns-then-not-interval_fits
returns-then-not-interval_fits c =
    sym (edge-interval (edge_tables c.args.edges.now c.args.intervals.now) c.args.np c.args.ne c.args.nf c.args.e
    (sym c.interval_fits.ensures ∙ c.if-not-interval_fits.true))

pub returns-then-edges-b : goal.returns-then-edges-b
returns-then-edges-b c =
    sym (edge-ends (edge_tables c.args.edges.now c.args.intervals.now) c.args.np c.args.ne c.args.nf c.args.e c.if-edges-b.true)

pub returns-then-edges-b-2 : goal.returns-then-edges-b-2
returns-then-edges-b-2 c =
    sym (edge-sides (edge_tables c.args.edges.now c.args.intervals.now) c.args.np c.args.ne c.args.nf c.args.e c.if-edges-b-2.true)

pub is_linked-requires : goal.is_linked-requires
is_linked-requires c =
    let r = edge-in-range (face_tables c.args.edges.now []) c.args.np c.args.ne c.args.nf c.args.e
    (sym c.edge_in_range.ensures ∙ c.if-not-edge_in_range.false) in
    record {
      edge_width_in_bounds = search rules;
      e_lt_ne = search rules;
      e_bound = r.left_acw-in-range;
      e_bound_2 = r.right_acw-in-range;
    }

pub returns : goal.returns
returns c =
    c.is_linked.ensures ∙ sym (acw_linked-rows _ _ _)
    ∙ sym (edge-links (edge_tables c.args.edges.now c.args.intervals.now) c.args.np c.args.ne c.args.nf c.args.e
    (edge-range-rows _ _ _ _ _ _ ∙ sym c.edge_in_range.ensures ∙ c.if-not-edge_in_range.false)
    (sym c.interval_fits.ensures
    ∙ c.if-not-interval_fits.false)
    c.if-edges-b.false c.if-edges-b-2.false)
