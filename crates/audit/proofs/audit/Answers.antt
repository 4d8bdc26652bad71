-- audit meets its contract: its parts make up the quick form, which equals the audit.
use mathlib.Core.Path.{sym, ◌∙◌}
use Rattle.audit.proofs.Whole.{counts-rows, ends-passed, valence-passed, audit-counts, audit-rows, audit-walks}
use Rattle.tables.specs.Lent.{tables_of}
use Rattle.audit.proofs.audit.Goals as goal

pub returns-then-not-rows_for : goal.returns-then-not-rows_for
returns-then-not-rows_for c =
    audit-counts c.args.t.now.positions.now c.args.t.now.points.now c.args.t.now.edges.now c.args.t.now.intervals.now c.args.t.now.faces.now
    c.args.counts.points c.args.counts.edges c.args.counts.faces
    (sym c.rows_for.ensures ∙ c.if-not-rows_for.true)

pub rows_fit-requires : goal.rows_fit-requires
rows_fit-requires c =
    let r = counts-rows
    (tables_of c.args.t.now)
    c.args.counts.points c.args.counts.edges c.args.counts.faces (sym c.rows_for.ensures ∙ c.if-not-rows_for.false) in
    record {
      position_width_in_bounds = r.positions-fit;
      point_width_in_bounds = r.points-fit;
      edge_width_in_bounds = r.edges_fit;
      edges_in_bounds = r.intervals-fit;
      face_width_in_bounds = r.faces-fit;
    }

pub returns-then-not-rows_fit : goal.returns-then-not-rows_fit
returns-then-not-rows_fit c =
    audit-rows c.args.t.now.positions.now c.args.t.now.points.now c.args.t.now.edges.now c.args.t.now.intervals.now c.args.t.now.faces.now
    c.args.counts.points c.args.counts.edges c.args.counts.faces
    (sym c.rows_fit.ensures ∙ c.if-not-rows_fit.true)

pub walks_fit-requires : goal.walks_fit-requires
walks_fit-requires c =
    let r = counts-rows
    (tables_of c.args.t.now)
    c.args.counts.points c.args.counts.edges c.args.counts.faces (sym c.rows_for.ensures ∙ c.if-not-rows_for.false) in
    let rows = sym c.rows_fit.ensures ∙ c.if-not-rows_fit.false in
    let ends = ends-passed c.args.t.now.positions.now c.args.t.now.points.now c.args.t.now.edges.now c.args.t.now.intervals.now c.args.t.now.faces.now
    c.args.counts.points c.args.counts.edges c.args.counts.faces rows in
    let valences = valence-passed c.args.t.now.positions.now c.args.t.now.points.now c.args.t.now.edges.now c.args.t.now.intervals.now
    c.args.t.now.faces.now c.args.counts.points c.args.counts.edges c.args.counts.faces rows in
    record {
      point_width_in_bounds = r.points-fit;
      edge_width_in_bounds = r.edges_fit;
      face_width_in_bounds = r.faces-fit;
      ends = ends;
      by_index = valences;
    }

pub returns : goal.returns
returns c =
    c.walks_fit.ensures
    ∙ audit-walks c.args.t.now.positions.now c.args.t.now.points.now c.args.t.now.edges.now c.args.t.now.intervals.now c.args.t.now.faces.now
    c.args.counts.points c.args.counts.edges c.args.counts.faces
    (sym c.rows_for.ensures ∙ c.if-not-rows_for.false)
    (sym c.rows_fit.ensures ∙ c.if-not-rows_fit.false)
