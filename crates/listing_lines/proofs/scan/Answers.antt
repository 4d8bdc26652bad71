-- `scan` meets its contract: each return answers for the parts that were read before it.
use mathlib.Core.Path.{sym, ◌∙◌}
use Rattle.listing_lines.proofs.Scanned.{no-head, head-inside, no-points, points-inside, no_edges, edges-inside, no-faces, faces-inside, no_end, whole}
use Rattle.listing_lines.proofs.scan.Goals as goal

pub returns-then-not-stands-clause-sizes : goal.returns-then-not-stands-clause-sizes
returns-then-not-stands-clause-sizes c =
    no-head _ (sym c.stands.ensures ∙ c.if-not-stands.true)

pub points-requires : goal.points-requires
points-requires c =
    head-inside _ (sym c.stands.ensures ∙ c.if-not-stands.false)

pub returns-in_err-p-clause-sizes : goal.returns-in_err-p-clause-sizes
returns-in_err-p-clause-sizes c =
    c.from_residual.ensures ∙ no-points _ (sym c.stands.ensures ∙ c.if-not-stands.false)
    c.points.ensures.run c.in_err-p.was

pub edges-requires : goal.edges-requires
edges-requires c =
    points-inside _ (sym c.stands.ensures ∙ c.if-not-stands.false) c.points.ensures.run
    c.in_ok-p.was

pub returns-in_err-e-clause-sizes : goal.returns-in_err-e-clause-sizes
returns-in_err-e-clause-sizes c =
    c.from_residual-in_err-e.ensures ∙ no_edges _ (sym c.stands.ensures ∙ c.if-not-stands.false) c.points.ensures.run
    c.in_ok-p.was c.edges.ensures.run
    c.in_err-e.was

pub faces-requires : goal.faces-requires
faces-requires c =
    edges-inside _ (sym c.stands.ensures ∙ c.if-not-stands.false) c.points.ensures.run
    c.in_ok-p.was c.edges.ensures.run c.in_ok-e.was

pub returns-in_err-f-clause-sizes : goal.returns-in_err-f-clause-sizes
returns-in_err-f-clause-sizes c =
    c.from_residual-in_err-f.ensures ∙ no-faces _ (sym c.stands.ensures ∙ c.if-not-stands.false) c.points.ensures.run
    c.in_ok-p.was c.edges.ensures.run
    c.in_ok-e.was
    c.faces.ensures.run c.in_err-f.was

pub ends-requires : goal.ends-requires
ends-requires c =
    faces-inside _ (sym c.stands.ensures ∙ c.if-not-stands.false) c.points.ensures.run
    c.in_ok-p.was c.edges.ensures.run c.in_ok-e.was
    c.faces.ensures.run c.in_ok-f.was

pub returns-then-not-ends-clause-sizes : goal.returns-then-not-ends-clause-sizes
returns-then-not-ends-clause-sizes c =
    no_end _ (sym c.stands.ensures ∙ c.if-not-stands.false) c.points.ensures.run c.in_ok-p.was
    c.edges.ensures.run c.in_ok-e.was
    c.faces.ensures.run
    c.in_ok-f.was (sym c.ends.ensures ∙ c.if-not-ends.true)

pub returns : goal.returns
returns c =
    let whole = whole _ (sym c.stands.ensures ∙ c.if-not-stands.false) c.points.ensures.run c.in_ok-p.was
    c.edges.ensures.run c.in_ok-e.was c.faces.ensures.run c.in_ok-f.was (sym c.ends.ensures ∙ c.if-not-ends.false)
    _ _ _ _ _ c.points.ensures.numbers c.points.ensures.words c.edges.ensures.words c.edges.ensures.numbers
    c.faces.ensures.words in
    record {
      sizes = whole.0;
      positions = whole.1.0;
      points = whole.1.1.0;
      edges = whole.1.1.1.0;
      intervals = whole.1.1.1.1.0;
      faces = whole.1.1.1.1.1;
    }
