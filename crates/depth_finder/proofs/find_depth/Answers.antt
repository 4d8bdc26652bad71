-- find_depth meets its contract: each test decides one of the definition's, and the audit makes the search safe.
use mathlib.Core.Path.{◌∙◌, sym}
use Rattle.tables.specs.Mesh.{Mesh}
use Rattle.tables.specs.Lent.{tables_of}
use Rattle.crossings.proofs.Theorem.{find-not-finite, find-not-closed, find_first}
use Rattle.depth_finder.proofs.Laws.{rows-stand, ends-stand}
use Rattle.depth_finder.proofs.find_depth.Goals as goal

pub returns-then-not-is_finite : goal.returns-then-not-is_finite
returns-then-not-is_finite c =
    let m : Mesh = tables_of c.args.t.now in
    sym (find-not-finite m c.args.counts c.args.depth (sym c.is_finite.ensures ∙ c.if-not-is_finite.true))

pub returns-then-not-audit : goal.returns-then-not-audit
returns-then-not-audit c =
    let m : Mesh = tables_of c.args.t.now in
    let finite = sym c.is_finite.ensures ∙ c.if-not-is_finite.false in
    sym (find-not-closed m c.args.counts c.args.depth finite (sym c.audit.ensures ∙ c.if-not-audit.true))

pub search-requires : goal.search-requires
search-requires c =
    let m : Mesh = tables_of c.args.t.now in
    let p = sym c.audit.ensures ∙ c.if-not-audit.false in
    record { edge_width_in_bounds = rows-stand m c.args.counts p; by_index = ends-stand m c.args.counts p }

pub returns : goal.returns
returns c =
    let m : Mesh = tables_of c.args.t.now in
    let finite = sym c.is_finite.ensures ∙ c.if-not-is_finite.false in
    let passes = sym c.audit.ensures ∙ c.if-not-audit.false in
    c.search.ensures ∙ sym (find_first m c.args.counts c.args.depth (finite, passes))
