-- `write_listing` meets its contract: each return answers for the tests before it.
use native.Mathlib.Omega.{arith}
use mathlib.Core.Path.{sym, ◌∙◌}
use Rattle.tables.specs.Lent.{tables_of}
use Rattle.listing_writing.proofs.Parts.{sizes-of, ready_of, length-of, not-closed, over, short, all}
use Rattle.listing_writing.proofs.write_listing.Goals as goal

-- src/lib.rt:85:9
pub returns-then-not-audit : goal.returns-then-not-audit
returns-then-not-audit c =
    not-closed
    (tables_of c.args.t.now) _ _
    (sym c.audit.ensures ∙ c.if-not-audit.true)

-- src/lib.rt:88:9
pub returns-then-not-within_ceilings : goal.returns-then-not-within_ceilings
returns-then-not-within_ceilings c =
    over
    (tables_of c.args.t.now) _ _
    (sym c.audit.ensures ∙ c.if-not-audit.false)
    (sym c.within_ceilings.ensures ∙ c.if-not-within_ceilings.true)

-- src/lib.rt:90:9
pub listing_length-n-requires : goal.listing_length-n-requires
listing_length-n-requires c =
    sizes-of _
    (tables_of c.args.t.now)
    (sym c.audit.ensures ∙ c.if-not-audit.false)
    (sym c.within_ceilings.ensures ∙ c.if-not-within_ceilings.false)

-- src/lib.rt:92:9
pub returns-then-text-n : goal.returns-then-text-n
returns-then-text-n c =
    short
    (tables_of c.args.t.now) _ _
    (sym c.audit.ensures
    ∙ c.if-not-audit.false)
    (sym c.within_ceilings.ensures ∙ c.if-not-within_ceilings.false) _
    c.listing_length-n.ensures c.if-text-n.true

-- src/lib.rt:94:5
pub write_rows-requires : goal.write_rows-requires
write_rows-requires c =
    let m = tables_of c.args.t.now in record {
      rows_ready = ready_of _ m (sym c.audit.ensures ∙ c.if-not-audit.false);
      counts_in_bounds = let lo = length-of c.args.counts m (ready_of _ m (sym c.audit.ensures ∙ c.if-not-audit.false)).room in
          omega arith;
    }

-- src/lib.rt:67:1
pub returns : goal.returns
returns c =
    all (tables_of c.args.t.now)
    _ _ (sym c.audit.ensures ∙ c.if-not-audit.false)
    (sym c.within_ceilings.ensures
    ∙ c.if-not-within_ceilings.false) _
    c.listing_length-n.ensures c.if-text-n.false
    _ c.write_rows.ensures
