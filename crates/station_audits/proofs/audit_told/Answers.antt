-- audit_told meets its contract: the answer of the audit, as its number.
use mathlib.Core.Path.{sym, ◌∙◌}
use Rattle.tables.specs.Lent.{tables_of}
use Rattle.station_audits.proofs.Laws.{audited-closed, audited-open}
use Rattle.station_audits.proofs.audit_told.Goals as goal

pub returns-then-audit : goal.returns-then-audit
returns-then-audit c =
    audited-closed (tables_of c.args.t.now)
    c.load_counts.ensures ((sym c.audit.ensures ∙ c.if-audit.true))

pub returns-else-audit : goal.returns-else-audit
returns-else-audit c =
    audited-open (tables_of c.args.t.now)
    c.load_counts.ensures ((sym c.audit.ensures ∙ c.if-audit.false))
