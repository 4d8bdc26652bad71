-- That two further forms of the audit are the audit.
--     AuditIsAudited     the audit passes exactly if its propositions hold
--     QuickIsAudit       the quick test is the audit
use Rattle.std.specs.Prelude.{◌≡◌, true, ◌↔◌, ℕ}
use Rattle.tables.specs.Mesh.{Mesh}
use Rattle.audited_meshes.specs.Audit.{audit}
use Rattle.audited_meshes.specs.Audited.{Audited}
use Rattle.audited_meshes.specs.Quick.{quick}

abbrev pub AuditIsAudited : Type 0
AuditIsAudited = (m : Mesh) (np ne nf : ℕ) → (audit m np ne nf ≡ true) ↔ Audited m np ne nf

abbrev pub QuickIsAudit : Type 0
QuickIsAudit = (m : Mesh) (np ne nf : ℕ) → quick m np ne nf ≡ audit m np ne nf
