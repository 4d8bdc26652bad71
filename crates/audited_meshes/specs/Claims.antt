-- What is claimed of the audit.
--     AuditIsClosed      the audit passes exactly if the tables hold a closed mesh over bounded numbers, and the rest fits
use Rattle.std.specs.Prelude.{◌≡◌, true, ◌↔◌, ℕ}
use Rattle.tables.specs.Mesh.{Mesh}
use Rattle.audited_meshes.specs.Audit.{audit}
use Rattle.audited_meshes.specs.Rows.{HoldsClosed}

abbrev pub AuditIsClosed : Type 0
AuditIsClosed = (m : Mesh) (np ne nf : ℕ) → (audit m np ne nf ≡ true) ↔ HoldsClosed m np ne nf
