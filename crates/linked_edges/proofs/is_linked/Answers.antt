-- is_linked meets its contract: each test decides one of the definition's.
use Prim.Native.Nat.{ℕ}
use mathlib.Core.List.{[]}
use mathlib.Core.Path.{sym, ◌∙◌, ap}
use Rattle.linked_edges.proofs.LinkTests.{linked-1, linked-2}
use Rattle.tables.specs.Parts.{face_tables}
use Rattle.audited_meshes.specs.Audit.{acw_links}
use Rattle.tables.specs.Mesh.{origin, dest, left_face, right_face}
use Rattle.linked_edges.proofs.is_linked.Goals as goal

pub returns-then-not-acw_links : goal.returns-then-not-acw_links
returns-then-not-acw_links c =
    let t = ap (λ (i : ℕ). acw_links (face_tables c.args.edges.now []) c.args.e (dest (face_tables c.args.edges.now []) c.args.e)
    (left_face (face_tables c.args.edges.now []) c.args.e) i) (sym c.index-left_acw.ensures)
    ∙ sym c.acw_links.ensures ∙ c.if-not-acw_links.true in
    sym (linked-1 c.args.edges.now c.args.e t)

pub returns : goal.returns
returns c =
    let t1 = ap (λ (i : ℕ). acw_links (face_tables c.args.edges.now []) c.args.e
    (dest (face_tables c.args.edges.now []) c.args.e) (left_face (face_tables c.args.edges.now []) c.args.e) i)
    (sym c.index-left_acw.ensures) ∙ sym c.acw_links.ensures
    ∙ c.if-not-acw_links.false in
    let t2 = ap (λ (i : ℕ). acw_links (face_tables c.args.edges.now []) c.args.e
    (origin (face_tables c.args.edges.now []) c.args.e) (right_face (face_tables c.args.edges.now []) c.args.e) i)
    (sym c.index-right_acw.ensures) ∙ sym c.acw_links-2.ensures in
    sym (linked-2 c.args.edges.now c.args.e t1 ∙ t2)
