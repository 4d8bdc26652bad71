-- first_ground meets its contract: each test decides one of the definition's.
use Rattle.step_grounds.proofs.Laws.{not-closed, not-once, no-room-in-tables, no-room-in-scratch, over-ceilings, no-ground, counts-fit}
use Rattle.tables.specs.Mesh.{Mesh}
use Rattle.tables.specs.Lent.{tables_of}
use native.Mathlib.Omega.{arith}
use mathlib.Core.Path.{sym, ◌∙◌}
use Rattle.step_grounds.proofs.first_ground.Goals as goal

pub returns-then-not-audit : goal.returns-then-not-audit
returns-then-not-audit c =
    let m : Mesh = tables_of c.args.mesh.now in
    let t : Mesh = tables_of c.args.scratch.now in
    not-closed m c.args.counts c.args.order.now t
    (sym c.audit.ensures ∙ c.if-not-audit.true)

pub returns-then-not-each_face_once : goal.returns-then-not-each_face_once
returns-then-not-each_face_once c =
    let m : Mesh = tables_of c.args.mesh.now in
    let t : Mesh = tables_of c.args.scratch.now in
    not-once m c.args.counts c.args.order.now t
    (sym c.audit.ensures
    ∙ c.if-not-audit.false)
    (sym c.each_face_once.ensures ∙ c.if-not-each_face_once.true)

pub refined_counts-c-requires : goal.refined_counts-c-requires
refined_counts-c-requires c =
    let m : Mesh = tables_of c.args.mesh.now in
    let t : Mesh = tables_of c.args.scratch.now in
    let whole = counts-fit m c.args.counts c.args.order.now t (sym c.audit.ensures ∙ c.if-not-audit.false) (omega arith)
    (omega arith) (omega arith) in
    record { faces_bound = whole.0; edges_bound = whole.1 }

pub returns-then-not-rows_for : goal.returns-then-not-rows_for
returns-then-not-rows_for c =
    let m : Mesh = tables_of c.args.mesh.now in
    let t : Mesh = tables_of c.args.scratch.now in
    no-room-in-tables m c.args.counts c.args.order.now t
    (sym c.audit.ensures ∙ c.if-not-audit.false)
    (sym c.each_face_once.ensures ∙ c.if-not-each_face_once.false)
    (sym (rw c.refined_counts-c.ensures at c.rows_for.ensures)
    ∙ c.if-not-rows_for.true)

pub returns-then-not-rows_for-2 : goal.returns-then-not-rows_for-2
returns-then-not-rows_for-2 c =
    let m : Mesh = tables_of c.args.mesh.now in
    let t : Mesh = tables_of c.args.scratch.now in
    no-room-in-scratch m c.args.counts c.args.order.now t
    (sym c.audit.ensures
    ∙ c.if-not-audit.false)
    (sym c.each_face_once.ensures
    ∙ c.if-not-each_face_once.false)
    (sym (rw c.refined_counts-c.ensures at c.rows_for.ensures)
    ∙ c.if-not-rows_for.false)
    (sym (rw c.refined_counts-c.ensures at c.rows_for-2.ensures)
    ∙ c.if-not-rows_for-2.true)

pub returns-then-not-within_ceilings : goal.returns-then-not-within_ceilings
returns-then-not-within_ceilings c =
    let m : Mesh = tables_of c.args.mesh.now in
    let t : Mesh = tables_of c.args.scratch.now in
    over-ceilings m c.args.counts c.args.order.now t
    (sym c.audit.ensures ∙ c.if-not-audit.false)
    (sym c.each_face_once.ensures
    ∙ c.if-not-each_face_once.false)
    (sym (rw c.refined_counts-c.ensures at c.rows_for.ensures)
    ∙ c.if-not-rows_for.false)
    (sym (rw c.refined_counts-c.ensures at c.rows_for-2.ensures)
    ∙ c.if-not-rows_for-2.false)
    (sym (rw c.refined_counts-c.ensures at c.within_ceilings.ensures)
    ∙ c.if-not-within_ceilings.true)

pub returns : goal.returns
returns c =
    let m : Mesh = tables_of c.args.mesh.now in
    let t : Mesh = tables_of c.args.scratch.now in
    rw c.refined_counts-c.ensures (no-ground m c.args.counts c.args.order.now t
    (sym c.audit.ensures ∙ c.if-not-audit.false)
    (sym c.each_face_once.ensures
    ∙ c.if-not-each_face_once.false)
    (sym (rw c.refined_counts-c.ensures at c.rows_for.ensures)
    ∙ c.if-not-rows_for.false)
    (sym (rw c.refined_counts-c.ensures at c.rows_for-2.ensures)
    ∙ c.if-not-rows_for-2.false)
    (sym (rw c.refined_counts-c.ensures at c.within_ceilings.ensures)
    ∙ c.if-not-within_ceilings.false))
