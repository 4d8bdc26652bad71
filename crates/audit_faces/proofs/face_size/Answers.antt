-- face_size meets its contract, by the border in the lent arrays.
use mathlib.Core.Bool.{true, false}
use mathlib.Core.Path.{sym, ◌∙◌}
use Rattle.audit_faces.proofs.FaceTests.{size-lost, size-within, size-short, size_is}
use Rattle.tables.specs.Parts.{face_tables}
use Rattle.audit_faces.proofs.face_size.Goals as goal

pub returns-in_err-n : goal.returns-in_err-n
returns-in_err-n c = record {
  value = c.from_residual.ensures
      ∙ size-lost (face_tables c.args.edges.now c.args.faces.now) c.args.ne c.args.f _ _ _ _ _ c.lay_border.ensures c.in_err-n.was;
  perimeter_len_2 = c.lay_border.ensures.edges-long ∙ c.requires.perimeter_len;
  points_len_2 = c.lay_border.ensures.points-long ∙ c.requires.points_len;
}

pub returns-then-n-lt3 : goal.returns-then-n-lt3
returns-then-n-lt3 c = record {
  value = size-short (face_tables c.args.edges.now c.args.faces.now) c.args.ne c.args.f _ _ _ _ _ c.lay_border.ensures
      c.in_ok-n.was c.if-n-lt3.true;
  perimeter_len_2 = c.lay_border.ensures.edges-long ∙ c.requires.perimeter_len;
  points_len_2 = c.lay_border.ensures.points-long ∙ c.requires.points_len;
}

pub are_distinct-requires : goal.are_distinct-requires
are_distinct-requires c =
    size-within (face_tables c.args.edges.now c.args.faces.now) c.args.ne c.args.f _ _ _ _ _ c.lay_border.ensures c.in_ok-n.was

pub returns-then-not-are_distinct : goal.returns-then-not-are_distinct
returns-then-not-are_distinct c = record {
  value = size_is (face_tables c.args.edges.now c.args.faces.now) c.args.ne c.args.f _ _ _ _ _ c.lay_border.ensures
      c.in_ok-n.was c.if-n-lt3.false false (sym c.if-not-are_distinct.true ∙ c.are_distinct.ensures);
  perimeter_len_2 = c.lay_border.ensures.edges-long ∙ c.requires.perimeter_len;
  points_len_2 = c.lay_border.ensures.points-long ∙ c.requires.points_len;
}

pub returns : goal.returns
returns c = record {
  value = size_is (face_tables c.args.edges.now c.args.faces.now) c.args.ne c.args.f _ _ _ _ _ c.lay_border.ensures
      c.in_ok-n.was c.if-n-lt3.false true (sym c.if-not-are_distinct.false ∙ c.are_distinct.ensures);
  perimeter_len_2 = c.lay_border.ensures.edges-long ∙ c.requires.perimeter_len;
  points_len_2 = c.lay_border.ensures.points-long ∙ c.requires.points_len;
}
