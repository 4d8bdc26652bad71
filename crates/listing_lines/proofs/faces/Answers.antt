-- `faces` meets its contract. The invariant is `Progress`, and `Table` of each table; the measure is what is left of the text.
use native.Mathlib.Omega.{arith}
use mathlib.Core.Path.{refl, sym, ◌∙◌}
use Rattle.text_numbers.specs.Form.{bytes}
use Rattle.listings.specs.Grammar.{face_row_form}
use Rattle.listing_lines.specs.Parts.{row_words}
use Rattle.listing_lines.proofs.Laws.{takes-face, fits-face}
use Rattle.listing_lines.proofs.Progress.{start, table-start, end, table-end, head-inside, stop, line-longer, turn, table-turn}
use Rattle.listing_lines.proofs.faces.Goals as goal

pub loop-ws-init : goal.loop-ws-init
loop-ws-init c =
    (start c.args.s.now (bytes "[face") (face_row_form c.args.s.now) 5 c.args.at c.requires, table-start c.args.s.now (bytes "[face") (face_row_form c.args.s.now) 5 c.args.at row_words 5 _)

pub stands-requires : goal.stands-requires
stands-requires c =
    c.loop-ws.invariant.0.inside

pub overflow_add-i : goal.overflow_add-i
overflow_add-i c =
    let h = head-inside c.args.s.now (bytes "[face") (face_row_form c.args.s.now) 5 c.args.at refl (omega arith)
    c.loop-ws.invariant.0 (sym c.stands.ensures ∙ c.loop-ws-test.true) in
    omega arith

pub face-requires : goal.face-requires
face-requires c = (
  let h = head-inside c.args.s.now (bytes "[face") (face_row_form c.args.s.now) 5 c.args.at refl (omega arith)
      c.loop-ws.invariant.0 (sym c.stands.ensures ∙ c.loop-ws-test.true) in
      omega arith,
  let h = head-inside c.args.s.now (bytes "[face") (face_row_form c.args.s.now) 5 c.args.at refl (omega arith)
      c.loop-ws.invariant.0 (sym c.stands.ensures ∙ c.loop-ws-test.true) in
      let bound = c.loop-ws.invariant.0.far in
      let bound = c.loop-ws.invariant.0.counted in
      omega arith,
)

pub returns-in_err-i-clause-run : goal.returns-in_err-i-clause-run
returns-in_err-i-clause-run c =
    c.from_residual.ensures ∙ stop c.args.s.now (bytes "[face") (face_row_form c.args.s.now) 5 c.args.at refl (omega arith)
    c.loop-ws.invariant.0 (sym c.stands.ensures
    ∙ c.loop-ws-test.true)
    c.face.ensures.place c.in_err-i.was

pub loop-ws-smaller : goal.loop-ws-smaller
loop-ws-smaller c =
    let h = line-longer c.args.s.now (bytes "[face") (face_row_form c.args.s.now) 5 c.args.at refl (omega arith)
    c.loop-ws.invariant.0
    (sym c.stands.ensures ∙ c.loop-ws-test.true)
    c.face.ensures.place c.in_ok-i.was
    (takes-face c.args.s.now) in
    omega arith

pub loop-ws-preserved : goal.loop-ws-preserved
loop-ws-preserved c = (
  turn c.args.s.now (bytes "[face") (face_row_form c.args.s.now) 5 c.args.at refl (omega arith) c.loop-ws.invariant.0
      (sym c.stands.ensures ∙ c.loop-ws-test.true) c.face.ensures.place c.in_ok-i.was (takes-face c.args.s.now),
  table-turn c.args.s.now (bytes "[face") (face_row_form c.args.s.now) 5 c.args.at refl (omega arith)
      c.loop-ws.invariant.0 (sym c.stands.ensures ∙ c.loop-ws-test.true) c.face.ensures.place c.in_ok-i.was row_words 5
      (λ a n q. (fits-face _ _ a n q).word_count) c.loop-ws.invariant.1 c.face.ensures.words,
)

pub returns : goal.returns
returns c =
    record {
      run = end c.args.s.now (bytes "[face") (face_row_form c.args.s.now) 5 c.args.at
          (sym c.stands.ensures ∙ c.loop-ws-test.false) c.loop-ws.invariant.0;
      words = table-end c.args.s.now (bytes "[face") (face_row_form c.args.s.now) 5 c.args.at
          (sym c.stands.ensures ∙ c.loop-ws-test.false) row_words 5 c.loop-ws.invariant.1;
    }
