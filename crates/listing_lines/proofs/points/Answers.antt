-- `points` meets its contract. The invariant is `Progress`, and `Table` of each table; the measure is what is left of the text.
use native.Mathlib.Omega.{arith}
use mathlib.Core.Path.{refl, sym, ◌∙◌}
use lib.ListN.{length-map}
use Rattle.text_numbers.specs.Form.{bytes}
use Rattle.text_numbers.specs.Numbers.{float}
use Rattle.listings.specs.Grammar.{point_row_form}
use Rattle.listing_lines.specs.Parts.{row_numbers, row_words}
use Rattle.listing_lines.proofs.Laws.{takes-point, fits-point}
use Rattle.listing_lines.proofs.Progress.{start, table-start, end, table-end, head-inside, stop, line-longer, turn, table-turn}
use Rattle.listing_lines.proofs.points.Goals as goal

pub loop-xs-init : goal.loop-xs-init
loop-xs-init c = (
  start c.args.s.now (bytes "[point") (point_row_form c.args.s.now) 3 c.args.at c.requires,
  table-start c.args.s.now (bytes "[point") (point_row_form c.args.s.now) 3 c.args.at row_numbers 3 _,
  table-start c.args.s.now (bytes "[point") (point_row_form c.args.s.now) 3 c.args.at row_words 3 _,
)

pub stands-requires : goal.stands-requires
stands-requires c =
    c.loop-xs.invariant.0.inside

pub overflow_add-i : goal.overflow_add-i
overflow_add-i c =
    let h = head-inside c.args.s.now (bytes "[point") (point_row_form c.args.s.now) 3 c.args.at refl (omega arith)
    c.loop-xs.invariant.0 (sym c.stands.ensures ∙ c.loop-xs-test.true) in
    omega arith

pub point-requires : goal.point-requires
point-requires c = (
  let h = head-inside c.args.s.now (bytes "[point") (point_row_form c.args.s.now) 3 c.args.at refl (omega arith)
      c.loop-xs.invariant.0 (sym c.stands.ensures ∙ c.loop-xs-test.true) in
      omega arith,
  let h = head-inside c.args.s.now (bytes "[point") (point_row_form c.args.s.now) 3 c.args.at refl (omega arith)
      c.loop-xs.invariant.0 (sym c.stands.ensures ∙ c.loop-xs-test.true) in
      let bound = c.loop-xs.invariant.0.far in
      let bound = c.loop-xs.invariant.0.counted in
      omega arith,
)

pub returns-in_err-i-clause-run : goal.returns-in_err-i-clause-run
returns-in_err-i-clause-run c =
    c.from_residual.ensures ∙ stop c.args.s.now (bytes "[point") (point_row_form c.args.s.now) 3 c.args.at refl (omega arith) c.loop-xs.invariant.0
    (sym c.stands.ensures ∙ c.loop-xs-test.true)
    c.point.ensures.place c.in_err-i.was

pub loop-xs-smaller : goal.loop-xs-smaller
loop-xs-smaller c =
    let h = line-longer c.args.s.now (bytes "[point") (point_row_form c.args.s.now) 3 c.args.at refl (omega arith)
    c.loop-xs.invariant.0 (sym c.stands.ensures ∙ c.loop-xs-test.true)
    c.point.ensures.place c.in_ok-i.was
    (takes-point c.args.s.now) in
    omega arith

pub loop-xs-preserved : goal.loop-xs-preserved
loop-xs-preserved c = (
  turn c.args.s.now (bytes "[point") (point_row_form c.args.s.now) 3 c.args.at refl (omega arith)
      c.loop-xs.invariant.0 (sym c.stands.ensures ∙ c.loop-xs-test.true) c.point.ensures.place c.in_ok-i.was
      (takes-point c.args.s.now),
  table-turn c.args.s.now (bytes "[point") (point_row_form c.args.s.now) 3 c.args.at refl (omega arith)
      c.loop-xs.invariant.0 (sym c.stands.ensures ∙ c.loop-xs-test.true) c.point.ensures.place c.in_ok-i.was row_numbers 3
      (λ a n q. length-map a.numbers float ∙ (fits-point _ _ a n q).number-count) c.loop-xs.invariant.1
      c.point.ensures.numbers,
  table-turn c.args.s.now (bytes "[point") (point_row_form c.args.s.now) 3 c.args.at refl (omega arith)
      c.loop-xs.invariant.0 (sym c.stands.ensures ∙ c.loop-xs-test.true) c.point.ensures.place c.in_ok-i.was row_words 3
      (λ a n q. (fits-point _ _ a n q).word_count) c.loop-xs.invariant.2 c.point.ensures.words,
)

pub returns : goal.returns
returns c =
    record {
      run = end c.args.s.now (bytes "[point") (point_row_form c.args.s.now) 3 c.args.at
          (sym c.stands.ensures ∙ c.loop-xs-test.false) c.loop-xs.invariant.0;
      numbers = table-end c.args.s.now (bytes "[point") (point_row_form c.args.s.now) 3 c.args.at
          (sym c.stands.ensures ∙ c.loop-xs-test.false) row_numbers 3 c.loop-xs.invariant.1;
      words = table-end c.args.s.now (bytes "[point") (point_row_form c.args.s.now) 3 c.args.at
          (sym c.stands.ensures ∙ c.loop-xs-test.false) row_words 3 c.loop-xs.invariant.2;
    }
