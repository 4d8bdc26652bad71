-- mend_text meets its contract: a text with another head is refused, any other is read.
use mathlib.Core.Path.{sym, ◌∙◌}
use native.Mathlib.Omega.{arith}
use Rattle.mended_texts.proofs.Outcome.{other-head}
use Rattle.text_mending.proofs.Laws.{promised}
use Rattle.text_mending.proofs.mend_text.Goals as goal

pub returns-then-not-stands : goal.returns-then-not-stands
returns-then-not-stands c =
    let whole = promised (sym (other-head c.args.text.now (sym c.stands.ensures ∙ c.if-not-stands.true))) in record { outcome = whole.0; told = whole.1 }

pub read_and_mend-requires : goal.read_and_mend-requires
read_and_mend-requires c =
    let head = sym c.stands.ensures ∙ c.if-not-stands.false in
    record {
      points_in_bounds = omega arith;
      faces_in_bounds = omega arith;
      faces_in_bounds_2 = omega arith;
      listed_in_bounds = omega arith;
      listed_in_bounds_2 = omega arith;
      bytes_value = head;
    }

pub shape_of-text : goal.shape_of-text
shape_of-text c =
    c.read_and_mend.auto.text

pub returns : goal.returns
returns c =
    let whole = promised c.read_and_mend.ensures in record { outcome = whole.0; told = whole.1 }
