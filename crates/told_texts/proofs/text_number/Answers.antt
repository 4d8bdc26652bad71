-- text_number meets its contract: the bytes are counted before the form is looked at.
use Rattle.told_texts.proofs.Laws.{too_long, not-too-long}
use Rattle.told_texts.proofs.text_number.Goals as goal

-- src/lib.rt:231:9
pub returns-then-is_too_long : goal.returns-then-is_too_long
returns-then-is_too_long c =
    too_long c.args.bounds c.args.text.now
    c.is_too_long.ensures c.if-is_too_long.true

-- src/lib.rt:227:1
pub returns : goal.returns
returns c =
    not-too-long c.args.bounds c.args.text.now c.is_too_long.ensures c.if-is_too_long.false
    c.read_and_number.ensures
