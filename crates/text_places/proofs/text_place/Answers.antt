-- text_place meets its contract: the bytes are counted before the form is looked at.
use mathlib.Core.Path.{◌∙◌}
use Rattle.text_places.proofs.Laws.{too_long, not-too-long}
use Rattle.text_places.proofs.text_place.Goals as goal

-- src/lib.rt:208:9
pub returns-then-is_too_long : goal.returns-then-is_too_long
returns-then-is_too_long c =
    c.place_at.ensures
    ∙ too_long c.args.bounds c.args.text.now c.is_too_long.ensures c.if-is_too_long.true

-- src/lib.rt:204:1
pub returns : goal.returns
returns c =
    not-too-long c.args.bounds c.args.text.now c.is_too_long.ensures c.if-is_too_long.false
    c.read_and_place.ensures
