-- `read_text` meets its contract: the text is counted, then the counts are tested, and then its numbers are stored.
pub mod Parts
use mathlib.Core.Path.{◌≡◌, sym, ap, ◌∙◌}
use native.Mathlib.Omega.{arith}
use Rattle.std.proofs.lemmas.Grind.{common_steps}
use Rattle.std.specs.Prelude.{Err}
use Rattle.mesh_text.specs.declared.ReadingGround.TheVariants.{NotText}
use Rattle.std.specs.Result.{result_ok}
use Rattle.text_reading.proofs.read_text.Answers.Parts.{not-text, over-limits, parses, whole, promised}
use Rattle.text_reading.proofs.read_text.Goals as goal

pub returns-in_err-version : goal.returns-in_err-version
returns-in_err-version c =
    let r : c.from_residual.result ≡ Err NotText = grind (arith, common_steps) in
    let whole = promised (not-text _ _ _ c.sizes.ensures (c.ok_or.ensures.ok_part ∙ ap result_ok c.in_err-version.was) r) in
    record { outcome = whole.0; told = whole.1 }

pub returns-then-not-within : goal.returns-then-not-within
returns-then-not-within c =
    let whole = promised
    (over-limits _ _ _ c.sizes.ensures
    (c.ok_or.ensures.ok_part ∙ ap result_ok c.in_ok-version.was) (sym c.within.ensures ∙ c.if-not-within.true)) in record { outcome = whole.0; told = whole.1 }

pub store-requires : goal.store-requires
store-requires c =
    parses _ c.sizes.ensures (c.ok_or.ensures.ok_part ∙ ap result_ok c.in_ok-version.was)

pub returns : goal.returns
returns c =
    let whole = promised (whole _ _ _ c.sizes.ensures (c.ok_or.ensures.ok_part ∙ ap result_ok c.in_ok-version.was)
    (sym c.within.ensures ∙ c.if-not-within.false) c.store.ensures.coordinates c.store.ensures.lengths c.store.ensures.firsts
    c.store.ensures.points c.store.ensures.intervals) in record { outcome = whole.0; told = whole.1 }
