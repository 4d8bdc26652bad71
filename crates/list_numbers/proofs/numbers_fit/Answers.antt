-- numbers_fit meets its contract.
use mathlib.Core.Path.{◌∙◌, sym}
use lib.Ieee.{nan}
use lib.Ieee.Scale.{finite}
use Rattle.audited_meshes.specs.Audit.{interval_fit}
use Rattle.built_meshes.specs.Lists.{listed_fit}
use Rattle.list_numbers.proofs.Laws.{all-every}
use Rattle.list_numbers.proofs.numbers_fit.Goals as goal

pub returns-then-all_finite : goal.returns-then-all_finite
unfolding listed_fit
returns-then-all_finite c =
    rw (
      sym (all-every finite nan c.args.coordinates.now) ∙ sym c.all_finite.ensures ∙ c.if-all_finite.true,
      sym (all-every interval_fit nan c.args.beside.now),
    )
    c.all_fit.ensures

pub returns-else-all_finite : goal.returns-else-all_finite
unfolding listed_fit
returns-else-all_finite c =
    rw (sym (all-every finite nan c.args.coordinates.now) ∙ sym c.all_finite.ensures ∙ c.if-all_finite.false) c.if-all_finite.false
