-- find_turns meets its contract: the tests of grounds 2 and 3, then the faces.
use mathlib.Core.Path.{sym, ◌∙◌}
use Rattle.built_meshes.specs.declared.Version.TheVariants.{Two}
use Rattle.building_tests.specs.Lent.{lists_in}
use Rattle.list_mending.proofs.Laws.{refused-counts, refused-numbers, begun-mending, numbers-same}
use Rattle.list_mending.proofs.find_turns.Goals as goal

pub returns-then-not-counts_fit : goal.returns-then-not-counts_fit
returns-then-not-counts_fit c =
    let whole = refused-counts (lists_in Two c.args.coordinates.now c.args.sides.now c.args.firsts.now c.args.listed.now
    c.args.beside.now) c.args.turned.now (sym c.counts_fit.ensures ∙ c.if-not-counts_fit.true) in record { value = whole.0; turns_if = whole.1 }

pub returns-then-not-numbers_fit : goal.returns-then-not-numbers_fit
returns-then-not-numbers_fit c =
    let whole = refused-numbers (lists_in Two c.args.coordinates.now c.args.sides.now c.args.firsts.now c.args.listed.now
    c.args.beside.now) c.args.turned.now
    (sym c.counts_fit.ensures ∙ c.if-not-counts_fit.false)
    (sym (numbers-same c.args.coordinates.now c.args.sides.now c.args.firsts.now c.args.listed.now
    c.args.beside.now) ∙ sym c.numbers_fit.ensures ∙ c.if-not-numbers_fit.true) in record { value = whole.0; turns_if = whole.1 }

pub mend_counted-requires : goal.mend_counted-requires
mend_counted-requires c =
    record { turned_len = c.requires; beside_value = sym c.counts_fit.ensures ∙ c.if-not-counts_fit.false }

pub returns : goal.returns
returns c =
    record {
      value = begun-mending (lists_in Two c.args.coordinates.now c.args.sides.now c.args.firsts.now c.args.listed.now
          c.args.beside.now) c.mend_counted.result (sym
          c.counts_fit.ensures
          ∙ c.if-not-counts_fit.false)
          (sym (numbers-same c.args.coordinates.now c.args.sides.now c.args.firsts.now c.args.listed.now
          c.args.beside.now) ∙ sym c.numbers_fit.ensures
          ∙ c.if-not-numbers_fit.false) c.mend_counted.ensures.value;
      turns_if = c.mend_counted.ensures.turns_if;
    }
