-- counts_fit meets its contract: each test decides one of the definition's.
use borrow.Author.Tests.{le-leb, lt-leb, eq-eqb, ne_eqb}
use native.Mathlib.Omega.{arith}
use Rattle.built_meshes.specs.Lists.{counts_fit}
use Rattle.building_tests.proofs.Laws.{faces-few}
use Rattle.building_lists.proofs.counts_fit.Goals as goal

pub returns-then-most-lists : goal.returns-then-most-lists
unfolding counts_fit
returns-then-most-lists c =
    rw (← c.most-most.ensures, lt-leb _ _ c.if-most-lists.true)

pub returns-then-most-lists-2 : goal.returns-then-most-lists-2
unfolding counts_fit
returns-then-most-lists-2 c =
    rw (
      ← c.most-most.ensures,
      le-leb _ _ c.if-most-lists.false,
      lt-leb _ _ c.if-most-lists-2.true,
    )

pub returns-then-most-lists-3 : goal.returns-then-most-lists-3
unfolding counts_fit
returns-then-most-lists-3 c =
    rw (
      ← c.most-most.ensures,
      le-leb _ _ c.if-most-lists.false,
      le-leb _ _ c.if-most-lists-2.false,
      lt-leb _ _ c.if-most-lists-3.true,
    )

pub returns-then-lists-ne0 : goal.returns-then-lists-ne0
unfolding counts_fit
returns-then-lists-ne0 c =
    rw (
      ← c.most-most.ensures,
      le-leb _ _ c.if-most-lists.false,
      le-leb _ _ c.if-most-lists-2.false,
      le-leb _ _ c.if-most-lists-3.false,
      ne_eqb _ _ c.if-lists-ne0.true,
    )

pub returns-then-lists-ne0-2 : goal.returns-then-lists-ne0-2
unfolding counts_fit
returns-then-lists-ne0-2 c =
    rw (
      ← c.most-most.ensures,
      le-leb _ _ c.if-most-lists.false,
      le-leb _ _ c.if-most-lists-2.false,
      le-leb _ _ c.if-most-lists-3.false,
      eq-eqb _ _ c.if-lists-ne0.false,
      ne_eqb _ _ c.if-lists-ne0-2.true,
    )

pub returns-then-lists : goal.returns-then-lists
unfolding counts_fit
returns-then-lists c =
    rw (
      ← c.most-most.ensures,
      le-leb _ _ c.if-most-lists.false,
      le-leb _ _ c.if-most-lists-2.false,
      le-leb _ _ c.if-most-lists-3.false,
      eq-eqb _ _ c.if-lists-ne0.false,
      eq-eqb _ _ c.if-lists-ne0-2.false,
      ne_eqb _ _ c.if-lists.true,
    )

pub sum_of-requires : goal.sum_of-requires
sum_of-requires c =
    let h = faces-few c.args.bounds c.most-most.result c.most-most.ensures in
    omega arith

pub returns-then-sum_of-lists : goal.returns-then-sum_of-lists
unfolding counts_fit
returns-then-sum_of-lists c =
    rw (
      ← c.most-most.ensures,
      le-leb _ _ c.if-most-lists.false,
      le-leb _ _ c.if-most-lists-2.false,
      le-leb _ _ c.if-most-lists-3.false,
      eq-eqb _ _ c.if-lists-ne0.false,
      eq-eqb _ _ c.if-lists-ne0-2.false,
      eq-eqb _ _ c.if-lists.false,
      ne_eqb _ _ (rw c.sum_of.ensures at c.if-sum_of-lists.true),
    )

pub returns : goal.returns
unfolding counts_fit
returns c =
    rw (
      ← c.most-most.ensures,
      le-leb _ _ c.if-most-lists.false,
      le-leb _ _ c.if-most-lists-2.false,
      le-leb _ _ c.if-most-lists-3.false,
      eq-eqb _ _ c.if-lists-ne0.false,
      eq-eqb _ _ c.if-lists-ne0-2.false,
      eq-eqb _ _ c.if-lists.false,
      eq-eqb _ _ (rw c.sum_of.ensures at c.if-sum_of-lists.false),
      c.firsts_counted.ensures,
    )
