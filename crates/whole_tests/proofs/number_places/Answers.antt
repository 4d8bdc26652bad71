-- number_places meets its contract. The invariant: the places passed have their numbers.
use mathlib.Core.Path.{refl, ◌∙◌}
use Prim.Native.Nat.{◌-◌}
use native.Mathlib.Omega.{arith}
use lib.ListN.{length-set}
use Rattle.whole_tests.proofs.Laws.{numbers_more}
use Rattle.whole_tests.proofs.number_places.Goals as goal

-- src/lib.rt:62:5
pub loop-k-init : goal.loop-k-init
loop-k-init c = (
  refl,
  λ j b. absurd (omega arith),
)

-- src/lib.rt:63:22
pub overflow_cast-numbers : goal.overflow_cast-numbers
overflow_cast-numbers c =
    omega (arith, c.loop-k-test.true, c.requires.n_bound)

-- src/lib.rt:63:9
pub bounds-numbers-k : goal.bounds-numbers-k
bounds-numbers-k c =
    omega (arith, c.loop-k-test.true, c.requires.n_in_bounds, c.loop-k.invariant.0)

-- src/lib.rt:62:5
pub loop-k-preserved : goal.loop-k-preserved
loop-k-preserved c = (
  length-set c.loop-k.numbers c.loop-k.k c.loop-k.k ∙ c.loop-k.invariant.0,
  numbers_more c.loop-k.numbers c.loop-k.k (omega (arith, c.loop-k-test.true, c.requires.n_in_bounds, c.loop-k.invariant.0))
      c.loop-k.invariant.1,
)

-- src/lib.rt:56:1
pub shape_of-numbers : goal.shape_of-numbers
shape_of-numbers c =
    c.loop-k.invariant.0

-- src/lib.rt:56:1
pub returns : goal.returns
returns c =
    λ j b. c.loop-k.invariant.1 j (omega (arith, c.loop-k-test.false))
