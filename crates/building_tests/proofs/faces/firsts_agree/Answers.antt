-- firsts_agree meets its contract.
use Rattle.built_meshes.specs.Faces.{firsts_fit}
use Rattle.building_tests.proofs.faces.firsts_agree.Goals as goal

-- src/faces.rt:152:25
pub firsts_fit-requires : goal.firsts_fit-requires
firsts_fit-requires c = record {
  f_in_bounds = c.requires.f_in_bounds;
  f_in_bounds_2 = rw (c.requires.firsts_given c.in-Two.is) c.requires.f_in_bounds;
  n_value = c.requires.n_value;
  n_in_bounds = c.requires.n_in_bounds;
  n_nonzero = c.requires.n_nonzero;
}

-- src/faces.rt:134:1
pub returns-in-One : goal.returns-in-One
unfolding firsts_fit
returns-in-One c =
    rw c.in-One.is

-- src/faces.rt:134:1
pub returns-in-Two : goal.returns-in-Two
returns-in-Two c =
    rw c.in-Two.is c.firsts_fit.ensures
