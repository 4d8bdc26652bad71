-- The lists that are lent to building, and how large they may be.
--     lists_in, lists          the lists as one record, which `listed_points` has
--     FirstsGiven v ss fs     there are as many first points as sides, where the version looks at them
--     limits_of b              the most points, faces and listed points within the bounds b
use Rattle.std.specs.Prelude.{◌≡◌, List, ℕ, length}
use Rattle.tables.specs.declared.Sizes.{Sizes}
use Rattle.built_meshes.specs.Lists.{general_limits, refine_limits}
use Rattle.built_meshes.specs.declared.Version.{Version}
use Rattle.built_meshes.specs.declared.Version.TheVariants.{Two}
pub use Rattle.listed_points.specs.Lent.{lists_in, lists}
use Rattle.building_tests.specs.declared.Bounds.{Bounds}
use Rattle.building_tests.specs.declared.Bounds.TheVariants.{General, Refine}

abbrev pub FirstsGiven : Version → List ℕ → List ℕ → Type 0
FirstsGiven v ss fs = v ≡ Two → length fs ≡ length ss

abbrev pub limits_of : Bounds → Sizes
limits_of General = general_limits
limits_of Refine = refine_limits
