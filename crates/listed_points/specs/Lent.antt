-- The lists that are lent to building, as one record.
--     lists_in v cs ss fs ls is    the version, coordinates, side lengths, first points, listed points and intervals
--     lists cs ss ls is       those of version 1, which looks at no first points
use Rattle.std.specs.Prelude.{List, [], ℕ, Float}
use Rattle.built_meshes.specs.Lists.{Lists}
use Rattle.built_meshes.specs.declared.Version.{Version}
use Rattle.built_meshes.specs.declared.Version.TheVariants.{One}

abbrev pub lists_in : Version → List Float → List ℕ → List ℕ → List ℕ → List Float → Lists
lists_in v cs ss fs ls is = record { version = v; coordinates = cs; sides = ss; firsts = fs; listed = ls; intervals = is }

abbrev pub lists : List Float → List ℕ → List ℕ → List Float → Lists
lists cs ss ls is = lists_in One cs ss [] ls is
