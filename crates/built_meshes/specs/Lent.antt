-- The lists of a mesh that are lent together.
--     lists_of l    what they hold
use Rattle.built_meshes.specs.Lists.{Lists}
use Rattle.built_meshes.specs.declared.LentLists.{LentLists}

abbrev pub lists_of : LentLists → Lists
lists_of l = record {
  version = l.version;
  coordinates = l.coordinates.now;
  sides = l.sides.now;
  firsts = l.firsts.now;
  listed = l.listed.now;
  intervals = l.beside.now;
}
