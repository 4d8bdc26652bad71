-- The definitions computed on the small lists of `specs/Pieces.antt`. Assumes nothing.
use mathlib.Core.Path.{refl}
use Rattle.closed_meshes.specs.Renumbering.{sum_to}
use Rattle.built_meshes.specs.Lists.{offset}
use Rattle.mended_lists.specs.InTurn.{up_to, in_turn}
use Rattle.mended_lists.specs.Reversal.{reversed}
use Rattle.mended_lists.specs.Edges.{places_of, latest, mate}
use Rattle.mended_lists.specs.Parts.{joined_if, parts_joined, parts_met, parts_to, parts_of, faces_turned, twisted}
use Rattle.mended_lists.specs.Pieces.{SquareTurned, TetrahedronTurned, CrossCapTwisted}

pub square-turned : SquareTurned
unfolding sum_to offset up_to in_turn reversed
square-turned a b c d = refl

pub tetrahedron-turned : TetrahedronTurned
unfolding sum_to offset up_to in_turn places_of latest mate joined_if parts_joined parts_met parts_to parts_of faces_turned twisted
tetrahedron-turned = (refl, refl, refl, refl, refl)

pub cross-cap-twisted : CrossCapTwisted
unfolding sum_to offset up_to in_turn places_of latest mate joined_if parts_joined parts_met parts_to parts_of twisted
cross-cap-twisted = refl
