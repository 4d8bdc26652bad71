-- The pieces of document 02, §4, computed. Assumes nothing.
use mathlib.Core.Path.{refl}
use lib.Ieee.{add, sub, neg, le, lt, of_bits}
use Rattle.tables.specs.Rows.{over, zeroed}
use Rattle.edge_links.specs.Connect.{links_of}
use Rattle.built_meshes.specs.Building.{build}
use Rattle.filed_pieces.specs.TextTwo.{answer_to, text_two, AsFiled2, intervals_left, TurnedIntervals}

pub as-filed-2 : AsFiled2
unfolding text_two answer_to build links_of lt over zeroed add sub neg le of_bits
as-filed-2 = refl

pub turned-intervals : TurnedIntervals
unfolding intervals_left build links_of lt over zeroed add sub neg le of_bits
turned-intervals = record { version-1 = refl; version-2 = refl }
