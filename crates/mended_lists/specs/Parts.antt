-- Parts of a mesh: faces parts_joined through shared edges, found place by place, and the choice of faces to turn.
--     Parts                 the part of each face, as far as places were looked at; twisted: they cannot all run opposite ways
--     differ a b            one of the two holds, and not the other
--     lone_part f               the part of a face that is parts_joined to none
--     part_moved high low d p    the part p after the part of `high` was parts_joined to that of `low`, turned by d
--     parts_joined s a b way      faces of the parts a and b have an edge in common, which they run the same way or not
--     parts_to ps k          the parts after the first k places
--     parts_of l             the parts of the lists l
--     faces_turned l               the choice: the faces that are turned
--     twisted l             no choice works: ground 44
use Rattle.std.specs.Prelude.{Bool, true, false, not, ◌||◌, List, ℕ, zero, suc, min, max, eqb, length}
use Rattle.built_meshes.specs.Lists.{Lists}
use Rattle.mended_lists.specs.declared.Part.{Part}
use Rattle.mended_lists.specs.Reversal.{Choice}
use Rattle.mended_lists.specs.Edges.{FacePlace, places_of, place_at, same_way, mate}

pub record Parts : Type 0 where
  pub part : ℕ → Part
  pub twisted : Bool

abbrev pub differ : Bool → Bool → Bool
differ true b = not b
differ false b = b

abbrev pub lone_part : ℕ → Part
lone_part f = record { root = f; odd = false }

abbrev pub moved_if : Bool → ℕ → Bool → Part → Part
moved_if true low d p = record { root = low; odd = differ p.odd d }
moved_if false low d p = p

abbrev pub part_moved : ℕ → ℕ → Bool → Part → Part
part_moved high low d p = moved_if (eqb p.root high) low d p

-- how the one part is turned against the other
abbrev pub apart : Part → Part → Bool → Bool
apart a b way = differ (differ a.odd b.odd) way

unfoldable pub joined_if : Bool → Parts → Part → Part → Bool → Parts
joined_if true s a b way = record { part = s.part; twisted = s.twisted || apart a b way }
joined_if false s a b way =
    let high = max a.root b.root in
    let low = min a.root b.root in
    let d = apart a b way in
    record { part = λ f. part_moved high low d (s.part f); twisted = s.twisted }

unfoldable pub parts_joined : Parts → Part → Part → Bool → Parts
unfolding joined_if
parts_joined s a b way = joined_if (eqb a.root b.root) s a b way

-- place k, whose mate is given
unfoldable pub parts_met : ℕ → List FacePlace → ℕ → Parts → Parts
unfolding parts_joined
parts_met zero ps k s = s
parts_met (suc j) ps k s =
    parts_joined s (s.part (place_at ps j).face) (s.part (place_at ps k).face) (same_way (place_at ps j) (place_at ps k))

unfoldable pub parts_to : List FacePlace → ℕ → Parts
unfolding parts_met mate
parts_to ps zero = record { part = λ f. lone_part f; twisted = false }
parts_to ps (suc k) = parts_met (mate ps k) ps k (parts_to ps k)

unfoldable pub parts_of : Lists → Parts
unfolding parts_to places_of
parts_of l = parts_to (places_of l) (length (places_of l))

unfoldable pub faces_turned : Lists → Choice
unfolding parts_of
faces_turned l f = ((parts_of l).part f).odd

unfoldable pub twisted : Lists → Bool
unfolding parts_of
twisted l = (parts_of l).twisted
