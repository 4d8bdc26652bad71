-- What the tests of the whole need, and turning told by lists.
--     step_at nexts mates seconds k  turning from place k: the place after the other one on its edge
--     TurnRoom              n places can be turned from
--     StartRoom             nothing is written yet at the points, which are all there
--     WholeRoom             the lists agree in length, are within the general limits, and show the pairs of their places
use Rattle.std.specs.Prelude.{◌≡◌, List, [], ℕ, ◌/◌, ◌≤◌, ◌<◌, length, get_or}
use Rattle.built_meshes.specs.Lists.{offset}
use Rattle.building_tests.specs.Lent.{lists}
use Rattle.mended_lists.specs.Edges.{places_of, mate, follower}
use Rattle.whole_grounds.specs.Turning.{linked_to}

abbrev pub step_at : List ℕ → List ℕ → List ℕ → ℕ → ℕ
step_at nexts mates seconds k = get_or nexts (linked_to (get_or mates k 0) (get_or seconds k 0)) 0

pub record TurnRoom (nexts mates seconds : List ℕ) (n : ℕ) : Type 0 where
  pub few : n ≤ 16384
  pub nexts-fit : n ≤ length nexts
  pub mates-fit : n ≤ length mates
  pub seconds-fit : n ≤ length seconds
  pub other-below : (k : ℕ) → k < n → linked_to (get_or mates k 0) (get_or seconds k 0) < n
  pub next-below : (k : ℕ) → k < n → get_or nexts k 0 < n

pub record StartRoom (ls starts : List ℕ) : Type 0 where
  pub few : length ls ≤ 16384
  pub starts-few : length starts ≤ 4096
  pub are-points : (k : ℕ) → k < length ls → get_or ls k 0 < length starts
  pub none_yet : (p : ℕ) → p < length starts → get_or starts p 0 ≡ 0

pub record WholeRoom (ss ls mates seconds : List ℕ) (np : ℕ) : Type 0 where
  pub all_listed : offset (lists [] ss [] []) (length ss / 4) ≡ length ls
  pub few : length ls ≤ 16384
  pub few-faces : length ss / 4 ≤ 4096
  pub mates-fit : length mates ≡ length ls
  pub seconds-fit : length seconds ≡ length ls
  pub are-points : (k : ℕ) → k < length ls → get_or ls k 0 < np
  pub mates-shown : (k : ℕ) → k < length ls → get_or mates k 0 ≡ mate (places_of (lists [] ss ls [])) k
  pub seconds-shown : (k : ℕ) → k < length ls → get_or seconds k 0 ≡ follower (places_of (lists [] ss ls [])) (length ls) k
