-- What the mender's tests of faces need, and leave.
--     FaceRoom              face f, whose n listed points stand from a on, is in the lists
--     FacesRoom             the lists have room for all faces
--     TosShown              a list of the points that the places run to
--     EnteredIf             the lists after k places, if the verdict is that they are fit
use Rattle.std.specs.Prelude.{◌≡◌, List, [], ℕ, ◌+◌, ◌*◌, ◌/◌, ◌≤◌, ◌<◌, Float, length, get_or, Result, Ok, ⊤}
use Rattle.built_meshes.specs.declared.Ground.{Ground}
use Rattle.built_meshes.specs.Lists.{size, offset}
use Rattle.building_tests.specs.Lent.{lists}
use Rattle.mended_lists.specs.Edges.{places_of, place_at}
use Rattle.shared_edges.specs.Chains.{PlacesEntered}

pub record FaceRoom (ss fs ls : List ℕ) (is : List Float) (ts : List ℕ) (nh : ℕ) (links mates seconds : List ℕ) (np f a n : ℕ) : Type 0 where
  pub sides-fit : f * 4 + 4 ≤ length ss
  pub firsts-fit : length fs ≡ length ss
  pub size_is : n ≡ size (lists [] ss [] []) f
  pub listed-fit : a + n ≤ length ls
  pub intervals-fit : a + n ≤ length is
  pub tos-fit : a + n ≤ length ts
  pub points-fit : np ≤ nh
  pub links-fit : a + n ≤ length links
  pub mates-fit : a + n ≤ length mates
  pub seconds-fit : a + n ≤ length seconds
  pub few : length ls ≤ 16384

pub record FacesRoom (ss fs ls : List ℕ) (is : List Float) (ts : List ℕ) (nh : ℕ) (links mates seconds : List ℕ) (np : ℕ) : Type 0 where
  pub all_listed : offset (lists [] ss [] []) (length ss / 4) ≡ length ls
  pub firsts-fit : length fs ≡ length ss
  pub intervals-fit : length ls ≤ length is
  pub tos-fit : length ls ≤ length ts
  pub points-fit : np ≤ nh
  pub links-fit : length ls ≤ length links
  pub mates-fit : length ls ≤ length mates
  pub seconds-fit : length ls ≤ length seconds
  pub few : length ls ≤ 16384
  pub few-faces : length ss / 4 ≤ 4096

-- where each place of all faces runs to
abbrev pub TosShown : List ℕ → List ℕ → List ℕ → Type 0
TosShown ss ls ts = (j : ℕ) → j < length ls → get_or ts j 0 ≡ (place_at (places_of (lists [] ss ls [])) j).to

abbrev pub EnteredIf : List ℕ → List ℕ → List ℕ → List ℕ → List ℕ → List ℕ → ℕ → Result ⊤ Ground → Type 0
EnteredIf ls ts heads links mates seconds k r = r ≡ Ok tt → PlacesEntered ls ts heads links mates seconds k
