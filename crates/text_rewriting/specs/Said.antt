-- What holds between the stages of mending a text.
--     Said s cs ss fs ls is         the text s is of version 2, and these are its lists: coordinates, side lengths, first points, listed
--                                   points and intervals
--     Mendable s cs ss fs ls is ts  it can be mended, and ts says of each face whether it is turned
use Rattle.std.specs.Prelude.{◌≡◌, Bool, false, List, ℕ, ◌/◌, ◌<◌, length, get_or, Float, Ok}
use Rattle.text_numbers.specs.Form.{parsed}
use Rattle.mesh_text.specs.Text.{TextMesh, text}
use Rattle.built_meshes.specs.Lists.{general_limits}
use Rattle.built_meshes.specs.declared.Version.TheVariants.{Two}
use Rattle.building_tests.specs.Lent.{lists_in}
use Rattle.text_meshes.specs.TextBuilding.{lists_of}
use Rattle.mended_lists.specs.Parts.{faces_turned}
use Rattle.mended_lists.specs.Mending.{mending}

pub record Said (s : List ℕ) (cs : List Float) (ss fs ls : List ℕ) (is : List Float) : Type 0 where
  pub what : TextMesh
  pub place : ℕ
  pub form : text s ≡ parsed what place
  pub two : what.version ≡ Two
  pub lists : lists_of what ≡ lists_in Two cs ss fs ls is

pub record Mendable (s : List ℕ) (cs : List Float) (ss fs ls : List ℕ) (is : List Float) (ts : List Bool) : Type 0 where
  pub said : Said s cs ss fs ls is
  pub mended : mending general_limits (lists_in Two cs ss fs ls is) ≡ Ok tt
  pub chosen : (f : ℕ) → f < length ss / 4 → get_or ts f false ≡ faces_turned (lists_in Two cs ss fs ls is) f
  pub room : length ts ≡ 4096
