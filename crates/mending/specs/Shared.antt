-- The grounds of the faces, then 20.
--     PairingRoom           the lists agree in length and are within the limits
--     then_shared v s        the verdict v, then 20 unless all edges are shared
--     MatesIf ps ms r       the list ms has the mate of each place, if the verdict r is that they are fit
use Rattle.std.specs.Prelude.{◌≡◌, Bool, true, false, List, [], ℕ, ◌/◌, ◌≤◌, ◌<◌, Float, length, get_or, Result, Ok, Err, ⊤}
use Rattle.built_meshes.specs.declared.Ground.{Ground}
use Rattle.built_meshes.specs.Lists.{offset}
use Rattle.built_meshes.specs.declared.Ground.TheVariants.{MissingFace}
use Rattle.building_tests.specs.Lent.{lists}
use Rattle.mended_lists.specs.Edges.{FacePlace, mate}

pub record PairingRoom (ss fs ls : List ℕ) (is : List Float) (ts mates : List ℕ) (np : ℕ) : Type 0 where
  pub all_listed : offset (lists [] ss [] []) (length ss / 4) ≡ length ls
  pub firsts-fit : length fs ≡ length ss
  pub intervals-fit : length ls ≤ length is
  pub tos-fit : length ls ≤ length ts
  pub mates-fit : length mates ≡ length ls
  pub points-fit : np ≤ 4096
  pub few : length ls ≤ 16384
  pub few-faces : length ss / 4 ≤ 4096

abbrev pub then_shared : Result ⊤ Ground → Bool → Result ⊤ Ground
then_shared (Err g) shared = Err g
then_shared (Ok tt) true = Ok tt
then_shared (Ok tt) false = Err MissingFace

abbrev pub MatesIf : List FacePlace → List ℕ → Result ⊤ Ground → Type 0
MatesIf ps ms r = r ≡ Ok tt → (k : ℕ) → k < length ms → get_or ms k 0 ≡ mate ps k
