-- What the mender over lists needs, and leaves.
--     TurningRoom            the lists of the places and of the faces have room
--     TurnsIf l ts r        the list ts says of each face of the lists l whether it is turned, if the answer r is that they are mended
use Rattle.std.specs.Prelude.{◌≡◌, Bool, false, List, ℕ, ◌/◌, ◌≤◌, ◌<◌, length, get_or, Result, Ok, ⊤}
use Rattle.built_meshes.specs.Lists.{Lists, faces_of}
use Rattle.mended_lists.specs.declared.Unmended.{Unmended}
use Rattle.mended_lists.specs.Parts.{faces_turned}

pub record TurningRoom (ss ls ts fs ms : List ℕ) (turned : List Bool) : Type 0 where
  pub tos-fit : length ls ≤ length ts
  pub faces-fit : length ls ≤ length fs
  pub mates-fit : length ms ≡ length ls
  pub turned-fit : length turned ≡ length ss / 4

abbrev pub TurnsIf : Lists → List Bool → Result ⊤ Unmended → Type 0
TurnsIf l turned r = r ≡ Ok tt → (f : ℕ) → f < faces_of l → get_or turned f false ≡ faces_turned l f
