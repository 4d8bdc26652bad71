-- What is claimed of building from a text s in the tables m, within the limits b.
--     StandsFor b s t        the text s is not too long, is of the form, and stands for t
--     OverText b s           ground 2 holds of it: too many bytes, points, faces or listed points
--     AcceptsTextExactly    a text is accepted exactly if it is such a text and no ground holds of its lists
--     NotTextExactly        1 is answered exactly if it is not too long and not of the form
--     OverExactly            2 is answered exactly if it is over a limit
-- All further grounds are those of building from its lists (`built_meshes`): `of-lists` in `proofs/Theorem.antt`.
use Rattle.std.specs.Prelude.{◌≡◌, true, false, List, ◌↔◌, ℕ, ◌<◌, length, Ok, Err}
use Rattle.tables.specs.Mesh.{Mesh}
use Rattle.tables.specs.declared.Counts.{Counts}
use Rattle.text_numbers.specs.Form.{parsed, unparsed}
use Rattle.mesh_text.specs.Text.{text, TextMesh}
use Rattle.mesh_text.specs.Lists.{listed_points}
use Rattle.built_meshes.specs.Grounds.{Holds}
use Rattle.built_meshes.specs.declared.Ground.{Ground}
use Rattle.built_meshes.specs.declared.Ground.TheVariants.{OverCounts}
use Rattle.building_tests.specs.Lent.{limits_of}
use Rattle.building_tests.specs.declared.Bounds.{Bounds}
use Rattle.text_meshes.specs.TextBuilding.{is_too_long, lists_of, build_text}
use Rattle.text_meshes.specs.declared.TextRefusal.TheVariants.{NotText, Refused}

pub record StandsFor (b : Bounds) (s : List ℕ) (t : TextMesh) : Type 0 where
  pub short : is_too_long b (length s) ≡ false
  pub place : ℕ
  pub form : text s ≡ parsed t place

pub data OverText (b : Bounds) (s : List ℕ) : Type 0 where
  over-bytes : is_too_long b (length s) ≡ true → OverText b s
  over-points : (t : TextMesh) → StandsFor b s t → (limits_of b).points < length t.points → OverText b s
  over-faces : (t : TextMesh) → StandsFor b s t → (limits_of b).faces < length t.faces → OverText b s
  over-listed : (t : TextMesh) → StandsFor b s t → (limits_of b).listed < length (listed_points t) → OverText b s

abbrev pub AcceptsTextExactly : Type 0
AcceptsTextExactly =
    (b : Bounds) (s : List ℕ) (m : Mesh) →
    ((k : Counts) × ((build_text b s m).answer ≡ Ok k))
    ↔ ((t : TextMesh) × StandsFor b s t × ((g : Ground) → ¬ Holds (limits_of b) (lists_of t) m g))

abbrev pub NotTextExactly : Type 0
NotTextExactly =
    (b : Bounds) (s : List ℕ) (m : Mesh) →
    ((build_text b s m).answer ≡ Err NotText) ↔ ((is_too_long b (length s) ≡ false) × (text s ≡ unparsed))

abbrev pub OverExactly : Type 0
OverExactly = (b : Bounds) (s : List ℕ) (m : Mesh) → ((build_text b s m).answer ≡ Err (Refused OverCounts)) ↔ OverText b s
