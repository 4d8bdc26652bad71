-- What a text says, printed_text (document 01, "Mesh text"; document 02, §4).
--     listed_part p           a listed point with its interval, `[point-number H]`
--     side_part d             a side
--     head_line v             the head of the version v
--     text_point_line text_face_line     the bytes of a line
--     printed_text t              the bytes of the text
--     FitListed FitSide FitTextPoint FitTextFace FitText      what a text can say: numbers below 2^32, patterns of 64 bits, three coordinates
--                            and four sides
use Rattle.std.specs.Prelude.{◌≡◌, List, ◌++◌, ℕ, ◌<◌, length}
use Rattle.text_numbers.specs.Form.{bytes}
use Rattle.mesh_lines.specs.Grammar.{Listed, Side, flat}
use Rattle.mesh_text.specs.Text.{TextMesh}
use Rattle.built_meshes.specs.declared.Version.{Version}
use Rattle.built_meshes.specs.declared.Version.TheVariants.{One, Two}
use Rattle.mesh_answers.specs.Lines.{decimal_bytes, bits_field}
use Rattle.listings.specs.Printing.{All}

abbrev pub listed_part : Listed → List ℕ
listed_part p = bytes " [" ++ (decimal_bytes p.point ++ (bits_field p.interval ++ bytes "]"))

abbrev pub side_part : Side → List ℕ
side_part d = bytes " [" ++ (decimal_bytes d.first ++ (flat listed_part d.listed ++ bytes "]"))

abbrev pub text_point_line : List ℕ → List ℕ
text_point_line xyz = bytes "[point" ++ (flat bits_field xyz ++ bytes "]\n")

abbrev pub text_face_line : List Side → List ℕ
text_face_line ds = bytes "[face" ++ (flat side_part ds ++ bytes "]\n")

abbrev pub head_line : Version → List ℕ
head_line One = bytes "[mesh 1]\n"
head_line Two = bytes "[mesh 2]\n"

abbrev pub printed_text : TextMesh → List ℕ
printed_text t = head_line t.version ++ (flat text_point_line t.points ++ (flat text_face_line t.faces ++ bytes "[end]\n"))

abbrev pub FitListed : Listed → Type 0
FitListed p = (p.point < 4294967296) × (p.interval < 18446744073709551616)

abbrev pub FitSide : Side → Type 0
FitSide d = (d.first < 4294967296) × All FitListed d.listed

abbrev pub FitTextPoint : List ℕ → Type 0
FitTextPoint xyz = (length xyz ≡ 3) × All (λ v. v < 18446744073709551616) xyz

abbrev pub FitTextFace : List Side → Type 0
FitTextFace ds = (length ds ≡ 4) × All FitSide ds

pub record FitText (t : TextMesh) : Type 0 where
  pub points-fit : All FitTextPoint t.points
  pub faces-fit : All FitTextFace t.faces
