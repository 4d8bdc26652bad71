-- The rows of a listing and their printing (document 02, §1). A listing has one printing, and this is it.
--     ListedRow                          the numbers of a line, as patterns of 64 bits, and its words
--     ListedRows                         the rows of a listing, each kind in number order
--     point_line edge_line face_line  the bytes of a line
--     printed rows                 the bytes of a listing
--     Fits nn nw r                 the row has nn numbers below 2^64 and nw words below 2^32
--     FitPoint FitEdge FitFace r   what the row of each kind must be; a mark is 0 or 1
--     FitRows rows                 each row is as its kind must be
use Rattle.std.specs.Prelude.{◌≡◌, List, [], ◌∷◌, ◌++◌, ℕ, ◌<◌, length}
use Rattle.text_numbers.specs.Form.{bytes}
use Rattle.mesh_lines.specs.Grammar.{flat}
use Rattle.mesh_answers.specs.Lines.{number_field, bits_field}

pub record ListedRow : Type 0 where
  pub numbers : List ℕ
  pub words : List ℕ

pub record ListedRows : Type 0 where
  pub points : List ListedRow
  pub edges : List ListedRow
  pub faces : List ListedRow

-- x y z, then valence, start edge and mark
abbrev pub point_line : ListedRow → List ℕ
point_line r = bytes "[point" ++ ((flat bits_field r.numbers ++ flat number_field r.words) ++ bytes "]\n")

-- origin, destination, left face, right face and the four neighbours, then the interval
abbrev pub edge_line : ListedRow → List ℕ
edge_line r = bytes "[edge" ++ ((flat number_field r.words ++ flat bits_field r.numbers) ++ bytes "]\n")

-- start edge and four corners
abbrev pub face_line : ListedRow → List ℕ
face_line r = bytes "[face" ++ (flat number_field r.words ++ bytes "]\n")

abbrev pub printed : ListedRows → List ℕ
printed t =
    bytes "[mesh 3]\n" ++ (flat point_line t.points ++ (flat edge_line t.edges ++ (flat face_line t.faces ++ bytes "[end]\n")))

-- P holds of each element
abbrev pub All : {A : Type 0} → (A → Type 0) → List A → Type 0
All P [] = Unit {0}
All P (a ∷ l) = P a × All P l

-- the last word, v if there is none
abbrev pub last : ℕ → List ℕ → ℕ
last v [] = v
last v (w ∷ ws) = last w ws

pub record Fits (nn nw : ℕ) (r : ListedRow) : Type 0 where
  pub number-count : length r.numbers ≡ nn
  pub word_count : length r.words ≡ nw
  pub numbers-below : All (λ v. v < 18446744073709551616) r.numbers
  pub words-below : All (λ v. v < 4294967296) r.words

abbrev pub FitPoint : ListedRow → Type 0
FitPoint r = Fits 3 3 r × (last 0 r.words < 2)

abbrev pub FitEdge : ListedRow → Type 0
FitEdge r = Fits 1 8 r

abbrev pub FitFace : ListedRow → Type 0
FitFace r = Fits 0 5 r

pub record FitRows (t : ListedRows) : Type 0 where
  pub points-fit : All FitPoint t.points
  pub edges_fit : All FitEdge t.edges
  pub faces-fit : All FitFace t.faces
