-- What the C function that explains a text answers and writes.
--     Explained               the number of the answer, and the words of the place afterwards
--     place_words p            the line, the face and the edge of a place
--     explained s xs          the answer to the text s, and its place written into the array xs
use Rattle.std.specs.Prelude.{List, [], ◌∷◌, ℕ}
use Rattle.tables.specs.Rows.{put_row}
use Rattle.building_tests.specs.declared.Bounds.TheVariants.{General}
use Rattle.text_places.specs.TextPlaces.{text_place}
use Rattle.text_places.specs.declared.TextPlace.{TextPlace}
use Rattle.told_texts.specs.Told.{told_number}

pub record Explained : Type 0 where
  pub answer : ℕ
  pub place : List ℕ

abbrev pub place_words : TextPlace → List ℕ
place_words p = p.line ∷ p.face ∷ p.edge ∷ []

abbrev pub explained : List ℕ → List ℕ → Explained
explained s xs = record { answer = told_number General s; place = put_row xs 0 (place_words (text_place General s)) }
