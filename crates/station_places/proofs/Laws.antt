-- A text that is explained, as it is told. Assumes nothing.
use mathlib.Core.Path.{◌≡◌}
use mathlib.Core.List.{List}
use Prim.Native.Nat.{ℕ}
use Rattle.tables.specs.Rows.{put_row}
use Rattle.building_tests.specs.declared.Bounds.TheVariants.{General}
use Rattle.text_places.specs.TextPlaces.{text_place}
use Rattle.text_places.specs.declared.TextPlace.{TextPlace}
use Rattle.told_texts.specs.Told.{told_number}
use Rattle.station_places.specs.Told.{Explained, place_words, explained}

pub told_of : (s xs : List ℕ) {r : ℕ} {ys : List ℕ} {p : TextPlace} → r ≡ told_number General s → p ≡ text_place General s
    → ys ≡ put_row xs 0 (place_words p) → ◌≡◌ {A = Explained} (record { answer = r; place = ys }) (explained s xs)
told_of s xs e h q = rw (e, q, h)
