-- The places of faces as two lists: where each runs to, and its face.
--     FaceSpread            what spreading face f leaves, whose n listed points stand from a on
--     Spread l ts fs k      the first k places of the lists l are spread
use Rattle.std.specs.Prelude.{◌≡◌, List, ℕ, ◌+◌, ◌<◌, get_or}
use Rattle.perimeters.specs.Places.{next_place}
use Rattle.built_meshes.specs.Lists.{Lists}
use Rattle.mended_lists.specs.Edges.{places_of, place_at}

pub record FaceSpread (ls : List ℕ) (f a n : ℕ) (ts fs ts' fs' : List ℕ) : Type 0 where
  pub tos-before : (j : ℕ) → j < a → get_or ts' j 0 ≡ get_or ts j 0
  pub faces-before : (j : ℕ) → j < a → get_or fs' j 0 ≡ get_or fs j 0
  pub tos-here : (i : ℕ) → i < n → get_or ts' (a + i) 0 ≡ get_or ls (a + next_place n i) 0
  pub faces-here : (i : ℕ) → i < n → get_or fs' (a + i) 0 ≡ f

pub record Spread (l : Lists) (ts fs : List ℕ) (k : ℕ) : Type 0 where
  pub to : (j : ℕ) → j < k → get_or ts j 0 ≡ (place_at (places_of l) j).to
  pub face : (j : ℕ) → j < k → get_or fs j 0 ≡ (place_at (places_of l) j).face
