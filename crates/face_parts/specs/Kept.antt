-- Parts kept in two lists: `ups` has for each face a face of its part that is not above it, itself if it is the lowest, and `odds` whether
-- the two are turned differently.
--     shifted d p           the part of a face that is turned differently, if d, from one of the part p
--     Falling ups odds      no face points to one above it
--     PartsKept ups odds s       the lists keep the parts s
--     FoundPart             what a search for the part of face f finds and leaves
--     JoinedParts           what joining the parts of two faces answers and leaves
use Rattle.std.specs.Prelude.{◌≡◌, Bool, false, ◌||◌, List, ℕ, ◌≤◌, ◌<◌, length, get_or}
use Rattle.mended_lists.specs.declared.Part.{Part}
use Rattle.mended_lists.specs.Parts.{Parts, differ, lone_part, parts_joined}

abbrev pub shifted : Bool → Part → Part
shifted d p = record { root = p.root; odd = differ p.odd d }

pub record Falling (ups : List ℕ) (odds : List Bool) : Type 0 where
  pub like : length odds ≡ length ups
  pub below : (f : ℕ) → f < length ups → get_or ups f 0 ≤ f

pub record PartsKept (ups : List ℕ) (odds : List Bool) (s : Parts) : Type 0 where
  pub step : (f : ℕ) → f < length ups → s.part f ≡ shifted (get_or odds f false) (s.part (get_or ups f 0))
  pub top : (f : ℕ) → f < length ups → get_or ups f 0 ≡ f → s.part f ≡ lone_part f

-- the parts stay, and the answer is that of face f
pub record FoundPart (ups : List ℕ) (odds : List Bool) (ups' : List ℕ) (odds' : List Bool) (f : ℕ) (r : Part) : Type 0 where
  pub same_length : length ups' ≡ length ups
  pub falling : Falling ups' odds'
  pub root_below : r.root ≤ f
  pub part : (s : Parts) → PartsKept ups odds s → s.part f ≡ r
  pub root : (s : Parts) → PartsKept ups odds s → s.part r.root ≡ lone_part r.root
  pub kept : (s : Parts) → PartsKept ups odds s → PartsKept ups' odds' s

pub record JoinedParts (ups : List ℕ) (odds : List Bool) (ups' : List ℕ) (odds' : List Bool) (f g : ℕ) (way r : Bool) : Type 0 where
  pub same_length : length ups' ≡ length ups
  pub falling : Falling ups' odds'
  pub twisted : (s : Parts) → PartsKept ups odds s → (parts_joined s (s.part f) (s.part g) way).twisted ≡ (s.twisted || r)
  pub kept : (s : Parts) → PartsKept ups odds s → PartsKept ups' odds' (parts_joined s (s.part f) (s.part g) way)
