-- Places as lists: where each begins, its face, and its mate, 1 more than its number, or 0.
--     MatesFit            mates are places before, and faces are below nf
--     Mates ps            they are those of the first n places of ps
--     Started             each face is a part by itself
--     JoinedAt, JoinedTo  what joining the faces of one place, and of n places, answers and leaves
--     Settled             whether each face is turned, of parts that are kept
--     Chosen              the faces to turn, and whether no choice works
use Rattle.std.specs.Prelude.{◌≡◌, Bool, false, ◌||◌, List, ℕ, suc, ◌≤◌, ◌<◌, length, get_or}
use Rattle.mended_lists.specs.Edges.{FacePlace, place_at, mate}
use Rattle.mended_lists.specs.Parts.{Parts, parts_met, parts_to}
use Rattle.face_parts.specs.Kept.{Falling, PartsKept}

pub record MatesFit (listed faces mates : List ℕ) (nf : ℕ) : Type 0 where
  pub listed-like : length mates ≤ length listed
  pub faces-like : length mates ≤ length faces
  pub before : (k : ℕ) → k < length mates → get_or mates k 0 ≤ k
  pub face-below : (k : ℕ) → k < length mates → get_or faces k 0 < nf

pub record Mates (ps : List FacePlace) (listed faces mates : List ℕ) (n : ℕ) : Type 0 where
  pub from : (k : ℕ) → k < n → get_or listed k 0 ≡ (place_at ps k).from
  pub face : (k : ℕ) → k < n → get_or faces k 0 ≡ (place_at ps k).face
  pub mate-is : (k : ℕ) → k < n → get_or mates k 0 ≡ mate ps k

pub record Started (ups : List ℕ) (odds : List Bool) : Type 0 where
  pub falling : Falling ups odds
  pub kept : (ps : List FacePlace) → PartsKept ups odds (parts_to ps 0)

pub record JoinedAt (listed faces mates : List ℕ) (k : ℕ) (ups : List ℕ) (odds : List Bool) (ups' : List ℕ) (odds' : List Bool) (r : Bool) : Type 0 where
  pub same_length : length ups' ≡ length ups
  pub falling : Falling ups' odds'
  pub twisted :
      (ps : List FacePlace) → Mates ps listed faces mates (suc k) → (s : Parts) → PartsKept ups odds s →
      (parts_met (mate ps k) ps k s).twisted ≡ (s.twisted || r)
  pub kept :
      (ps : List FacePlace) → Mates ps listed faces mates (suc k) → (s : Parts) → PartsKept ups odds s → PartsKept ups' odds' (parts_met (mate ps k) ps k s)

pub record JoinedTo (listed faces mates : List ℕ) (n nf : ℕ) (ups : List ℕ) (odds : List Bool) (r : Bool) : Type 0 where
  pub same_length : length ups ≡ nf
  pub falling : Falling ups odds
  pub twisted : (ps : List FacePlace) → Mates ps listed faces mates n → (parts_to ps n).twisted ≡ r
  pub kept : (ps : List FacePlace) → Mates ps listed faces mates n → PartsKept ups odds (parts_to ps n)

abbrev pub Settled : List ℕ → List Bool → List Bool → Type 0
Settled ups odds turned = (s : Parts) → PartsKept ups odds s → (f : ℕ) → f < length turned → get_or turned f false ≡ (s.part f).odd

pub record Chosen (listed faces mates : List ℕ) (turned : List Bool) (r : Bool) : Type 0 where
  pub twisted : (ps : List FacePlace) → Mates ps listed faces mates (length mates) → (parts_to ps (length mates)).twisted ≡ r
  pub turns :
      (ps : List FacePlace) → Mates ps listed faces mates (length mates) → (f : ℕ) → f < length turned →
      get_or turned f false ≡ ((parts_to ps (length mates)).part f).odd
