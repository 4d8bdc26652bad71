-- What reading a text answers, and what it leaves in the lent lists.
--     counts m                     how many points, faces and listed points
--     TextLists                    the five lent lists
--     within c limits xs ls ps ds qs  the counts are within the limits and the rooms of the lists
--     read_into s limits l          the answer, and the lists after it
--     reading_numbers a             the numbers of an answer: points, faces and listed points, or that of the ground
use Rattle.std.specs.Prelude.{List, [], ◌∷◌, Bool, ◌&&◌, cond, ℕ, ◌*◌, length, leb, Float, Result, Ok, Err}
use Rattle.std.proofs.lemmas.List.Edits.{sets}
use Rattle.text_numbers.specs.Form.{if_parsed}
use Rattle.mesh_text.specs.Text.{TextMesh, text}
use Rattle.mesh_text.specs.Lists.{coordinates, lengths, firsts, listed_points, intervals}
use Rattle.tables.specs.declared.Sizes.{Sizes}
use Rattle.built_meshes.specs.declared.Version.{Version}
use Rattle.mesh_text.specs.declared.ReadingGround.{ReadingGround}
use Rattle.mesh_text.specs.declared.ReadingGround.TheVariants.{NotText, OverLimits}

abbrev pub counts : TextMesh → Sizes
counts m = record { points = length m.points; faces = length m.faces; listed = length (listed_points m) }

pub record TextLists : Type 0 where
  pub coordinates : List Float
  pub lengths : List ℕ
  pub firsts : List ℕ
  pub listed : List ℕ
  pub intervals : List Float

-- each list with what the text stands for at its front
abbrev pub with_text : TextMesh → TextLists → TextLists
with_text m l = record {
  coordinates = sets l.coordinates 0 (coordinates m);
  lengths = sets l.lengths 0 (lengths m);
  firsts = sets l.firsts 0 (firsts m);
  listed = sets l.listed 0 (listed_points m);
  intervals = sets l.intervals 0 (intervals m);
}

-- the counts c are within the limits and within the rooms of the five lists, and a length fits a word of 32 bits
unfoldable pub within : Sizes → Sizes → ℕ → ℕ → ℕ → ℕ → ℕ → Bool
within c limits xs ls ps ds qs =
    leb c.points limits.points && (leb c.faces limits.faces && (leb c.listed limits.listed && (leb c.listed 4294967295
    && (leb (3 * c.points) xs && (leb (4 * c.faces) ls && (leb c.listed ps && (leb c.listed ds && leb (4 * c.faces) qs)))))))

pub record ReadOutcome : Type 0 where
  pub reading : Result (Version × Sizes) ReadingGround
  pub lists : TextLists

abbrev pub reading_numbers : Result (Version × Sizes) ReadingGround → List ℕ
reading_numbers (Ok (v, c)) = c.points ∷ c.faces ∷ c.listed ∷ []
reading_numbers (Err NotText) = 1 ∷ []
reading_numbers (Err OverLimits) = 2 ∷ []

-- the form of the whole text is tested before anything is counted; a text that is not read leaves the lists as they are
unfoldable pub read_into : List ℕ → Sizes → TextLists → ReadOutcome
read_into s limits l =
    if_parsed (λ m n.
    cond (within (counts m) limits (length l.coordinates) (length l.lengths) (length l.listed) (length l.intervals) (length l.firsts))
    (record { reading = Ok (m.version, counts m); lists = with_text m l })
    (record { reading = Err OverLimits; lists = l }))
    (record { reading = Err NotText; lists = l })
    (text s)
