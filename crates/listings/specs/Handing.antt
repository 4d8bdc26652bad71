-- Writing and reading a listing (document 02, §1): the answers, in the order of their grounds, and what is left.
--     up_to n f                        f 0, f 1, .. below n
--     point_line_row edge_line_row face_line_row m i  the row of a point, an edge, a face in the tables m
--     listing_rows m c                 the rows of a mesh in the tables m with the counts c
--     listing_of m c                   the bytes of its listing
--     listed_counts t                  how many points, edges and faces are listed
--     with_listing t m                 the tables m with the rows t at their fronts, all further rows as they are
--     write_listing m c out            the answer, and the output after it
--     read_listing s m                 the answer, and the tables after it
--     writing_number reading_number a   the number of the ground, 0 if there is none
use Rattle.std.specs.Prelude.{List, [], ◌∷◌, ◌++◌, map, Bool, true, false, ℕ, zero, suc, leb, length, Float, Result, Ok, Err}
use Rattle.std.proofs.lemmas.List.Edits.{sets}
use Rattle.std.specs.Float.{binary64}
use Rattle.std.specs.Float.Ieee.{to_bits}
use Rattle.tables.specs.Mesh.{Mesh, x, y, z, valence, start, mark, origin, dest, left_face, right_face, left_cw, left_acw, right_cw, right_acw, interval, face_start, corner}
use Rattle.tables.specs.declared.Counts.{Counts}
use Rattle.audited_meshes.specs.Audit.{audit}
use Rattle.tables.specs.Counted.{rows_for, zeroed_rows}
use Rattle.steps.specs.Step.{within_ceilings}
use Rattle.text_numbers.specs.Form.{Parsed, if_parsed}
use Rattle.text_numbers.specs.Numbers.{float}
use Rattle.mesh_lines.specs.Grammar.{flat}
use Rattle.listings.specs.declared.WritingRefusal.{WritingRefusal}
use Rattle.listings.specs.declared.WritingRefusal.TheVariants as WritingRefusal
use Rattle.listings.specs.declared.ListingRefusal.{ListingRefusal}
use Rattle.listings.specs.declared.ListingRefusal.TheVariants as ListingRefusal
use Rattle.listings.specs.Printing.{ListedRow, ListedRows, printed}
use Rattle.listings.specs.Grammar.{listing}

unfoldable pub up_to : {A : Type 0} → ℕ → (ℕ → A) → List A
up_to zero f = []
up_to (suc n) f = up_to n f ++ (f n ∷ [])

abbrev pub bits_of : Float → ℕ
bits_of v = to_bits binary64 v

abbrev pub point_line_row : Mesh → ℕ → ListedRow
point_line_row m p = record {
  numbers = bits_of (x m p) ∷ bits_of (y m p) ∷ bits_of (z m p) ∷ [];
  words = valence m p ∷ start m p ∷ mark m p ∷ [];
}

abbrev pub edge_line_row : Mesh → ℕ → ListedRow
edge_line_row m e = record {
  numbers = bits_of (interval m e) ∷ [];
  words =
      origin m e ∷ dest m e ∷ left_face m e ∷ right_face m e
      ∷ left_cw m e ∷ left_acw m e ∷ right_cw m e ∷ right_acw m e ∷ [];
}

abbrev pub face_line_row : Mesh → ℕ → ListedRow
face_line_row m f = record {
  numbers = [];
  words = face_start m f ∷ corner m f 0 ∷ corner m f 1 ∷ corner m f 2 ∷ corner m f 3 ∷ [];
}

abbrev pub listing_rows : Mesh → Counts → ListedRows
listing_rows m c = record {
  points = up_to c.points (point_line_row m);
  edges = up_to c.edges (edge_line_row m);
  faces = up_to c.faces (face_line_row m);
}

abbrev pub listing_of : Mesh → Counts → List ℕ
listing_of m c = printed (listing_rows m c)

abbrev pub listed_counts : ListedRows → Counts
listed_counts t = record { points = length t.points; edges = length t.edges; faces = length t.faces }

abbrev pub numbers_in : List ListedRow → List Float
numbers_in rs = flat (λ (r : ListedRow). map float r.numbers) rs

abbrev pub words_in : List ListedRow → List ℕ
words_in rs = flat (λ (r : ListedRow). r.words) rs

abbrev pub with_listing : ListedRows → Mesh → Mesh
with_listing t m = record {
  positions = sets m.positions 0 (numbers_in t.points);
  points = sets m.points 0 (words_in t.points);
  edges = sets m.edges 0 (words_in t.edges);
  intervals = sets m.intervals 0 (numbers_in t.edges);
  faces = sets m.faces 0 (words_in t.faces);
}

-- the tables m with the counts c pass the audit
abbrev pub passes_audit : Mesh → Counts → Bool
passes_audit m c = audit m c.points c.edges c.faces

pub record WritingOutcome : Type 0 where
  pub answer : Result ℕ WritingRefusal
  pub text : List ℕ

-- by whether the mesh passes the audit, whether it is within the ceilings, and whether its listing fits the output
abbrev pub written : Bool → Bool → Bool → List ℕ → List ℕ → WritingOutcome
written false within fits l out = record { answer = Err WritingRefusal.NotClosed; text = out }
written true false fits l out = record { answer = Err WritingRefusal.OverCeilings; text = out }
written true true false l out = record { answer = Err WritingRefusal.TooShort; text = out }
written true true true l out = record { answer = Ok (length l); text = sets out 0 l }

unfoldable pub write_listing : Mesh → Counts → List ℕ → WritingOutcome
write_listing m c out =
    written (passes_audit m c) (within_ceilings c) (leb (length (listing_of m c)) (length out)) (listing_of m c) out

pub record ReadingOutcome : Type 0 where
  pub answer : Result Counts ListingRefusal
  pub tables : Mesh

-- by whether the rows are within the ceilings, whether the tables have room for them, and whether they pass the audit there
abbrev pub read_rows : Bool → Bool → Bool → ListedRows → Mesh → ReadingOutcome
read_rows false room closed t m = record { answer = Err ListingRefusal.OverCeilings; tables = m }
read_rows true false closed t m = record { answer = Err ListingRefusal.NoRoom; tables = m }
read_rows true true false t m = record { answer = Err ListingRefusal.NotClosed; tables = zeroed_rows (listed_counts t) m }
read_rows true true true t m = record { answer = Ok (listed_counts t); tables = with_listing t m }

-- the form of the whole text is tested before anything is counted
unfoldable pub read_found : Parsed ListedRows → Mesh → ReadingOutcome
read_found x m =
    if_parsed (λ t n. read_rows (within_ceilings (listed_counts t)) (rows_for (listed_counts t) m) (passes_audit (with_listing t m) (listed_counts t)) t m)
    (record { answer = Err ListingRefusal.NotListing; tables = m })
    x

abbrev pub read_listing : List ℕ → Mesh → ReadingOutcome
read_listing s m = read_found (listing s) m

abbrev pub writing_number : Result ℕ WritingRefusal → ℕ
writing_number (Ok n) = 0
writing_number (Err WritingRefusal.NotClosed) = 30
writing_number (Err WritingRefusal.OverCeilings) = 2
writing_number (Err WritingRefusal.TooShort) = 4

abbrev pub reading_number : Result Counts ListingRefusal → ℕ
reading_number (Ok c) = 0
reading_number (Err ListingRefusal.NotListing) = 40
reading_number (Err ListingRefusal.OverCeilings) = 2
reading_number (Err ListingRefusal.NoRoom) = 4
reading_number (Err ListingRefusal.NotClosed) = 30
