-- How the parts of the reader answer, and what they leave in the lent lists. The contract of the whole reader names none of this.
--     length_word p                 how many points a side lists, as a word of 32 bits
--     listed_in sides               how many points the sides of a face list
--     place_answer run_answer listed_answer side_answer lines_answer x  the answers to what was found
--     Parses x                     something was found
--     place_after x                 the place after what was found
--     stored f l i x               the list that is left where something was found
use Rattle.std.specs.Prelude.{◌≡◌, List, [], ℕ, ◌%◌, length, Option, Some, None}
use Rattle.std.proofs.lemmas.List.Edits.{sets}
use Rattle.text_numbers.specs.Form.{Parsed, parsed, if_parsed}
use Rattle.mesh_lines.specs.Grammar.{Listed, Side, flat, side_count, side_points}
use Rattle.mesh_lines.specs.declared.ListedPoint.{ListedPoint}
use Rattle.mesh_lines.specs.declared.SideRead.{SideRead}
use Rattle.mesh_lines.specs.declared.Lines.{Lines}

-- a side of a text within the limits lists fewer points than a word can count
abbrev pub length_word : Side → ℕ
length_word p = side_count p % 4294967296

abbrev pub listed_in : List Side → ℕ
listed_in sides = length (flat side_points sides)

abbrev pub place_answer : {A : Type 0} → Parsed A → Option ℕ
place_answer x = if_parsed (λ a n. Some n) None x

abbrev pub run_answer : {A : Type 0} → (A → ℕ) → Parsed A → Option (ℕ × ℕ)
run_answer f x = if_parsed (λ a n. Some (f a, n)) None x

abbrev pub listed_answer : Parsed Listed → Option ListedPoint
listed_answer x = if_parsed (λ p n. Some (record { point = p.point; interval = p.interval; after = n })) None x

abbrev pub side_answer : Parsed Side → Option SideRead
side_answer x = if_parsed (λ p n. Some (record { first = p.first; listed = side_count p; after = n })) None x

abbrev pub lines_answer : Parsed (List (List Side)) → Option Lines
lines_answer x = if_parsed (λ fs n. Some (record { faces = length fs; listed = length (flat (flat side_points) fs); after = n })) None x

abbrev pub Parses : {A : Type 0} → Parsed A → Type 0
Parses {A} x = (a : A) × (n : ℕ) × (x ≡ parsed a n)

abbrev pub place_after : {A : Type 0} → Parsed A → ℕ
place_after x = if_parsed (λ a n. n) 0 x

-- the list l with the numbers f of what was found stored in it from i on
abbrev pub stored : {A B : Type 0} → (A → List B) → List B → ℕ → Parsed A → List B
stored f l i x = if_parsed (λ a n. sets l i (f a)) [] x
