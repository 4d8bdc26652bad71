-- The grammar computed on texts: the cube of document 01 and small texts that are of the form, and bad ones.
use mathlib.Core.List.{List, [], ◌∷◌, ◌++◌, map}
use mathlib.Core.Path.{◌≡◌, refl}
use Prim.Native.Nat.{ℕ}
use Prim.Native.String.{String}
use lib.ListN.{length, replicate}
use Rattle.text_numbers.specs.Form.{bytes, parsed, if_parsed, times, stands, literal, many}
use Rattle.text_numbers.specs.Numbers.{digit_value, value, digit, bits, digits_from, decimal_from, decimal}
use Rattle.mesh_lines.specs.Grammar.{coordinate_form, point_form, listed_form, side_form, face_form, flat}
use Rattle.mesh_text.specs.Text.{head_form, ends, mesh, text}
use Rattle.mesh_text.specs.Reading.{TextLists, within, read_into}
use Rattle.mesh_text.specs.Lists.{listed_points}
use Rattle.built_meshes.specs.declared.Version.TheVariants.{Two}
use Rattle.std.specs.Prelude.{Err}
use Rattle.mesh_text.specs.declared.ReadingGround.TheVariants.{NotText, OverLimits}

-- how many points, faces and listed points a text has; nothing for a text that is not of the form
sizes_of : List ℕ → List ℕ
sizes_of s = if_parsed (λ m n. length m.points ∷ length m.faces ∷ length (listed_points m) ∷ []) [] (text s)

sizes : String → List ℕ
sizes t = sizes_of (bytes t)

-- the cube of document 01
cube : sizes_of (bytes "[mesh 1]\n" ++
    bytes "[point bff0000000000000 bff0000000000000 bff0000000000000]\n" ++
    bytes "[point 3ff0000000000000 bff0000000000000 bff0000000000000]\n" ++
    bytes "[point bff0000000000000 3ff0000000000000 bff0000000000000]\n" ++
    bytes "[point 3ff0000000000000 3ff0000000000000 bff0000000000000]\n" ++
    bytes "[point bff0000000000000 bff0000000000000 3ff0000000000000]\n" ++
    bytes "[point 3ff0000000000000 bff0000000000000 3ff0000000000000]\n" ++
    bytes "[point bff0000000000000 3ff0000000000000 3ff0000000000000]\n" ++
    bytes "[point 3ff0000000000000 3ff0000000000000 3ff0000000000000]\n" ++
    bytes "[face [0 [2 3ff0000000000000]] [2 [3 3ff0000000000000]] [3 [1 3ff0000000000000]] [1 [0 3ff0000000000000]]]\n" ++
    bytes "[face [4 [5 3ff0000000000000]] [5 [7 3ff0000000000000]] [7 [6 3ff0000000000000]] [6 [4 3ff0000000000000]]]\n" ++
    bytes "[face [0 [1 3ff0000000000000]] [1 [5 3ff0000000000000]] [5 [4 3ff0000000000000]] [4 [0 3ff0000000000000]]]\n" ++
    bytes "[face [2 [6 3ff0000000000000]] [6 [7 3ff0000000000000]] [7 [3 3ff0000000000000]] [3 [2 3ff0000000000000]]]\n" ++
    bytes "[face [0 [4 3ff0000000000000]] [4 [6 3ff0000000000000]] [6 [2 3ff0000000000000]] [2 [0 3ff0000000000000]]]\n" ++
    bytes "[face [1 [3 3ff0000000000000]] [3 [7 3ff0000000000000]] [7 [5 3ff0000000000000]] [5 [1 3ff0000000000000]]]\n" ++
    bytes "[end]\n") ≡ 8 ∷ 6 ∷ 24 ∷ []
unfolding sizes sizes_of digit_value value stands literal digit bits digits_from decimal_from decimal many
    coordinate_form point_form listed_form side_form face_form head_form ends mesh text times flat
cube = refl

-- no points, no faces, in both versions; a face and no point; empty sides; 4294967295, as a listed and as a first point; a NaN, which is of the form
good : map sizes (
    "[mesh 1]\n[end]\n" ∷
    "[mesh 2]\n[end]\n" ∷
    "[mesh 1]\n[face [0 [0 3ff0000000000000]] [0] [0] [0]]\n[end]\n" ∷
    "[mesh 1]\n[face [0] [7] [0] [0]]\n[end]\n" ∷
    "[mesh 1]\n[face [4294967295 [4294967295 3ff0000000000000]] [0] [0] [0]]\n[end]\n" ∷
    "[mesh 1]\n[point 7ff8000000000000 7ff0000000000000 fff0000000000000]\n[end]\n" ∷ [])
    ≡ (0 ∷ 0 ∷ 0 ∷ []) ∷ (0 ∷ 0 ∷ 0 ∷ []) ∷ (0 ∷ 1 ∷ 1 ∷ []) ∷ (0 ∷ 1 ∷ 0 ∷ []) ∷ (0 ∷ 1 ∷ 1 ∷ []) ∷ (1 ∷ 0 ∷ 0 ∷ []) ∷ []
unfolding sizes sizes_of digit_value value stands literal digit bits digits_from decimal_from decimal many
    coordinate_form point_form listed_form side_form face_form head_form ends mesh text times flat
good = refl

-- no byte; one byte; the head alone; cut before the last byte; a byte after the end; a leading zero of the version; a version with more digits;
-- a carriage return before the line feed; two spaces; a point line cut; an upper-case digit; a digit too few; a digit too many;
-- two coordinates; a point line after a face line; three sides; five sides; an empty side with no first point; a listed point
-- with no interval; a leading zero; a leading zero of a first point; 4294967296 as a listed point; 4294967296 as a first point; a
-- number of twenty digits; a sign
bad : map sizes (
    "" ∷
    "[" ∷
    "[mesh 1]\n" ∷
    "[mesh 1]\n[end]" ∷
    "[mesh 1]\n[end]\n\n" ∷
    "[mesh 02]\n[end]\n" ∷
    "[mesh 10]\n[end]\n" ∷
    "[mesh 1]\r\n[end]\r\n" ∷
    "[mesh  1]\n[end]\n" ∷
    "[mesh 1]\n[point 3ff0000000000000 bff0000000000000" ∷
    "[mesh 1]\n[point 3FF0000000000000 bff0000000000000 0000000000000000]\n[end]\n" ∷
    "[mesh 1]\n[point 3ff000000000000 bff0000000000000 0000000000000000]\n[end]\n" ∷
    "[mesh 1]\n[point 3ff00000000000000 bff0000000000000 0000000000000000]\n[end]\n" ∷
    "[mesh 1]\n[point 3ff0000000000000 bff0000000000000]\n[end]\n" ∷
    "[mesh 1]\n[face [0 [0 3ff0000000000000]] [0] [0] [0]]\n[point 3ff0000000000000 bff0000000000000 0000000000000000]\n[end]\n" ∷
    "[mesh 1]\n[face [0] [0] [0]]\n[end]\n" ∷
    "[mesh 1]\n[face [0] [0] [0] [0] [0]]\n[end]\n" ∷
    "[mesh 1]\n[face [] [0] [0] [0]]\n[end]\n" ∷
    "[mesh 1]\n[face [0 [1]] [0] [0] [0]]\n[end]\n" ∷
    "[mesh 1]\n[face [0 [01 3ff0000000000000]] [0] [0] [0]]\n[end]\n" ∷
    "[mesh 1]\n[face [00 [0 3ff0000000000000]] [0] [0] [0]]\n[end]\n" ∷
    "[mesh 1]\n[face [0 [4294967296 3ff0000000000000]] [0] [0] [0]]\n[end]\n" ∷
    "[mesh 1]\n[face [4294967296 [0 3ff0000000000000]] [0] [0] [0]]\n[end]\n" ∷
    "[mesh 1]\n[face [0 [18446744073709551616 3ff0000000000000]] [0] [0] [0]]\n[end]\n" ∷
    "[mesh 1]\n[face [0 [-1 3ff0000000000000]] [0] [0] [0]]\n[end]\n" ∷ [])
    ≡ replicate 25 []
unfolding sizes sizes_of digit_value value stands literal digit bits digits_from decimal_from decimal many
    coordinate_form point_form listed_form side_form face_form head_form ends mesh text times flat
bad = refl

-- the numbers of a text, each in its place
numbers : text (bytes "[mesh 2]\n[point 3ff0000000000000 bff0000000000000 0000000000000000]\n[face [0 [2 3ff0000000000000] [1 4000000000000000]] [0] [5] [3 [0 0000000000000001]]]\n[end]\n")
    ≡ parsed (record {
      version = Two;
      points = (0x3ff0000000000000 ∷ 0xbff0000000000000 ∷ 0 ∷ []) ∷ [];
      faces =
          (record { first = 0; listed = record { point = 2; interval = 0x3ff0000000000000 } ∷ record { point = 1; interval = 0x4000000000000000 } ∷ [] }
          ∷ record { first = 0; listed = [] } ∷ record { first = 5; listed = [] } ∷ record { first = 3; listed = record { point = 0; interval = 1 } ∷ [] } ∷ []) ∷ [];
    }) 154
unfolding digit_value value stands literal digit bits digits_from decimal_from decimal many coordinate_form point_form listed_form side_form face_form head_form ends mesh text times flat
numbers = refl

-- no room anywhere
abbrev nowhere : TextLists
nowhere = record { coordinates = []; lengths = []; firsts = []; listed = []; intervals = [] }

-- a text with a face, where no face is allowed
abbrev one : List ℕ
one = bytes "[mesh 1]\n[face [0] [0] [0] [0]]\n[end]\n"

too_many : (read_into one (record { points = 1; faces = 0; listed = 1 }) nowhere).reading ≡ Err OverLimits
unfolding within read_into digit_value value stands literal digit bits digits_from decimal_from decimal many
    coordinate_form point_form listed_form side_form face_form head_form ends mesh text times flat
too_many = refl

-- the same with a byte after its end: the form comes first
form-first : (read_into (one ++ (10 ∷ [])) (record { points = 1; faces = 0; listed = 1 }) nowhere).reading ≡ Err NotText
unfolding within read_into digit_value value stands literal digit bits digits_from decimal_from decimal many
    coordinate_form point_form listed_form side_form face_form head_form ends mesh text times flat
form-first = refl
