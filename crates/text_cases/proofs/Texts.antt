-- Building from a text computed: document 01's cube, the empty mesh, no text at all, a byte too many, tables that have no rows for a
-- face, a number that is not finite, first points in both versions, and the limit of bytes.
use mathlib.Core.Path.{◌≡◌, refl}
use mathlib.Core.List.{List, [], ◌∷◌, ◌++◌, map}
use Prim.Native.Nat.{ℕ, ◌*◌}
use Prim.Native.String.{String}
use lib.Ieee.{of_bits, neg, add, sub, le, lt, binary64}
use lib.ListN.{replicate}
use Rattle.edge_links.specs.Connect.{links_of}
use Rattle.tables.specs.Mesh.{Mesh}
use Rattle.text_numbers.specs.Form.{bytes, times, stands, literal, many}
use Rattle.text_numbers.specs.Numbers.{digit_value, value, digit, bits, digits_from, decimal_from, decimal}
use Rattle.mesh_lines.specs.Grammar.{coordinate_form, point_form, listed_form, side_form, face_form, flat}
use Rattle.mesh_text.specs.Text.{head_form, ends, mesh, text}
use Rattle.building_tests.specs.declared.Bounds.{Bounds}
use Rattle.building_tests.specs.declared.Bounds.TheVariants.{General, Refine}
use Rattle.text_meshes.specs.TextBuilding.{text_numbers, build_text}

-- zeros for so many rows
abbrev rows_of : ℕ → ℕ → ℕ → Mesh
rows_of np ne nf =
    record {
      positions = replicate (np * 3) (of_bits binary64 0);
      points = replicate (np * 3) 0;
      edges = replicate (ne * 8) 0;
      intervals = replicate ne (of_bits binary64 0);
      faces = replicate (nf * 5) 0;
    }

-- what is answered of a text for which there are no rows
numbers : Bounds → List ℕ → List ℕ
unfolding build_text
numbers b s = text_numbers (build_text b s (rows_of 0 0 0)).answer

-- the cube of document 01
cube : text_numbers (build_text Refine (bytes "[mesh 1]\n" ++
    bytes "[point bff0000000000000 bff0000000000000 bff0000000000000]\n" ++
    bytes "[point 3ff0000000000000 bff0000000000000 bff0000000000000]\n" ++
    bytes "[point bff0000000000000 3ff0000000000000 bff0000000000000]\n" ++
    bytes "[point 3ff0000000000000 3ff0000000000000 bff0000000000000]\n" ++
    bytes "[point bff0000000000000 bff0000000000000 3ff0000000000000]\n" ++
    bytes "[point 3ff0000000000000 bff0000000000000 3ff0000000000000]\n" ++
    bytes "[point bff0000000000000 3ff0000000000000 3ff0000000000000]\n" ++
    bytes "[point 3ff0000000000000 3ff0000000000000 3ff0000000000000]\n" ++
    bytes "[face [0 [2 3ff0000000000000]] [2 [3 3ff0000000000000]] [3 [1 3ff0000000000000]] [1 [0 3ff0000000000000]]]\n" ++
    bytes "[face [4 [5 3ff0000000000000]] [5 [7 3ff0000000000000]] [7 [6 3ff0000000000000]] [6 [4 3ff0000000000000]]]\n" ++
    bytes "[face [0 [1 3ff0000000000000]] [1 [5 3ff0000000000000]] [5 [4 3ff0000000000000]] [4 [0 3ff0000000000000]]]\n" ++
    bytes "[face [2 [6 3ff0000000000000]] [6 [7 3ff0000000000000]] [7 [3 3ff0000000000000]] [3 [2 3ff0000000000000]]]\n" ++
    bytes "[face [0 [4 3ff0000000000000]] [4 [6 3ff0000000000000]] [6 [2 3ff0000000000000]] [2 [0 3ff0000000000000]]]\n" ++
    bytes "[face [1 [3 3ff0000000000000]] [3 [7 3ff0000000000000]] [7 [5 3ff0000000000000]] [5 [1 3ff0000000000000]]]\n" ++
    bytes "[end]\n") (rows_of 8 24 6)).answer ≡ 8 ∷ 12 ∷ 6 ∷ []
unfolding build_text digit_value value stands literal digit bits digits_from decimal_from decimal many coordinate_form
    point_form listed_form side_form face_form head_form ends mesh text times flat of_bits neg add sub le lt links_of
cube = refl

texts : map (λ t. numbers General (bytes t)) (
    "[mesh 1]\n[end]\n" ∷
    "" ∷
    "[mesh 1]\n[end]\n\n" ∷
    "[mesh 1]\n[face [0] [0] [0] [0]]\n[end]\n" ∷
    "[mesh 1]\n[point 7ff0000000000000 0000000000000000 0000000000000000]\n[end]\n" ∷
    "[mesh 1]\n[point 3ff0000000000000 0000000000000000 0000000000000000]\n[end]\n" ∷ [])
    ≡ (0 ∷ 0 ∷ 0 ∷ []) ∷ (1 ∷ []) ∷ (1 ∷ []) ∷ (4 ∷ []) ∷ (3 ∷ []) ∷ (4 ∷ []) ∷ []
unfolding numbers digit_value value stands literal digit bits digits_from decimal_from decimal many coordinate_form
    point_form listed_form side_form face_form head_form ends mesh text times flat of_bits neg add sub le lt links_of
texts = refl

-- two triangles back to back with side sums 2, 0, 2, 0 in version 2; the same with a first point that disagrees, of an empty side, of
-- a side with points, and out of the points' range; and those last three in version 1, where first points are not looked at
abbrev pair : String → String → List ℕ
pair v p =
    bytes v ++ bytes "[point 0000000000000000 0000000000000000 0000000000000000]\n[point 3ff0000000000000 0000000000000000 0000000000000000]\n"
    ++ bytes "[point 0000000000000000 3ff0000000000000 0000000000000000]\n[face [2 [0 3ff0000000000000] [1 3ff0000000000000]] " ++ bytes p
    ++ bytes " [2]]\n[face [0 [2 3ff0000000000000] [1 3ff0000000000000]] [1] [1 [0 4000000000000000]] [0]]\n[end]\n"

pairs : map (λ s. text_numbers (build_text Refine s (rows_of 3 6 2)).answer) (
    pair "[mesh 2]\n" "[1] [1 [2 4000000000000000]]" ∷
    pair "[mesh 2]\n" "[0] [1 [2 4000000000000000]]" ∷
    pair "[mesh 2]\n" "[1] [0 [2 4000000000000000]]" ∷
    pair "[mesh 2]\n" "[1] [9 [2 4000000000000000]]" ∷
    pair "[mesh 1]\n" "[0] [1 [2 4000000000000000]]" ∷
    pair "[mesh 1]\n" "[1] [0 [2 4000000000000000]]" ∷
    pair "[mesh 1]\n" "[1] [9 [2 4000000000000000]]" ∷ [])
    ≡ (3 ∷ 3 ∷ 2 ∷ []) ∷ (43 ∷ []) ∷ (43 ∷ []) ∷ (43 ∷ []) ∷ (3 ∷ 3 ∷ 2 ∷ []) ∷ (3 ∷ 3 ∷ 2 ∷ []) ∷ (3 ∷ 3 ∷ 2 ∷ []) ∷ []
unfolding build_text digit_value value stands literal digit bits digits_from decimal_from decimal many coordinate_form
    point_form listed_form side_form face_form head_form ends mesh text times flat of_bits neg add sub le lt links_of
pairs = refl

-- 16,384 bytes are looked at by `refine`, one more is too many; generally there is no limit
long : map (λ n. numbers Refine (replicate n 0)) (16384 ∷ 16385 ∷ []) ≡ (1 ∷ []) ∷ (2 ∷ []) ∷ []
unfolding numbers digit_value value stands literal digit bits digits_from decimal_from decimal many coordinate_form point_form listed_form side_form face_form head_form ends mesh text times flat
long = refl

longer : numbers General (replicate 16385 0) ≡ 1 ∷ []
unfolding numbers digit_value value stands literal digit bits digits_from decimal_from decimal many coordinate_form point_form listed_form side_form face_form head_form ends mesh text times flat
longer = refl
