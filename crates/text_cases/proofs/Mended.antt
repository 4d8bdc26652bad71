-- The mending of small texts, computed: two triangles that run the same way are mended byte for byte, and left as they are a second time;
-- as a text of version 1 they meet 1; the cross-cap, three squares on four points, meets 44. Assumes nothing.
use mathlib.Core.Path.{◌≡◌, refl}
use mathlib.Core.List.{List, [], ◌∷◌, ◌++◌, map}
use Prim.Native.Nat.{ℕ}
use Prim.Native.String.{String}
use lib.Ieee.{of_bits, neg, add, sub, le, lt}
use Rattle.closed_meshes.specs.Renumbering.{sum_to}
use Rattle.audited_meshes.specs.Folds.{every}
use Rattle.text_numbers.specs.Form.{bytes, times, stands, literal, many}
use Rattle.text_numbers.specs.Numbers.{digit_value, value, digit, bits, digits_from, decimal_from, decimal}
use Rattle.mesh_lines.specs.Grammar.{coordinate_form, point_form, listed_form, side_form, face_form, flat}
use Rattle.mesh_text.specs.Text.{head_form, ends, mesh, text}
use Rattle.mesh_answers.specs.Lines.{decimal_digits, hex_byte, hex_bytes}
use Rattle.built_meshes.specs.Lists.{offset, counts_fit, listed_fit}
use Rattle.built_meshes.specs.Faces.{listed_in_range, no_point_twice, side_sum, firsts_fit, sums_fit, face_verdict}
use Rattle.mended_lists.specs.InTurn.{up_to, in_turn}
use Rattle.mended_lists.specs.Edges.{places_of, latest, mate, third, follower, lone}
use Rattle.mended_lists.specs.Parts.{joined_if, parts_joined, parts_met, parts_to, parts_of, faces_turned, twisted}
use Rattle.mended_lists.specs.Mending.{edges_mend, face_mends, faces_mend, edges_shared, mending_if, mending}
use Rattle.mended_texts.specs.Turning.{backward_from, turned_onto, turned_faces}
use Rattle.mended_texts.specs.Mending.{mend_text}
use Rattle.mended_texts.specs.declared.TextMending.TheVariants.{Mended, NotText, Twisted}

-- two triangles on three points, the second one as it is given
abbrev triangles : String → String → List ℕ
triangles v f =
    bytes v ++ bytes "[point 0000000000000000 0000000000000000 0000000000000000]\n[point 3ff0000000000000 0000000000000000 0000000000000000]\n"
    ++ bytes "[point 0000000000000000 3ff0000000000000 0000000000000000]\n[face [2 [0 3ff0000000000000] [1 4000000000000000]] [1] "
    ++ bytes "[1 [2 4008000000000000]] [2]]\n" ++ bytes f ++ bytes "[end]\n"

-- it runs 1, 2, 0 as the first one does; turned round it runs 2, 1, 0, with each interval on its pair of points
abbrev same : String
same = "[face [0] [0 [1 3ff0000000000000]] [1] [1 [2 4000000000000000] [0 4008000000000000]]]\n"

abbrev opposite : String
opposite = "[face [0 [2 4008000000000000] [1 4000000000000000]] [1] [1 [0 3ff0000000000000]] [0]]\n"

-- three squares: 0, 1, 2, 3 and 0, 1, 3, 2 and 0, 2, 1, 3
abbrev cross_cap : List ℕ
cross_cap =
    bytes "[mesh 2]\n[point 0000000000000000 0000000000000000 0000000000000000]\n[point 3ff0000000000000 0000000000000000 0000000000000000]\n"
    ++ bytes "[point 0000000000000000 3ff0000000000000 0000000000000000]\n[point 0000000000000000 0000000000000000 3ff0000000000000]\n"
    ++ bytes "[face [3 [0 3ff0000000000000]] [0 [1 3ff0000000000000]] [1 [2 3ff0000000000000]] [2 [3 3ff0000000000000]]]\n"
    ++ bytes "[face [2 [0 3ff0000000000000]] [0 [1 3ff0000000000000]] [1 [3 3ff0000000000000]] [3 [2 3ff0000000000000]]]\n"
    ++ bytes "[face [3 [0 3ff0000000000000]] [0 [2 3ff0000000000000]] [2 [1 3ff0000000000000]] [1 [3 3ff0000000000000]]]\n[end]\n"

small-texts :
    map mend_text (triangles "[mesh 2]\n" same ∷ triangles "[mesh 2]\n" opposite ∷ triangles "[mesh 1]\n" same ∷ cross_cap ∷ [])
    ≡ record { answer = Mended; text = triangles "[mesh 2]\n" opposite } ∷ record { answer = Mended; text = triangles "[mesh 2]\n" opposite }
    ∷ record { answer = NotText; text = triangles "[mesh 1]\n" same } ∷ record { answer = Twisted; text = cross_cap } ∷ []
unfolding mend_text mending mending_if counts_fit listed_fit faces_mend face_mends edges_mend edges_shared face_verdict listed_in_range no_point_twice
    firsts_fit sums_fit side_sum every sum_to offset up_to in_turn places_of latest mate third follower lone joined_if parts_joined parts_met parts_to parts_of
    faces_turned twisted backward_from turned_onto turned_faces decimal_digits hex_byte hex_bytes digit_value value stands literal digit bits digits_from
    decimal_from decimal many coordinate_form point_form listed_form side_form face_form head_form ends mesh text times flat of_bits neg add sub le lt
small-texts = refl
