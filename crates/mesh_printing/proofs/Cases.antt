-- Printed texts: the first face line that document 01 writes out, and a text 2 of one point whose only face has an empty side.
use mathlib.Core.Path.{◌≡◌, refl}
use mathlib.Core.List.{[], ◌∷◌}
use Prim.Native.Nat.{ℕ}
use Rattle.text_numbers.specs.Form.{bytes}
use Rattle.mesh_lines.specs.Grammar.{Listed, Side, flat}
use Rattle.mesh_answers.specs.Lines.{decimal_digits, hex_byte, hex_bytes}
use Rattle.built_meshes.specs.declared.Version.TheVariants.{Two}
use Rattle.mesh_printing.specs.Printing.{text_face_line, printed_text}

-- the side from point a to point b with the interval 1
abbrev side : ℕ → ℕ → Side
side a b = record { first = a; listed = record { point = b; interval = 4607182418800017408 } ∷ [] }

as-in-document-01 :
    text_face_line (side 0 2 ∷ side 2 3 ∷ side 3 1 ∷ side 1 0 ∷ [])
    ≡ bytes "[face [0 [2 3ff0000000000000]] [2 [3 3ff0000000000000]] [3 [1 3ff0000000000000]] [1 [0 3ff0000000000000]]]\n"
unfolding flat decimal_digits hex_bytes hex_byte
as-in-document-01 = refl

with-an-empty-side :
    printed_text (record {
      version = Two;
      points = (0 ∷ 0 ∷ 9223372036854775808 ∷ []) ∷ [];
      faces = (side 7 10 ∷ record { first = 4294967295; listed = [] } ∷ side 0 0 ∷ side 1 2 ∷ []) ∷ [];
    })
    ≡ bytes "[mesh 2]\n[point 0000000000000000 0000000000000000 8000000000000000]\n[face [7 [10 3ff0000000000000]] [4294967295] [0 [0 3ff0000000000000]] [1 [2 3ff0000000000000]]]\n[end]\n"
unfolding flat decimal_digits hex_bytes hex_byte
with-an-empty-side = refl
