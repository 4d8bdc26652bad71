-- What is claimed of the grammar of mesh texts 1 and 2.
--     Printing s l           the text s is the printing of l: a version, points, and faces of four sides with their first points
--     TextExactly           a text is read as l exactly if it is the printing of l
--     NotTextExactly       a text is not of the form exactly if it is no printing
use Rattle.std.specs.Prelude.{◌≡◌, List, ◌↔◌, ℕ}
use Rattle.text_numbers.specs.Form.{parsed, unparsed}
use Rattle.mesh_text.specs.Text.{TextMesh, text}
use Rattle.mesh_printing.specs.Printing.{FitText, printed_text}

abbrev pub Printing : List ℕ → TextMesh → Type 0
Printing s l = FitText l × (s ≡ printed_text l)

abbrev pub TextExactly : Type 0
TextExactly = (s : List ℕ) (l : TextMesh) → ((n : ℕ) × (text s ≡ parsed l n)) ↔ Printing s l

abbrev pub NotTextExactly : Type 0
NotTextExactly = (s : List ℕ) → (text s ≡ unparsed) ↔ ((l : TextMesh) → ¬ Printing s l)
