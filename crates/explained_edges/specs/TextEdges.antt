-- What is told of an edge of a mesh text.
--     text_edge b s f i      what is told of place i of face f by the lists that the text s stands for, if it is within the limits b
use Rattle.std.specs.Prelude.{cond, List, ℕ, length}
use Rattle.text_numbers.specs.Form.{Parsed, parsed, unparsed}
use Rattle.mesh_text.specs.Text.{text, TextMesh}
use Rattle.built_meshes.specs.Lists.{counts_fit}
use Rattle.building_tests.specs.Lent.{limits_of}
use Rattle.building_tests.specs.declared.Bounds.{Bounds}
use Rattle.text_meshes.specs.TextBuilding.{is_too_long, lists_of}
use Rattle.told_edges.specs.declared.ToldEdge.{ToldEdge}
use Rattle.told_edges.specs.declared.ToldEdge.TheVariants.{Missing}
use Rattle.told_edges.specs.Told.{told_edge}

-- of a text that is of the form, or is not
unfoldable pub form_edge : Bounds → Parsed TextMesh → ℕ → ℕ → ToldEdge
unfolding counts_fit told_edge
form_edge b (parsed t n) f i = cond (counts_fit (limits_of b) (lists_of t)) (told_edge (lists_of t) f i) Missing
form_edge b unparsed f i = Missing

unfoldable pub text_edge : Bounds → List ℕ → ℕ → ℕ → ToldEdge
unfolding form_edge text
text_edge b s f i = cond (is_too_long b (length s)) Missing (form_edge b (text s) f i)
