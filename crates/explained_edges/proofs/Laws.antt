-- The law of the edge that is told of a text. Assumes nothing.
--     edge_of                what is told of a text that is of the form and within the limits
use mathlib.Core.Path.{◌≡◌}
use mathlib.Core.Bool.{true}
use mathlib.Core.List.{List}
use Prim.Native.Nat.{ℕ}
use Rattle.mesh_text.specs.Text.{TextMesh}
use Rattle.built_meshes.specs.Lists.{counts_fit}
use Rattle.building_tests.specs.Lent.{limits_of}
use Rattle.building_tests.specs.declared.Bounds.{Bounds}
use Rattle.text_meshes.specs.TextBuilding.{lists_of}
use Rattle.text_meshes.specs.Claims.{StandsFor}
use Rattle.told_edges.specs.Told.{told_edge}
use Rattle.explained_edges.specs.TextEdges.{form_edge, text_edge}

pub edge_of :
    (b : Bounds) (s : List ℕ) (t : TextMesh) → StandsFor b s t → counts_fit (limits_of b) (lists_of t) ≡ true → (f i : ℕ) →
    text_edge b s f i ≡ told_edge (lists_of t) f i
unfolding text_edge form_edge
edge_of b s t h e f i = rw (h.short, h.form, e)
