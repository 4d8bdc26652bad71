-- What is claimed of the edge that is told where building the text s in the tables m refuses it by 14 or 15, within the limits b.
--     ToldAt b s t f i     the place that is told of the text is the edge i of face f
--     TripleTold           the claim: by 14, it is an edge of the text, and its points are told
--     SameWayTold         the claim: by 15, so they are, and the first face before that runs it the same way
use Rattle.std.specs.Prelude.{◌≡◌, List, ◌⊎◌, ℕ, length, Err}
use Rattle.tables.specs.Mesh.{Mesh}
use Rattle.mesh_text.specs.Text.{TextMesh}
use Rattle.built_meshes.specs.Places.{Runs}
use Rattle.built_meshes.specs.Grounds.{edge}
use Rattle.built_meshes.specs.declared.Ground.TheVariants.{EdgeTripleFace, SameWay}
use Rattle.building_tests.specs.declared.Bounds.{Bounds}
use Rattle.text_meshes.specs.TextBuilding.{lists_of, build_text}
use Rattle.text_meshes.specs.Claims.{StandsFor}
use Rattle.text_meshes.specs.declared.TextRefusal.TheVariants.{Refused}
use Rattle.text_places.specs.TextPlaces.{place_at_check, text_place}
use Rattle.told_edges.specs.declared.ToldEdge.TheVariants.{First, Again}
use Rattle.told_edges.specs.Claims.{FirstFace}
use Rattle.explained_edges.specs.TextEdges.{text_edge}

abbrev pub ToldAt : Bounds → List ℕ → TextMesh → ℕ → ℕ → Type 0
ToldAt b s t f i = text_place b s ≡ place_at_check (length t.points) (edge f i)

abbrev pub TripleTold : Type 0
TripleTold =
    (b : Bounds) (s : List ℕ) (m : Mesh) (t : TextMesh) → StandsFor b s t → (build_text b s m).answer ≡ Err (Refused EdgeTripleFace) →
    (f : ℕ) × (i : ℕ) × (p : ℕ) × (q : ℕ) × ToldAt b s t f i × Runs (lists_of t) f i p q
    × ((text_edge b s f i ≡ First p q) ⊎ ((g : ℕ) × (text_edge b s f i ≡ Again p q g)))

abbrev pub SameWayTold : Type 0
SameWayTold =
    (b : Bounds) (s : List ℕ) (m : Mesh) (t : TextMesh) → StandsFor b s t → (build_text b s m).answer ≡ Err (Refused SameWay) →
    (f : ℕ) × (i : ℕ) × (p : ℕ) × (q : ℕ) × (g : ℕ) × ToldAt b s t f i × Runs (lists_of t) f i p q
    × FirstFace (lists_of t) f p q g × (text_edge b s f i ≡ Again p q g)
