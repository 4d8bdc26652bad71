-- What is claimed of the edge that is told.
--     PlaceListed l f i          face f is one of the lists with all its points, and has a place i
--     FirstFace l f p q g   face g is the first face before face f that has a place from p to q
--     MissingExactly       the claim: no edge is told exactly if the place is not listed
--     AgainExactly         the claim: a face is told exactly if it is the first before that runs the edge the same way
--     FirstExactly         the claim: points with no face are told exactly if no face before runs the edge the same way
--     PointsTold           the claim: where a ground is met first at an edge, its points are told
--     SameWayTold         the claim: where that is 15, a face before is told
use Rattle.std.specs.Prelude.{◌≡◌, ◌↔◌, ◌⊎◌, ℕ, ◌+◌, ◌≤◌, ◌<◌, length}
use Rattle.tables.specs.declared.Sizes.{Sizes}
use Rattle.tables.specs.Mesh.{Mesh}
use Rattle.built_meshes.specs.Lists.{Lists, size, offset}
use Rattle.built_meshes.specs.Places.{IsPlace, Runs}
use Rattle.built_meshes.specs.Grounds.{edge, FirstMet}
use Rattle.built_meshes.specs.declared.Ground.{Ground}
use Rattle.built_meshes.specs.declared.Ground.TheVariants.{SameWay}
use Rattle.told_edges.specs.declared.ToldEdge.TheVariants.{Missing, First, Again}
use Rattle.told_edges.specs.Told.{told_edge}

pub record PlaceListed (l : Lists) (f i : ℕ) : Type 0 where
  pub is-place : IsPlace l f i
  pub all_there : offset l f + size l f ≤ length l.listed

pub record FirstFace (l : Lists) (f p q g : ℕ) : Type 0 where
  pub earlier : g < f
  pub place : ℕ
  pub runs : Runs l g place p q
  pub none_before : (h j : ℕ) → h < g → ¬ Runs l h j p q

abbrev pub MissingExactly : Type 0
MissingExactly = (l : Lists) (f i : ℕ) → (told_edge l f i ≡ Missing) ↔ (¬ PlaceListed l f i)

abbrev pub AgainExactly : Type 0
AgainExactly =
    (l : Lists) (f i p q g : ℕ) → (told_edge l f i ≡ Again p q g) ↔ (PlaceListed l f i × Runs l f i p q × FirstFace l f p q g)

abbrev pub FirstExactly : Type 0
FirstExactly =
    (l : Lists) (f i p q : ℕ) →
    (told_edge l f i ≡ First p q) ↔ (PlaceListed l f i × Runs l f i p q × ((g j : ℕ) → g < f → ¬ Runs l g j p q))

abbrev pub PointsTold : Type 0
PointsTold =
    (c : Sizes) (l : Lists) (m : Mesh) (f i : ℕ) (g : Ground) → FirstMet c l m (edge f i) g →
    (p : ℕ) × (q : ℕ) × Runs l f i p q × ((told_edge l f i ≡ First p q) ⊎ ((h : ℕ) × (told_edge l f i ≡ Again p q h)))

abbrev pub SameWayTold : Type 0
SameWayTold =
    (c : Sizes) (l : Lists) (m : Mesh) (f i : ℕ) → FirstMet c l m (edge f i) SameWay →
    (p : ℕ) × (q : ℕ) × (g : ℕ) × Runs l f i p q × FirstFace l f p q g × (told_edge l f i ≡ Again p q g)
