-- The claims of the edge that is told of a text. Assumes nothing.
use mathlib.Core.Path.{◌≡◌, refl, ◌∙◌}
use mathlib.Core.Bool.{Bool, true, false}
use mathlib.Core.List.{List}
use mathlib.Core.Logic.{◌⊎◌, inl, inr}
use Prim.Native.Nat.{ℕ}
use native.Mathlib.Omega.{arith}
use lib.ListN.{length}
use Rattle.tables.specs.Mesh.{Mesh}
use Rattle.mesh_text.specs.Text.{TextMesh}
use Rattle.built_meshes.specs.Lists.{counts_fit}
use Rattle.built_meshes.specs.Places.{Runs}
use Rattle.built_meshes.specs.Grounds.{Where, lists, edge, over-counts, triple-face, same_way, FirstMet, Met}
use Rattle.built_meshes.specs.declared.Ground.{Ground}
use Rattle.built_meshes.specs.declared.Ground.TheVariants.{OverCounts, EdgeTripleFace, SameWay}
use Rattle.built_meshes.proofs.Begin.{counts-fail}
use Rattle.building_tests.specs.Lent.{limits_of}
use Rattle.building_tests.specs.declared.Bounds.{Bounds}
use Rattle.text_meshes.specs.TextBuilding.{lists_of}
use Rattle.text_meshes.specs.Claims.{StandsFor}
use Rattle.text_places.specs.TextPlaces.{place_at_check, text_place}
use Rattle.explained_texts.proofs.Places.{place-is-first}
use Rattle.told_edges.specs.declared.ToldEdge.TheVariants.{First, Again}
use Rattle.told_edges.specs.Told.{told_edge}
use Rattle.told_edges.specs.Claims.{FirstFace}
use Rattle.told_edges.proofs.Theorem.{points-told, same-way-told as face-told}
use Rattle.explained_edges.specs.TextEdges.{text_edge}
use Rattle.explained_edges.specs.Claims.{ToldAt, TripleTold, SameWayTold}
use Rattle.explained_edges.proofs.Laws.{edge_of}

module _ (b : Bounds) (s : List ℕ) (m : Mesh) (t : TextMesh) (h : StandsFor b s t) where
  -- where a ground is met first at an edge, 2 is not met
  edge-is : (g : Ground) (f i : ℕ) → FirstMet (limits_of b) (lists_of t) m (edge f i) g → text_edge b s f i ≡ told_edge (lists_of t) f i
  edge-is g f i first = edge_of b s t h (go (counts_fit (limits_of b) (lists_of t)) refl) f i
    where
      go : (x : Bool) → counts_fit (limits_of b) (lists_of t) ≡ x → x ≡ true
      go true e = refl
      go false e = absurd (first.none_before lists OverCounts (inl (omega arith)) (over-counts (counts-fail (limits_of b) (lists_of t) e)))

  -- 14 and 15 are met at an edge
  triple-at : (w : Where) → Met (limits_of b) (lists_of t) m w EdgeTripleFace → (f : ℕ) × (i : ℕ) × (w ≡ edge f i)
  triple-at w (triple-face f i g j k n p q r x y d u z) = (f, i, refl)

  same_at : (w : Where) → Met (limits_of b) (lists_of t) m w SameWay → (f : ℕ) × (i : ℕ) × (w ≡ edge f i)
  same_at w (same_way f i g j p q r x d) = (f, i, refl)

pub triple-told : TripleTold
triple-told b s m t h answer = go (place-is-first b s m t h EdgeTripleFace (omega arith) answer)
  where
    go :
        (w : Where) × FirstMet (limits_of b) (lists_of t) m w EdgeTripleFace × (text_place b s ≡ place_at_check (length t.points) w) →
        (f : ℕ) × (i : ℕ) × (p : ℕ) × (q : ℕ) × ToldAt b s t f i × Runs (lists_of t) f i p q
        × ((text_edge b s f i ≡ First p q) ⊎ ((g : ℕ) × (text_edge b s f i ≡ Again p q g)))
    go (w, first, place) =
        let (f, i, e) = triple-at b s m t h w first.met in
        let x : FirstMet (limits_of b) (lists_of t) m (edge f i) EdgeTripleFace = rw e at first in
        let (p, q, r, told) = points-told (limits_of b) (lists_of t) m f i EdgeTripleFace x in
        (f, i, p, q, rw e at place, r, turn f i p q (edge-is b s m t h EdgeTripleFace f i x) told)
      where
        turn :
            (f i p q : ℕ) → text_edge b s f i ≡ told_edge (lists_of t) f i →
            (told_edge (lists_of t) f i ≡ First p q) ⊎ ((g : ℕ) × (told_edge (lists_of t) f i ≡ Again p q g)) →
            (text_edge b s f i ≡ First p q) ⊎ ((g : ℕ) × (text_edge b s f i ≡ Again p q g))
        turn f i p q e (inl x) = inl (e ∙ x)
        turn f i p q e (inr (g, x)) = inr (g, e ∙ x)

pub same-way-told : SameWayTold
same-way-told b s m t h answer = go (place-is-first b s m t h SameWay (omega arith) answer)
  where
    go :
        (w : Where) × FirstMet (limits_of b) (lists_of t) m w SameWay × (text_place b s ≡ place_at_check (length t.points) w) →
        (f : ℕ) × (i : ℕ) × (p : ℕ) × (q : ℕ) × (g : ℕ) × ToldAt b s t f i × Runs (lists_of t) f i p q
        × FirstFace (lists_of t) f p q g × (text_edge b s f i ≡ Again p q g)
    go (w, first, place) =
        let (f, i, e) = same_at b s m t h w first.met in
        let x : FirstMet (limits_of b) (lists_of t) m (edge f i) SameWay = rw e at first in
        let (p, q, g, r, k, told) = face-told (limits_of b) (lists_of t) m f i x in
        (f, i, p, q, g, rw e at place, r, k, edge-is b s m t h SameWay f i x ∙ told)
