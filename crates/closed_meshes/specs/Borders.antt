-- What walks pass: of a cycle each dart once, of a new face its border.
--     steps step n d                    the dart after n steps from d
--     PassedOnce step start len d c     the walk of len c steps from the start of c passes d exactly once
--     new_border d                       the edges and points that a walk about the new face d passes in turn, begun at d's first point
--     NewBorders                        the claim: the walk about a new face passes its border
--     NewCorners                        the claim: the corners of a new face are the points that the walk passes, from the face point on
use Rattle.std.specs.Prelude.{◌≡◌, List, [], ◌∷◌, map, ℕ, zero, suc, ◌<◌}
use Rattle.std.proofs.Math.Option.{some}
use Rattle.closed_meshes.specs.Mesh.{MeshOver, place0, place1, place2, place3, Dart, edge, first, face}
use Rattle.closed_meshes.specs.Cycles.{orbit}
use Rattle.closed_meshes.specs.Closed.{Closed}
use Rattle.closed_meshes.specs.Refinement.{NewPoint, old, mid, face_point, NewEdge, join, first_half, second_half, new_corner, refined}

unfoldable pub steps : {D : Type 0} → (D → D) → ℕ → D → D
steps step zero d = d
steps step (suc n) d = step (steps step n d)

pub record PassedOnce {D C : Type 0} (step : D → D) (start : C → D) (len : C → ℕ) (d : D) (c : C) : Type 0 where
  pub after : ℕ
  pub in-time : after < len c
  pub passed : steps step after (start c) ≡ d
  pub only_then : (n : ℕ) → n < len c → steps step n (start c) ≡ d → n ≡ after

module _ {P E F : Type 0} (m : MeshOver P E F) (c : Closed m) where
  abbrev pub new_border : Dart E → List (NewEdge E × NewPoint P E F)
  new_border d =
      (first_half d, old (first m d))
      ∷ (join d, mid (edge d))
      ∷ (join (c.prev d), face_point (face m d))
      ∷ (second_half (c.prev d), mid (edge (c.prev d)))
      ∷ []

abbrev pub NewBorders : Type 1
NewBorders =
    (P E F : Type 0) (m : MeshOver P E F) (c : Closed m) (c' : Closed (refined m c)) (d : Dart E) →
    map (λ x. (edge x, first (refined m c) x)) (orbit c'.next (c'.size d) (c'.face_dart d)) ≡ new_border m c d

abbrev pub NewCorners : Type 1
NewCorners =
    (P E F : Type 0) (m : MeshOver P E F) (c : Closed m) (c' : Closed (refined m c)) (d : Dart E) →
    map (λ x. some (first (refined m c) x)) (orbit c'.next (c'.size d) (steps c'.next 2 (c'.face_dart d)))
    ≡ new_corner m c d place0 ∷ new_corner m c d place1 ∷ new_corner m c d place2 ∷ new_corner m c d place3 ∷ []
