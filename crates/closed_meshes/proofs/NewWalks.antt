-- The walks about the faces and the points of a refined mesh. Assumes nothing.
use mathlib.Core.Path.{◌≡◌, refl, sym, ◌∙◌, ap}
use Prim.Native.Nat.{ℕ, suc, ◌<◌}
use native.Mathlib.Omega.{arith}
use Rattle.closed_meshes.specs.Mesh.{MeshOver, Dart, lft, rgt, edge, flip, first, face}
use Rattle.closed_meshes.specs.Cycles.{Cycles}
use Rattle.closed_meshes.specs.Closed.{Closed}
use Rattle.closed_meshes.specs.Refinement.{NewPoint, old, mid, face_point, NewEdge, org, dst, join, refined}
use Rattle.closed_meshes.proofs.Darts.{edge-flip}
use Rattle.closed_meshes.proofs.NewDarts.{start-half, end-half, outward, by_kind, next', prev'}
use Rattle.closed_meshes.proofs.NewDarts.{edge-start-half, first-start-half, first-end-half}
use Rattle.closed_meshes.proofs.NewDarts.{face-start-half, face-end-half, next-start-half, next-end-half}
use Rattle.closed_meshes.proofs.NewDarts.{prev-start-half, prev-end-half, flip-start-half, flip-end-half}

module _ {P E F : Type 0} (m : MeshOver P E F) (c : Closed m) where
  -- Walks about the new faces: ranks 0 to 3.
  face-next' : (x : Dart (NewEdge E)) → face (refined m c) (next' m c x) ≡ face (refined m c) x
  unfolding next'
  face-next' =
      by_kind (λ x. face (refined m c) (next' m c x) ≡ face (refined m c) x)
      (λ d. ap (face (refined m c)) (next-start-half m c d) ∙ sym (face-start-half m c d))
      (λ d. c.next-prev d)
      (λ d. face-end-half m c d)
      (λ d. ap (face (refined m c)) (next-end-half m c d) ∙ face-start-half m c (c.next d) ∙ sym (face-end-half m c d))

  face_rank : Dart (NewEdge E) → ℕ
  face_rank (lft (org e)) = 0
  face_rank (lft (dst e)) = 3
  face_rank (lft (join d)) = 2
  face_rank (rgt (org e)) = 3
  face_rank (rgt (dst e)) = 0
  face_rank (rgt (join d)) = 1

  face_rank-start-half : (d : Dart E) → face_rank (start-half d) ≡ 0
  unfolding face_rank
  face_rank-start-half (lft e) = refl
  face_rank-start-half (rgt e) = refl

  face_rank-end-half : (d : Dart E) → face_rank (end-half d) ≡ 3
  unfolding face_rank
  face_rank-end-half (lft e) = refl
  face_rank-end-half (rgt e) = refl

  pub about-faces' : Cycles (next' m c) (face (refined m c)) start-half (λ d. 4)
  unfolding next' face_rank
  about-faces' =
      record {
        rank = face_rank;
        cls-step = face-next';
        cls-start = (face-start-half m c);
        rank-start = face_rank-start-half;
        rank_below =
            by_kind (λ x. face_rank x < 4)
            (λ d. omega (arith, face_rank-start-half d))
            (λ d. omega arith)
            (λ d. omega arith)
            (λ d. omega (arith, face_rank-end-half d));
        rank_step =
            by_kind (λ x. suc (face_rank x) < 4 → face_rank (next' m c x) ≡ suc (face_rank x))
            (λ d h. ap face_rank (next-start-half m c d) ∙ ap suc (sym (face_rank-start-half d)))
            (λ d h. refl)
            (λ d h. face_rank-end-half d)
            (λ d h. absurd (omega (arith, face_rank-end-half d)));
        step-last =
            by_kind (λ x. suc (face_rank x) ≡ 4 → next' m c x ≡ start-half (face (refined m c) x))
            (λ d h. absurd (omega (arith, face_rank-start-half d)))
            (λ d h. absurd (omega arith))
            (λ d h. absurd (omega arith))
            (λ d h. next-end-half m c d ∙ ap start-half (sym (face-end-half m c d)));
      }

  -- Walks about the new points: the old ranks about old points, those about the old face about its face point, and ranks 0 to 3
  -- about a midpoint.
  turn' : Dart (NewEdge E) → Dart (NewEdge E)
  turn' x = flip (prev' m c x)

  pub point_dart' : NewPoint P E F → Dart (NewEdge E)
  point_dart' (old p) = start-half (c.point_dart p)
  point_dart' (mid e) = lft (dst e)
  point_dart' (face_point f) = outward (c.face_dart f)

  point_rank : Dart (NewEdge E) → ℕ
  point_rank (lft (org e)) = c.about-points.rank (lft e)
  point_rank (lft (dst e)) = 0
  point_rank (lft (join d)) = c.about-faces.rank d
  point_rank (rgt (org e)) = 2
  point_rank (rgt (dst e)) = c.about-points.rank (rgt e)
  point_rank (rgt (join (lft e))) = 1
  point_rank (rgt (join (rgt e))) = 3

  point_rank-start-half : (d : Dart E) → point_rank (start-half d) ≡ c.about-points.rank d
  unfolding point_rank
  point_rank-start-half (lft e) = refl
  point_rank-start-half (rgt e) = refl

  turn-start-half : (d : Dart E) → turn' (start-half d) ≡ start-half (flip (c.prev d))
  unfolding turn' prev'
  turn-start-half d = ap flip (prev-start-half m c d) ∙ flip-end-half (c.prev d)

  -- Each law at a new dart, from the law at the old one.
  cls-turn' : (x : Dart (NewEdge E)) → first (refined m c) (turn' x) ≡ first (refined m c) x
  unfolding turn' prev'
  cls-turn' =
      by_kind (λ x. first (refined m c) (turn' x) ≡ first (refined m c) x)
      (λ d.
      ap (first (refined m c)) (turn-start-half d) ∙ first-start-half m c (flip (c.prev d)) ∙ ap old (c.about-points.cls-step d)
      ∙ sym (first-start-half m c d))
      (λ d. ap (first (refined m c)) (flip-start-half d) ∙ first-end-half m c (flip d) ∙ ap mid (edge-flip d))
      (λ d. ap face_point (c.about-faces.cls-step d))
      (λ d. ap (first (refined m c)) (ap flip (prev-end-half m c d)) ∙ sym (first-end-half m c d))

  cls-start' : (p : NewPoint P E F) → first (refined m c) (point_dart' p) ≡ p
  unfolding point_dart'
  cls-start' (old p) = first-start-half m c (c.point_dart p) ∙ ap old (c.about-points.cls-start p)
  cls-start' (mid e) = refl
  cls-start' (face_point f) = ap face_point (c.about-faces.cls-start f)

  rank-start' : (p : NewPoint P E F) → point_rank (point_dart' p) ≡ 0
  unfolding point_dart' point_rank
  rank-start' (old p) = point_rank-start-half (c.point_dart p) ∙ c.about-points.rank-start p
  rank-start' (mid e) = refl
  rank-start' (face_point f) = c.about-faces.rank-start f

  rank-below' : (x : Dart (NewEdge E)) → point_rank x < (refined m c).valence (first (refined m c) x)
  unfolding point_rank
  rank-below' (lft (org e)) = c.about-points.rank_below (lft e)
  rank-below' (lft (dst e)) = omega arith
  rank-below' (lft (join d)) = c.about-faces.rank_below d
  rank-below' (rgt (org e)) = omega arith
  rank-below' (rgt (dst e)) = c.about-points.rank_below (rgt e)
  rank-below' (rgt (join (lft e))) = omega arith
  rank-below' (rgt (join (rgt e))) = omega arith

  rank-turn' :
      (x : Dart (NewEdge E)) → suc (point_rank x) < (refined m c).valence (first (refined m c) x) →
      point_rank (turn' x) ≡ suc (point_rank x)
  unfolding point_rank turn' prev'
  rank-turn' (lft (org e)) h =
      ap point_rank (turn-start-half (lft e)) ∙ point_rank-start-half (flip (c.prev (lft e))) ∙ c.about-points.rank_step (lft e) h
  rank-turn' (lft (dst e)) h = refl
  rank-turn' (lft (join d)) h = c.about-faces.rank_step d h
  rank-turn' (rgt (org e)) h = refl
  rank-turn' (rgt (dst e)) h =
      ap point_rank (turn-start-half (rgt e)) ∙ point_rank-start-half (flip (c.prev (rgt e))) ∙ c.about-points.rank_step (rgt e) h
  rank-turn' (rgt (join (lft e))) h = refl
  rank-turn' (rgt (join (rgt e))) h = absurd (omega arith)

  turn-last' :
      (x : Dart (NewEdge E)) → suc (point_rank x) ≡ (refined m c).valence (first (refined m c) x) →
      turn' x ≡ point_dart' (first (refined m c) x)
  unfolding point_rank turn' prev' point_dart'
  turn-last' (lft (org e)) h = turn-start-half (lft e) ∙ ap start-half (c.about-points.step-last (lft e) h)
  turn-last' (lft (dst e)) h = absurd (omega arith)
  turn-last' (lft (join d)) h = ap outward (c.about-faces.step-last d h)
  turn-last' (rgt (org e)) h = absurd (omega arith)
  turn-last' (rgt (dst e)) h = turn-start-half (rgt e) ∙ ap start-half (c.about-points.step-last (rgt e) h)
  turn-last' (rgt (join (lft e))) h = absurd (omega arith)
  turn-last' (rgt (join (rgt e))) h = refl

  pub edge-point_dart' : (p : NewPoint P E F) → edge (point_dart' p) ≡ (refined m c).start p
  unfolding point_dart'
  edge-point_dart' (old p) = edge-start-half (c.point_dart p)
  edge-point_dart' (mid e) = refl
  edge-point_dart' (face_point f) = refl

  pub about-points' : Cycles (λ x. flip (prev' m c x)) (first (refined m c)) point_dart' (refined m c).valence
  unfolding turn'
  about-points' =
      record {
        rank = point_rank;
        cls-step = cls-turn';
        cls-start = cls-start';
        rank-start = rank-start';
        rank_below = rank-below';
        rank_step = rank-turn';
        step-last = turn-last';
      }
