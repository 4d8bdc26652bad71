-- A refined closed mesh is closed. Assumes nothing.
use mathlib.Core.Path.{◌≡◌, refl, sym, ◌∙◌, ap}
use Prim.Native.Nat.{ℕ, ◌≤◌}
use native.Mathlib.Omega.{arith}
use Rattle.closed_meshes.specs.Mesh.{MeshOver, Dart, lft, rgt, edge, first, second, face, acw, cw}
use Rattle.closed_meshes.specs.Closed.{Closed}
use Rattle.closed_meshes.specs.Refinement.{NewPoint, old, mid, face_point, NewEdge, org, dst, join, refined, StaysClosed}
use Rattle.closed_meshes.proofs.Darts.{dart-of-first, dart-of-second, dart-of-face, face-prev, edge-moves}
use Rattle.closed_meshes.proofs.NewDarts.{start-half, end-half, inward, outward, by_kind, next', prev'}
use Rattle.closed_meshes.proofs.NewDarts.{edge-start-half, edge-end-half, first-start-half, second-start-half}
use Rattle.closed_meshes.proofs.NewDarts.{first-end-half, second-end-half, face-start-half, face-end-half}
use Rattle.closed_meshes.proofs.NewDarts.{next-start-half, next-end-half, prev-start-half, prev-end-half}
use Rattle.closed_meshes.proofs.NewWalks.{about-faces', about-points', point_dart', edge-point_dart'}

module _ {P E F : Type 0} (m : MeshOver P E F) (c : Closed m) where
  edge-next' : (x : Dart (NewEdge E)) → edge (next' m c x) ≡ acw (refined m c) x
  unfolding next'
  edge-next' (lft (org e)) = refl
  edge-next' (lft (dst e)) = edge-start-half (c.next (lft e))
  edge-next' (lft (join d)) = edge-end-half d
  edge-next' (rgt (org e)) = edge-start-half (c.next (rgt e))
  edge-next' (rgt (dst e)) = refl
  edge-next' (rgt (join d)) = refl

  edge-prev' : (x : Dart (NewEdge E)) → edge (prev' m c x) ≡ cw (refined m c) x
  unfolding prev'
  edge-prev' (lft (org e)) = edge-end-half (c.prev (lft e))
  edge-prev' (lft (dst e)) = refl
  edge-prev' (lft (join d)) = refl
  edge-prev' (rgt (org e)) = refl
  edge-prev' (rgt (dst e)) = edge-end-half (c.prev (rgt e))
  edge-prev' (rgt (join d)) = edge-start-half d

  prev-next' : (x : Dart (NewEdge E)) → prev' m c (next' m c x) ≡ x
  unfolding next' prev'
  prev-next' =
      by_kind (λ x. prev' m c (next' m c x) ≡ x)
      (λ d. ap (prev' m c) (next-start-half m c d))
      (λ d. ap inward (c.next-prev d))
      (λ d. prev-end-half m c d)
      (λ d. ap (prev' m c) (next-end-half m c d) ∙ prev-start-half m c (c.next d) ∙ ap end-half (c.prev-next d))

  next-prev' : (x : Dart (NewEdge E)) → next' m c (prev' m c x) ≡ x
  unfolding next' prev'
  next-prev' =
      by_kind (λ x. next' m c (prev' m c x) ≡ x)
      (λ d. ap (next' m c) (prev-start-half m c d) ∙ next-end-half m c (c.prev d) ∙ ap start-half (c.next-prev d))
      (λ d. next-start-half m c d)
      (λ d. ap outward (c.prev-next d))
      (λ d. ap (next' m c) (prev-end-half m c d))

  first-next' : (x : Dart (NewEdge E)) → first (refined m c) (next' m c x) ≡ second (refined m c) x
  unfolding next'
  first-next' =
      by_kind (λ x. first (refined m c) (next' m c x) ≡ second (refined m c) x)
      (λ d. ap (first (refined m c)) (next-start-half m c d) ∙ sym (second-start-half m c d))
      (λ d. ap face_point (face-prev c d))
      (λ d. first-end-half m c d)
      (λ d.
      ap (first (refined m c)) (next-end-half m c d) ∙ first-start-half m c (c.next d) ∙ ap old (c.first_next d)
      ∙ sym (second-end-half m c d))

  ends-differ' : (e : NewEdge E) → ¬ ((refined m c).origin e ≡ (refined m c).dest e)
  ends-differ' (org e) h = let z : ◌≡◌ {A = ℕ} 0 1 = cc in omega arith
  ends-differ' (dst e) h = let z : ◌≡◌ {A = ℕ} 0 1 = cc in omega arith
  ends-differ' (join d) h = let z : ◌≡◌ {A = ℕ} 0 1 = cc in omega arith

  sides-differ' : (e : NewEdge E) → ¬ ((refined m c).left e ≡ (refined m c).right e)
  sides-differ' (org e) h = edge-moves c (rgt e) (ap edge (sym h))
  sides-differ' (dst e) h = edge-moves c (lft e) (ap edge h)
  sides-differ' (join d) h = edge-moves c d (ap edge h)

  -- Two new darts of different kinds have not the same ends; of one kind they are one.
  SameEnds : Dart (NewEdge E) → Dart (NewEdge E) → Type 0
  SameEnds x y =
      first (refined m c) x ≡ first (refined m c) y → second (refined m c) x ≡ second (refined m c) y → edge x ≡ edge y

  one-edge' : (x y : Dart (NewEdge E)) → SameEnds x y
  unfolding SameEnds
  one-edge' =
      by_kind (λ x. (y : Dart (NewEdge E)) → SameEnds x y)
      (λ d.
      by_kind (SameEnds (start-half d))
      (λ d' h k. ap edge (ap start-half (same_start d d' h k)))
      (λ d' h k. cc (first-start-half m c d))
      (λ d' h k. cc (first-start-half m c d))
      (λ d' h k. cc (first-start-half m c d, first-end-half m c d')))
      (λ d.
      by_kind (SameEnds (inward d))
      (λ d' h k. cc (first-start-half m c d'))
      (λ d' h k. ap join (same-join d d' h k))
      (λ d' h k. cc)
      (λ d' h k. cc (second-end-half m c d')))
      (λ d.
      by_kind (SameEnds (outward d))
      (λ d' h k. cc (first-start-half m c d'))
      (λ d' h k. cc)
      (λ d' h k. ap join (same-join d d' k h))
      (λ d' h k. cc (first-end-half m c d')))
      (λ d.
      by_kind (SameEnds (end-half d))
      (λ d' h k. cc (first-start-half m c d', first-end-half m c d))
      (λ d' h k. cc (second-end-half m c d))
      (λ d' h k. cc (first-end-half m c d))
      (λ d' h k. ap edge (ap end-half (same_end d d' h k))))
    where
      same_start :
          (d d' : Dart E) → first (refined m c) (start-half d) ≡ first (refined m c) (start-half d') →
          second (refined m c) (start-half d) ≡ second (refined m c) (start-half d') → d ≡ d'
      same_start d d' h k =
          dart-of-first c d d'
          (cc (second-start-half m c d, second-start-half m c d'))
          (cc (first-start-half m c d, first-start-half m c d'))

      same-join :
          (d d' : Dart E) → ◌≡◌ {A = NewPoint P E F} (mid (edge d)) (mid (edge d')) →
          ◌≡◌ {A = NewPoint P E F} (face_point (face m d)) (face_point (face m d')) → d ≡ d'
      same-join d d' h k = dart-of-face c d d' (cc) (cc)

      same_end :
          (d d' : Dart E) → first (refined m c) (end-half d) ≡ first (refined m c) (end-half d') →
          second (refined m c) (end-half d) ≡ second (refined m c) (end-half d') → d ≡ d'
      same_end d d' h k =
          dart-of-second c d d'
          (cc (first-end-half m c d, first-end-half m c d'))
          (cc (second-end-half m c d, second-end-half m c d'))

  -- Two new darts of one face that begin at one point are one.
  OnePass : Dart (NewEdge E) → Dart (NewEdge E) → Type 0
  OnePass x y = face (refined m c) x ≡ face (refined m c) y → first (refined m c) x ≡ first (refined m c) y → x ≡ y

  next-injective : (d d' : Dart E) → c.next d ≡ c.next d' → d ≡ d'
  next-injective d d' h = sym (c.prev-next d) ∙ ap c.prev h ∙ c.prev-next d'

  -- The two new darts of a face that begin at midpoints begin at two of them.
  mid-moves : (d d' : Dart E) → c.next d ≡ d' → ◌≡◌ {A = NewPoint P E F} (mid (edge d)) (mid (edge d')) → ⊥
  mid-moves d d' h k = edge-moves c d (ap edge h ∙ cc)

  one-pass' : (x y : Dart (NewEdge E)) → OnePass x y
  unfolding OnePass
  one-pass' =
      by_kind (λ x. (y : Dart (NewEdge E)) → OnePass x y)
      (λ d.
      by_kind (OnePass (start-half d))
      (λ d' h k. ap start-half (sym (face-start-half m c d) ∙ h ∙ face-start-half m c d'))
      (λ d' h k. cc (first-start-half m c d))
      (λ d' h k. cc (first-start-half m c d))
      (λ d' h k. cc (first-start-half m c d, first-end-half m c d')))
      (λ d.
      by_kind (OnePass (inward d))
      (λ d' h k. cc (first-start-half m c d'))
      (λ d' h k. ap inward h)
      (λ d' h k. cc)
      (λ d' h k. absurd (mid-moves d' d (sym (face-end-half m c d') ∙ sym h) (sym (first-end-half m c d') ∙ sym k))))
      (λ d.
      by_kind (OnePass (outward d))
      (λ d' h k. cc (first-start-half m c d'))
      (λ d' h k. cc)
      (λ d' h k. ap outward (next-injective d d' h))
      (λ d' h k. cc (first-end-half m c d')))
      (λ d.
      by_kind (OnePass (end-half d))
      (λ d' h k. cc (first-start-half m c d', first-end-half m c d))
      (λ d' h k. absurd (mid-moves d d' (sym (face-end-half m c d) ∙ h) (sym (first-end-half m c d) ∙ k)))
      (λ d' h k. cc (first-end-half m c d))
      (λ d' h k. ap end-half (next-injective d d' (sym (face-end-half m c d) ∙ h ∙ face-end-half m c d'))))

  valence-low' : (p : NewPoint P E F) → 2 ≤ (refined m c).valence p
  valence-low' (old p) = c.valence-low p
  valence-low' (mid e) = omega arith
  valence-low' (face_point f) = omega (arith, c.size_low f)

  pub refined-closed : Closed (refined m c)
  unfolding SameEnds OnePass
  refined-closed =
      record {
        next = next' m c;
        prev = prev' m c;
        edge-next = edge-next';
        edge-prev = edge-prev';
        prev-next = prev-next';
        next-prev = next-prev';
        first_next = first-next';
        ends-differ = ends-differ';
        sides-differ = sides-differ';
        one-edge = one-edge';
        one-pass = one-pass';
        face_dart = start-half;
        edge-face_dart = edge-start-half;
        point_dart = point_dart' m c;
        edge-point_dart = edge-point_dart' m c;
        size = λ d. 4;
        size_low = λ d. omega arith;
        size-high = λ d. omega arith;
        about-faces = about-faces' m c;
        valence-low = valence-low';
        about-points = about-points' m c;
      }

  -- What closes it.
  pub next-closed : (x : Dart (NewEdge E)) → refined-closed.next x ≡ next' m c x
  unfolding refined-closed
  next-closed x = refl

  pub size-closed : (d : Dart E) → refined-closed.size d ≡ 4
  unfolding refined-closed
  size-closed d = refl

  pub face_dart-closed : (d : Dart E) → refined-closed.face_dart d ≡ start-half d
  unfolding refined-closed
  face_dart-closed d = refl

-- Closed stays closed.
pub stays_closed : StaysClosed
stays_closed P E F m c = refined-closed m c
