-- The places of a perimeter: the darts of a face of a closed mesh, numbered from its start. Assumes nothing.
--     dart_at c f i       the dart at place i of the face f
--     place c d          the place of the dart d on its face
use mathlib.Core.Path.{◌≡◌, refl, sym, ◌∙◌, ap}
use Prim.Native.Nat.{ℕ, suc, ◌<◌}
use native.Mathlib.Omega.{arith}
use native.Mathlib.Decide.{dec_lt}
use Rattle.perimeters.specs.Places.{next_place, prev_place}
use Rattle.perimeters.proofs.Laws.{next_more, next_last, prev-below, next-prev}
use Rattle.closed_meshes.specs.Mesh.{MeshOver, Dart, face}
use Rattle.closed_meshes.specs.Borders.{steps}
use Rattle.closed_meshes.specs.Closed.{Closed}
use Rattle.closed_meshes.proofs.Cycles.{rank-steps, cls-steps-start, steps-len, steps-rank, rank-injective}

module _ {P E F : Type 0} {t : MeshOver P E F} (c : Closed t) where
  unfoldable pub dart_at : F → ℕ → Dart E
  dart_at f i = steps c.next i (c.face_dart f)

  unfoldable pub place : Dart E → ℕ
  place d = c.about-faces.rank d

  pub face-dart_at : (f : F) (i : ℕ) → face t (dart_at f i) ≡ f
  unfolding dart_at
  face-dart_at f i = cls-steps-start c.about-faces i f

  pub place-dart_at : (f : F) (i : ℕ) → i < c.size f → place (dart_at f i) ≡ i
  unfolding dart_at place
  place-dart_at f i h = rank-steps c.about-faces i f h

  pub dart_at-place : (d : Dart E) → dart_at (face t d) (place d) ≡ d
  unfolding dart_at place
  dart_at-place d = steps-rank c.about-faces c.prev c.next-prev d

  pub place-below : (d : Dart E) → place d < c.size (face t d)
  unfolding place
  place-below d = c.about-faces.rank_below d

  pub place-injective : (d d' : Dart E) → face t d ≡ face t d' → place d ≡ place d' → d ≡ d'
  unfolding place
  place-injective d d' h k = rank-injective c.about-faces c.prev c.next-prev d d' h k

  -- The dart at place 0 is the one from which the walk begins.
  pub dart_at-zero : (f : F) → dart_at f 0 ≡ c.face_dart f
  unfolding dart_at steps
  dart_at-zero f = refl

  -- The dart at the next place is the next one, and the dart at the previous place the previous one.
  pub dart_at-next : (f : F) (i : ℕ) → i < c.size f → dart_at f (next_place (c.size f) i) ≡ c.next (dart_at f i)
  unfolding dart_at steps
  dart_at-next f i h = go (dec_lt (suc i) (c.size f))
    where
      go : Dec (suc i < c.size f) → dart_at f (next_place (c.size f) i) ≡ c.next (dart_at f i)
      go (yes l) = rw (next_more (c.size f) i l)
      go (no l) =
          let e : suc i ≡ c.size f = omega arith in
          rw (next_last (c.size f) i e) (sym (ap (λ k. steps c.next k (c.face_dart f)) e ∙ steps-len c.about-faces f))

  pub dart_at-prev : (f : F) (i : ℕ) → i < c.size f → dart_at f (prev_place (c.size f) i) ≡ c.prev (dart_at f i)
  dart_at-prev f i h =
      let b : prev_place (c.size f) i < c.size f = prev-below (c.size f) i h in
      sym (c.prev-next _) ∙ ap c.prev (sym (dart_at-next f (prev_place (c.size f) i) b))
      ∙ ap (λ k. c.prev (dart_at f k)) (next-prev (c.size f) i h)
