-- The definitions have an instance: two triangles back to back are closed, and a run of two steps from them goes on as defined.
use mathlib.Core.Path.{◌≡◌, refl, sym, ◌∙◌, ap}
use mathlib.Core.Option.{none}
use Prim.Native.Nat.{ℕ, suc}
use native.Mathlib.Omega.{arith}
use Rattle.closed_meshes.specs.Mesh.{MeshOver, Dart, lft, rgt, edge, flip, first, second, face}
use Rattle.closed_meshes.specs.Cycles.{Cycles}
use Rattle.closed_meshes.specs.Closed.{Closed}
use Rattle.closed_meshes.specs.Refinement.{refined}
use Rattle.closed_meshes.specs.Shared.{Stage}
use Rattle.closed_meshes.specs.Runs.{first_stage, StepsTo, begin, then}
use Rattle.closed_meshes.proofs.Groupoid.{isomorphism-refl}
use Rattle.closed_meshes.proofs.Isomorphisms.{touching-of-closed}
use Rattle.closed_meshes.proofs.Refinement.{stays_closed}
use Rattle.closed_meshes.proofs.Runs.{after, step_after}

-- three points, and three edges, each from its point to the next; two faces
data Three : Type 0 where
  one two three : Three

data Two : Type 0 where
  above below : Two

abbrev on : Three → Three
on one = two
on two = three
on three = one

abbrev off : Three → Three
off one = three
off two = one
off three = two

on-off : (x : Three) → on (off x) ≡ x
on-off one = refl
on-off two = refl
on-off three = refl

off-on : (x : Three) → off (on x) ≡ x
off-on one = refl
off-on two = refl
off-on three = refl

on-moves : (x : Three) → ¬ (x ≡ on x)
on-moves one h = let z : ◌≡◌ {A = ℕ} 0 1 = cc in omega arith
on-moves two h = let z : ◌≡◌ {A = ℕ} 0 1 = cc in omega arith
on-moves three h = let z : ◌≡◌ {A = ℕ} 0 1 = cc in omega arith

on-on-moves : (x : Three) → ¬ (x ≡ on (on x))
on-on-moves one h = let z : ◌≡◌ {A = ℕ} 0 1 = cc in omega arith
on-on-moves two h = let z : ◌≡◌ {A = ℕ} 0 1 = cc in omega arith
on-on-moves three h = let z : ◌≡◌ {A = ℕ} 0 1 = cc in omega arith

abbrev triangles : MeshOver Three Three Two
triangles =
    record {
      valence = λ p. 2;
      start = λ p. p;
      origin = λ e. e;
      dest = on;
      left = λ e. above;
      right = λ e. below;
      left_cw = off;
      left_acw = on;
      right_cw = on;
      right_acw = off;
      face_start = λ f. one;
      corner = λ f k. none;
    }

abbrev next : Dart Three → Dart Three
next (lft e) = lft (on e)
next (rgt e) = rgt (off e)

abbrev prev : Dart Three → Dart Three
prev (lft e) = lft (off e)
prev (rgt e) = rgt (on e)

abbrev face_dart : Two → Dart Three
face_dart above = lft one
face_dart below = rgt one

about-faces : Cycles next (face triangles) face_dart (λ f. 3)
about-faces =
    record {
      rank = elim [ lft one ↦ 0 | lft two ↦ 1 | lft three ↦ 2 | rgt one ↦ 0 | rgt two ↦ 2 | rgt three ↦ 1 ];
      cls-step = elim [ lft e ↦ refl | rgt e ↦ refl ];
      cls-start = elim [ above ↦ refl | below ↦ refl ];
      rank-start = elim [ above ↦ refl | below ↦ refl ];
      rank_below =
          elim [
            | lft one ↦ omega arith
            | lft two ↦ omega arith
            | lft three ↦ omega arith
            | rgt one ↦ omega arith
            | rgt two ↦ omega arith
            | rgt three ↦ omega arith
          ];
      rank_step =
          elim [
            | lft one ↦ λ h. refl
            | lft two ↦ λ h. refl
            | lft three ↦ λ h. absurd (omega arith)
            | rgt one ↦ λ h. refl
            | rgt two ↦ λ h. absurd (omega arith)
            | rgt three ↦ λ h. refl
          ];
      step-last =
          elim [
            | lft one ↦ λ h. absurd (omega arith)
            | lft two ↦ λ h. absurd (omega arith)
            | lft three ↦ λ h. refl
            | rgt one ↦ λ h. absurd (omega arith)
            | rgt two ↦ λ h. refl
            | rgt three ↦ λ h. absurd (omega arith)
          ];
    }

about-points : Cycles (λ d. flip (prev d)) (first triangles) lft (λ p. 2)
about-points =
    record {
      rank = elim [ lft e ↦ 0 | rgt e ↦ 1 ];
      cls-step = elim [ lft e ↦ on-off e | rgt e ↦ refl ];
      cls-start = λ p. refl;
      rank-start = λ p. refl;
      rank_below = elim [ lft e ↦ omega arith | rgt e ↦ omega arith ];
      rank_step = elim [ lft e ↦ λ h. refl | rgt e ↦ λ h. absurd (omega arith) ];
      step-last = elim [ lft e ↦ λ h. absurd (omega arith) | rgt e ↦ λ h. refl ];
    }

one-edge : (d d' : Dart Three) → first triangles d ≡ first triangles d' → second triangles d ≡ second triangles d' → edge d ≡ edge d'
one-edge (lft e) (lft e') h k = h
one-edge (lft e) (rgt e') h k = absurd (on-on-moves e (h ∙ ap on (sym k)))
one-edge (rgt e) (lft e') h k = absurd (on-on-moves e (k ∙ ap on (sym h)))
one-edge (rgt e) (rgt e') h k = k

one-pass : (d d' : Dart Three) → face triangles d ≡ face triangles d' → first triangles d ≡ first triangles d' → d ≡ d'
one-pass (lft e) (lft e') h k = ap lft k
one-pass (lft e) (rgt e') h k = cc
one-pass (rgt e) (lft e') h k = cc
one-pass (rgt e) (rgt e') h k = ap rgt (sym (off-on e) ∙ ap off k ∙ off-on e')

triangles-closed : Closed triangles
triangles-closed =
    record {
      next = next;
      prev = prev;
      edge-next = elim [ lft e ↦ refl | rgt e ↦ refl ];
      edge-prev = elim [ lft e ↦ refl | rgt e ↦ refl ];
      prev-next = elim [ lft e ↦ ap lft (off-on e) | rgt e ↦ ap rgt (on-off e) ];
      next-prev = elim [ lft e ↦ ap lft (on-off e) | rgt e ↦ ap rgt (off-on e) ];
      first_next = elim [ lft e ↦ refl | rgt e ↦ on-off e ];
      ends-differ = on-moves;
      sides-differ = λ e h. let z : ◌≡◌ {A = ℕ} 0 1 = cc in omega arith;
      one-edge = one-edge;
      one-pass = one-pass;
      face_dart = face_dart;
      edge-face_dart = elim [ above ↦ refl | below ↦ refl ];
      point_dart = lft;
      edge-point_dart = λ p. refl;
      size = λ f. 3;
      size_low = λ f. omega arith;
      size-high = λ f. omega arith;
      about-faces = about-faces;
      valence-low = λ p. omega arith;
      about-points = about-points;
    }

-- One more step, the rows being the kinds themselves.
onward : (k : ℕ) (s s' : Stage Three Three Two) → StepsTo s k s' → (t : Stage Three Three Two) × StepsTo s (suc k) t
onward k s s' r =
    let c = stays_closed _ _ _ s'.mesh s'.closed in
    let i = isomorphism-refl (refined s'.mesh s'.closed) in
    (after (suc k) s' i (touching-of-closed c), then r (step_after (suc k) s' i (touching-of-closed c)))

two_steps : (t : Stage Three Three Two) × StepsTo (first_stage triangles triangles-closed) 2 t
two_steps =
    let first = onward 0 (first_stage triangles triangles-closed) _ begin in
    onward 1 (first_stage triangles triangles-closed) first.0 first.1
