-- Closed carries over an isomorphism of meshes, with any start edges that touch their rows. Assumes nothing.
use mathlib.Core.Path.{◌≡◌, refl, sym, ◌∙◌, ap, subst}
use Prim.Native.Nat.{ℕ, suc, ◌≤◌, ◌<◌}
use Rattle.closed_meshes.specs.Mesh.{MeshOver, Dart, lft, rgt, edge, flip, first, second, face, acw, cw}
use Rattle.closed_meshes.specs.Cycles.{Cycles}
use Rattle.closed_meshes.specs.Closed.{Closed}
use Rattle.closed_meshes.specs.Renumbering.{Bijection, Isomorphism, Touching, CarriesOver}
use Rattle.closed_meshes.proofs.Cycles.{any-start}
use Rattle.closed_meshes.proofs.Darts.{flip-flip}

module _ {A B : Type 0} (b : Bijection A B) where
  -- What holds of all images holds of all.
  pub onto : (Q : B → Type 0) → ((x : A) → Q (b.to x)) → (y : B) → Q y
  onto Q h y = subst Q (b.to-from y) (h (b.from y))

  -- A bijection is injective.
  pub to-injective : (x x' : A) → b.to x ≡ b.to x' → x ≡ x'
  to-injective x x' h = sym (b.from-to x) ∙ ap b.from h ∙ b.from-to x'

  abbrev pub inverse : Bijection B A
  inverse = record { to = b.from; from = b.to; from-to = b.to-from; to-from = b.from-to }

-- Cycles carry over a bijection of darts and one of classes, each step, class and length with them.
module _
    {D C D' C' : Type 0} (b : Bijection D D') (k : Bijection C C') {step : D → D} {cls : D → C} {start : C → D} {len : C → ℕ}
    {step' : D' → D'} {cls' : D' → C'} {len' : C' → ℕ}
    (step-to : (d : D) → step' (b.to d) ≡ b.to (step d)) (cls-to : (d : D) → cls' (b.to d) ≡ k.to (cls d))
    (len-to : (x : C) → len' (k.to x) ≡ len x) (c : Cycles step cls start len)
  where
    pub cycles-carried : Cycles step' cls' (λ x. b.to (start (k.from x))) len'
    cycles-carried =
        record {
          rank = λ d. c.rank (b.from d);
          cls-step =
              onto b (λ d. cls' (step' d) ≡ cls' d) λ d.
              ap cls' (step-to d) ∙ cls-to (step d) ∙ ap k.to (c.cls-step d) ∙ sym (cls-to d);
          cls-start =
              λ x. cls-to (start (k.from x)) ∙ ap k.to (c.cls-start (k.from x)) ∙ k.to-from x;
          rank-start = λ x. ap c.rank (b.from-to _) ∙ c.rank-start (k.from x);
          rank_below =
              onto b (λ d. c.rank (b.from d) < len' (cls' d)) λ d. rw (b.from-to d, cls-to d, len-to (cls d)) (c.rank_below d);
          rank_step =
              onto b (λ d. suc (c.rank (b.from d)) < len' (cls' d) → c.rank (b.from (step' d)) ≡ suc (c.rank (b.from d))) λ d h.
              rw (step-to d, b.from-to (step d), b.from-to d)
              (c.rank_step d (rw (b.from-to d, cls-to d, len-to (cls d)) at h));
          step-last =
              onto b (λ d. suc (c.rank (b.from d)) ≡ len' (cls' d) → step' d ≡ b.to (start (k.from (cls' d)))) λ d h.
              rw (cls-to d, k.from-to (cls d))
              (step-to d ∙ ap b.to (c.step-last d (rw (b.from-to d, cls-to d, len-to (cls d)) at h)));
        }

-- The darts of corresponding edges correspond.
abbrev pub map_dart : {E E' : Type 0} → (E → E') → Dart E → Dart E'
map_dart g (lft e) = lft (g e)
map_dart g (rgt e) = rgt (g e)

pub map_dart-inverse :
    {E E' : Type 0} (g : E → E') (g' : E' → E) → ((e : E) → g' (g e) ≡ e) → (d : Dart E) → map_dart g' (map_dart g d) ≡ d
map_dart-inverse g g' h (lft e) = ap lft (h e)
map_dart-inverse g g' h (rgt e) = ap rgt (h e)

abbrev pub darts : {E E' : Type 0} → Bijection E E' → Bijection (Dart E) (Dart E')
darts b =
    record {
      to = map_dart b.to;
      from = map_dart b.from;
      from-to = map_dart-inverse b.to b.from b.from-to;
      to-from = map_dart-inverse b.from b.to b.to-from;
    }

pub edge-map_dart : {E E' : Type 0} (g : E → E') (d : Dart E) → edge (map_dart g d) ≡ g (edge d)
edge-map_dart g (lft e) = refl
edge-map_dart g (rgt e) = refl

pub flip-map_dart : {E E' : Type 0} (g : E → E') (d : Dart E) → flip (map_dart g d) ≡ map_dart g (flip d)
flip-map_dart g (lft e) = refl
flip-map_dart g (rgt e) = refl

module _ {P E F P' E' F' : Type 0} {m : MeshOver P E F} {m' : MeshOver P' E' F'} (i : Isomorphism m m') where
  -- the dart of m' that corresponds to d
  abbrev pub dart_to : Dart E → Dart E'
  dart_to d = map_dart i.edges.to d

  pub first_to : (d : Dart E) → first m' (dart_to d) ≡ i.points.to (first m d)
  first_to (lft e) = i.origin e
  first_to (rgt e) = i.dest e

  pub second-to : (d : Dart E) → second m' (dart_to d) ≡ i.points.to (second m d)
  second-to (lft e) = i.dest e
  second-to (rgt e) = i.origin e

  pub face-to : (d : Dart E) → face m' (dart_to d) ≡ i.faces.to (face m d)
  face-to (lft e) = i.left e
  face-to (rgt e) = i.right e

  pub acw-to : (d : Dart E) → acw m' (dart_to d) ≡ i.edges.to (acw m d)
  acw-to (lft e) = i.left_acw e
  acw-to (rgt e) = i.right_acw e

  pub cw-to : (d : Dart E) → cw m' (dart_to d) ≡ i.edges.to (cw m d)
  cw-to (lft e) = i.left_cw e
  cw-to (rgt e) = i.right_cw e

  module _ (c : Closed m) (t : Touching m') where
    next' : Dart E' → Dart E'
    next' d = dart_to (c.next (map_dart i.edges.from d))

    prev' : Dart E' → Dart E'
    prev' d = dart_to (c.prev (map_dart i.edges.from d))

    back : (d : Dart E) → map_dart i.edges.from (dart_to d) ≡ d
    back = (darts i.edges).from-to

    next-to' : (d : Dart E) → next' (dart_to d) ≡ dart_to (c.next d)
    unfolding next'
    next-to' d = ap (λ x. dart_to (c.next x)) (back d)

    prev-to' : (d : Dart E) → prev' (dart_to d) ≡ dart_to (c.prev d)
    unfolding prev'
    prev-to' d = ap (λ x. dart_to (c.prev x)) (back d)

    -- What holds of all corresponding darts holds of all.
    every-dart : (Q : Dart E' → Type 0) → ((d : Dart E) → Q (dart_to d)) → (d : Dart E') → Q d
    every-dart = onto (darts i.edges)

    next-prev' : (d : Dart E') → next' (prev' d) ≡ d
    next-prev' = every-dart (λ d. next' (prev' d) ≡ d) λ d. ap next' (prev-to' d) ∙ next-to' (c.prev d) ∙ ap dart_to (c.next-prev d)

    prev-next' : (d : Dart E') → prev' (next' d) ≡ d
    prev-next' = every-dart (λ d. prev' (next' d) ≡ d) λ d. ap prev' (next-to' d) ∙ prev-to' (c.next d) ∙ ap dart_to (c.prev-next d)

    turn-to' : (d : Dart E) → flip (prev' (dart_to d)) ≡ dart_to (flip (c.prev d))
    turn-to' d = ap flip (prev-to' d) ∙ flip-map_dart i.edges.to (c.prev d)

    one-edge' : (d d' : Dart E') → first m' d ≡ first m' d' → second m' d ≡ second m' d' → edge d ≡ edge d'
    one-edge' =
        every-dart (λ d. (d' : Dart E') → first m' d ≡ first m' d' → second m' d ≡ second m' d' → edge d ≡ edge d') λ d.
        every-dart (λ d'. first m' (dart_to d) ≡ first m' d' → second m' (dart_to d) ≡ second m' d' → edge (dart_to d) ≡ edge d') λ d' h k.
        edge-map_dart i.edges.to d
        ∙ ap i.edges.to
        (c.one-edge d d'
        (to-injective i.points _ _ (sym (first_to d) ∙ h ∙ first_to d'))
        (to-injective i.points _ _ (sym (second-to d) ∙ k ∙ second-to d')))
        ∙ sym (edge-map_dart i.edges.to d')

    one-pass' : (d d' : Dart E') → face m' d ≡ face m' d' → first m' d ≡ first m' d' → d ≡ d'
    one-pass' =
        every-dart (λ d. (d' : Dart E') → face m' d ≡ face m' d' → first m' d ≡ first m' d' → d ≡ d') λ d.
        every-dart (λ d'. face m' (dart_to d) ≡ face m' d' → first m' (dart_to d) ≡ first m' d' → dart_to d ≡ d') λ d' h k.
        ap dart_to
        (c.one-pass d d'
        (to-injective i.faces _ _ (sym (face-to d) ∙ h ∙ face-to d'))
        (to-injective i.points _ _ (sym (first_to d) ∙ k ∙ first_to d')))

    closed-carried : Closed m'
    closed-carried =
        record {
          next = next';
          prev = prev';
          edge-next =
              every-dart (λ d. edge (next' d) ≡ acw m' d) λ d.
              ap edge (next-to' d) ∙ edge-map_dart i.edges.to (c.next d) ∙ ap i.edges.to (c.edge-next d) ∙ sym (acw-to d);
          edge-prev =
              every-dart (λ d. edge (prev' d) ≡ cw m' d) λ d.
              ap edge (prev-to' d) ∙ edge-map_dart i.edges.to (c.prev d) ∙ ap i.edges.to (c.edge-prev d) ∙ sym (cw-to d);
          prev-next = prev-next';
          next-prev = next-prev';
          first_next =
              every-dart (λ d. first m' (next' d) ≡ second m' d) λ d.
              ap (first m') (next-to' d) ∙ first_to (c.next d) ∙ ap i.points.to (c.first_next d) ∙ sym (second-to d);
          ends-differ =
              onto i.edges (λ e. ¬ (m'.origin e ≡ m'.dest e)) λ e h.
              c.ends-differ e (to-injective i.points _ _ (sym (i.origin e) ∙ h ∙ i.dest e));
          sides-differ =
              onto i.edges (λ e. ¬ (m'.left e ≡ m'.right e)) λ e h.
              c.sides-differ e (to-injective i.faces _ _ (sym (i.left e) ∙ h ∙ i.right e));
          one-edge = one-edge';
          one-pass = one-pass';
          face_dart = λ f. (t.face_start f).0;
          edge-face_dart = λ f. (t.face_start f).1;
          point_dart = λ p. (t.start p).0;
          edge-point_dart = λ p. (t.start p).1;
          size = λ f. c.size (i.faces.from f);
          size_low = λ f. c.size_low (i.faces.from f);
          size-high = λ f. c.size-high (i.faces.from f);
          about-faces =
              any-start
              (cycles-carried (darts i.edges) i.faces next-to' face-to (λ f. ap c.size (i.faces.from-to f)) c.about-faces)
              prev' next-prev' (λ f. (t.face_start f).0) (λ f. (t.face_start f).2);
          valence-low = onto i.points (λ p. 2 ≤ m'.valence p) λ p. rw (i.valence p) (c.valence-low p);
          about-points =
              any-start (cycles-carried (darts i.edges) i.points turn-to' first_to i.valence c.about-points)
              (λ d. next' (flip d)) (λ d. ap flip (prev-next' (flip d)) ∙ flip-flip d)
              (λ p. (t.start p).0) (λ p. (t.start p).2);
        }

-- Closed carries over.
pub carries_over : CarriesOver
carries_over P E F P' E' F' m m' i t c = closed-carried i c t

-- In a closed mesh the start edges touch.
pub touching-of-closed : {P E F : Type 0} {m : MeshOver P E F} → Closed m → Touching m
touching-of-closed c =
    record {
      start = λ p. (c.point_dart p, c.edge-point_dart p, c.about-points.cls-start p);
      face_start = λ f. (c.face_dart f, c.edge-face_dart f, c.about-faces.cls-start f);
    }
