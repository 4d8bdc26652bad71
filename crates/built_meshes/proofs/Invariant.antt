-- What holds of the tables while building: each place that was entered has its side of an edge, each side with a face its place, and
-- sides of chained places are linked. Assumes nothing.
--     FaceSound l f               grounds 10, 11 and 12 do not hold of face f
--     Sits l m ne f i e           edge e is the edge of place i of face f
--     Invariant l D C m ne        D: the places entered, C: those connected to the place after
--     same-side, same-side-second    sides of one face with one first point, with one second point, are one
--     invariant-kept              the invariant, after a step that changes links alone
--     Adds, invariant-added       the invariant, after a step that gives a place its side
use mathlib.Core.Path.{◌≡◌, refl, sym, ◌∙◌, ap, ap₂, subst}
use mathlib.Core.Bool.{true, ◌||◌}
use mathlib.Core.Logic.{◌⊎◌, inl, inr, ◌≢◌}
use Prim.Native.Nat.{ℕ, ◌<◌, ◌≤◌}
use native.Mathlib.Omega.{arith}
use lib.Dec.{eqb}
use Rattle.perimeters.specs.Places.{next_place}
use Rattle.perimeters.proofs.Laws.{next-below, next-injective}
use Rattle.t_spline.specs.Edge.{none}
use Rattle.t_spline.specs.Ends.{face_from_side}
use Rattle.edge_ends.specs.declared.TnurccFaceSide.{TnurccFaceSide}
use Rattle.tables.specs.Mesh.{Mesh, valence, start}
use Rattle.closed_meshes.specs.Renumbering.{sum_to}
use Rattle.audited_meshes.specs.Folds.{one_if}
use Rattle.audited_meshes.specs.Walks.{touches, Touches}
use Rattle.audited_meshes.specs.Audit.{interval_fit}
use Rattle.audited_meshes.proofs.Folds.{sum_to-cong}
use Rattle.built_meshes.specs.Lists.{Lists, points_of, size}
use Rattle.built_meshes.specs.Places.{point_of, next_of}
use Rattle.built_meshes.proofs.Connecting.{first_of, second_of, acw_of, cw_of, Keeps, first-kept, second-kept, face-kept}
use Rattle.built_meshes.proofs.Rows.{row}
use Rattle.built_meshes.proofs.Made.{Made, made-on}

pub record FaceSound (l : Lists) (f : ℕ) : Type 0 where
  pub at-least-3 : 3 ≤ size l f
  pub at-most-64 : size l f ≤ 64
  pub in-range : (i : ℕ) → i < size l f → point_of l f i < points_of l
  pub distinct : (i j : ℕ) → i < size l f → j < size l f → point_of l f i ≡ point_of l f j → i ≡ j

pub record Sits (l : Lists) (m : Mesh) (ne f i e : ℕ) : Type 0 where
  pub on-side : TnurccFaceSide
  pub below : e < ne
  pub face-is : face_from_side (row m e) on-side ≡ f
  pub first-is : first_of on-side (row m e) ≡ point_of l f i
  pub second_is : second_of on-side (row m e) ≡ next_of l f i

-- no two of the places run the same way
abbrev pub OneWay : Lists → (ℕ → ℕ → Type 0) → Type 0
OneWay l D = (f i g j : ℕ) → D f i → D g j → point_of l f i ≡ point_of l g j → next_of l f i ≡ next_of l g j → (f ≡ g) × (i ≡ j)

-- a place of a sound face
pub record Good (l : Lists) (f i : ℕ) : Type 0 where
  pub sound : FaceSound l f
  pub is_below : i < size l f
  pub a-face : f ≢ none

pub record Invariant (l : Lists) (D C : ℕ → ℕ → Type 0) (m : Mesh) (ne : ℕ) : Type 0 where
  pub good : (f i : ℕ) → D f i → Good l f i
  pub chained : (f i : ℕ) → C f i → D f i × D f (next_place (size l f) i)
  pub entered : (f i : ℕ) → D f i → (e : ℕ) × Sits l m ne f i e
  pub placed :
      (s : TnurccFaceSide) (e : ℕ) → e < ne → face_from_side (row m e) s ≢ none →
      (i : ℕ) × D (face_from_side (row m e) s) i × (point_of l (face_from_side (row m e) s) i ≡ first_of s (row m e))
      × (next_of l (face_from_side (row m e) s) i ≡ second_of s (row m e))
  pub one_way : OneWay l D
  pub left-face : (e : ℕ) → e < ne → (row m e).face_left ≢ none
  pub origin-in : (e : ℕ) → e < ne → (row m e).origin < points_of l
  pub dest-in : (e : ℕ) → e < ne → (row m e).dest < points_of l
  pub ends-differ : (e : ℕ) → e < ne → (row m e).origin ≢ (row m e).dest
  pub one_side :
      (s : TnurccFaceSide) (e : ℕ) (t : TnurccFaceSide) (o : ℕ) → e < ne → o < ne →
      first_of s (row m e) ≡ first_of t (row m o) → second_of s (row m e) ≡ second_of t (row m o) → (s ≡ t) × (e ≡ o)
  pub valence-is : (p : ℕ) → p < points_of l → valence m p ≡ sum_to ne (λ e. one_if (touches m p e))
  pub start_is : (p : ℕ) → p < points_of l → 0 < valence m p → (start m p < ne) × Touches m p (start m p)
  pub interval-fit : (e : ℕ) → e < ne → interval_fit (row m e).knot_interval ≡ true
  pub made : Made l D m ne
  pub linked :
      (f i : ℕ) → C f i → (s : TnurccFaceSide) (e : ℕ) (t : TnurccFaceSide) (o : ℕ) → e < ne → o < ne →
      face_from_side (row m e) s ≡ f → face_from_side (row m o) t ≡ f → first_of s (row m e) ≡ point_of l f i → first_of t (row m o) ≡ next_of l f i →
      (acw_of s (row m e) ≡ o) × (cw_of t (row m o) ≡ e)

module _ (l : Lists) (D C : ℕ → ℕ → Type 0) (m : Mesh) (ne : ℕ) (v : Invariant l D C m ne) where
  -- A side of face f that begins where its place i begins is that place's side.
  pub side-second :
      (f i : ℕ) (s : TnurccFaceSide) (e : ℕ) → Good l f i → e < ne → face_from_side (row m e) s ≡ f → first_of s (row m e) ≡ point_of l f i →
      second_of s (row m e) ≡ next_of l f i
  side-second f i s e g below face first =
      let at = v.placed s e below (λ z. g.a-face (sym face ∙ z)) in
      let there : D f at.0 = subst (λ x. D x at.0) face at.1 in
      let begin : point_of l f at.0 ≡ first_of s (row m e) = subst (λ x. point_of l x at.0 ≡ first_of s (row m e)) face at.2 in
      let end : next_of l f at.0 ≡ second_of s (row m e) = subst (λ x. next_of l x at.0 ≡ second_of s (row m e)) face at.3 in
      let same : at.0 ≡ i = g.sound.distinct at.0 i (v.good f at.0 there).is_below g.is_below (begin ∙ first) in
      sym end ∙ ap (λ i. next_of l f i) same

  -- Sides of one face with one first point are one.
  pub same-side :
      (s : TnurccFaceSide) (e : ℕ) (t : TnurccFaceSide) (o : ℕ) → e < ne → o < ne →
      face_from_side (row m e) s ≢ none → face_from_side (row m e) s ≡ face_from_side (row m o) t → first_of s (row m e) ≡ first_of t (row m o) → (s ≡ t) × (e ≡ o)
  same-side s e t o below below' a face first =
      let at = v.placed s e below a in
      let g : Good l (face_from_side (row m e) s) at.0 = v.good (face_from_side (row m e) s) at.0 at.1 in
      let second : second_of t (row m o) ≡ next_of l (face_from_side (row m e) s) at.0 =
      side-second (face_from_side (row m e) s) at.0 t o g below' (sym face) (sym first ∙ sym at.2) in
      v.one_side s e t o below below' first (sym at.3 ∙ sym second)

  -- Sides of one face with one second point are one.
  pub same-side-second :
      (s : TnurccFaceSide) (e : ℕ) (t : TnurccFaceSide) (o : ℕ) → e < ne → o < ne →
      face_from_side (row m e) s ≢ none → face_from_side (row m e) s ≡ face_from_side (row m o) t → second_of s (row m e) ≡ second_of t (row m o) → (s ≡ t) × (e ≡ o)
  same-side-second s e t o below below' a face second =
      let f = face_from_side (row m e) s in
      let at = v.placed s e below a in
      let at' = v.placed t o below' (λ z. a (face ∙ z)) in
      let g = v.good f at.0 at.1 in
      let there : D f at'.0 = subst (λ x. D x at'.0) (sym face) at'.1 in
      let begin : point_of l f at'.0 ≡ first_of t (row m o) = subst (λ x. point_of l x at'.0 ≡ first_of t (row m o)) (sym face) at'.2 in
      let end : next_of l f at'.0 ≡ second_of t (row m o) = subst (λ x. next_of l x at'.0 ≡ second_of t (row m o)) (sym face) at'.3 in
      let l' = (v.good f at'.0 there).is_below in
      let turn : next_place (size l f) at.0 ≡ next_place (size l f) at'.0 =
      g.sound.distinct _ _ (next-below (size l f) at.0 g.is_below) (next-below (size l f) at'.0 l') (at.3 ∙ second ∙ sym end) in
      let same : at.0 ≡ at'.0 = next-injective (size l f) at.0 at'.0 g.is_below l' turn in
      v.one_side s e t o below below' (sym at.2 ∙ ap (λ i. point_of l f i) same ∙ begin) second

  -- The edge of a place.
  pub sits-unique : (f i : ℕ) {e o : ℕ} → Good l f i → Sits l m ne f i e → Sits l m ne f i o → e ≡ o
  sits-unique f i {e} {o} g a b =
      (same-side a.on-side e b.on-side o a.below b.below (λ z. g.a-face (sym a.face-is ∙ z)) (a.face-is ∙ sym b.face-is)
      (a.first-is ∙ sym b.first-is)).1

  -- ---- after a step that changes links alone

  module _ (m' : Mesh) (keeps : (x : ℕ) → x < ne → Keeps (row m x) (row m' x))
      (valence-same : (p : ℕ) → valence m' p ≡ valence m p) (start-same : (p : ℕ) → start m' p ≡ start m p) where
    pub sits-kept : (f i e : ℕ) → Sits l m ne f i e → Sits l m' ne f i e
    sits-kept f i e a =
        let k = keeps e a.below in
        record {
          on-side = a.on-side;
          below = a.below;
          face-is = face-kept a.on-side k ∙ a.face-is;
          first-is = first-kept a.on-side k ∙ a.first-is;
          second_is = second-kept a.on-side k ∙ a.second_is;
        }

    touches-kept : (p x : ℕ) → x < ne → touches m' p x ≡ touches m p x
    touches-kept p x b = ap₂ (λ (i j : ℕ). eqb i p || eqb j p) (keeps x b).origin (keeps x b).dest

    Touches-kept : (p x : ℕ) → x < ne → Touches m p x → Touches m' p x
    Touches-kept p x b (inl h) = inl ((keeps x b).origin ∙ h)
    Touches-kept p x b (inr h) = inr ((keeps x b).dest ∙ h)

    pub invariant-kept :
        (C' : ℕ → ℕ → Type 0) → ((f i : ℕ) → C' f i → D f i × D f (next_place (size l f) i)) →
        ((f i : ℕ) → C' f i → (s : TnurccFaceSide) (e : ℕ) (t : TnurccFaceSide) (o : ℕ) → e < ne → o < ne →
        face_from_side (row m e) s ≡ f → face_from_side (row m o) t ≡ f → first_of s (row m e) ≡ point_of l f i → first_of t (row m o) ≡ next_of l f i →
        (acw_of s (row m' e) ≡ o) × (cw_of t (row m' o) ≡ e)) →
        Invariant l D C' m' ne
    invariant-kept C' chained' linked' =
        record {
          good = v.good;
          chained = chained';
          entered = λ f i d. ((v.entered f i d).0, sits-kept f i (v.entered f i d).0 (v.entered f i d).1);
          placed = λ s e b a.
              let k = keeps e b in
              let at = v.placed s e b (λ z. a (face-kept s k ∙ z)) in
              let face = sym (face-kept s k) in (
                at.0,
                subst (λ x. D x at.0) face at.1,
                subst (λ x. point_of l x at.0 ≡ first_of s (row m' e)) face (at.2 ∙ sym (first-kept s k)),
                subst (λ x. next_of l x at.0 ≡ second_of s (row m' e)) face (at.3 ∙ sym (second-kept s k)),
              );
          one_way = v.one_way;
          left-face = λ e b z. v.left-face e b (sym (keeps e b).left ∙ z);
          origin-in = λ e b. subst (λ x. x < points_of l) (sym (keeps e b).origin) (v.origin-in e b);
          dest-in = λ e b. subst (λ x. x < points_of l) (sym (keeps e b).dest) (v.dest-in e b);
          ends-differ = λ e b z. v.ends-differ e b (sym (keeps e b).origin ∙ z ∙ (keeps e b).dest);
          one_side = λ s e t o b b' h k.
              v.one_side s e t o b b' (sym (first-kept s (keeps e b)) ∙ h ∙ first-kept t (keeps o b')) (sym (second-kept s (keeps e b)) ∙ k ∙ second-kept t (keeps o b'));
          valence-is = λ p b.
              valence-same p ∙ v.valence-is p b ∙ sum_to-cong ne (λ e. one_if (touches m p e)) (λ e. one_if (touches m' p e)) (λ e k. ap one_if (sym (touches-kept p e k)));
          start_is = λ p b h.
              let at = v.start_is p b (subst (λ n. 0 < n) (valence-same p) h) in (
                subst (λ x. x < ne) (sym (start-same p)) at.0,
                subst (λ x. Touches m' p x) (sym (start-same p)) (Touches-kept p (start m p) at.0 at.1),
              );
          interval-fit = λ e b. rw (keeps e b).interval (v.interval-fit e b);
          made =
              made-on l D D (λ f i d. d) (λ g j f i d d' h. d) m m' ne v.made
              (λ e b. record { origin = (keeps e b).origin; dest = (keeps e b).dest; left = (keeps e b).left; interval = (keeps e b).interval }) start-same;
          linked = λ f i c s e t o b b' face face' first first'.
              linked' f i c s e t o b b' (sym (face-kept s (keeps e b)) ∙ face) (sym (face-kept t (keeps o b')) ∙ face')
              (sym (first-kept s (keeps e b)) ∙ first) (sym (first-kept t (keeps o b')) ∙ first');
        }

-- ---- after a step that gives a place its side

-- the side s of edge x is as it was
pub record SameSide (m m' : Mesh) (s : TnurccFaceSide) (x : ℕ) : Type 0 where
  pub face-same : face_from_side (row m' x) s ≡ face_from_side (row m x) s
  pub first-same : first_of s (row m' x) ≡ first_of s (row m x)
  pub second-same : second_of s (row m' x) ≡ second_of s (row m x)
  pub acw-same : acw_of s (row m' x) ≡ acw_of s (row m x)
  pub cw-same : cw_of s (row m' x) ≡ cw_of s (row m x)

-- The side s₀ of edge e₀ becomes the side of place i₀ of face f₀; it had no face before. Every other side with a face is as it was.
pub record Adds (l : Lists) (m : Mesh) (ne : ℕ) (m' : Mesh) (ne' f₀ i₀ : ℕ) (s₀ : TnurccFaceSide) (e₀ : ℕ) : Type 0 where
  pub grows : ne ≤ ne'
  pub new-below : e₀ < ne'
  pub new-face : face_from_side (row m' e₀) s₀ ≡ f₀
  pub new-first : first_of s₀ (row m' e₀) ≡ point_of l f₀ i₀
  pub new-second : second_of s₀ (row m' e₀) ≡ next_of l f₀ i₀
  pub was_free : e₀ < ne → face_from_side (row m e₀) s₀ ≡ none
  pub others : (s : TnurccFaceSide) (x : ℕ) → x < ne → ¬ ((s ≡ s₀) × (x ≡ e₀)) → SameSide m m' s x
  pub cases :
      (s : TnurccFaceSide) (x : ℕ) → x < ne' → face_from_side (row m' x) s ≢ none →
      ((s ≡ s₀) × (x ≡ e₀)) ⊎ ((x < ne) × (¬ ((s ≡ s₀) × (x ≡ e₀))))

-- one place more
abbrev pub OrThis : (ℕ → ℕ → Type 0) → ℕ → ℕ → ℕ → ℕ → Type 0
OrThis D f₀ i₀ f i = D f i ⊎ ((f ≡ f₀) × (i ≡ i₀))

module _ (l : Lists) (D C : ℕ → ℕ → Type 0) (m : Mesh) (ne : ℕ) (v : Invariant l D C m ne) where
  module _ (m' : Mesh) (ne' f₀ i₀ : ℕ) (s₀ : TnurccFaceSide) (e₀ : ℕ) (a : Adds l m ne m' ne' f₀ i₀ s₀ e₀) (g₀ : Good l f₀ i₀) where
    -- a side with a face is not the new one
    old-side : (s : TnurccFaceSide) (x : ℕ) → x < ne → face_from_side (row m x) s ≢ none → SameSide m m' s x
    old-side s x b h =
        a.others s x b (λ same. h (subst (λ s. face_from_side (row m x) s ≡ none) (sym same.0)
        (subst (λ x. face_from_side (row m x) s₀ ≡ none) (sym same.1) (a.was_free (subst (λ x. x < ne) same.1 b)))))

    pub sits-added : (f i e : ℕ) → f ≢ none → Sits l m ne f i e → Sits l m' ne' f i e
    sits-added f i e h t =
        let same = old-side t.on-side e t.below (λ z. h (sym t.face-is ∙ z)) in
        record {
          on-side = t.on-side;
          below = omega (arith, t.below, a.grows);
          face-is = same.face-same ∙ t.face-is;
          first-is = same.first-same ∙ t.first-is;
          second_is = same.second-same ∙ t.second_is;
        }

    pub sits-new : Sits l m' ne' f₀ i₀ e₀
    sits-new = record { on-side = s₀; below = a.new-below; face-is = a.new-face; first-is = a.new-first; second_is = a.new-second }

    -- No place entered runs this way, if no side with a face does.
    module _
        (none_runs : (s : TnurccFaceSide) (x : ℕ) → x < ne → first_of s (row m x) ≡ point_of l f₀ i₀ → second_of s (row m x) ≡ next_of l f₀ i₀
        → face_from_side (row m x) s ≡ none) where
      fresh : (f i : ℕ) → D f i → point_of l f i ≡ point_of l f₀ i₀ → next_of l f i ≡ next_of l f₀ i₀ → ⊥
      fresh f i d first second =
          let t = v.entered f i d in
          (v.good f i d).a-face (sym t.1.face-is ∙ none_runs t.1.on-side t.0 t.1.below (t.1.first-is ∙ first) (t.1.second_is ∙ second))

      not_yet : D f₀ i₀ → ⊥
      not_yet d = fresh f₀ i₀ d refl refl

      entered-added : (f i : ℕ) → OrThis D f₀ i₀ f i → (e : ℕ) × Sits l m' ne' f i e
      entered-added f i (inl d) = ((v.entered f i d).0, sits-added f i _ (v.good f i d).a-face (v.entered f i d).1)
      entered-added f i (inr h) = (e₀, subst (λ f. Sits l m' ne' f i e₀) (sym h.0) (subst (λ i. Sits l m' ne' f₀ i e₀) (sym h.1) sits-new))

      Placed : TnurccFaceSide → ℕ → Type 0
      Placed s e =
          (i : ℕ) × OrThis D f₀ i₀ (face_from_side (row m' e) s) i × (point_of l (face_from_side (row m' e) s) i ≡ first_of s (row m' e))
          × (next_of l (face_from_side (row m' e) s) i ≡ second_of s (row m' e))

      placed-new : Placed s₀ e₀
      unfolding Placed
      placed-new = (
        i₀,
        inr (a.new-face, refl),
        subst (λ f. point_of l f i₀ ≡ first_of s₀ (row m' e₀)) (sym a.new-face) (sym a.new-first),
        subst (λ f. next_of l f i₀ ≡ second_of s₀ (row m' e₀)) (sym a.new-face) (sym a.new-second),
      )

      placed-added : (s : TnurccFaceSide) (e : ℕ) → e < ne' → face_from_side (row m' e) s ≢ none → Placed s e
      unfolding Placed
      placed-added s e b h = go (a.cases s e b h)
        where
          go : ((s ≡ s₀) × (e ≡ e₀)) ⊎ ((e < ne) × (¬ ((s ≡ s₀) × (e ≡ e₀)))) → Placed s e
          go (inl same) = subst (λ s. Placed s e) (sym same.0) (subst (λ e. Placed s₀ e) (sym same.1) placed-new)
          go (inr old) =
              let same = a.others s e old.0 old.1 in
              let at = v.placed s e old.0 (λ z. h (same.face-same ∙ z)) in
              let face = sym same.face-same in (
                at.0,
                inl (subst (λ x. D x at.0) face at.1),
                subst (λ x. point_of l x at.0 ≡ first_of s (row m' e)) face (at.2 ∙ sym same.first-same),
                subst (λ x. next_of l x at.0 ≡ second_of s (row m' e)) face (at.3 ∙ sym same.second-same),
              )

      one-way-added :
          (f i g j : ℕ) → OrThis D f₀ i₀ f i → OrThis D f₀ i₀ g j → point_of l f i ≡ point_of l g j → next_of l f i ≡ next_of l g j → (f ≡ g) × (i ≡ j)
      one-way-added f i g j (inl d) (inl d') h k = v.one_way f i g j d d' h k
      one-way-added f i g j (inl d) (inr h') h k =
          absurd (fresh f i d (h ∙ ap₂ (λ (f i : ℕ). point_of l f i) h'.0 h'.1) (k ∙ ap₂ (λ (f i : ℕ). next_of l f i) h'.0 h'.1))
      one-way-added f i g j (inr h') (inl d) h k =
          absurd (fresh g j d (sym h ∙ ap₂ (λ (f i : ℕ). point_of l f i) h'.0 h'.1) (sym k ∙ ap₂ (λ (f i : ℕ). next_of l f i) h'.0 h'.1))
      one-way-added f i g j (inr h') (inr h'') h k = (h'.0 ∙ sym h''.0, h'.1 ∙ sym h''.1)

      good-added : (f i : ℕ) → OrThis D f₀ i₀ f i → Good l f i
      good-added f i (inl d) = v.good f i d
      good-added f i (inr h) = subst (λ f. Good l f i) (sym h.0) (subst (λ i. Good l f₀ i) (sym h.1) g₀)

      -- the new side is not the side of a place entered before
      not_new : (f i : ℕ) → D f i → (s : TnurccFaceSide) (e : ℕ) → face_from_side (row m' e) s ≡ f → first_of s (row m' e) ≡ point_of l f i → ¬ ((s ≡ s₀) × (e ≡ e₀))
      not_new f i d s e face first same =
          let row_same : face_from_side (row m' e) s ≡ face_from_side (row m' e₀) s₀ = ap₂ (λ e s. face_from_side (row m' e) s) same.1 same.0 in
          let first-same : first_of s (row m' e) ≡ first_of s₀ (row m' e₀) = ap₂ (λ e s. first_of s (row m' e)) same.1 same.0 in
          let f-is : f ≡ f₀ = sym face ∙ row_same ∙ a.new-face in
          let d' : D f₀ i = subst (λ f. D f i) f-is d in
          let first' : point_of l f₀ i ≡ point_of l f₀ i₀ = subst (λ f. point_of l f i ≡ point_of l f₀ i₀) f-is (sym first ∙ first-same ∙ a.new-first) in
          let i-is : i ≡ i₀ = g₀.sound.distinct i i₀ (v.good f₀ i d').is_below g₀.is_below first' in
          not_yet (subst (λ i. D f₀ i) i-is d')

      linked-added :
          (f i : ℕ) → C f i → (s : TnurccFaceSide) (e : ℕ) (t : TnurccFaceSide) (o : ℕ) → e < ne' → o < ne' →
          face_from_side (row m' e) s ≡ f → face_from_side (row m' o) t ≡ f → first_of s (row m' e) ≡ point_of l f i → first_of t (row m' o) ≡ next_of l f i →
          (acw_of s (row m' e) ≡ o) × (cw_of t (row m' o) ≡ e)
      linked-added f i c s e t o b b' face face' first first' =
          go (a.cases s e b (λ z. aface (sym face ∙ z))) (a.cases t o b' (λ z. aface (sym face' ∙ z)))
        where
          both : D f i × D f (next_place (size l f) i)
          both = v.chained f i c

          aface : f ≢ none
          aface = (v.good f i both.0).a-face

          go : ((s ≡ s₀) × (e ≡ e₀)) ⊎ ((e < ne) × (¬ ((s ≡ s₀) × (e ≡ e₀)))) → ((t ≡ s₀) × (o ≡ e₀)) ⊎ ((o < ne) × (¬ ((t ≡ s₀) × (o ≡ e₀)))) →
              (acw_of s (row m' e) ≡ o) × (cw_of t (row m' o) ≡ e)
          go (inl h) k = absurd (not_new f i both.0 s e face first h)
          go (inr h) (inl k) = absurd (not_new f (next_place (size l f) i) both.1 t o face' first' k)
          go (inr h) (inr k) =
              let se = a.others s e h.0 h.1 in
              let to = a.others t o k.0 k.1 in
              let old = v.linked f i c s e t o h.0 k.0 (sym se.face-same ∙ face) (sym to.face-same ∙ face') (sym se.first-same ∙ first) (sym to.first-same ∙ first') in
              (se.acw-same ∙ old.0, to.cw-same ∙ old.1)

      -- what such a step must keep besides
      pub record Rest : Type 0 where
        pub left-face : (e : ℕ) → e < ne' → (row m' e).face_left ≢ none
        pub origin-in : (e : ℕ) → e < ne' → (row m' e).origin < points_of l
        pub dest-in : (e : ℕ) → e < ne' → (row m' e).dest < points_of l
        pub ends-differ : (e : ℕ) → e < ne' → (row m' e).origin ≢ (row m' e).dest
        pub one_side :
            (s : TnurccFaceSide) (e : ℕ) (t : TnurccFaceSide) (o : ℕ) → e < ne' → o < ne' →
            first_of s (row m' e) ≡ first_of t (row m' o) → second_of s (row m' e) ≡ second_of t (row m' o) → (s ≡ t) × (e ≡ o)
        pub valence-is : (p : ℕ) → p < points_of l → valence m' p ≡ sum_to ne' (λ e. one_if (touches m' p e))
        pub start_is : (p : ℕ) → p < points_of l → 0 < valence m' p → (start m' p < ne') × Touches m' p (start m' p)
        pub interval-fit : (e : ℕ) → e < ne' → interval_fit (row m' e).knot_interval ≡ true
        pub made : Made l (OrThis D f₀ i₀) m' ne'

      pub invariant-added : Rest → Invariant l (OrThis D f₀ i₀) C m' ne'
      unfolding Placed
      invariant-added r =
          record {
            good = good-added;
            chained = λ f i c. (inl (v.chained f i c).0, inl (v.chained f i c).1);
            entered = entered-added;
            placed = placed-added;
            one_way = one-way-added;
            left-face = r.left-face;
            origin-in = r.origin-in;
            dest-in = r.dest-in;
            ends-differ = r.ends-differ;
            one_side = r.one_side;
            valence-is = r.valence-is;
            start_is = r.start_is;
            interval-fit = r.interval-fit;
            made = r.made;
            linked = linked-added;
          }

-- ---- the places said otherwise

pub invariant-as :
    (l : Lists) (D C D' C' : ℕ → ℕ → Type 0) (m : Mesh) (ne : ℕ) → ((f i : ℕ) → D f i → D' f i) → ((f i : ℕ) → D' f i → D f i) →
    ((f i : ℕ) → C' f i → C f i) → Invariant l D C m ne → Invariant l D' C' m ne
invariant-as l D C D' C' m ne to from chain v =
    record {
      good = λ f i d. v.good f i (from f i d);
      chained = λ f i c. let both = v.chained f i (chain f i c) in (to f i both.0, to f (next_place (size l f) i) both.1);
      entered = λ f i d. v.entered f i (from f i d);
      placed = λ s e b a. let at = v.placed s e b a in (at.0, to (face_from_side (row m e) s) at.0 at.1, at.2, at.3);
      one_way = λ f i g j d d'. v.one_way f i g j (from f i d) (from g j d');
      left-face = v.left-face;
      origin-in = v.origin-in;
      dest-in = v.dest-in;
      ends-differ = v.ends-differ;
      one_side = v.one_side;
      valence-is = v.valence-is;
      start_is = v.start_is;
      interval-fit = v.interval-fit;
      made =
          made-on l D D' to (λ g j f i d d' h. from g j d) m m ne v.made
          (λ e b. record { origin = refl; dest = refl; left = refl; interval = refl }) (λ p. refl);
      linked = λ f i c. v.linked f i (chain f i c);
    }
