-- The invariant after two edges were connected: the edge o of a place and the edge e of the place after it. A link that connecting
-- writes goes to the side of the same face that begins where this one ends; there is one such side, since no point is listed twice in
-- a face. So each link that stands is written over with itself. Assumes nothing.
use mathlib.Core.Path.{◌≡◌, refl, sym, ◌∙◌, ap, ap₂, subst}
use mathlib.Core.Logic.{◌⊎◌, inl, inr, ⊎_elim, ◌≢◌}
use Prim.Native.Nat.{ℕ, ◌*◌, ◌<◌, ◌≤◌}
use native.Mathlib.Omega.{arith}
use native.Mathlib.Decide.{ℕ_discrete}
use lib.ListN.{length}
use Rattle.perimeters.specs.Places.{next_place}
use Rattle.perimeters.proofs.Laws.{next-below, next-differs, next-next-differs}
use Rattle.t_spline.specs.Ends.{face_from_side}
use Rattle.t_spline.specs.declared.TnurccEdge.{TnurccEdge}
use Rattle.edge_ends.specs.declared.TnurccFaceSide.{TnurccFaceSide}
use Rattle.edge_ends.specs.declared.TnurccFaceSide.TheVariants.{Left, Right}
use Rattle.tables.specs.Mesh.{Mesh}
use Rattle.built_meshes.specs.Lists.{Lists, size}
use Rattle.built_meshes.specs.Edges.{joined}
use Rattle.built_meshes.specs.Places.{point_of, next_of}
use Rattle.built_meshes.proofs.Connecting.{first_of, second_of, acw_of, cw_of, Follows, Keeps, Wrote, connected-wrote, connected-links}
use Rattle.built_meshes.proofs.Rows.{row, pair, row-joined-first, row-joined-other, row-joined-rest}
use Rattle.built_meshes.proofs.Invariant.{Sits, Good, Invariant, same-side, same-side-second, side-second, sits-kept, invariant-kept, OrThis}

pub keeps-refl : (e e' : TnurccEdge) → e' ≡ e → Keeps e e'
keeps-refl e e' h =
    record {
      origin = ap (λ (x : TnurccEdge). x.origin) h;
      dest = ap (λ (x : TnurccEdge). x.dest) h;
      left = ap (λ (x : TnurccEdge). x.face_left) h;
      right = ap (λ (x : TnurccEdge). x.face_right) h;
      interval = ap (λ (x : TnurccEdge). x.knot_interval) h;
      links = ap (λ (x : TnurccEdge). length x.connections) h;
    }

module _ (l : Lists) (D C : ℕ → ℕ → Type 0) (m : Mesh) (ne : ℕ) (v : Invariant l D C m ne) (room : ne * 8 ≤ length m.edges)
    (f₀ i₀ e o : ℕ) (g₀ : Good l f₀ i₀) (sits-o : Sits l m ne f₀ i₀ o) (sits-e : Sits l m ne f₀ (next_place (size l f₀) i₀) e)
    (done : D f₀ i₀) (done' : D f₀ (next_place (size l f₀) i₀)) where
  -- Two places of a face that follow one another have two edges.
  differ : e ≢ o
  differ same = go sits-o.on-side sits-e.on-side sits-o.first-is sits-o.second_is first' second'
    where
      first' : first_of sits-e.on-side (row m o) ≡ point_of l f₀ (next_place (size l f₀) i₀)
      first' = subst (λ x. first_of sits-e.on-side (row m x) ≡ point_of l f₀ (next_place (size l f₀) i₀)) same sits-e.first-is

      second' : second_of sits-e.on-side (row m o) ≡ next_of l f₀ (next_place (size l f₀) i₀)
      second' = subst (λ x. second_of sits-e.on-side (row m x) ≡ next_of l f₀ (next_place (size l f₀) i₀)) same sits-e.second_is

      next-below' : next_place (size l f₀) i₀ < size l f₀
      next-below' = (v.good f₀ (next_place (size l f₀) i₀) done').is_below

      one-first : point_of l f₀ i₀ ≡ point_of l f₀ (next_place (size l f₀) i₀) → ⊥
      one-first h =
          next-differs (size l f₀) i₀ (omega (arith, g₀.sound.at-least-3)) g₀.is_below
          (sym (g₀.sound.distinct i₀ (next_place (size l f₀) i₀) g₀.is_below next-below' h))

      two-turns : next_of l f₀ (next_place (size l f₀) i₀) ≡ point_of l f₀ i₀ → ⊥
      two-turns h =
          next-next-differs (size l f₀) i₀ g₀.sound.at-least-3 g₀.is_below
          (g₀.sound.distinct _ i₀ (next-below (size l f₀) (next_place (size l f₀) i₀) next-below') g₀.is_below h)

      go : (s t : TnurccFaceSide) → first_of s (row m o) ≡ point_of l f₀ i₀ → second_of s (row m o) ≡ next_of l f₀ i₀ →
          first_of t (row m o) ≡ point_of l f₀ (next_place (size l f₀) i₀) → second_of t (row m o) ≡ next_of l f₀ (next_place (size l f₀) i₀) → ⊥
      go Left Left a b c d = one-first (sym a ∙ c)
      go Left Right a b c d = two-turns (sym d ∙ a)
      go Right Left a b c d = two-turns (sym d ∙ a)
      go Right Right a b c d = one-first (sym a ∙ c)

  wrote : Wrote e o (row m e) (row m o) (record { first = row m e; other = row m o }) (pair m e o)
  wrote = connected-wrote e o (row m e) (row m o) refl refl

  row-e : row (joined m e o) e ≡ (pair m e o).first
  row-e = row-joined-first m e o differ wrote.kept-first.links wrote.kept-first.interval (omega (arith, sits-e.below))

  row-o : row (joined m e o) o ≡ (pair m e o).other
  row-o = row-joined-other m e o wrote.kept-other.links wrote.kept-other.interval (omega (arith, sits-o.below))

  -- by cases: x is e, or o, or another edge
  by_row : (A : ℕ → Type 0) (x : ℕ) → A e → A o → (x ≢ e → x ≢ o → A x) → A x
  by_row A x at-e at-o else = go (ℕ_discrete x e) (ℕ_discrete x o)
    where
      go : Dec (x ≡ e) → Dec (x ≡ o) → A x
      go (yes h) d = subst A (sym h) at-e
      go (no h) (yes k) = subst A (sym k) at-o
      go (no h) (no k) = else h k

  keeps : (x : ℕ) → Keeps (row m x) (row (joined m e o) x)
  keeps x =
      by_row (λ x. Keeps (row m x) (row (joined m e o) x)) x
      (subst (λ r. Keeps (row m e) r) (sym row-e) wrote.kept-first)
      (subst (λ r. Keeps (row m o) r) (sym row-o) wrote.kept-other)
      (λ h k. keeps-refl (row m x) (row (joined m e o) x) (row-joined-rest m e o x h k))

  -- a side of another edge
  record Another : Type 0 where
    edge : ℕ
    side : TnurccFaceSide
    edge-below : edge < ne

  at-e : TnurccFaceSide → Another
  at-e s = record { edge = e; side = s; edge-below = sits-e.below }

  at-o : TnurccFaceSide → Another
  at-o s = record { edge = o; side = s; edge-below = sits-o.below }

  -- A link afterwards is as before, or goes to the side that follows, or is followed.
  Acw : TnurccFaceSide → ℕ → Type 0
  Acw s x =
      (acw_of s (row (joined m e o) x) ≡ acw_of s (row m x))
      ⊎ ((y : Another) × (acw_of s (row (joined m e o) x) ≡ y.edge) × Follows s (row m x) y.side (row m y.edge))

  Cw : TnurccFaceSide → ℕ → Type 0
  Cw s x =
      (cw_of s (row (joined m e o) x) ≡ cw_of s (row m x))
      ⊎ ((y : Another) × (cw_of s (row (joined m e o) x) ≡ y.edge) × Follows y.side (row m y.edge) s (row m x))

  acw-after : (s : TnurccFaceSide) (x : ℕ) → Acw s x
  unfolding Acw at-e at-o
  acw-after s x =
      by_row (Acw s) x
      (⊎_elim (λ h. inl (ap (acw_of s) row-e ∙ h)) (λ h. inr (at-o h.1.0, ap (acw_of s) row-e ∙ h.0, h.1.1)) (wrote.acw-first s))
      (⊎_elim (λ h. inl (ap (acw_of s) row-o ∙ h)) (λ h. inr (at-e h.1.0, ap (acw_of s) row-o ∙ h.0, h.1.1)) (wrote.acw-other s))
      (λ h k. inl (ap (acw_of s) (row-joined-rest m e o x h k)))

  cw-after : (s : TnurccFaceSide) (x : ℕ) → Cw s x
  unfolding Cw at-e at-o
  cw-after s x =
      by_row (Cw s) x
      (⊎_elim (λ h. inl (ap (cw_of s) row-e ∙ h)) (λ h. inr (at-o h.1.0, ap (cw_of s) row-e ∙ h.0, h.1.1)) (wrote.cw-first s))
      (⊎_elim (λ h. inl (ap (cw_of s) row-o ∙ h)) (λ h. inr (at-e h.1.0, ap (cw_of s) row-o ∙ h.0, h.1.1)) (wrote.cw-other s))
      (λ h k. inl (ap (cw_of s) (row-joined-rest m e o x h k)))

  -- ---- links that stood stand

  module _ (f i : ℕ) (g : Good l f i) (s : TnurccFaceSide) (x : ℕ) (t : TnurccFaceSide) (y : ℕ) (b : x < ne) (b' : y < ne)
      (face : face_from_side (row m x) s ≡ f) (face' : face_from_side (row m y) t ≡ f)
      (first : first_of s (row m x) ≡ point_of l f i) (first' : first_of t (row m y) ≡ next_of l f i) where
    meet : second_of s (row m x) ≡ first_of t (row m y)
    meet = side-second l D C m ne v f i s x g b face first ∙ sym first'

    stays-acw : acw_of s (row m x) ≡ y → acw_of s (row (joined m e o) x) ≡ y
    unfolding Acw
    stays-acw old = go (acw-after s x)
      where
        go : Acw s x → acw_of s (row (joined m e o) x) ≡ y
        go (inl h) = h ∙ old
        go (inr h) =
            let w = h.2 in
            h.1 ∙ sym (same-side l D C m ne v t y h.0.side h.0.edge b' h.0.edge-below
            (λ z. g.a-face (sym face' ∙ z)) (face' ∙ sym face ∙ w.same-face) (sym meet ∙ w.meets)).1

    stays-cw : cw_of t (row m y) ≡ x → cw_of t (row (joined m e o) y) ≡ x
    unfolding Cw
    stays-cw old = go (cw-after t y)
      where
        go : Cw t y → cw_of t (row (joined m e o) y) ≡ x
        go (inl h) = h ∙ old
        go (inr h) =
            let w = h.2 in
            h.1 ∙ sym (same-side-second l D C m ne v s x h.0.side h.0.edge b h.0.edge-below
            (λ z. g.a-face (sym face ∙ z)) (face ∙ sym face' ∙ sym w.same-face) (meet ∙ sym w.meets)).1

  -- ---- the new link

  follows : Follows sits-o.on-side (row m o) sits-e.on-side (row m e)
  follows =
      record {
        a-face = λ z. g₀.a-face (sym sits-o.face-is ∙ z);
        same-face = sits-o.face-is ∙ sym sits-e.face-is;
        meets = sits-o.second_is ∙ sym sits-e.first-is;
      }

  new-links : (cw_of sits-e.on-side (pair m e o).first ≡ o) × (acw_of sits-o.on-side (pair m e o).other ≡ e)
  new-links =
      connected-links e o (row m e) (row m o) refl refl (v.ends-differ e sits-e.below) (v.ends-differ o sits-o.below)
      (λ h k. differ (v.one_side Left e Left o sits-e.below sits-o.below h k).1)
      (λ h k. differ (v.one_side Left e Right o sits-e.below sits-o.below h k).1)
      sits-e.on-side sits-o.on-side follows

  linked-new :
      (s : TnurccFaceSide) (x : ℕ) (t : TnurccFaceSide) (y : ℕ) → x < ne → y < ne → face_from_side (row m x) s ≡ f₀ → face_from_side (row m y) t ≡ f₀ →
      first_of s (row m x) ≡ point_of l f₀ i₀ → first_of t (row m y) ≡ next_of l f₀ i₀ →
      (acw_of s (row (joined m e o) x) ≡ y) × (cw_of t (row (joined m e o) y) ≡ x)
  linked-new s x t y b b' face face' first first' =
      let xo : (s ≡ sits-o.on-side) × (x ≡ o) =
      same-side l D C m ne v s x sits-o.on-side o b sits-o.below (λ z. g₀.a-face (sym face ∙ z)) (face ∙ sym sits-o.face-is) (first ∙ sym sits-o.first-is) in
      let ye : (t ≡ sits-e.on-side) × (y ≡ e) =
      same-side l D C m ne v t y sits-e.on-side e b' sits-e.below (λ z. g₀.a-face (sym face' ∙ z)) (face' ∙ sym sits-e.face-is) (first' ∙ sym sits-e.first-is) in (
        ap₂ (λ s x. acw_of s (row (joined m e o) x)) xo.0 xo.1 ∙ ap (acw_of sits-o.on-side) row-o ∙ new-links.1 ∙ sym ye.1,
        ap₂ (λ t y. cw_of t (row (joined m e o) y)) ye.0 ye.1 ∙ ap (cw_of sits-e.on-side) row-e ∙ new-links.0 ∙ sym xo.1,
      )

  pub invariant-joined : Invariant l D (OrThis C f₀ i₀) (joined m e o) ne
  unfolding joined
  invariant-joined =
      invariant-kept l D C m ne v (joined m e o) (λ x b. keeps x) (λ p. refl) (λ p. refl) (OrThis C f₀ i₀) chained' linked'
    where
      chained' : (f i : ℕ) → OrThis C f₀ i₀ f i → D f i × D f (next_place (size l f) i)
      chained' f i (inl c) = v.chained f i c
      chained' f i (inr h) =
          subst (λ f. D f i × D f (next_place (size l f) i)) (sym h.0) (subst (λ i. D f₀ i × D f₀ (next_place (size l f₀) i)) (sym h.1) (done, done'))

      linked' :
          (f i : ℕ) → OrThis C f₀ i₀ f i → (s : TnurccFaceSide) (x : ℕ) (t : TnurccFaceSide) (y : ℕ) → x < ne → y < ne →
          face_from_side (row m x) s ≡ f → face_from_side (row m y) t ≡ f → first_of s (row m x) ≡ point_of l f i → first_of t (row m y) ≡ next_of l f i →
          (acw_of s (row (joined m e o) x) ≡ y) × (cw_of t (row (joined m e o) y) ≡ x)
      linked' f i (inl c) s x t y b b' face face' first first' =
          let g = v.good f i (v.chained f i c).0 in
          let old = v.linked f i c s x t y b b' face face' first first' in
          (stays-acw f i g s x t y b b' face face' first first' old.0, stays-cw f i g s x t y b b' face face' first first' old.1)
      linked' f i (inr h) s x t y b b' face face' first first' =
          linked-new s x t y b b' (face ∙ h.0) (face' ∙ h.0) (first ∙ ap₂ (λ (f i : ℕ). point_of l f i) h.0 h.1) (first' ∙ ap₂ (λ (f i : ℕ). next_of l f i) h.0 h.1)

  pub sits-joined : (f i x : ℕ) → Sits l m ne f i x → Sits l (joined m e o) ne f i x
  unfolding joined
  sits-joined f i x t = sits-kept l D C m ne v (joined m e o) (λ x b. keeps x) (λ p. refl) (λ p. refl) f i x t

  pub right-joined : (x : ℕ) → (row (joined m e o) x).face_right ≡ (row m x).face_right
  right-joined x = (keeps x).right
