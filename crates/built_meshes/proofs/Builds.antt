-- What an accepted build leaves, from the lists alone. Assumes nothing.
--     earlier-or              of two places one is earlier, or they are one
--     edge_of                 the edge of a place, from its side
--     builds-finished         the tables when all is built
use mathlib.Core.Path.{◌≡◌, refl, sym, ◌∙◌, ap, subst}
use mathlib.Core.Logic.{◌⊎◌, inl, inr, ⊎_elim, ◌≢◌}
use Prim.Native.Nat.{ℕ, ◌<◌, ◌≤◌}
use native.Mathlib.Omega.{arith}
use native.Mathlib.Decide.{ℕ_discrete, dec_lt}
use Rattle.perimeters.proofs.Laws.{next-below, prev-below, next-prev}
use Rattle.perimeters.specs.Places.{next_place, prev_place}
use Rattle.tables.specs.declared.Sizes.{Sizes}
use Rattle.t_spline.specs.Edge.{none}
use Rattle.t_spline.specs.Ends.{face_from_side}
use Rattle.edge_ends.specs.declared.TnurccFaceSide.{TnurccFaceSide}
use Rattle.edge_ends.specs.declared.TnurccFaceSide.TheVariants.{Left, Right}
use Rattle.tables.specs.Mesh.{Mesh, valence, mark, origin, dest, left_face, right_face, interval}
use Rattle.built_meshes.specs.Lists.{Lists, points_of, faces_of, size}
use Rattle.built_meshes.specs.Perimeters.{BuildState, interval_place}
use Rattle.built_meshes.specs.Places.{point_of, next_of, beside_of, IsPlace, Runs, Between, Earlier}
use Rattle.built_meshes.specs.Whole.{finished}
use Rattle.built_meshes.specs.Beyond.{Within}
use Rattle.built_meshes.specs.Builds.{First, EdgeOf, Beside, Builds}
use Rattle.built_meshes.proofs.Connecting.{first_of, second_of, acw_of, cw_of}
use Rattle.built_meshes.proofs.Rows.{row}
use Rattle.built_meshes.specs.declared.Version.{Version}
use Rattle.built_meshes.proofs.Made.{Maker, Meets}
use Rattle.built_meshes.proofs.Invariant.{Sits, Invariant}
use Rattle.built_meshes.proofs.Perimeter.{Done, Chained, Faces}
use Rattle.built_meshes.proofs.Begin.{Counted, Roomy}
use Rattle.built_meshes.proofs.Finished.{valence-marked, position-finished, mark-finished, faces-finished}
use Rattle.built_meshes.proofs.Whole.{place_of, sides-differ}

pub earlier-or : {A : Type 0} (f i g j : ℕ) → (Earlier f i g j → A) → ((f ≡ g) × (i ≡ j) → A) → (Earlier g j f i → A) → A
earlier-or {A} f i g j before same after = go (dec_lt f g) (ℕ_discrete f g) (dec_lt i j) (ℕ_discrete i j)
  where
    go : Dec (f < g) → Dec (f ≡ g) → Dec (i < j) → Dec (i ≡ j) → A
    go (yes h) d k s = before (inl h)
    go (no h) (no d) k s = after (inl (omega arith))
    go (no h) (yes d) (yes k) s = before (inr (d, k))
    go (no h) (yes d) (no k) (yes s) = same (d, s)
    go (no h) (yes d) (no k) (no s) = after (inr (sym d, omega arith))

module _ (l : Lists) (m : Mesh) (ne : ℕ) (v : Invariant l (Done l (faces_of l) 0) (Chained l (faces_of l) 0) m ne)
    (right : (e : ℕ) → e < ne → (row m e).face_right ≢ none) where
  done-place : (f i : ℕ) → Done l (faces_of l) 0 f i → IsPlace l f i
  done-place f i (inl h) = h
  done-place f i (inr h) = absurd (omega (arith, h.1))

  edge_of : (f i e : ℕ) → IsPlace l f i → Sits l m ne f i e → EdgeOf l m ne f i e
  edge_of f i e is t = (t.below, side t.on-side t.face-is t.first-is t.second_is)
    where
      side : (s : TnurccFaceSide) → face_from_side (row m e) s ≡ f → first_of s (row m e) ≡ point_of l f i → second_of s (row m e) ≡ next_of l f i →
          ((left_face m e ≡ f) × Runs l f i (origin m e) (dest m e)) ⊎ ((right_face m e ≡ f) × Runs l f i (dest m e) (origin m e))
      side Left a b c = inl (a, record { is-place = is; begins = sym b; ends = sym c })
      side Right a b c = inr (a, record { is-place = is; begins = sym b; ends = sym c })

  -- the links of a side go to the edges of the places beside its place
  links :
      (s : TnurccFaceSide) (e i : ℕ) → e < ne → IsPlace l (face_from_side (row m e) s) i → point_of l (face_from_side (row m e) s) i ≡ first_of s (row m e) →
      Beside l m ne (face_from_side (row m e) s) i (acw_of s (row m e)) (cw_of s (row m e))
  links s e i b is begins =
      let f = face_from_side (row m e) s in
      let n = size l f in
      let on : IsPlace l f (next_place n i) = (is.0, next-below n i is.1) in
      let a = v.entered f (next_place n i) (inl on) in
      let acw : acw_of s (row m e) ≡ a.0 =
      (v.linked f i (inl is) s e a.1.on-side a.0 b a.1.below refl a.1.face-is (sym begins) a.1.first-is).0 in
      let h : (prev_place n i < n) × (next_place n (prev_place n i) ≡ i) = (prev-below n i is.1, next-prev n i is.1) in
      let back : IsPlace l f (prev_place n i) = (is.0, h.0) in
      let o = v.entered f (prev_place n i) (inl back) in
      let first : first_of s (row m e) ≡ next_of l f (prev_place n i) = sym begins ∙ ap (λ i. point_of l f i) (sym h.1) in
      let cw : cw_of s (row m e) ≡ o.0 =
      (v.linked f (prev_place n i) (inl back) o.1.on-side o.0 s e o.1.below b o.1.face-is refl o.1.first-is first).1 in (
        subst (λ x. EdgeOf l m ne f (next_place n i) x) (sym acw) (edge_of f (next_place n i) a.0 on a.1),
        subst (λ x. EdgeOf l m ne f (prev_place n i) x) (sym cw) (edge_of f (prev_place n i) o.0 back o.1),
      )

  abbrev place : ℕ → ℕ
  place = v.made.place

  maker : (e : ℕ) → e < ne → Maker l (Done l (faces_of l) 0) (row m e) (place e)
  maker = v.made.maker

  runs' : (e : ℕ) → e < ne → Runs l (left_face m e) (place e) (origin m e) (dest m e)
  runs' e b = record { is-place = done-place _ _ (maker e b).done; begins = (maker e b).begins; ends = (maker e b).ends }

  first' : (e : ℕ) → e < ne → First l (left_face m e) (place e)
  first' e b = record { is-place = done-place _ _ (maker e b).done; none-earlier = λ g j h z. (maker e b).none-earlier g j (inl (place' z)) h (meets z) }
    where
      place' : {g j : ℕ} → Between l g j (point_of l (left_face m e) (place e)) (next_of l (left_face m e) (place e)) → IsPlace l g j
      place' (inl r) = r.is-place
      place' (inr r) = r.is-place

      meets : {g j : ℕ} → Between l g j (point_of l (left_face m e) (place e)) (next_of l (left_face m e) (place e)) → Meets l g j (origin m e) (dest m e)
      meets (inl r) = inl (r.begins ∙ (maker e b).begins, r.ends ∙ (maker e b).ends)
      meets (inr r) = inr (r.begins ∙ (maker e b).ends, r.ends ∙ (maker e b).begins)

  all-first' : (f i : ℕ) → First l f i → (e : ℕ) × (e < ne) × (left_face m e ≡ f) × (place e ≡ i)
  all-first' f i h = let t = v.entered f i (inl h.is-place) in go t.0 t.1.on-side t.1.below t.1.face-is t.1.first-is t.1.second_is
    where
      go : (e : ℕ) (s : TnurccFaceSide) → e < ne → face_from_side (row m e) s ≡ f → first_of s (row m e) ≡ point_of l f i → second_of s (row m e) ≡ next_of l f i →
          (e : ℕ) × (e < ne) × (left_face m e ≡ f) × (place e ≡ i)
      go e Left b face first second =
          let is : IsPlace l f (place e) = subst (λ f. IsPlace l f (place e)) face (runs' e b).is-place in
          let begins : point_of l f (place e) ≡ origin m e = subst (λ f. point_of l f (place e) ≡ origin m e) face (runs' e b).begins in
          (e, b, face, (v.good f i (inl h.is-place)).sound.distinct (place e) i is.1 h.is-place.1 (begins ∙ first))
      go e Right b face first second =
          earlier-or (left_face m e) (place e) f i
          (λ z. absurd (h.none-earlier (left_face m e) (place e) z (inr (record {
            is-place = (runs' e b).is-place;
            begins = (runs' e b).begins ∙ second;
            ends = (runs' e b).ends ∙ first;
          }))))
          (λ z. absurd (sides-differ l m ne v right e b (z.0 ∙ sym face)))
          (λ z. absurd ((maker e b).none-earlier f i (inl h.is-place) z (inr (sym first, sym second))))

module _ (c : Sizes) (l : Lists) (m₀ : Mesh) (counted' : Counted c l) (roomy : Roomy l m₀) (s : BuildState) (all : Faces l (faces_of l) s)
    (within : Within l m₀ s.mesh) (right : (e : ℕ) → e < s.edges → (row s.mesh e).face_right ≢ none)
    (edged : (p : ℕ) → p < points_of l → valence s.mesh p ≢ 0) (sizes : (f : ℕ) → f < faces_of l → 3 ≤ size l f) where
  abbrev after : Mesh
  after = finished l s.mesh

  faces' : Faces l (faces_of l) (record { mesh = after; edges = s.edges })
  faces' = faces-finished l (faces_of l) s all

  v : Invariant l (Done l (faces_of l) 0) (Chained l (faces_of l) 0) after s.edges
  v = faces'.invariant

  right' : (e : ℕ) → e < s.edges → (row after e).face_right ≢ none
  unfolding finished
  right' = right

  valence-after : (p : ℕ) → valence after p ≡ valence s.mesh p
  unfolding finished
  valence-after p = valence-marked (points_of l) p s.mesh.points

  mark-after : (p : ℕ) → p < points_of l → ((valence after p ≡ 4) × (mark after p ≡ 0)) ⊎ ((valence after p ≢ 4) × (mark after p ≡ 1))
  mark-after p b = mark-finished l s.mesh p b (rw within.points.0 (omega (arith, roomy.points-enough)))

  -- the interval of an edge is that of its place, by the version w
  abbrev AtInterval : ℕ → Version → Type 0
  AtInterval e w = interval after e ≡ beside_of l (left_face after e) (interval_place w (size l (left_face after e)) (v.made.place e))

  pub builds-finished : Builds l after s.edges
  unfolding finished
  builds-finished =
      record {
        position = position-finished l s.mesh counted'.points-whole;
        valence-is = v.valence-is;
        start-touches = λ p b. v.start_is p b (let h = edged p b in rw (valence-after p) (omega arith));
        start-highest = v.made.highest;
        ordinary = λ p b h. ⊎_elim (λ z. z.1) (λ z. absurd (z.0 h)) (mark-after p b);
        extraordinary = λ p b h. ⊎_elim (λ z. absurd (h z.0)) (λ z. z.1) (mark-after p b);
        place = v.made.place;
        first = first' l after s.edges v right';
        all_first = all-first' l after s.edges v right';
        in_order = v.made.in_order;
        runs = runs' l after s.edges v right';
        interval-1 = λ h e b. subst (λ w. AtInterval e w) h (v.made.maker e b).interval-is;
        interval-2 = λ h e b. subst (λ w. AtInterval e w) h (v.made.maker e b).interval-is;
        left-links = λ e b.
            let r = runs' l after s.edges v right' e b in links l after s.edges v right' Left e (v.made.place e) b r.is-place r.begins;
        second = λ e b.
            let x = place_of l after s.edges v right' Right e b in
            let is : IsPlace l (right_face after e) x.place = (x.face-below, x.place-below) in
            (x.place, record { is-place = is; begins = x.begins; ends = x.ends }, links l after s.edges v right' Right e x.place b is x.begins);
        face-start = λ f b.
            edge_of l after s.edges v right' f 0 _ (b, omega (arith, sizes f b)) (faces'.starts f b);
        no-corners = faces'.corners;
      }
