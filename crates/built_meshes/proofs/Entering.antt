-- The invariant after a place was entered, or why it was refused. Assumes nothing.
--     found-is                what the search for an edge says
--     counted m k             the sides of the edges below k that have a face: two of an edge with a right face, else one
--     Why D p q g             the places that a refusal by the ground g has found
--     Came                    what comes of entering a place
--     came                    of every place
use mathlib.Core.Path.{◌≡◌, refl, sym, ◌∙◌, ap, ap₂, subst}
use mathlib.Core.Bool.{Bool, true, false, not, ◌||◌, false≢true}
use mathlib.Core.Logic.{◌⊎◌, inl, inr, ⊎_elim, ◌≢◌}
use Prim.Native.Nat.{ℕ, zero, suc, ◌+◌, ◌*◌, ◌<◌, ◌≤◌}
use native.Mathlib.Omega.{arith}
use native.Mathlib.Decide.{ℕ_discrete}
use lib.Dec.{eqb}
use lib.Ieee.{Float}
use lib.ListN.{length}
use borrow.Author.Tests.{eqb-true, eqb-false, eq-eqb, ne_eqb}
use Rattle.std.specs.Prelude.{Option, Some, None}
use Rattle.perimeters.specs.Places.{next_place}
use Rattle.perimeters.proofs.Laws.{next-below, next-differs}
use Rattle.t_spline.specs.Edge.{none}
use Rattle.t_spline.specs.Ends.{face_from_side}
use Rattle.t_spline.specs.declared.TnurccEdge.{TnurccEdge}
use Rattle.edge_ends.specs.declared.TnurccFaceSide.{TnurccFaceSide}
use Rattle.edge_ends.specs.declared.TnurccFaceSide.TheVariants.{Left, Right}
use Rattle.tables.specs.Mesh.{Mesh, valence, start, origin, dest, right_face}
use Rattle.tables.specs.Records.{edge_words}
use Rattle.closed_meshes.specs.Renumbering.{sum_to}
use Rattle.audited_meshes.specs.Folds.{one_if}
use Rattle.audited_meshes.specs.Walks.{touches, Touches}
use Rattle.audited_meshes.specs.Audit.{interval_fit}
use Rattle.audited_meshes.proofs.Folds.{below_suc, sum_to-cong}
use Rattle.audited_meshes.proofs.Tests.{Is, and_is, or_is, eqb_is}
use Rattle.built_meshes.specs.Lists.{Lists, points_of, size}
use Rattle.built_meshes.specs.Edges.{joins, or_last, edge_between, lone_edge, touched, new_edge, with_right_face, Entered, at, refused, entered_at, entered_if, entered}
use Rattle.built_meshes.specs.Places.{point_of, next_of, Earlier}
use Rattle.built_meshes.specs.Beyond.{Within}
use Rattle.built_meshes.specs.declared.Ground.{Ground}
use Rattle.built_meshes.specs.declared.Ground.TheVariants.{EdgeTripleFace, SameWay}
use Rattle.built_meshes.proofs.Connecting.{first_of, second_of, acw_of, cw_of}
use Rattle.built_meshes.proofs.Rows.{row, with_right, row-new_edge, row-new_edge-other, valence-new_edge-first}
use Rattle.built_meshes.proofs.Rows.{valence-new_edge-second, valence-new_edge-other, start-new_edge-first}
use Rattle.built_meshes.proofs.Rows.{start-new_edge-second, start-new_edge-other, row-filled, row-filled-other}
use Rattle.built_meshes.proofs.Beyond.{behind-trans, behind-set, behind-put_row, behind-touched}
use Rattle.built_meshes.proofs.Made.{Maker, Made, Meets, interval_of, Alike, made-on, made-new, earlier-not, earlier-differs}
use Rattle.built_meshes.proofs.Invariant.{Sits, Good, Invariant, Adds, OrThis, sits-added, sits-new, invariant-added}

-- ---- the search

abbrev pub Joins : Mesh → ℕ → ℕ → ℕ → Type 0
Joins m p q e = ((origin m e ≡ p) × (dest m e ≡ q)) ⊎ ((origin m e ≡ q) × (dest m e ≡ p))

pub joins-is : (m : Mesh) (p q e : ℕ) → Is (joins m p q e) (Joins m p q e)
joins-is m p q e =
    or_is (and_is (eqb_is (origin m e) p) (eqb_is (dest m e) q)) (and_is (eqb_is (origin m e) q) (eqb_is (dest m e) p))

-- an edge below k that joins the points, or none does
pub data Finds (m : Mesh) (k p q : ℕ) : Option ℕ → Type 0 where
  finds : {e : ℕ} → e < k → Joins m p q e → Finds m k p q (Some e)
  finds-none : ((e : ℕ) → e < k → ¬ Joins m p q e) → Finds m k p q None

pub found-is : (m : Mesh) (k p q : ℕ) → Finds m k p q (edge_between m k p q)
unfolding edge_between
found-is m zero p q = finds-none (λ e l. absurd (omega arith))
found-is m (suc k) p q = go (edge_between m k p q) (found-is m k p q) (joins m p q k) refl
  where
    go : (r : Option ℕ) → Finds m k p q r → (b : Bool) → joins m p q k ≡ b → Finds m (suc k) p q (or_last r b k)
    go r (finds {e = e} l j) b h = finds {e = e} (omega arith) j
    go r (finds-none none) true h = finds {e = k} (omega arith) ((joins-is m p q k).0 h)
    go r (finds-none none) false h =
        finds-none (λ e l j. below_suc e k l (λ lt. none e lt j) (λ same. false≢true (sym h ∙ (joins-is m p q k).1 (subst (λ e. Joins m p q e) same j))))

-- ---- how many sides have a face

abbrev sided : ℕ → ℕ
sided f = suc (one_if (not (eqb f none)))

unfoldable pub counted : Mesh → ℕ → ℕ
unfolding sum_to
counted m k = sum_to k (λ e. sided (row m e).face_right)

-- a sum in which one number is one more
sum_to-more : (n e : ℕ) (a b : ℕ → ℕ) → e < n → b e ≡ suc (a e) → ((x : ℕ) → x < n → x ≢ e → b x ≡ a x) → sum_to n b ≡ suc (sum_to n a)
unfolding sum_to
sum_to-more zero e a b l h other = absurd (omega arith)
sum_to-more (suc n) e a b l h other =
    below_suc e n l
    (λ lt. omega (arith, sum_to-more n e a b lt h (λ x k. other x (omega arith)), other n (omega arith) (λ z. omega arith)))
    (λ same.
    omega (arith, sum_to-cong n b a (λ x k. other x (omega arith) (λ z. omega arith)), subst (λ e. b e ≡ suc (a e)) same h))

sided-none : sided none ≡ 1
sided-none = refl

sided-face : (f : ℕ) → f ≢ none → sided f ≡ 2
sided-face f h = rw (ne_eqb f none h)

-- ---- what comes of it

module _ (l : Lists) (D : ℕ → ℕ → Type 0) (p q : ℕ) where
  pub data Why : Ground → Type 0 where
    -- places entered run both ways between the points
    both_ways :
        (f i g j : ℕ) → D f i → point_of l f i ≡ p → next_of l f i ≡ q → D g j → point_of l g j ≡ q → next_of l g j ≡ p → Why EdgeTripleFace
    -- a place entered runs this way, and none runs back
    this-way :
        (f i : ℕ) → D f i → point_of l f i ≡ p → next_of l f i ≡ q → ((g j : ℕ) → D g j → point_of l g j ≡ q → next_of l g j ≡ p → ⊥) →
        Why SameWay

module _ (l : Lists) (D C : ℕ → ℕ → Type 0) (m : Mesh) (ne : ℕ) (f₀ i₀ : ℕ) where
  -- the place is in, at an edge
  pub record Goes (m' : Mesh) (ne' e : ℕ) : Type 0 where
    pub invariant : Invariant l (OrThis D f₀ i₀) C m' ne'
    pub sits : Sits l m' ne' f₀ i₀ e
    pub sits-still : (f i x : ℕ) → f ≢ none → Sits l m ne f i x → Sits l m' ne' f i x
    pub counts : counted m' ne' ≡ suc (counted m ne)
    pub within : Within l m m'
    pub faces-still : m'.faces ≡ m.faces
    pub grows : ne ≤ ne'
    pub later : (x : ℕ) → ne' ≤ x → row m' x ≡ row m x

  pub data Came : Entered → Type 0 where
    goes : {m' : Mesh} {ne' e : ℕ} → Goes m' ne' e → Came (at m' ne' e)
    stops : {g : Ground} → Why l D (point_of l f₀ i₀) (next_of l f₀ i₀) g → Came (refused g)

  module _ (v : Invariant l D C m ne) (g₀ : Good l f₀ i₀) (value : Float) (fit : interval_fit value ≡ true)
      (points-room : points_of l * 3 ≤ length m.points) (edges_room : suc ne * 8 ≤ length m.edges) (intervals-room : ne < length m.intervals) (listed-room : ne < length l.listed)
      (past : (f i : ℕ) → D f i → Earlier f i f₀ i₀) (value-is : value ≡ interval_of l f₀ i₀) where
    abbrev p : ℕ
    p = point_of l f₀ i₀

    abbrev q : ℕ
    q = next_of l f₀ i₀

    p-in : p < points_of l
    p-in = g₀.sound.in-range i₀ g₀.is_below

    q-in : q < points_of l
    q-in = g₀.sound.in-range (next_place (size l f₀) i₀) (next-below (size l f₀) i₀ g₀.is_below)

    differ : p ≢ q
    differ h =
        next-differs (size l f₀) i₀ (omega (arith, g₀.sound.at-least-3)) g₀.is_below
        (sym (g₀.sound.distinct i₀ (next_place (size l f₀) i₀) g₀.is_below (next-below (size l f₀) i₀ g₀.is_below) h))

    -- what is before a place entered was entered before it
    before-old : (g j f i : ℕ) → OrThis D f₀ i₀ g j → D f i → Earlier g j f i → D g j
    before-old g j f i (inl d) d' h = d
    before-old g j f i (inr z) d' h = absurd (earlier-not g j f i h (rw (z.0, z.1) (past f i d')))

    -- ---- the edge is there: its other side

    module _ (e : ℕ) (b : e < ne) (free : (row m e).face_right ≡ none) (from : (row m e).origin ≡ q) (to : (row m e).dest ≡ p) where
      here : row (with_right_face m e f₀) e ≡ with_right (row m e) f₀
      here = row-filled m e f₀ (omega arith)

      -- all that a filled side leaves
      record LeftAlone (x : ℕ) : Type 0 where
        origin-same : (row (with_right_face m e f₀) x).origin ≡ (row m x).origin
        dest-same : (row (with_right_face m e f₀) x).dest ≡ (row m x).dest
        left-same : (row (with_right_face m e f₀) x).face_left ≡ (row m x).face_left
        interval-same : (row (with_right_face m e f₀) x).knot_interval ≡ (row m x).knot_interval
        links-same : (row (with_right_face m e f₀) x).connections ≡ (row m x).connections

      left_alone : (x : ℕ) → LeftAlone x
      left_alone x = go (ℕ_discrete x e)
        where
          go : Dec (x ≡ e) → LeftAlone x
          go (yes h) =
              subst LeftAlone (sym h)
              (record {
                origin-same = ap (λ (r : TnurccEdge). r.origin) here;
                dest-same = ap (λ (r : TnurccEdge). r.dest) here;
                left-same = ap (λ (r : TnurccEdge). r.face_left) here;
                interval-same = ap (λ (r : TnurccEdge). r.knot_interval) here;
                links-same = ap (λ (r : TnurccEdge). r.connections) here;
              })
          go (no h) =
              let same = row-filled-other m e f₀ x h in
              record {
                origin-same = ap (λ (r : TnurccEdge). r.origin) same;
                dest-same = ap (λ (r : TnurccEdge). r.dest) same;
                left-same = ap (λ (r : TnurccEdge). r.face_left) same;
                interval-same = ap (λ (r : TnurccEdge). r.knot_interval) same;
                links-same = ap (λ (r : TnurccEdge). r.connections) same;
              }

      first_alone : (s : TnurccFaceSide) (x : ℕ) → first_of s (row (with_right_face m e f₀) x) ≡ first_of s (row m x)
      first_alone Left x = (left_alone x).origin-same
      first_alone Right x = (left_alone x).dest-same

      second-alone : (s : TnurccFaceSide) (x : ℕ) → second_of s (row (with_right_face m e f₀) x) ≡ second_of s (row m x)
      second-alone Left x = (left_alone x).dest-same
      second-alone Right x = (left_alone x).origin-same

      links-alone : (s : TnurccFaceSide) (x : ℕ) → (acw_of s (row (with_right_face m e f₀) x) ≡ acw_of s (row m x)) × (cw_of s (row (with_right_face m e f₀) x) ≡ cw_of s (row m x))
      links-alone s x = (rw (left_alone x).links-same, rw (left_alone x).links-same)

      face-alone : (s : TnurccFaceSide) (x : ℕ) → ¬ ((s ≡ Right) × (x ≡ e)) → face_from_side (row (with_right_face m e f₀) x) s ≡ face_from_side (row m x) s
      face-alone Left x h = (left_alone x).left-same
      face-alone Right x h = ap (λ (r : TnurccEdge). r.face_right) (row-filled-other m e f₀ x (λ z. h (refl, z)))

      adds-filled : Adds l m ne (with_right_face m e f₀) ne f₀ i₀ Right e
      adds-filled =
          record {
            grows = omega arith;
            new-below = b;
            new-face = ap (λ (r : TnurccEdge). r.face_right) here;
            new-first = (left_alone e).dest-same ∙ to;
            new-second = (left_alone e).origin-same ∙ from;
            was_free = λ l. free;
            others = λ s x k h.
                record {
                  face-same = face-alone s x h;
                  first-same = first_alone s x;
                  second-same = second-alone s x;
                  acw-same = (links-alone s x).0;
                  cw-same = (links-alone s x).1;
                };
            cases = λ s x k h. which s x k;
          }
        where
          which : (s : TnurccFaceSide) (x : ℕ) → x < ne → ((s ≡ Right) × (x ≡ e)) ⊎ ((x < ne) × (¬ ((s ≡ Right) × (x ≡ e))))
          which s x k = go s (ℕ_discrete x e)
            where
              apart : Left ≡ Right → ⊥
              apart h = let z : ◌≡◌ {A = ℕ} 0 1 = cc in omega arith

              go : (s : TnurccFaceSide) → Dec (x ≡ e) → ((s ≡ Right) × (x ≡ e)) ⊎ ((x < ne) × (¬ ((s ≡ Right) × (x ≡ e))))
              go Left d = inr (k, λ z. apart z.0)
              go Right (yes h) = inl (refl, h)
              go Right (no h) = inr (k, λ z. h z.1)

      none-runs-filled : (s : TnurccFaceSide) (x : ℕ) → x < ne → first_of s (row m x) ≡ p → second_of s (row m x) ≡ q → face_from_side (row m x) s ≡ none
      none-runs-filled s x k first second =
          let same : (s ≡ Right) × (x ≡ e) = v.one_side s x Right e k b (first ∙ sym to) (second ∙ sym from) in
          ap₂ (λ s x. face_from_side (row m x) s) same.0 same.1 ∙ free

      made-filled : Made l (OrThis D f₀ i₀) (with_right_face m e f₀) ne
      unfolding with_right_face
      made-filled =
          made-on l D (OrThis D f₀ i₀) (λ f i d. inl d) before-old m (with_right_face m e f₀) ne v.made
          (λ x k.
          let same = left_alone x in
          record { origin = same.origin-same; dest = same.dest-same; left = same.left-same; interval = same.interval-same })
          (λ x. refl)

      goes-filled : Goes (with_right_face m e f₀) ne e
      unfolding with_right_face counted
      goes-filled =
          record {
            invariant =
                invariant-added l D C m ne v (with_right_face m e f₀) ne f₀ i₀ Right e adds-filled g₀ none-runs-filled
                (record {
                  left-face = λ x k z. v.left-face x k (sym (left_alone x).left-same ∙ z);
                  origin-in = λ x k. subst (λ y. y < points_of l) (sym (left_alone x).origin-same) (v.origin-in x k);
                  dest-in = λ x k. subst (λ y. y < points_of l) (sym (left_alone x).dest-same) (v.dest-in x k);
                  ends-differ = λ x k z. v.ends-differ x k (sym (left_alone x).origin-same ∙ z ∙ (left_alone x).dest-same);
                  one_side = λ s x t y k k' h h'.
                      v.one_side s x t y k k' (sym (first_alone s x) ∙ h ∙ first_alone t y) (sym (second-alone s x) ∙ h' ∙ second-alone t y);
                  valence-is = λ x k.
                      v.valence-is x k
                      ∙ sum_to-cong ne (λ y. one_if (touches m x y)) (λ y. one_if (touches (with_right_face m e f₀) x y))
                      (λ y j. ap₂ (λ (i k : ℕ). one_if (eqb i x || eqb k x)) (sym (left_alone y).origin-same) (sym (left_alone y).dest-same));
                  start_is = λ x k h. ((v.start_is x k h).0, touches-alone x (start m x) (v.start_is x k h).1);
                  interval-fit = λ x k. rw (left_alone x).interval-same (v.interval-fit x k);
                  made = made-filled;
                });
            sits = sits-new l D C m ne v (with_right_face m e f₀) ne f₀ i₀ Right e adds-filled g₀;
            sits-still = sits-added l D C m ne v (with_right_face m e f₀) ne f₀ i₀ Right e adds-filled g₀;
            counts =
                sum_to-more ne e (λ x. sided (row m x).face_right) (λ x. sided (row (with_right_face m e f₀) x).face_right) b
                (ap sided (ap (λ (r : TnurccEdge). r.face_right) here) ∙ sided-face f₀ g₀.a-face ∙ ap suc (sym (ap sided free ∙ sided-none)))
                (λ x k h. ap sided (ap (λ (r : TnurccEdge). r.face_right) (row-filled-other m e f₀ x h)));
            within =
                record {
                  positions = (refl, refl);
                  points = (refl, refl);
                  edges = behind-set (length l.listed * 8) m.edges (e * 8 + 3) f₀ (omega arith);
                  intervals = (refl, refl);
                  faces = (refl, refl);
                };
            faces-still = refl;
            grows = omega arith;
            later = λ x h. row-filled-other m e f₀ x (λ z. omega arith);
          }
        where
          touches-alone : (x y : ℕ) → Touches m x y → Touches (with_right_face m e f₀) x y
          touches-alone x y (inl h) = inl ((left_alone y).origin-same ∙ h)
          touches-alone x y (inr h) = inr ((left_alone y).dest-same ∙ h)

    -- ---- there is none yet: a new edge

    module _ (nowhere : (x : ℕ) → x < ne → ¬ Joins m p q x) where
      abbrev new : Mesh
      new = new_edge m ne f₀ p q value

      here-new : row new ne ≡ lone_edge ne f₀ p q value
      here-new = row-new_edge m ne f₀ p q value (omega arith) intervals-room

      there : (x : ℕ) → x < ne → row new x ≡ row m x
      there x k = row-new_edge-other m ne f₀ p q value x (λ z. omega arith)

      p-fits : p * 3 + 3 ≤ length m.points
      p-fits = omega (arith, p-in)

      q-fits : q * 3 + 3 ≤ length m.points
      q-fits = omega (arith, q-in)

      joined_by : (s : TnurccFaceSide) (x : ℕ) → first_of s (row m x) ≡ p → second_of s (row m x) ≡ q → Joins m p q x
      joined_by Left x h k = inl (h, k)
      joined_by Right x h k = inr (k, h)

      adds-new : Adds l m ne new (suc ne) f₀ i₀ Left ne
      adds-new =
          record {
            grows = omega arith;
            new-below = omega arith;
            new-face = ap (λ (r : TnurccEdge). r.face_left) here-new;
            new-first = ap (λ (r : TnurccEdge). r.origin) here-new;
            new-second = ap (λ (r : TnurccEdge). r.dest) here-new;
            was_free = λ k. absurd (omega arith);
            others = λ s x k h.
                let same = there x k in
                record {
                  face-same = ap (λ (r : TnurccEdge). face_from_side r s) same;
                  first-same = ap (first_of s) same;
                  second-same = ap (second_of s) same;
                  acw-same = ap (acw_of s) same;
                  cw-same = ap (cw_of s) same;
                };
            cases = λ s x k h. below_suc x ne k (λ lt. inr (lt, λ z. never x lt z.1)) (λ same. inl (left s x same h, same));
          }
        where
          never : (x : ℕ) → x < ne → x ≡ ne → ⊥
          never x k h = omega arith

          left : (s : TnurccFaceSide) (x : ℕ) → x ≡ ne → face_from_side (row new x) s ≢ none → s ≡ Left
          left Left x same h = refl
          left Right x same h = absurd (h (ap (λ x. (row new x).face_right) same ∙ ap (λ (r : TnurccEdge). r.face_right) here-new))

      none-runs-new : (s : TnurccFaceSide) (x : ℕ) → x < ne → first_of s (row m x) ≡ p → second_of s (row m x) ≡ q → face_from_side (row m x) s ≡ none
      none-runs-new s x k first second = absurd (nowhere x k (joined_by s x first second))

      -- a fact of every edge is one of the old edges and of the new one
      each : (A : TnurccEdge → Type 0) → ((x : ℕ) → x < ne → A (row m x)) → A (lone_edge ne f₀ p q value) → (x : ℕ) → x < suc ne → A (row new x)
      each A old this x k =
          below_suc x ne k (λ lt. subst A (sym (there x lt)) (old x lt)) (λ same. subst (λ x. A (row new x)) (sym same) (subst A (sym here-new) this))

      One-side : TnurccFaceSide → ℕ → TnurccFaceSide → ℕ → Type 0
      One-side s x t y = first_of s (row new x) ≡ first_of t (row new y) → second_of s (row new x) ≡ second_of t (row new y) → (s ≡ t) × (x ≡ y)

      -- the new edge from both sides
      new-new : (s t : TnurccFaceSide) → One-side s ne t ne
      unfolding One-side
      new-new Left Left h k = (refl, refl)
      new-new Left Right h k = absurd (differ (sym (ap (first_of Left) here-new) ∙ h ∙ ap (first_of Right) here-new))
      new-new Right Left h k = absurd (differ (sym (ap (first_of Left) here-new) ∙ sym h ∙ ap (first_of Right) here-new))
      new-new Right Right h k = (refl, refl)

      -- the new edge and an old one: the old one would join the points
      new-old : (s : TnurccFaceSide) (y : ℕ) (t : TnurccFaceSide) → y < ne → first_of s (row new ne) ≡ first_of t (row new y) → second_of s (row new ne) ≡ second_of t (row new y) → ⊥
      new-old s y t k h h' =
          nowhere y k (go s t (sym (ap (first_of s) here-new) ∙ h ∙ ap (first_of t) (there y k)) (sym (ap (second_of s) here-new) ∙ h' ∙ ap (second_of t) (there y k)))
        where
          go : (s t : TnurccFaceSide) → first_of s (lone_edge ne f₀ p q value) ≡ first_of t (row m y) → second_of s (lone_edge ne f₀ p q value) ≡ second_of t (row m y) → Joins m p q y
          go Left Left h k = inl (sym h, sym k)
          go Left Right h k = inr (sym k, sym h)
          go Right Left h k = inr (sym h, sym k)
          go Right Right h k = inl (sym k, sym h)

      one-side-new : (s : TnurccFaceSide) (x : ℕ) (t : TnurccFaceSide) (y : ℕ) → x < suc ne → y < suc ne → One-side s x t y
      unfolding One-side
      one-side-new s x t y k k' h h' =
          below_suc x ne k
          (λ lt. below_suc y ne k'
          (λ lt'.
          v.one_side s x t y lt lt' (sym (ap (first_of s) (there x lt)) ∙ h ∙ ap (first_of t) (there y lt'))
          (sym (ap (second_of s) (there x lt)) ∙ h' ∙ ap (second_of t) (there y lt')))
          (λ same'. absurd (new-old t x s lt (sym (h ∙ ap (λ y. first_of t (row new y)) same')) (sym (h' ∙ ap (λ y. second_of t (row new y)) same')))))
          (λ same. below_suc y ne k'
          (λ lt'. absurd (new-old s y t lt' (sym (ap (λ x. first_of s (row new x)) same) ∙ h) (sym (ap (λ x. second_of s (row new x)) same) ∙ h')))
          (λ same'.
          let both = new-new s t (sym (ap (λ x. first_of s (row new x)) same) ∙ h ∙ ap (λ y. first_of t (row new y)) same')
          (sym (ap (λ x. second_of s (row new x)) same) ∙ h' ∙ ap (λ y. second_of t (row new y)) same') in
          (both.0, same ∙ sym same')))

      -- the valences
      old-touches : (x : ℕ) → sum_to ne (λ y. one_if (touches new x y)) ≡ sum_to ne (λ y. one_if (touches m x y))
      old-touches x =
          sum_to-cong ne (λ y. one_if (touches new x y)) (λ y. one_if (touches m x y))
          (λ y k. ap (λ (r : TnurccEdge). one_if (eqb r.origin x || eqb r.dest x)) (there y k))

      new-touches : (x : ℕ) → one_if (touches new x ne) ≡ one_if (eqb p x || eqb q x)
      new-touches x = ap (λ (r : TnurccEdge). one_if (eqb r.origin x || eqb r.dest x)) here-new

      or-true : (a : Bool) → a || true ≡ true
      or-true true = refl
      or-true false = refl

      valence-new : (x : ℕ) → x < points_of l → valence new x ≡ sum_to (suc ne) (λ y. one_if (touches new x y))
      unfolding sum_to
      valence-new x k = go (ℕ_discrete x p) (ℕ_discrete x q)
        where
          old : valence m x ≡ sum_to ne (λ y. one_if (touches m x y))
          old = v.valence-is x k

          go : Dec (x ≡ p) → Dec (x ≡ q) → valence new x ≡ sum_to ne (λ y. one_if (touches new x y)) + one_if (touches new x ne)
          go (yes h) d =
              let up : valence new x ≡ suc (valence m x) = subst (λ x. valence new x ≡ suc (valence m x)) (sym h) (valence-new_edge-first m ne f₀ p q value differ p-fits q-fits) in
              let touch : one_if (eqb p x || eqb q x) ≡ 1 = rw (eq-eqb p x (sym h)) refl in
              omega (arith, up, touch, old-touches x, new-touches x, old)
          go (no h) (yes j) =
              let up : valence new x ≡ suc (valence m x) = subst (λ x. valence new x ≡ suc (valence m x)) (sym j) (valence-new_edge-second m ne f₀ p q value differ p-fits q-fits) in
              let touch : one_if (eqb p x || eqb q x) ≡ 1 = rw (eq-eqb q x (sym j), or-true) refl in
              omega (arith, up, touch, old-touches x, new-touches x, old)
          go (no h) (no j) =
              let up : valence new x ≡ valence m x = valence-new_edge-other m ne f₀ p q value differ p-fits q-fits x h j in
              let touch : one_if (eqb p x || eqb q x) ≡ 0 = rw (ne_eqb p x (λ z. h (sym z)), ne_eqb q x (λ z. j (sym z))) refl in
              omega (arith, up, touch, old-touches x, new-touches x, old)

      start-new : (x : ℕ) → x < points_of l → 0 < valence new x → (start new x < suc ne) × Touches new x (start new x)
      start-new x k h = go (ℕ_discrete x p) (ℕ_discrete x q)
        where
          At-new : ℕ → Type 0
          At-new e = (e < suc ne) × Touches new x e

          old : valence new x ≡ valence m x → At-new (start m x)
          old same =
              let s = v.start_is x k (subst (λ n. 0 < n) same h) in (
                omega (arith, s.0),
                ⊎_elim (λ z. inl (ap (λ (r : TnurccEdge). r.origin) (there (start m x) s.0) ∙ z))
                    (λ z. inr (ap (λ (r : TnurccEdge). r.dest) (there (start m x) s.0) ∙ z)) s.1,
              )

          go : Dec (x ≡ p) → Dec (x ≡ q) → At-new (start new x)
          go (yes i) d =
              let s : start new x ≡ ne = ap (λ x. start new x) i ∙ start-new_edge-first m ne f₀ p q value differ p-fits q-fits in
              subst At-new (sym s) (omega arith, inl (ap (λ (r : TnurccEdge). r.origin) here-new ∙ sym i))
          go (no i) (yes j) =
              let s : start new x ≡ ne = ap (λ x. start new x) j ∙ start-new_edge-second m ne f₀ p q value differ p-fits q-fits in
              subst At-new (sym s) (omega arith, inr (ap (λ (r : TnurccEdge). r.dest) here-new ∙ sym j))
          go (no i) (no j) =
              subst At-new (sym (start-new_edge-other m ne f₀ p q value differ p-fits q-fits x i j))
              (old (valence-new_edge-other m ne f₀ p q value differ p-fits q-fits x i j))

      -- no place entered joins the points
      apart : (g j : ℕ) → D g j → ¬ Meets l g j p q
      apart g j d (inl h) =
          let t = v.entered g j d in
          nowhere t.0 t.1.below (joined_by t.1.on-side t.0 (t.1.first-is ∙ h.0) (t.1.second_is ∙ h.1))
      apart g j d (inr h) =
          let t = v.entered g j d in
          nowhere t.0 t.1.below (joined_back t.1.on-side t.0 (t.1.first-is ∙ h.0) (t.1.second_is ∙ h.1))
        where
          joined_back : (s : TnurccFaceSide) (x : ℕ) → first_of s (row m x) ≡ q → second_of s (row m x) ≡ p → Joins m p q x
          joined_back Left x h k = inr (h, k)
          joined_back Right x h k = inl (k, h)

      maker-new : Maker l (OrThis D f₀ i₀) (row new ne) i₀
      maker-new =
          subst (λ r. Maker l (OrThis D f₀ i₀) r i₀) (sym here-new)
          (record {
            done = inr (refl, refl);
            begins = refl;
            ends = refl;
            interval-is = value-is;
            none-earlier = none;
          })
        where
          none : (g j : ℕ) → OrThis D f₀ i₀ g j → Earlier g j f₀ i₀ → ¬ Meets l g j p q
          none g j (inl d) h = apart g j d
          none g j (inr z) h = absurd (earlier-differs g j f₀ i₀ h z)

      highest-new : (x y : ℕ) → x < points_of l → y < suc ne → Touches new x y → y ≤ start new x
      highest-new x y xb yb t = go (ℕ_discrete x p) (ℕ_discrete x q)
        where
          old : x ≢ p → x ≢ q → Touches new x y → y < ne
          old i j t =
              below_suc y ne yb (λ lt. lt)
              (λ same. absurd (untouched (subst (λ y. Touches new x y) same t)))
            where
              untouched : Touches new x ne → ⊥
              untouched (inl h) = i (sym h ∙ ap (λ (r : TnurccEdge). r.origin) here-new)
              untouched (inr h) = j (sym h ∙ ap (λ (r : TnurccEdge). r.dest) here-new)

          go : Dec (x ≡ p) → Dec (x ≡ q) → y ≤ start new x
          go (yes i) d =
              let s : start new x ≡ ne = ap (λ x. start new x) i ∙ start-new_edge-first m ne f₀ p q value differ p-fits q-fits in
              omega arith
          go (no i) (yes j) =
              let s : start new x ≡ ne = ap (λ x. start new x) j ∙ start-new_edge-second m ne f₀ p q value differ p-fits q-fits in
              omega arith
          go (no i) (no j) =
              let s : start new x ≡ start m x = start-new_edge-other m ne f₀ p q value differ p-fits q-fits x i j in
              let b = old i j t in
              rw s (v.made.highest x y xb b (touched-before b t))
            where
              touched-before : y < ne → Touches new x y → Touches m x y
              touched-before b (inl h) = inl (sym (ap (λ (r : TnurccEdge). r.origin) (there y b)) ∙ h)
              touched-before b (inr h) = inr (sym (ap (λ (r : TnurccEdge). r.dest) (there y b)) ∙ h)

      alike-old : (x : ℕ) → x < ne → Alike (row m x) (row new x)
      alike-old x k =
          let same = there x k in
          record {
            origin = ap (λ (r : TnurccEdge). r.origin) same;
            dest = ap (λ (r : TnurccEdge). r.dest) same;
            left = ap (λ (r : TnurccEdge). r.face_left) same;
            interval = ap (λ (r : TnurccEdge). r.knot_interval) same;
          }

      made-one-more : Made l (OrThis D f₀ i₀) new (suc ne)
      made-one-more =
          made-new l D (OrThis D f₀ i₀) (λ f i d. inl d) before-old m new ne v.made alike-old i₀ maker-new
          (λ f j d. subst (λ z. Earlier f j z i₀) (sym (ap (λ (r : TnurccEdge). r.face_left) here-new)) (past f j d)) highest-new

      goes-new : Goes new (suc ne) ne
      unfolding new_edge counted sum_to One-side
      goes-new =
          record {
            invariant =
                invariant-added l D C m ne v new (suc ne) f₀ i₀ Left ne adds-new g₀ none-runs-new
                (record {
                  left-face = each (λ r. r.face_left ≢ none) v.left-face g₀.a-face;
                  origin-in = each (λ r. r.origin < points_of l) v.origin-in p-in;
                  dest-in = each (λ r. r.dest < points_of l) v.dest-in q-in;
                  ends-differ = each (λ r. r.origin ≢ r.dest) v.ends-differ differ;
                  one_side = one-side-new;
                  valence-is = valence-new;
                  start_is = start-new;
                  interval-fit = each (λ r. interval_fit r.knot_interval ≡ true) v.interval-fit fit;
                  made = made-one-more;
                });
            sits = sits-new l D C m ne v new (suc ne) f₀ i₀ Left ne adds-new g₀;
            sits-still = sits-added l D C m ne v new (suc ne) f₀ i₀ Left ne adds-new g₀;
            counts =
                omega (
                  arith,
                  sum_to-cong ne (λ x. sided (row new x).face_right) (λ x. sided (row m x).face_right) (λ x k. ap (λ (r : TnurccEdge). sided r.face_right) (there x k)),
                  ap (λ (r : TnurccEdge). sided r.face_right) here-new,
                  sided-none,
                );
            within =
                record {
                  positions = (refl, refl);
                  points =
                      behind-trans (points_of l * 3) m.points (touched m.points p ne) (touched (touched m.points p ne) q ne)
                      (behind-touched (points_of l) m.points p ne p-in) (behind-touched (points_of l) (touched m.points p ne) q ne q-in);
                  edges = behind-put_row (length l.listed * 8) (edge_words (lone_edge ne f₀ p q value)) m.edges (ne * 8) (omega arith);
                  intervals = behind-set (length l.listed) m.intervals ne value listed-room;
                  faces = (refl, refl);
                };
            faces-still = refl;
            grows = omega arith;
            later = λ x h. row-new_edge-other m ne f₀ p q value x (λ z. omega arith);
          }

    -- ---- the search decides

    -- the places of an edge whose sides both have a face, seen from the side that runs from p to q
    both-sides :
        (s t : TnurccFaceSide) (e : ℕ) → e < ne → first_of s (row m e) ≡ p → second_of s (row m e) ≡ q → first_of t (row m e) ≡ q → second_of t (row m e) ≡ p →
        face_from_side (row m e) s ≢ none → face_from_side (row m e) t ≢ none → Why l D p q EdgeTripleFace
    both-sides s t e b first second first' second' a a' =
        let x = v.placed s e b a in
        let y = v.placed t e b a' in
        both_ways _ x.0 _ y.0 x.1 (x.2 ∙ first) (x.3 ∙ second) y.1 (y.2 ∙ first') (y.3 ∙ second')

    triple : (e : ℕ) → e < ne → Joins m p q e → (row m e).face_right ≢ none → Why l D p q EdgeTripleFace
    triple e b (inl h) a = both-sides Left Right e b h.0 h.1 h.1 h.0 (v.left-face e b) a
    triple e b (inr h) a = both-sides Right Left e b h.1 h.0 h.0 h.1 a (v.left-face e b)

    same_way : (e : ℕ) → e < ne → Joins m p q e → (row m e).face_right ≡ none → (row m e).origin ≡ p → Why l D p q SameWay
    same_way e b (inl h) free o =
        let x = v.placed Left e b (v.left-face e b) in
        this-way _ x.0 x.1 (x.2 ∙ h.0) (x.3 ∙ h.1)
        (λ g j d begins ends.
        let t = v.entered g j d in
        let same = v.one_side t.1.on-side t.0 Right e t.1.below b (t.1.first-is ∙ begins ∙ sym h.1) (t.1.second_is ∙ ends ∙ sym h.0) in
        (v.good g j d).a-face (sym t.1.face-is ∙ ap₂ (λ s x. face_from_side (row m x) s) same.0 same.1 ∙ free))
    same_way e b (inr h) free o = absurd (differ (sym o ∙ h.0))

    turns-back : (e : ℕ) → Joins m p q e → (row m e).origin ≢ p → ((row m e).origin ≡ q) × ((row m e).dest ≡ p)
    turns-back e (inl h) n = absurd (n h.0)
    turns-back e (inr h) n = h

    pub came : Came (entered m ne f₀ p q value)
    unfolding entered entered_if entered_at
    came = go (edge_between m ne p q) (found-is m ne p q)
      where
        at_edge : (e : ℕ) → e < ne → Joins m p q e → (a b : Bool) → eqb (right_face m e) none ≡ a → eqb (origin m e) p ≡ b → Came (entered_at m ne f₀ e a b)
        at_edge e k j false b h h' = stops (triple e k j (eqb-false (right_face m e) none h))
        at_edge e k j true true h h' = stops (same_way e k j (eqb-true (right_face m e) none h) (eqb-true (origin m e) p h'))
        at_edge e k j true false h h' =
            let turn = turns-back e j (eqb-false (origin m e) p h') in
            goes (goes-filled e k (eqb-true (right_face m e) none h) turn.0 turn.1)

        go : (r : Option ℕ) → Finds m ne p q r → Came (entered_if m ne f₀ p q value r)
        go r (finds {e = e} k j) = at_edge e k j (eqb (right_face m e) none) (eqb (origin m e) p) refl refl
        go r (finds-none h) = goes (goes-new h)
