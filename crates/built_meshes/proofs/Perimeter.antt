-- The invariant place by place round a face, and after the whole face; or the place at which it was refused. Assumes nothing.
--     Ready l m               the tables have the rows that ground 4 counts, and the lists' numbers are fit
--     Done l k i f j          place j of face f was entered before place i of face k
--     Chained l k i f j       it was connected to the place after by then
--     Faces l k s             the state s, with all places of the faces below k in
--     Around l s k i r        the ring r, with i places of face k in, which began at the state s
--     perimeter-came          what comes of a face
use mathlib.Core.Path.{◌≡◌, refl, sym, ◌∙◌, ap, subst}
use mathlib.Core.Bool.{true, not}
use lib.Dec.{eqb}
use mathlib.Core.Logic.{◌⊎◌, inl, inr, ◌≢◌}
use Prim.Native.Nat.{ℕ, zero, suc, ◌+◌, ◌*◌, ◌<◌, ◌≤◌}
use native.Mathlib.Omega.{arith}
use lib.Ieee.{nan}
use lib.ListN.{length, get_or}
use Rattle.perimeters.specs.Places.{next_place}
use Rattle.perimeters.proofs.Laws.{next_more, next_last, next-below}
use Rattle.t_spline.specs.Edge.{none}
use Rattle.tables.specs.Mesh.{Mesh, face_start, corner}
use Rattle.tables.specs.Records.{face_words}
use Rattle.closed_meshes.specs.Renumbering.{sum_to}
use Rattle.audited_meshes.specs.Audit.{interval_fit}
use Rattle.audited_meshes.specs.Folds.{one_if}
use Rattle.audited_meshes.proofs.Folds.{below_suc, sum_to-cong}
use Rattle.built_meshes.specs.Lists.{Lists, points_of, faces_of, size, offset}
use Rattle.built_meshes.specs.Edges.{Entered, entered, joined}
use Rattle.built_meshes.specs.Perimeters.{BuildState, FaceState, Progress, on, stopped, turned, interval_place, turn, places, face_of, with_face, closed_up, perimeter}
use Rattle.built_meshes.specs.Places.{point_of, next_of, Earlier}
use Rattle.built_meshes.specs.Beyond.{Within}
use Rattle.built_meshes.specs.declared.Version.{Version}
use Rattle.built_meshes.specs.declared.Version.TheVariants.{One, Two}
use Rattle.built_meshes.specs.declared.Ground.{Ground}
use Rattle.built_meshes.proofs.Made.{interval_of}
use Rattle.built_meshes.proofs.Connecting.{Keeps}
use Rattle.built_meshes.proofs.Rows.{row, row-joined-rest, face_start-with_face, face_start-with_face-other, corner-with_face, corner-with_face-other}
use Rattle.built_meshes.proofs.Beyond.{behind-put_row, behind-connected, within-refl, within-trans}
use Rattle.built_meshes.proofs.Invariant.{FaceSound, Sits, OneWay, Good, Invariant, OrThis, sits-kept, invariant-kept, invariant-as}
use Rattle.built_meshes.proofs.Joining.{keeps-refl, invariant-joined, sits-joined, right-joined}
use Rattle.built_meshes.proofs.Entering.{Why, Goes, Came, goes, stops, came, counted}

pub record Ready (l : Lists) (m : Mesh) : Type 0 where
  pub points-room : points_of l * 3 ≤ length m.points
  pub edges_room : length l.listed * 8 ≤ length m.edges
  pub intervals-room : length l.listed ≤ length m.intervals
  pub faces-room : faces_of l * 5 ≤ length m.faces
  pub intervals-fit : (k : ℕ) → k < length l.listed → interval_fit (get_or l.intervals k nan) ≡ true
  pub all_listed : offset l (faces_of l) ≡ length l.listed
  pub faces-few : faces_of l ≤ none

pub ready-same : (l : Lists) {m m' : Mesh} → Within l m m' → Ready l m → Ready l m'
ready-same l h r =
    record {
      points-room = rw h.points.0 r.points-room;
      edges_room = rw h.edges.0 r.edges_room;
      intervals-room = rw h.intervals.0 r.intervals-room;
      faces-room = rw h.faces.0 r.faces-room;
      intervals-fit = r.intervals-fit;
      all_listed = r.all_listed;
      faces-few = r.faces-few;
    }

-- ---- counting places

pub offset-suc : (l : Lists) (f : ℕ) → offset l (suc f) ≡ offset l f + size l f
unfolding offset sum_to
offset-suc l f = refl

pub offset_up : (l : Lists) (f n : ℕ) → f ≤ n → offset l f ≤ offset l n
offset_up l f zero h = let same : f ≡ 0 = omega arith in rw same (omega arith)
offset_up l f (suc n) h =
    below_suc f (suc n) (omega arith) (λ lt. omega (arith, offset_up l f n (omega arith), offset-suc l n)) (λ same. rw same (omega arith))

-- places come before all listed points are used up
-- the interval of a place is written beside a place
interval-below : (v : Version) (n i : ℕ) → i < n → interval_place v n i < n
interval-below One n i h = h
interval-below Two n i h = let b = next-below n i h in omega arith

place-listed : (l : Lists) (f i : ℕ) → f < faces_of l → i < size l f → offset l f + i < offset l (faces_of l)
place-listed l f i h k = omega (arith, offset_up l (suc f) (faces_of l) h, offset-suc l f)

-- each edge counts
pub counted-above : (m : Mesh) (k : ℕ) → k ≤ counted m k
unfolding counted sum_to
counted-above m zero = omega arith
counted-above m (suc k) = omega (arith, counted-above m k)

counted_same : (m m' : Mesh) (k : ℕ) → ((x : ℕ) → (row m' x).face_right ≡ (row m x).face_right) → counted m' k ≡ counted m k
unfolding counted
counted_same m m' k h = sum_to-cong k _ _ (λ x l. ap (λ f. suc (one_if (not (eqb f none)))) (h x))

-- ---- places done

abbrev pub Done : Lists → ℕ → ℕ → ℕ → ℕ → Type 0
Done l k i f j = ((f < k) × (j < size l f)) ⊎ ((f ≡ k) × (j < i))

abbrev pub Chained : Lists → ℕ → ℕ → ℕ → ℕ → Type 0
Chained l k i f j = ((f < k) × (j < size l f)) ⊎ ((f ≡ k) × (suc j < i))

done-suc : (l : Lists) (k i f j : ℕ) → OrThis (Done l k i) k i f j → Done l k (suc i) f j
done-suc l k i f j (inl (inl h)) = inl h
done-suc l k i f j (inl (inr h)) = inr (h.0, omega (arith, h.1))
done-suc l k i f j (inr h) = inr (h.0, omega (arith, h.1))

suc-done : (l : Lists) (k i f j : ℕ) → Done l k (suc i) f j → OrThis (Done l k i) k i f j
suc-done l k i f j (inl h) = inl (inl h)
suc-done l k i f j (inr h) = below_suc j i h.1 (λ lt. inl (inr (h.0, lt))) (λ same. inr (h.0, same))

-- the places of whole faces
whole-done : (l : Lists) (k f j : ℕ) → Done l k (size l k) f j → Done l (suc k) 0 f j
whole-done l k f j (inl h) = inl (omega (arith, h.0), h.1)
whole-done l k f j (inr h) = inl (omega (arith, h.0), subst (λ f. j < size l f) (sym h.0) h.1)

done-whole : (l : Lists) (k f j : ℕ) → Done l (suc k) 0 f j → Done l k (size l k) f j
done-whole l k f j (inl h) = below_suc f k h.0 (λ lt. inl (lt, h.1)) (λ same. inr (same, subst (λ f. j < size l f) same h.1))
done-whole l k f j (inr h) = absurd (omega (arith, h.1))

-- the state s, with all places of the faces below k in
pub record Faces (l : Lists) (k : ℕ) (s : BuildState) : Type 0 where
  pub invariant : Invariant l (Done l k 0) (Chained l k 0) s.mesh s.edges
  pub counts : counted s.mesh s.edges ≡ offset l k
  pub starts : (f : ℕ) → f < k → Sits l s.mesh s.edges f 0 (face_start s.mesh f)
  pub corners : (f c : ℕ) → f < k → c < 4 → corner s.mesh f c ≡ none

module _ (l : Lists) (s : BuildState) (k : ℕ) (kf : k < faces_of l) (sound : FaceSound l k) (ready : Ready l s.mesh) where
  pub a-face : k ≢ none
  a-face h = omega (arith, ready.faces-few)

  pub record Around (i : ℕ) (r : FaceState) : Type 0 where
    pub invariant : Invariant l (Done l k i) (Chained l k i) r.mesh r.edges
    pub counts : counted r.mesh r.edges ≡ offset l k + i
    pub within : Within l s.mesh r.mesh
    pub grows : s.edges ≤ r.edges
    pub later : (x : ℕ) → r.edges ≤ x → row r.mesh x ≡ row s.mesh x
    pub faces-still : r.mesh.faces ≡ s.mesh.faces
    pub first-sits : 0 < i → Sits l r.mesh r.edges k 0 r.first
    pub before-sits : (j : ℕ) → suc j ≡ i → Sits l r.mesh r.edges k j r.before
    pub sits-still : (f j x : ℕ) → f ≢ none → Sits l s.mesh s.edges f j x → Sits l r.mesh r.edges f j x

  -- the face goes on, or it stopped at a place
  pub data Round (i : ℕ) : Progress FaceState → Type 0 where
    round : {r : FaceState} → Around i r → Round i (on r)
    halts : {g : Ground} {m : Mesh} (j : ℕ) → j < size l k → Why l (Done l k j) (point_of l k j) (next_of l k j) g → OneWay l (Done l k j) → Within l s.mesh m → Round i (stopped g m)

  good : (i : ℕ) → i < size l k → Good l k i
  good i h = record { sound = sound; is_below = h; a-face = a-face }

  module _ (i : ℕ) (below : i < size l k) (r : FaceState) (a : Around i r) where
    room : r.edges < length l.listed
    room = omega (arith, counted-above r.mesh r.edges, a.counts, place-listed l k i kf below, ready.all_listed)

    ready' : Ready l r.mesh
    ready' = ready-same l a.within ready

    pub entering : Came l (Done l k i) (Chained l k i) r.mesh r.edges k i (entered r.mesh r.edges k (point_of l k i) (next_of l k i) (interval_of l k i))
    entering =
        came l (Done l k i) (Chained l k i) r.mesh r.edges k i a.invariant (good i below) (interval_of l k i)
        (ready.intervals-fit (offset l k + interval_place l.version (size l k) i)
        (omega (arith, place-listed l k (interval_place l.version (size l k) i) kf (interval-below l.version (size l k) i below), ready.all_listed)))
        ready'.points-room (omega (arith, room, ready'.edges_room)) (omega (arith, room, ready'.intervals-room)) room earlier refl
      where
        earlier : (f j : ℕ) → Done l k i f j → Earlier f j k i
        earlier f j (inl h) = inl h.0
        earlier f j (inr h) = inr h

    -- as many edges as places, at most
    few-edges : {m' : Mesh} {ne' e : ℕ} → Goes l (Done l k i) (Chained l k i) r.mesh r.edges k i m' ne' e → ne' ≤ length l.listed
    few-edges {m'} {ne'} {e} t = omega (arith, counted-above m' ne', t.counts, a.counts, place-listed l k i kf below, ready.all_listed)

    enough : {m' : Mesh} {ne' e : ℕ} → Goes l (Done l k i) (Chained l k i) r.mesh r.edges k i m' ne' e → ne' * 8 ≤ length m'.edges
    enough {m'} {ne'} {e} t =
        let few = few-edges t in
        rw t.within.edges.0 (omega (arith, ready'.edges_room))

    module _ {m' : Mesh} {ne' e : ℕ} (t : Goes l (Done l k i) (Chained l k i) r.mesh r.edges k i m' ne' e) where
      counts-entry : counted m' ne' ≡ offset l k + suc i
      counts-entry = omega (arith, t.counts, a.counts)

      still-entry : (f j x : ℕ) → f ≢ none → Sits l s.mesh s.edges f j x → Sits l m' ne' f j x
      still-entry f j x h z = t.sits-still f j x h (a.sits-still f j x h z)

      later-entry : (x : ℕ) → ne' ≤ x → row m' x ≡ row s.mesh x
      later-entry x h = t.later x h ∙ a.later x (omega (arith, t.grows))

      at_place : (j : ℕ) → j ≡ i → Sits l m' ne' k j e
      at_place j h = subst (λ j. Sits l m' ne' k j e) (sym h) t.sits

  turn-first : (r : FaceState) (a : Around 0 r) (below : 0 < size l k) {m' : Mesh} {ne' e : ℕ} → Goes l (Done l k 0) (Chained l k 0) r.mesh r.edges k 0 m' ne' e →
      Around 1 (record { mesh = m'; edges = ne'; first = e; before = e })
  turn-first r a below {m'} {ne'} {e} t =
      record {
        invariant =
            invariant-as l (OrThis (Done l k 0) k 0) (Chained l k 0) (Done l k 1) (Chained l k 1) m' ne' (done-suc l k 0) (suc-done l k 0) chain t.invariant;
        counts = counts-entry 0 below r a t;
        within = within-trans l a.within t.within;
        grows = omega (arith, a.grows, t.grows);
        later = later-entry 0 below r a t;
        faces-still = t.faces-still ∙ a.faces-still;
        first-sits = λ h. t.sits;
        before-sits = λ j h. at_place 0 below r a t j (omega arith);
        sits-still = still-entry 0 below r a t;
      }
    where
      chain : (f j : ℕ) → Chained l k 1 f j → Chained l k 0 f j
      chain f j (inl h) = inl h
      chain f j (inr h) = absurd (omega (arith, h.1))

  turn-next : (i : ℕ) (r : FaceState) (a : Around (suc i) r) (below : suc i < size l k) {m' : Mesh} {ne' e : ℕ} →
      Goes l (Done l k (suc i)) (Chained l k (suc i)) r.mesh r.edges k (suc i) m' ne' e →
      Around (suc (suc i)) (record { mesh = joined m' e r.before; edges = ne'; first = r.first; before = e })
  unfolding joined
  turn-next i r a below {m'} {ne'} {e} t =
      record {
        invariant =
            invariant-as l D (OrThis (Chained l k (suc i)) k i) (Done l k (suc (suc i))) (Chained l k (suc (suc i))) (joined m' e r.before) ne'
            (done-suc l k (suc i)) (suc-done l k (suc i)) chain
            (invariant-joined l D (Chained l k (suc i)) m' ne' t.invariant (enough (suc i) below r a t) k i e r.before g sits-o sits-e done done');
        counts =
            counted_same m' (joined m' e r.before) ne'
            (right-joined l D (Chained l k (suc i)) m' ne' t.invariant (enough (suc i) below r a t) k i e r.before g sits-o sits-e done done')
            ∙ counts-entry (suc i) below r a t;
        within =
            within-trans l (within-trans l a.within t.within)
            (record {
              positions = (refl, refl);
              points = (refl, refl);
              edges = behind-connected (length l.listed) m'.edges m'.intervals e r.before (omega (arith, sits-e.below, few)) (omega (arith, sits-o.below, few));
              intervals = (refl, refl);
              faces = (refl, refl);
            });
        grows = omega (arith, a.grows, t.grows);
        later = λ x h.
            row-joined-rest m' e r.before x (λ z. omega (arith, sits-e.below)) (λ z. omega (arith, sits-o.below)) ∙ later-entry (suc i) below r a t x h;
        faces-still = t.faces-still ∙ a.faces-still;
        first-sits = λ h. again k 0 r.first (t.sits-still k 0 r.first a-face (a.first-sits (omega arith)));
        before-sits = λ j h. again k j e (at_place (suc i) below r a t j (omega arith));
        sits-still = λ f j x h z. again f j x (still-entry (suc i) below r a t f j x h z);
      }
    where
      few : ne' ≤ length l.listed
      few = few-edges (suc i) below r a t

      D : ℕ → ℕ → Type 0
      D = OrThis (Done l k (suc i)) k (suc i)

      g : Good l k i
      g = good i (omega arith)

      sits-o : Sits l m' ne' k i r.before
      sits-o = t.sits-still k i r.before a-face (a.before-sits i refl)

      sits-e : Sits l m' ne' k (next_place (size l k) i) e
      sits-e = at_place (suc i) below r a t (next_place (size l k) i) (next_more (size l k) i below)

      done : OrThis (Done l k (suc i)) k (suc i) k i
      done = inl (inr (refl, omega arith))

      done' : OrThis (Done l k (suc i)) k (suc i) k (next_place (size l k) i)
      done' = inr (refl, next_more (size l k) i below)

      again : (f j x : ℕ) → Sits l m' ne' f j x → Sits l (joined m' e r.before) ne' f j x
      again = sits-joined l D (Chained l k (suc i)) m' ne' t.invariant (enough (suc i) below r a t) k i e r.before g sits-o sits-e done done'

      chain : (f j : ℕ) → Chained l k (suc (suc i)) f j → OrThis (Chained l k (suc i)) k i f j
      chain f j (inl h) = inl (inl h)
      chain f j (inr h) = below_suc j i (omega (arith, h.1)) (λ lt. inl (inr (h.0, omega arith))) (λ same. inr (h.0, same))

  pub turn-came : (i : ℕ) (r : FaceState) → Around i r → (below : i < size l k) → Round (suc i) (turn l k (offset l k) (size l k) i r)
  unfolding turn turned
  turn-came i r a below = go i a below (entered r.mesh r.edges k (point_of l k i) (next_of l k i) (interval_of l k i)) (entering i below r a)
    where
      go : (i : ℕ) → Around i r → i < size l k → (x : Entered) → Came l (Done l k i) (Chained l k i) r.mesh r.edges k i x → Round (suc i) (turned r i x)
      go zero a below x (goes t) = round (turn-first r a below t)
      go (suc i) a below x (goes t) = round (turn-next i r a below t)
      go i a below x (stops w) = halts i below w a.invariant.one_way a.within

  pub places-came : (c i : ℕ) (x : Progress FaceState) → i + c ≡ size l k → Round i x → Round (size l k) (places c l k (offset l k) (size l k) i x)
  unfolding places
  places-came zero i x h r = subst (λ n. Round n x) (let same : i ≡ size l k = omega arith in same) r
  places-came (suc c) i x h (round {r = r} a) =
      places-came c (suc i) (turn l k (offset l k) (size l k) i r) (omega arith) (turn-came i r a (omega arith))
  places-came (suc c) i x h (halts j b w u o) = halts j b w u o

  -- the face is in, or it stopped at a place
  pub data PerimeterCame : Progress BuildState → Type 0 where
    whole :
        {t : BuildState} → Faces l (suc k) t → Within l s.mesh t.mesh → s.edges ≤ t.edges →
        ((x : ℕ) → t.edges ≤ x → row t.mesh x ≡ row s.mesh x) → PerimeterCame (on t)
    halted :
        {g : Ground} {m : Mesh} (j : ℕ) → j < size l k → Why l (Done l k j) (point_of l k j) (next_of l k j) g → OneWay l (Done l k j) → Within l s.mesh m →
        PerimeterCame (stopped g m)

  module _ (all : Faces l k s) (r : FaceState) (a : Around (size l k) r) (j : ℕ) (last : suc j ≡ size l k) where
    ready-r : Ready l r.mesh
    ready-r = ready-same l a.within ready

    few-r : r.edges ≤ length l.listed
    few-r = omega (arith, counted-above r.mesh r.edges, a.counts, place-listed l k j kf (omega arith), ready.all_listed)

    room-r : r.edges * 8 ≤ length r.mesh.edges
    room-r = omega (arith, few-r, ready-r.edges_room)

    pub wraps : next_place (size l k) j ≡ 0
    wraps = next_last (size l k) j last

    sits-last : Sits l r.mesh r.edges k j r.before
    sits-last = a.before-sits j last

    sits-first : Sits l r.mesh r.edges k (next_place (size l k) j) r.first
    sits-first = subst (λ x. Sits l r.mesh r.edges k x r.first) (sym wraps) (a.first-sits (omega arith))

    last_done : Done l k (size l k) k j
    last_done = inr (refl, omega arith)

    first_done : Done l k (size l k) k (next_place (size l k) j)
    first_done = inr (refl, omega (arith, wraps))

    abbrev ring : Mesh
    ring = joined r.mesh r.first r.before

    abbrev closed : Mesh
    closed = with_face ring k r.first

    joined-up : Invariant l (Done l k (size l k)) (OrThis (Chained l k (size l k)) k j) ring r.edges
    joined-up =
        invariant-joined l (Done l k (size l k)) (Chained l k (size l k)) r.mesh r.edges a.invariant room-r k j r.first r.before
        (good j (omega arith)) sits-last sits-first last_done first_done

    same_rows : (x : ℕ) → Keeps (row ring x) (row closed x)
    same_rows x = keeps-refl (row ring x) (row closed x) refl

    chain : (f x : ℕ) → Chained l (suc k) 0 f x → OrThis (Chained l k (size l k)) k j f x
    chain f x (inl h) =
        below_suc f k h.0 (λ lt. inl (inl (lt, h.1))) (λ same.
        let b : x < size l k = subst (λ f. x < size l f) same h.1 in
        below_suc x j (omega arith) (λ lt. inl (inr (same, omega arith))) (λ z. inr (same, z)))
    chain f x (inr h) = absurd (omega (arith, h.1))

    invariant-closed : Invariant l (Done l (suc k) 0) (Chained l (suc k) 0) closed r.edges
    unfolding joined
    invariant-closed =
        invariant-as l (Done l k (size l k)) (OrThis (Chained l k (size l k)) k j) (Done l (suc k) 0) (Chained l (suc k) 0) closed r.edges
        (whole-done l k) (done-whole l k) chain
        (invariant-kept l (Done l k (size l k)) (OrThis (Chained l k (size l k)) k j) ring r.edges joined-up closed (λ x b. same_rows x) (λ p. refl) (λ p. refl)
        (OrThis (Chained l k (size l k)) k j) joined-up.chained joined-up.linked)

    closed-sits : (f i x : ℕ) → Sits l r.mesh r.edges f i x → Sits l closed r.edges f i x
    unfolding joined
    closed-sits f i x t =
        sits-kept l (Done l k (size l k)) (OrThis (Chained l k (size l k)) k j) ring r.edges joined-up closed (λ x b. same_rows x) (λ p. refl) (λ p. refl) f i x
        (sits-joined l (Done l k (size l k)) (Chained l k (size l k)) r.mesh r.edges a.invariant room-r k j r.first r.before
        (good j (omega arith)) sits-last sits-first last_done first_done f i x t)

    fits : k * 5 + 5 ≤ length ring.faces
    unfolding joined
    fits = omega (arith, ready-r.faces-room)

    faces-closed : Faces l (suc k) (record { mesh = closed; edges = r.edges })
    unfolding joined
    faces-closed =
        record {
          invariant = invariant-closed;
          counts =
              counted_same r.mesh closed r.edges
              (right-joined l (Done l k (size l k)) (Chained l k (size l k)) r.mesh r.edges a.invariant room-r k j r.first r.before
              (good j (omega arith)) sits-last sits-first last_done first_done)
              ∙ a.counts ∙ sym (offset-suc l k);
          starts = λ f h.
              below_suc f k h
              (λ lt.
              subst (λ x. Sits l closed r.edges f 0 x)
              (sym (face_start-with_face-other ring k r.first f (λ z. omega arith) ∙ ap (λ fs. get_or fs (f * 5) 0) a.faces-still))
              (closed-sits f 0 (face_start s.mesh f) (a.sits-still f 0 (face_start s.mesh f) (λ z. omega (arith, ready.faces-few)) (all.starts f lt))))
              (λ same.
              subst (λ f. Sits l closed r.edges f 0 (face_start closed f)) (sym same)
              (subst (λ x. Sits l closed r.edges k 0 x) (sym (face_start-with_face ring k r.first fits))
              (closed-sits k 0 r.first (a.first-sits (omega arith)))));
          corners = λ f c h b.
              below_suc f k h
              (λ lt. corner-with_face-other ring k r.first f c (λ z. omega arith) b ∙ ap (λ fs. get_or fs (f * 5 + (c + 1)) 0) a.faces-still ∙ all.corners f c lt b)
              (λ same. subst (λ f. corner closed f c ≡ none) (sym same) (corner-with_face ring k r.first c b fits));
        }

    within-closed : Within l s.mesh closed
    unfolding joined
    within-closed =
        within-trans l a.within
        (record {
          positions = (refl, refl);
          points = (refl, refl);
          edges =
              behind-connected (length l.listed) r.mesh.edges r.mesh.intervals r.first r.before
              (omega (arith, sits-first.below, few-r)) (omega (arith, sits-last.below, few-r));
          intervals = (refl, refl);
          faces = behind-put_row (faces_of l * 5) (face_words (face_of r.first)) r.mesh.faces (k * 5) (omega arith);
        })

    later-closed : (x : ℕ) → r.edges ≤ x → row closed x ≡ row s.mesh x
    later-closed x h =
        row-joined-rest r.mesh r.first r.before x (λ z. omega (arith, sits-first.below)) (λ z. omega (arith, sits-last.below)) ∙ a.later x h

  -- no place is in yet
  abbrev pub begin : FaceState
  begin = record { mesh = s.mesh; edges = s.edges; first = 0; before = 0 }

  pub around-begun : Faces l k s → Around 0 begin
  around-begun all =
      record {
        invariant = all.invariant;
        counts = omega (arith, all.counts);
        within = within-refl l s.mesh;
        grows = omega arith;
        later = λ x h. refl;
        faces-still = refl;
        first-sits = λ h. absurd (omega arith);
        before-sits = λ j h. absurd (omega arith);
        sits-still = λ f j x h t. t;
      }

  pub last-place : (j : ℕ) × (suc j ≡ size l k)
  last-place = go (size l k) sound.at-least-3
    where
      go : (n : ℕ) → 3 ≤ n → (j : ℕ) × (suc j ≡ n)
      go zero h = absurd (omega arith)
      go (suc j) h = (j, refl)

  pub perimeter-came : Faces l k s → PerimeterCame (perimeter l k (offset l k) s)
  unfolding perimeter closed_up
  perimeter-came all =
      go (places (size l k) l k (offset l k) (size l k) 0 (on begin)) (places-came (size l k) 0 (on begin) (omega arith) (round (around-begun all)))
    where
      last : (j : ℕ) × (suc j ≡ size l k)
      last = last-place

      go : (x : Progress FaceState) → Round (size l k) x → PerimeterCame (closed_up k x)
      go x (round {r = r} a) =
          whole (faces-closed all r a last.0 last.1) (within-closed all r a last.0 last.1) a.grows (later-closed all r a last.0 last.1)
      go x (halts j b w u o) = halted j b w u o
