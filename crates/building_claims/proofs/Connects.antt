-- Every `connect` of building finds a state: neighbouring edges of a perimeter share its face and the point between them. Assumes nothing.
--     joinable-sits           the edges of a place and of the next one can be connected
--     always-connects         the claim of `specs/Connects.antt`
use mathlib.Core.Path.{◌≡◌, refl, sym, ◌∙◌, subst}
use mathlib.Core.Bool.{Bool, true, false, ◌&&◌, cond, false≢true}
use mathlib.Core.Logic.{◌⊎◌, inl, inr, ◌≢◌}
use Prim.Native.Nat.{ℕ, zero, suc, ◌+◌, ◌<◌}
use native.Mathlib.Omega.{arith}
use lib.Dec.{eqb, ltb}
use borrow.Author.Tests.{eq-eqb, ne_eqb}
use Rattle.built_meshes.specs.declared.Ground.{Ground}
use Rattle.std.specs.Prelude.{Result, Ok, ⊤}
use Rattle.perimeters.proofs.Laws.{next_more}
use Rattle.tables.specs.Counted.{zeroed_rows}
use Rattle.perimeters.specs.Places.{next_place}
use Rattle.tables.specs.declared.Sizes.{Sizes}
use Rattle.t_spline.specs.Edge.{none, same_face}
use Rattle.t_spline.specs.Ends.{face_from_side}
use Rattle.t_spline.specs.declared.TnurccEdge.{TnurccEdge}
use Rattle.edge_ends.specs.declared.TnurccFaceSide.{TnurccFaceSide}
use Rattle.edge_ends.specs.declared.TnurccFaceSide.TheVariants.{Left, Right}
use Rattle.edge_links.specs.Connect.{vertex_state}
use Rattle.edge_links.specs.Joinable.{share_face}
use Rattle.tables.specs.Mesh.{Mesh}
use Rattle.t_nurcc_edge.specs.Joinable.{joinable_rows}
use Rattle.closed_meshes.specs.Renumbering.{sum_to}
use Rattle.built_meshes.specs.Lists.{Lists, points_of, faces_of, size, offset, rows_of}
use Rattle.built_meshes.specs.Faces.{face_verdict}
use Rattle.built_meshes.specs.Edges.{Entered, entered}
use Rattle.built_meshes.specs.Perimeters.{BuildState, FaceState, Progress, on, turn, places}
use Rattle.built_meshes.specs.Places.{point_of, next_of}
use Rattle.built_meshes.specs.Building.{face_passed}
use Rattle.building_claims.specs.Connects.{turn_connects, places_connect, close_connects, begun, face_connects, faces_connect, AlwaysConnects}
use Rattle.built_meshes.proofs.Made.{interval_of}
use Rattle.built_meshes.proofs.Connecting.{first_of, second_of}
use Rattle.built_meshes.proofs.Rows.{row}
use Rattle.built_meshes.proofs.Invariant.{FaceSound, Sits}
use Rattle.built_meshes.proofs.Entering.{Came, goes, stops}
use Rattle.built_meshes.proofs.Perimeter.{Ready, ready-same, Done, Chained, Faces, Around, Round, round, halts, a-face}
use Rattle.built_meshes.proofs.Perimeter.{entering, turn-came, places-came, around-begun, last-place, offset-suc, wraps}
use Rattle.built_meshes.proofs.Before.{ClearLists}
use Rattle.built_meshes.proofs.Faces.{FaceVerdict, fit, unfit, verdict-is, SoFar, Along, along, stopped-at, face-came, so-far-none}
use Rattle.built_meshes.proofs.Begin.{counts-is, numbers-is, rows_is, ready, faces-none}
use Rattle.built_meshes.proofs.Theorem.{clear}

-- ---- two edges that share a face and a point

both_true : {a b : Bool} → a ≡ true → b ≡ true → a && b ≡ true
both_true {a} {b} h k = rw (h, k)

some-face : (a b c d : Bool) → (((a ≡ true) ⊎ (b ≡ true)) ⊎ (c ≡ true)) ⊎ (d ≡ true) → cond a true (cond b true (cond c true d)) ≡ true
some-face true b c d h = refl
some-face false true c d h = refl
some-face false false true d h = refl
some-face false false false true h = refl
some-face false false false false (inl (inl (inl h))) = absurd (false≢true h)
some-face false false false false (inl (inl (inr h))) = absurd (false≢true h)
some-face false false false false (inl (inr h)) = absurd (false≢true h)
some-face false false false false (inr h) = absurd (false≢true h)

some-point :
    (a b c d : Bool) → (((a ≡ true) ⊎ (b ≡ true)) ⊎ (c ≡ true)) ⊎ (d ≡ true) → ltb (cond a 0 (cond b 1 (cond c 2 (cond d 3 4)))) 4 ≡ true
some-point true b c d h = refl
some-point false true c d h = refl
some-point false false true d h = refl
some-point false false false true h = refl
some-point false false false false (inl (inl (inl h))) = absurd (false≢true h)
some-point false false false false (inl (inl (inr h))) = absurd (false≢true h)
some-point false false false false (inl (inr h)) = absurd (false≢true h)
some-point false false false false (inr h) = absurd (false≢true h)

same-face : (f g : ℕ) → f ≢ none → f ≡ g → same_face f g ≡ true
same-face f g a h = rw (ne_eqb f none a) (eq-eqb f g h)

module _ (e o : TnurccEdge) where
  shares-face : (s t : TnurccFaceSide) → face_from_side e s ≢ none → face_from_side e s ≡ face_from_side o t → share_face e o ≡ true
  shares-face s t a h =
      some-face (same_face e.face_left o.face_left) (same_face e.face_left o.face_right)
      (same_face e.face_right o.face_left) (same_face e.face_right o.face_right) (go s t a h)
    where
      go : (s t : TnurccFaceSide) → face_from_side e s ≢ none → face_from_side e s ≡ face_from_side o t →
          (((same_face e.face_left o.face_left ≡ true) ⊎ (same_face e.face_left o.face_right ≡ true))
          ⊎ (same_face e.face_right o.face_left ≡ true)) ⊎ (same_face e.face_right o.face_right ≡ true)
      go Left Left a h = inl (inl (inl (same-face e.face_left o.face_left a h)))
      go Left Right a h = inl (inl (inr (same-face e.face_left o.face_right a h)))
      go Right Left a h = inl (inr (same-face e.face_right o.face_left a h))
      go Right Right a h = inr (same-face e.face_right o.face_right a h)

  shares-point : (s t : TnurccFaceSide) → first_of s e ≡ second_of t o → ltb (vertex_state e o) 4 ≡ true
  shares-point s t h =
      some-point (eqb e.origin o.dest) (eqb e.dest o.origin) (eqb e.origin o.origin) (eqb e.dest o.dest) (go s t h)
    where
      go : (s t : TnurccFaceSide) → first_of s e ≡ second_of t o →
          (((eqb e.origin o.dest ≡ true) ⊎ (eqb e.dest o.origin ≡ true)) ⊎ (eqb e.origin o.origin ≡ true)) ⊎ (eqb e.dest o.dest ≡ true)
      go Left Left h = inl (inl (inl (eq-eqb _ _ h)))
      go Right Right h = inl (inl (inr (eq-eqb _ _ h)))
      go Left Right h = inl (inr (eq-eqb _ _ h))
      go Right Left h = inr (eq-eqb _ _ h)

joinable-sits :
    (l : Lists) (m : Mesh) (ne f i e o : ℕ) → f ≢ none → Sits l m ne f i o → Sits l m ne f (next_place (size l f) i) e →
    joinable_rows m.edges m.intervals e o ≡ true
unfolding joinable_rows
joinable-sits l m ne f i e o a x y =
    rw (
      shares-face (row m e) (row m o) y.on-side x.on-side (λ z. a (sym y.face-is ∙ z)) (y.face-is ∙ sym x.face-is),
      shares-point (row m e) (row m o) y.on-side x.on-side (y.first-is ∙ sym x.second_is),
    )

-- ---- one face

module _ (l : Lists) (s : BuildState) (k : ℕ) (kf : k < faces_of l) (sound : FaceSound l k) (ready : Ready l s.mesh) where
  turn-connects :
      (i : ℕ) (r : FaceState) → Around l s k kf sound ready i r → i < size l k →
      turn_connects r i (entered r.mesh r.edges k (point_of l k i) (next_of l k i) (interval_of l k i)) ≡ true
  turn-connects i r a below =
      go i a below (entered r.mesh r.edges k (point_of l k i) (next_of l k i) (interval_of l k i))
      (entering l s k kf sound ready i below r a)
    where
      go : (i : ℕ) → Around l s k kf sound ready i r → i < size l k → (x : Entered) →
          Came l (Done l k i) (Chained l k i) r.mesh r.edges k i x → turn_connects r i x ≡ true
      go zero a below x c = refl
      go (suc i) a below x (stops w) = refl
      go (suc i) a below x (goes {m' = m'} {ne' = ne'} {e = e} t) =
          joinable-sits l m' ne' k i e r.before (a-face l s k kf sound ready)
          (t.sits-still k i r.before (a-face l s k kf sound ready) (a.before-sits i refl))
          (subst (λ j. Sits l m' ne' k j e) (sym (next_more (size l k) i below)) t.sits)

  places-connect :
      (c i : ℕ) (x : Progress FaceState) → i + c ≡ size l k → Round l s k kf sound ready i x → places_connect c l k (offset l k) (size l k) i x ≡ true
  unfolding places_connect
  places-connect zero i x h r = refl
  places-connect (suc c) i x h (round {r = r} a) =
      both_true (turn-connects i r a (omega arith))
      (places-connect c (suc i) (turn l k (offset l k) (size l k) i r) (omega arith) (turn-came l s k kf sound ready i r a (omega arith)))
  places-connect (suc c) i x h (halts j b w u o) = refl

  close-connects : Faces l k s → (x : Progress FaceState) → Round l s k kf sound ready (size l k) x → close_connects x ≡ true
  close-connects all x (round {r = r} a) =
      let j = last-place l s k kf sound ready in
      joinable-sits l r.mesh r.edges k j.0 r.first r.before (a-face l s k kf sound ready) (a.before-sits j.0 j.1)
      (subst (λ i. Sits l r.mesh r.edges k i r.first) (sym (wraps l s k kf sound ready all r a j.0 j.1)) (a.first-sits (omega (arith, j.1))))
  close-connects all x (halts j b w u o) = refl

  face-connects : Faces l k s → face_connects l k (offset l k) s (Ok tt) ≡ true
  unfolding face_connects
  face-connects all =
      let start = round (around-begun l s k kf sound ready all) in
      both_true (places-connect (size l k) 0 (begun s) (omega arith) start)
      (close-connects all (places (size l k) l k (offset l k) (size l k) 0 (begun s)) (places-came l s k kf sound ready (size l k) 0 (begun s) (omega arith) start))

-- ---- all faces

module _ (c : Sizes) (l : Lists) (m₀ : Mesh) (free : ClearLists c l m₀) (s₀ : BuildState) (ready' : Ready l s₀.mesh) where
  verdict-connects :
      (f : ℕ) (s : BuildState) → f < faces_of l → SoFar c l m₀ free s₀ ready' f s → (v : Result ⊤ Ground) → FaceVerdict c l m₀ f v →
      face_connects l f (offset l f) s v ≡ true
  unfolding face_connects
  verdict-connects f s b a v (fit sound r) = face-connects l s f b sound (ready-same l a.within ready') a.faces
  verdict-connects f s b a v (unfit met tests n) = refl

  faces-connect : (k f : ℕ) (x : Progress BuildState) → f + k ≡ faces_of l → Along c l m₀ free s₀ ready' f x → faces_connect k l f (offset l f) x ≡ true
  unfolding faces_connect
  faces-connect zero f x h a = refl
  faces-connect (suc k) f x h (stopped-at p w n o) = refl
  faces-connect (suc k) f x h (along {s = s} a) =
      both_true (verdict-connects f s (omega arith) a (face_verdict l (points_of l) f (offset l f)) (verdict-is c l m₀ f (omega arith)))
      (subst (λ o. faces_connect k l (suc f) o (face_passed l f (offset l f) s) ≡ true) (offset-suc l f)
      (faces-connect k (suc f) (face_passed l f (offset l f) s) (omega arith) (face-came c l m₀ free s₀ ready' f s (omega arith) a)))

pub always-connects : AlwaysConnects
unfolding offset sum_to
always-connects c l m few hc hn hr =
    let counted = counts-is c l hc in
    let numbered = numbers-is l hn in
    let roomy = rows_is l m hr in
    let free = clear c l m few counted numbered roomy in
    let s₀ : BuildState = record { mesh = zeroed_rows (rows_of l) m; edges = 0 } in
    let ready' = ready c l m counted numbered roomy few in
    faces-connect c l m free s₀ ready' (faces_of l) 0 (on s₀) (omega arith) (along (so-far-none c l m free s₀ ready' (faces-none c l m counted numbered roomy few)))
