-- A turn, the places of a perimeter and a face, over plain variables. Assumes nothing.
use mathlib.Core.Path.{◌≡◌, refl, sym, ap}
use mathlib.Core.Bool.{Bool, true, false}
use mathlib.Core.List.{List}
use Prim.Native.Nat.{ℕ, zero, suc, ◌+◌, ◌*◌, ◌≤◌, ◌<◌}
use native.Mathlib.Omega.{arith}
use lib.Dec.{eqb, ltb}
use lib.Ieee.{Float, nan}
use lib.ListN.{length, get_or}
use borrow.Author.Tests.{ltb-true}
use Rattle.std.specs.Prelude.{Option, Some, None, Ok, Err}
use Rattle.perimeters.specs.Places.{next_place}
use Rattle.tables.specs.Mesh.{Mesh, none, origin, right_face, mesh_of}
use Rattle.tables.specs.Rows.{put_row}
use Rattle.tables.specs.Records.{face_words}
use Rattle.t_nurcc_edge.specs.Connected.{connected_rows}
use Rattle.t_nurcc_edge.proofs.Laws.{length-connected_rows}
use Rattle.audited_meshes.proofs.Tests.{every-is, self-is}
use Rattle.built_meshes.specs.Lists.{Lists}
use Rattle.built_meshes.specs.Faces.{listed_in_range}
use Rattle.built_meshes.specs.Perimeters.{BuildState, FaceState, Progress, on, stopped, turned, interval_place, turn, face_of, closed_up}
use Rattle.built_meshes.specs.Edges.{Entered, at, refused, edge_between, entered_at, entered_if, entered, joined, with_edges}
use Rattle.built_meshes.specs.declared.Version.{Version}
use Rattle.built_meshes.specs.declared.Ground.{Ground}
use Rattle.building_tests.specs.Lent.{lists_in}
use Rattle.edge_search.specs.Chains.{Standing, EdgeRoom}
use Rattle.edge_search.specs.Places.{EnteredPlace, entry_place, entering, EnteredBy}
use Rattle.edge_search.proofs.Chains.{edge_between-below, standing-ends}
use Rattle.building_faces.specs.Rings.{face_state_of, ListedRoom, ListedFrom, Closing, SomeStand, TurnStands, FaceStands}
use Rattle.building_faces.specs.declared.RingEdges.{RingEdges}
use Rattle.building_faces.proofs.Ends.{connected-ends}

-- ---- what an entry says

entering-at : (m n : Mesh) (k e : ℕ) (x : Entered) → entry_place n (Ok (record { edges = k; edge = e })) ≡ entering m x → x ≡ at n k e
entering-at m n k e (at n' k' e') h =
    let q : ◌≡◌ {A = EnteredPlace} (record { mesh = n; edges = k; edge = e }) (record { mesh = n'; edges = k'; edge = e' }) = cc in
    ap (λ (z : EnteredPlace). at z.mesh z.edges z.edge) (sym q)
entering-at m n k e (refused g) h = let z : ◌≡◌ {A = ℕ} 0 1 = cc in absurd (omega arith)

entering-refused : (m n : Mesh) (g : Ground) (x : Entered) → entry_place n (Err g) ≡ entering m x → (x ≡ refused g) × (n ≡ m)
entering-refused m n g (at n' k' e') h = let z : ◌≡◌ {A = ℕ} 0 1 = cc in absurd (omega arith)
entering-refused m n g (refused g') h = let a : g' ≡ g = cc in (ap refused a, cc)

-- how many edges there are then, and that the place's edge is one of them
pub record Counted (k n e : ℕ) : Type 0 where
  pub edge-below : e < n
  pub more : k ≤ n
  pub one_more : n ≤ k + 1

counted-at : (m : Mesh) (k f i : ℕ) (a b : Bool) {n : Mesh} {c e : ℕ} → i < k → entered_at m k f i a b ≡ at n c e → Counted k c e
unfolding entered_at
counted-at m k f i false b l h = let z : ◌≡◌ {A = ℕ} 0 1 = cc in absurd (omega arith)
counted-at m k f i true true l h = let z : ◌≡◌ {A = ℕ} 0 1 = cc in absurd (omega arith)
counted-at m k f i true false {n} {c} {e} l h =
    let s : k ≡ c = cc in let t : i ≡ e = cc in record { edge-below = omega arith; more = omega arith; one_more = omega arith }

entered-counted : (m : Mesh) (k f p q : ℕ) (v : Float) {n : Mesh} {c e : ℕ} → entered m k f p q v ≡ at n c e → Counted k c e
unfolding entered entered_if
entered-counted m k f p q v {n} {c} {e} h = go (edge_between m k p q) refl h
  where
    go : (x : Option ℕ) → edge_between m k p q ≡ x → entered_if m k f p q v x ≡ at n c e → Counted k c e
    go (Some i) s h = counted-at m k f i (eqb (right_face m i) none) (eqb (origin m i) p) (edge_between-below m k p q i s) h
    go None s h = let s : suc k ≡ c = cc in let t : k ≡ e = cc in record { edge-below = omega arith; more = omega arith; one_more = omega arith }

pub made_counted : (m n : Mesh) (k f p q : ℕ) (v : Float) (c e : ℕ) → EnteredBy (Ok (record { edges = c; edge = e })) m n k f p q v → Counted k c e
made_counted m n k f p q v c e h = entered-counted m k f p q v (entering-at m n c e (entered m k f p q v) h)

-- a listed point of the perimeter is a point
pub placed-point : (np : ℕ) (ls : List ℕ) (a n i : ℕ) → ListedFrom np ls a n → i < n → get_or ls (a + i) 0 < np
unfolding listed_in_range
placed-point np ls a n i h l =
    ltb-true (get_or ls (a + i) 0) np ((every-is n (λ j. self-is (ltb (get_or ls (a + j) 0) np))).0 h.points i l)

-- there is room for one more edge while as many stand as places were entered
pub room-lent : (ls : List ℕ) (be : List Float) (es : List ℕ) (is : List Float) (ch : List ℕ) (k : ℕ)
    → ListedRoom ls be es is ch → k < length ls → EdgeRoom es is ch k
room-lent ls be es is ch k h l =
    let a = h.edge-rows in let b = h.interval-rows in let c = h.link-rows in let d = h.few in
    record { edge_row = omega arith; interval-row = omega arith; links-row = omega arith; few = omega arith }

-- ---- one turn

module _ (w : Version) (cs : List Float) (ss qs ls : List ℕ) (be : List Float) (f a n i next p q : ℕ) (v : Float) (ring : RingEdges) (m new : Mesh)
    (en : next ≡ next_place n i) (ep : p ≡ get_or ls (a + i) 0) (eq : q ≡ get_or ls (a + next) 0) (ev : v ≡ get_or be (a + interval_place w n i) nan) where
  abbrev l : Lists
  l = lists_in w cs ss qs ls be

  turn_is : turn l f a n i (face_state_of m ring) ≡ turned (face_state_of m ring) i (entered m ring.edges f p q v)
  unfolding turn
  turn_is = rw (ep, eq, ev, en)

  pub turn_stopped : (g : Ground) → EnteredBy (Err g) m new ring.edges f p q v → stopped g new ≡ turn l f a n i (face_state_of m ring)
  unfolding turned
  turn_stopped g h =
      let r = entering-refused m new g (entered m ring.edges f p q v) h in rw (turn_is, r.0, r.1)

  pub turn-first : (c e : ℕ) → EnteredBy (Ok (record { edges = c; edge = e })) m new ring.edges f p q v → i ≡ 0
      → on (face_state_of new (record { edges = c; first = e; before = e })) ≡ turn l f a n i (face_state_of m ring)
  unfolding turned
  turn-first c e h z = rw (turn_is, entering-at m new c e (entered m ring.edges f p q v) h, z)

  chained-joined : (j : ℕ) (c e : ℕ) → (j ≡ 0 → ⊥) → turned (face_state_of m ring) j (at new c e)
      ≡ on (face_state_of (joined new e ring.before) (record { edges = c; first = ring.first; before = e }))
  unfolding turned
  chained-joined zero c e z = absurd (z refl)
  chained-joined (suc j) c e z = refl

  pub turn_more : (c e : ℕ) (es : List ℕ) → EnteredBy (Ok (record { edges = c; edge = e })) m new ring.edges f p q v → (i ≡ 0 → ⊥)
      → es ≡ connected_rows new.edges new.intervals e ring.before
      → on (face_state_of (with_edges new es) (record { edges = c; first = ring.first; before = e })) ≡ turn l f a n i (face_state_of m ring)
  unfolding joined
  turn_more c e es h z s =
      rw (turn_is, entering-at m new c e (entered m ring.edges f p q v) h, chained-joined i c e z, s)

-- ---- two edges connected while k edges stand

module _ (np : ℕ) (pts es ch : List ℕ) (k e o : ℕ) (h : Standing np pts es ch k) (below : e < k) (other-below : o < k) where
  pub connect-fits : (is : List Float) → k ≤ length is
      → (e * 8 + 8 ≤ length es) × ((o * 8 + 8 ≤ length es) × ((e < length is) × (o < length is)))
  connect-fits is room = let fit = h.edges_fit in (omega arith, (omega arith, (omega arith, omega arith)))

  pub standing-connected : (is : List Float) (new : List ℕ) → new ≡ connected_rows es is e o → Standing np pts new ch k
  standing-connected is new s =
      let fit = h.edges_fit in
      rw s
      (standing-ends np pts es (connected_rows es is e o) ch k (connected-ends es is e o (omega arith) (omega arith))
      (length-connected_rows es is e o) h)

-- ---- what stands after a turn: k edges stood before it, and at most `most` stand after it

module _ (np : ℕ) (pts es ch : List ℕ) (k c e most : ℕ) (h : Standing np pts es ch c) (n : Counted k c e) (few : k + 1 ≤ most) where
  pub stands-first : TurnStands np pts es ch most (Ok (record { edges = c; first = e; before = e }))
  stands-first =
      let l = n.one_more in
      (h, omega arith, record { first_edge = n.edge-below; before-edge = n.edge-below })

  module _ (ring : RingEdges) (count : ring.edges ≡ k) (closing : Closing ring) where
    before-below : ring.before < c
    before-below = let b = n.more in let o = closing.before-edge in omega arith

    pub joined-fits : (is : List Float) → most ≤ length is
        → (e * 8 + 8 ≤ length es) × ((ring.before * 8 + 8 ≤ length es) × ((e < length is) × (ring.before < length is)))
    joined-fits is room = let a = n.one_more in connect-fits np pts es ch c e ring.before h n.edge-below before-below is (omega arith)

    pub stands-more : (is : List Float) (new : List ℕ) → new ≡ connected_rows es is e ring.before
        → TurnStands np pts new ch most (Ok (record { edges = c; first = ring.first; before = e }))
    stands-more is new s =
        let a = n.one_more in
        let b = n.more in
        let f = closing.first_edge in (
          standing-connected np pts es ch c e ring.before h n.edge-below before-below is new s,
          omega arith,
          record { first_edge = omega arith; before-edge = n.edge-below },
        )

-- where a turn or a face stops, more edges might have stood
pub some_more : (np : ℕ) (pts es ch : List ℕ) (few most : ℕ) → few ≤ most → SomeStand np pts es ch few → SomeStand np pts es ch most
some_more np pts es ch few most l h = let b = h.2 in (h.0, h.1, omega arith)

-- ---- a perimeter closed up, and its face's row stored

pub closed_on : (f row : ℕ) (x : Progress FaceState) (ring : RingEdges) (m : Mesh) (es fs : List ℕ) → on (face_state_of m ring) ≡ x
    → es ≡ connected_rows m.edges m.intervals ring.first ring.before → row ≡ f
    → fs ≡ put_row m.faces (row * 5) (face_words (face_of ring.first))
    → ◌≡◌ {A = Progress BuildState} (on (record { mesh = mesh_of m.positions m.points es m.intervals fs; edges = ring.edges })) (closed_up f x)
unfolding closed_up joined
closed_on f row x ring m es fs h a b c = rw (← h, a, c, b)

pub closed-stopped : (f : ℕ) (x : Progress FaceState) (g : Ground) (m : Mesh) → stopped g m ≡ x → ◌≡◌ {A = Progress BuildState} (stopped g m) (closed_up f x)
unfolding closed_up
closed-stopped f x g m h = rw (← h)

pub face-stands : (np : ℕ) (pts es ch : List ℕ) (is : List Float) (new : List ℕ) (most : ℕ) (ring : RingEdges)
    → TurnStands np pts es ch most (Ok ring) → new ≡ connected_rows es is ring.first ring.before
    → FaceStands np pts new ch most (Ok ring.edges)
face-stands np pts es ch is new most ring h s =
    (standing-connected np pts es ch ring.edges ring.first ring.before h.0 h.2.first_edge h.2.before-edge is new s, h.1)
