-- Where a visit finds its rows and has room, over plain variables. Assumes nothing.
--     never-lost         of a visit that fits the walk comes back
--     along-of-visit     a visit that fits, along its perimeter
--     ring-fits          what its ring then needs
use mathlib.Core.Path.{◌≡◌, refl, sym, ◌∙◌, ap, subst}
use mathlib.Core.List.{List, []}
use Prim.Native.Nat.{ℕ, zero, suc, ◌+◌, ◌-◌, ◌*◌, ◌≤◌, ◌<◌}
use native.Mathlib.Nat.{add-zero}
use native.Mathlib.Decide.{dec_lt}
use native.Mathlib.Omega.{arith}
use lib.ListN.{length, get_or, replicate, length-replicate}
use lib.Ieee.{Float}
use Rattle.std.specs.Prelude.{Some, None}
use Rattle.tables.specs.declared.Counts.{Counts}
use Rattle.tables.specs.Mesh.{Mesh}
use Rattle.audited_meshes.specs.Walks.{edges_of, passed, face_walk}
use Rattle.walks.specs.Border.{padded, border}
use Rattle.walks.specs.declared.FaceBorder.{FaceBorder}
use Rattle.tables.specs.Parts.{face_tables}
use Rattle.walks.proofs.Laws.{get_or-padded, passed-back, passed-lost, border-passed}
use Rattle.refined_meshes.specs.Turns.{filled}
use Rattle.refined_meshes.specs.State.{State, edge_of, take_rows, put_edge, put_point, put_start}
use Rattle.refined_meshes.specs.Split.{split_edge}
use Rattle.refined_meshes.specs.Ring.{first_half_of, second_half_of}
use Rattle.refined_meshes.specs.Visits.{split_all, ring_of}
use Rattle.refined_meshes.specs.Fits.{VisitFits, split_some}
use Rattle.splitting.specs.Scratch.{tables_of, scratch, SplitRoom}
use Rattle.splitting.proofs.Laws.{split_whole-split, split_whole-kept, split_all-none, split_all-suc, faces-split_all, points-split_all-faces, edges-split_all-faces}
use Rattle.ring_rows.specs.Rings.{EdgesThere}
use Rattle.refined_meshes.proofs.Turns.{get_or-filled}
use Rattle.refined_meshes.proofs.Laws.{split_all-same}
use Rattle.visiting.specs.Visiting.{Ceilings, RingFits, AlongFits}
use Rattle.visiting.proofs.Laws.{border-edges}

split-points : (e : ℕ) (s : State) → (split_edge e s).points_taken ≡ s.points_taken + 1
unfolding split_edge put_edge put_point put_start
split-points e s = refl

module _ (m : Mesh) (np ne nf f : ℕ) (s : State) (h : VisitFits m np ne nf f s) (limits : Ceilings np ne nf) where
  abbrev es : List ℕ
  es = edges_of (face_walk m ne f)

  abbrev n : ℕ
  n = passed (face_walk m ne f)

  abbrev all : State
  all = split_all np es n (take_rows 1 0 0 s)

  -- the points taken before place k
  points-before : (k : ℕ) → k ≤ n → (split_some m np ne f k s).points_taken ≤ np + ne + nf
  points-before zero l = rw (split_all-none np es (take_rows 1 0 0 s)) (omega (arith, h.centre-fits))
  points-before (suc k) l = go (dec_lt (edge_of before (get_or es k 0)).dest np) (points-before k (omega arith))
    where
      before : State
      before = split_some m np ne f k s

      go : Dec ((edge_of before (get_or es k 0)).dest < np) → before.points_taken ≤ np + ne + nf → (split_some m np ne f (suc k) s).points_taken ≤ np + ne + nf
      go (yes d) r =
          let fits = h.mid-fits k (omega arith) d in
          rw (split_all-suc np es k (take_rows 1 0 0 s), split_whole-split np (get_or es k 0) before d, split-points (get_or es k 0) before) (omega arith)
      go (no d) r = rw (split_all-suc np es k (take_rows 1 0 0 s), split_whole-kept np (get_or es k 0) before (omega arith)) r

  faces-all : all.faces_taken ≡ s.faces_taken
  faces-all = faces-split_all np es n (take_rows 1 0 0 s) ∙ add-zero s.faces_taken

  joins-fit : all.edges_taken + n ≤ 4 * ne
  unfolding ring_of
  joins-fit = h.joins-fit

  faces-fit : s.faces_taken + (n - 1) ≤ 2 * ne
  unfolding ring_of
  faces-fit = omega (arith, h.faces-fit, faces-all)

  firsts-fit : (i : ℕ) → i < n → first_half_of m.edges all.edges f (get_or es i 0) < 4 * ne
  unfolding ring_of
  firsts-fit i l =
      let halves : ℕ → ℕ = λ i. first_half_of m.edges all.edges f (get_or es i 0) in
      subst (λ x. x < 4 * ne)
      (get_or-filled n halves (replicate 64 0) 0 (rw length-replicate h.size-high) i l)
      (h.first_fits i l)

  seconds-fit : (i : ℕ) → i < n → second_half_of m.edges all.edges f (get_or es i 0) < 4 * ne
  unfolding ring_of
  seconds-fit i l =
      let halves : ℕ → ℕ = λ i. second_half_of m.edges all.edges f (get_or es i 0) in
      subst (λ x. x < 4 * ne)
      (get_or-filled n halves (replicate 64 0) 0 (rw length-replicate h.size-high) i l)
      (h.second_fits i l)

  along-of-edges : ne * 8 ≤ length m.edges → AlongFits m.edges np f es n s
  along-of-edges r =
      let points = h.room.points-room in
      let edges = h.room.edges_room in
      let intervals = h.room.intervals-room in
      let faces = h.room.faces-room in
      let centre = h.centre-fits in
      let taken = points-before n (omega arith) in
      let low = h.size_low in
      let below = h.face-below in
      let less = h.faces-less in
      let a = limits.points in
      let b = limits.edges in
      let c = limits.faces in
      record {
        some-places = omega arith;
        few-places = h.size-high;
        mesh-rows = λ i l. omega (arith, h.edge-below i l);
        rows = λ i l. record { words = omega (arith, h.edge-below i l); number = omega (arith, h.edge-below i l) };
        old-points = omega arith;
        centre = omega arith;
        few-points = omega arith;
        room = record {
          points = omega arith;
          edges = omega (arith, joins-fit);
          intervals = omega (arith, joins-fit);
          few-points = omega arith;
          few-edges = omega (arith, joins-fit);
        };
        face = omega arith;
        face-below = omega arith;
        faces = omega (arith, faces-fit);
        few-faces = omega (arith, faces-fit);
        firsts = λ i l. omega (arith, firsts-fit i l);
        seconds = λ i l. omega (arith, seconds-fit i l);
      }

-- the same rows at the same places
along-places : (oe : List ℕ) (np f : ℕ) (pe es : List ℕ) (n : ℕ) (s : State) → ((i : ℕ) → get_or pe i 0 ≡ get_or es i 0)
    → AlongFits oe np f es n s → AlongFits oe np f pe n s
along-places oe np f pe es n s same h =
    let all : split_all np pe n (take_rows 1 0 0 s) ≡ split_all np es n (take_rows 1 0 0 s) = split_all-same (face_tables oe []) np f n pe es (λ i l. same i) (take_rows 1 0 0 s) in
    record {
      some-places = h.some-places;
      few-places = h.few-places;
      mesh-rows = λ i l. rw (same i) (h.mesh-rows i l);
      rows = λ i l. rw (same i) (h.rows i l);
      old-points = h.old-points;
      centre = h.centre;
      few-points = h.few-points;
      room = rw all h.room;
      face = h.face;
      face-below = h.face-below;
      faces = h.faces;
      few-faces = h.few-faces;
      firsts = λ i l. rw (all, same i) (h.firsts i l);
      seconds = λ i l. rw (all, same i) (h.seconds i l);
    }

-- of a visit that fits the walk comes back
pub never-lost : (oe of : List ℕ) (np ne nf f : ℕ) (s : State) (about : FaceBorder) → about ≡ border (face_tables oe of) ne f
    → VisitFits (face_tables oe of) np ne nf f s → about.passed ≡ None → ⊥
never-lost oe of np ne nf f s about b h e =
    let m : Mesh = face_tables oe of in
    let none = passed-lost (face_walk m ne f) (sym (ap (λ (x : FaceBorder). x.passed) b ∙ border-passed m ne f) ∙ e) in
    let low = h.size_low in
    omega arith

-- a visit that fits goes along the border of its face
pub along-of-visit : (oe of : List ℕ) (np ne nf f : ℕ) (s : State) (about : FaceBorder) → about ≡ border (face_tables oe of) ne f
    → {n : ℕ} → about.passed ≡ Some n → Ceilings np ne nf → ne * 8 ≤ length oe → VisitFits (face_tables oe of) np ne nf f s
    → AlongFits oe np f about.edges n s
along-of-visit oe of np ne nf f s about b {n} came limits r h =
    let m : Mesh = face_tables oe of in
    let places : List ℕ = edges_of (face_walk m ne f) in
    let count : n ≡ passed (face_walk m ne f) =
    sym (passed-back (face_walk m ne f) (sym (ap (λ (x : FaceBorder). x.passed) b ∙ border-passed m ne f) ∙ came)) in
    rw (b, border-edges m ne f, count)
    (along-places oe np f (padded 64 places) places (passed (face_walk m ne f)) s (get_or-padded 64 places)
    (along-of-edges m np ne nf f s h limits r))

module _ (oe ps es fs pe : List ℕ) (is : List Float) (np f n : ℕ) (taken : Counts)
    (h : AlongFits oe np f pe n (tables_of ps es is fs taken)) where
  abbrev first : Counts
  first = record { points = taken.points + 1; edges = taken.edges; faces = taken.faces }

  abbrev after : State
  after = split_all np pe n (take_rows 1 0 0 (tables_of ps es is fs taken))

  -- the room that the splitting needs
  pub split-room :
      SplitRoom ps es is (split_all np pe n (scratch ps es is first)).points_taken (split_all np pe n (scratch ps es is first)).edges_taken
  split-room =
      let x : split_all np pe n (tables_of ps es is fs first) ≡ after = rw (add-zero taken.edges, add-zero taken.faces) in
      let a : (split_all np pe n (scratch ps es is first)).points_taken ≡ after.points_taken =
      points-split_all-faces np pe n ps es is fs first ∙ ap (λ (s : State). s.points_taken) x in
      let b : (split_all np pe n (scratch ps es is first)).edges_taken ≡ after.edges_taken =
      edges-split_all-faces np pe n ps es is fs first ∙ ap (λ (s : State). s.edges_taken) x in
      let r = h.room in
      record {
        points = omega (arith, r.points);
        edges = omega (arith, r.edges);
        intervals = omega (arith, r.intervals);
        few-points = omega (arith, r.few-points);
        few-edges = omega (arith, r.few-edges);
      }

  -- what the ring needs once the perimeter is split
  pub ring-fits : (ps1 es1 : List ℕ) (is1 : List Float) (all : Counts) → ◌≡◌ {A = State} (tables_of ps1 es1 is1 fs all) after
      → length ps1 ≡ length ps → length es1 ≡ length es → length is1 ≡ length is
      → RingFits oe pe (record { face = f; size = n; centre = taken.points; joins = all.edges; faces = all.faces }) ps1 es1 is1 fs
  ring-fits ps1 es1 is1 all t lp le li =
      let e : all.edges ≡ after.edges_taken = ap (λ (s : State). s.edges_taken) t in
      let w : es1 ≡ after.edges = ap (λ (s : State). s.edges) t in
      let g : all.faces ≡ taken.faces =
      ap (λ (s : State). s.faces_taken) t ∙ faces-split_all np pe n (take_rows 1 0 0 (tables_of ps es is fs taken)) ∙ add-zero taken.faces in
      record {
        small = record {
          some-places = h.some-places;
          few-places = h.few-places;
          few-points = h.few-points;
          few-edges = omega (arith, h.room.few-edges);
          face-below = h.face-below;
          few-faces = omega (arith, h.few-faces);
        };
        centre = omega (arith, h.centre);
        joins = omega (arith, h.room.edges);
        intervals = omega (arith, h.room.intervals);
        face = h.face;
        faces = rw g h.faces;
        mesh-rows = h.mesh-rows;
        edge-rows = λ i l. omega (arith, (h.rows i l).words);
        firsts = λ i l. rw (le, w) (h.firsts i l);
        seconds = λ i l. rw (le, w) (h.seconds i l);
      }

-- the halves at the places are rows of the table
pub halves-rows : (es hs lent : List ℕ) (half : ℕ → ℕ) (n : ℕ) → n ≤ 64 → length lent ≡ 64 → hs ≡ filled n half lent
    → ((i : ℕ) → i < n → half i * 8 + 8 ≤ length es) → EdgesThere es hs n
halves-rows es hs lent half n few long is h i l = rw (is, get_or-filled n half lent 0 (rw long few) i l) (h i l)
