-- What a visit along a perimeter makes of the tables, over plain variables. oe is the mesh's table of edges; ps, es, is, fs are the
-- scratch tables, a number behind them the later ones; pe is the perimeter, hs, gs, ms, ds what stands at its places, in lent
-- arrays that held hs0, gs0, ms0 and lent. Assumes nothing.
--     ring-written       the ring of a split perimeter is written
--     places-lent        the lent arrays keep their lengths
--     along-split        the perimeter is split
--     along-visited      the face is visited
--     visited-border     and so along the border
use mathlib.Core.Path.{◌≡◌, refl, sym, ◌∙◌, ap}
use mathlib.Core.List.{List, []}
use Prim.Native.Nat.{ℕ, ◌+◌, ◌-◌, ◌*◌, ◌≤◌}
use native.Mathlib.Nat.{add-zero}
use lib.ListN.{length, get_or, replicate, length-replicate}
use lib.Ieee.{Float, nan, of_bits, binary64}
use Rattle.std.specs.Prelude.{Some}
use Rattle.tables.specs.declared.Counts.{Counts}
use Rattle.tables.specs.Mesh.{Mesh}
use Rattle.audited_meshes.specs.Walks.{edges_of, passed, face_walk}
use Rattle.tables.specs.Parts.{face_tables}
use Rattle.walks.specs.Border.{padded, border}
use Rattle.walks.specs.declared.FaceBorder.{FaceBorder}
use Rattle.walks.proofs.Laws.{get_or-padded, passed-back, border-passed}
use Rattle.refined_meshes.specs.Turns.{turns, filled}
use Rattle.refined_meshes.specs.State.{State, take_rows}
use Rattle.refined_meshes.specs.Ring.{Ring, first_half_of, second_half_of, put_join, put_first, put_second, put_new_face, put_face_point}
use Rattle.refined_meshes.specs.Visits.{found_on, split_all, ring_of, put_ring, visit_along, visit}
use Rattle.splitting.specs.Scratch.{tables_of, scratch}
use Rattle.splitting.proofs.Laws.{split_all-faces}
use Rattle.ring_rows.specs.declared.RingRows.{RingRows}
use Rattle.ring_rows.specs.Rings.{ring}
use Rattle.refined_meshes.proofs.Laws.{visit_along-same}
use Rattle.visiting.specs.Visiting.{PlacesLent}
use Rattle.visiting.proofs.Laws.{border-edges, visit_along-bare}
use Rattle.visiting.proofs.Places.{filled-places, length-filled, put_ring-places}

module _ (oe ps ps1 es es1 fs fs1 pe hs hs0 gs gs0 ms ms0 : List ℕ) (is is1 ds : List Float) (rows : RingRows) (p : ℕ) where
  abbrev before : Counts
  before = record { points = p; edges = rows.joins; faces = rows.faces }

  abbrev after : Counts
  after = record { points = p; edges = rows.joins + rows.size; faces = rows.faces + (rows.size - 1) }

  abbrev R : Ring
  R = ring rows pe hs gs ms ds

  abbrev N : Mesh
  N = face_tables oe []

  abbrev half1 : ℕ → ℕ
  half1 i = first_half_of oe es rows.face (get_or pe i 0)

  abbrev half2 : ℕ → ℕ
  half2 i = second_half_of oe es rows.face (get_or pe i 0)

  abbrev mid : ℕ → ℕ
  mid i = get_or es (get_or pe i 0 * 8 + 1) 0

  -- the ring that the code holds is written as the ring of the state
  ring-read : rows.size ≤ 64 → PlacesLent hs0 gs0 ms0 → hs ≡ filled rows.size half1 hs0 → gs ≡ filled rows.size half2 gs0
      → ms ≡ filled rows.size mid ms0
      → put_ring N R (tables_of ps es is fs before)
      ≡ put_ring N (ring_of N rows.face pe rows.size rows.centre ds (tables_of ps es is fs before)) (tables_of ps es is fs before)
  unfolding ring_of
  ring-read few lent a b c =
      let zeros : rows.size ≤ length {A = ℕ} (replicate 64 0) = rw length-replicate few in
      rw (a, b, c)
      (put_ring-places N rows pe (filled rows.size half1 hs0) (filled rows.size half1 (replicate 64 0))
      (filled rows.size half2 gs0) (filled rows.size half2 (replicate 64 0))
      (filled rows.size mid ms0) (filled rows.size mid (replicate 64 0)) ds ds
      (filled-places rows.size half1 hs0 (replicate 64 0) 0 (rw lent.firsts few) zeros)
      (filled-places rows.size half2 gs0 (replicate 64 0) 0 (rw lent.seconds few) zeros)
      (filled-places rows.size mid ms0 (replicate 64 0) 0 (rw lent.mids few) zeros)
      (λ i l. refl) (tables_of ps es is fs before))

  -- the lent arrays keep their lengths
  pub places-lent : PlacesLent hs0 gs0 ms0 → hs ≡ filled rows.size half1 hs0 → gs ≡ filled rows.size half2 gs0
      → ms ≡ filled rows.size mid ms0 → PlacesLent hs gs ms
  places-lent lent a b c = record {
    firsts = ap length a ∙ length-filled rows.size half1 hs0 ∙ lent.firsts;
    seconds = ap length b ∙ length-filled rows.size half2 gs0 ∙ lent.seconds;
    mids = ap length c ∙ length-filled rows.size mid ms0 ∙ lent.mids;
  }

  pub ring-written : rows.size ≤ 64 → PlacesLent hs0 gs0 ms0
      → hs ≡ filled rows.size half1 hs0 → gs ≡ filled rows.size half2 gs0 → ms ≡ filled rows.size mid ms0
      → ◌≡◌ {A = State} (tables_of ps es1 is1 fs before)
      (turns rows.size (put_second N R) (turns rows.size (put_first N R) (turns rows.size (put_join R) (tables_of ps es is fs before))))
      → ◌≡◌ {A = State} (tables_of ps es1 is1 fs1 before) (turns rows.size (put_new_face N R) (tables_of ps es1 is1 fs before))
      → ◌≡◌ {A = State} (tables_of ps1 es1 is1 fs1 before) (put_face_point R (tables_of ps es1 is1 fs1 before))
      → ◌≡◌ {A = State} (tables_of ps1 es1 is1 fs1 after)
      (put_ring N (ring_of N rows.face pe rows.size rows.centre ds (tables_of ps es is fs before)) (tables_of ps es is fs before))
  unfolding put_ring
  ring-written few lent a b c edges faces point =
      let end : State → State = λ t. take_rows 0 rows.size (rows.size - 1) t in
      let faced : State → State = λ t. end (put_face_point R t) in
      let halved : State → State = λ t. faced (turns rows.size (put_new_face N R) t) in
      ap (λ (k : ℕ). tables_of ps1 es1 is1 fs1 (record { points = k; edges = rows.joins + rows.size; faces = rows.faces + (rows.size - 1) }))
      (sym (add-zero p))
      ∙ ap end point ∙ ap faced faces ∙ ap halved edges
      ∙ ring-read few lent a b c

-- the perimeter split, once a row is taken for the face point
pub along-split : (ps ps1 es es1 fs pe : List ℕ) (is is1 : List Float) (np n : ℕ) (taken all : Counts)
    → ◌≡◌ {A = State} (scratch ps1 es1 is1 all)
    (split_all np pe n (scratch ps es is (record { points = taken.points + 1; edges = taken.edges; faces = taken.faces })))
    → ◌≡◌ {A = State} (tables_of ps1 es1 is1 fs all) (split_all np pe n (take_rows 1 0 0 (tables_of ps es is fs taken)))
along-split ps ps1 es es1 fs pe is is1 np n taken all h =
    rw (add-zero taken.edges, add-zero taken.faces)
    (split_all-faces np pe n ps es is fs (record { points = taken.points + 1; edges = taken.edges; faces = taken.faces }) ps1 es1 is1 all h)

-- the whole visit: found is read, the perimeter is split, the ring is written
module _ (oe ps ps1 ps2 es es1 es2 fs fs2 pe : List ℕ) (is is1 is2 found lent : List Float) (np f n : ℕ) (taken all : Counts) where
  abbrev O : Mesh
  O = face_tables oe []

  abbrev S : State
  S = tables_of ps es is fs taken

  abbrev T : State
  T = tables_of ps1 es1 is1 fs all

  abbrev at : RingRows
  at = record { face = f; size = n; centre = taken.points; joins = all.edges; faces = all.faces }

  abbrev found_at : ℕ → Float
  found_at i = get_or is (get_or pe i 0) nan

  -- the intervals in the lent array are those that are found
  found-read : n ≤ 64 → length lent ≡ 64 → found ≡ filled n found_at lent
      → put_ring O (ring_of O f pe n taken.points found T) T ≡ put_ring O (ring_of O f pe n taken.points (found_on pe n S) T) T
  unfolding ring_of
  found-read few long a =
      let hs : List ℕ = filled n (λ i. first_half_of oe es1 f (get_or pe i 0)) (replicate 64 0) in
      let gs : List ℕ = filled n (λ i. second_half_of oe es1 f (get_or pe i 0)) (replicate 64 0) in
      let ms : List ℕ = filled n (λ i. get_or es1 (get_or pe i 0 * 8 + 1) 0) (replicate 64 0) in
      rw a
      (put_ring-places O at pe hs hs gs gs ms ms (filled n found_at lent) (filled n found_at (replicate 64 (of_bits binary64 0)))
      (λ i l. refl) (λ i l. refl) (λ i l. refl)
      (filled-places n found_at lent (replicate 64 (of_bits binary64 0)) nan (rw long few) (rw length-replicate few)) T)

  pub along-visited : n ≤ 64 → length lent ≡ 64 → found ≡ filled n found_at lent
      → ◌≡◌ {A = State} T (split_all np pe n (take_rows 1 0 0 S))
      → ◌≡◌ {A = State} (tables_of ps2 es2 is2 fs2 (record { points = all.points; edges = all.edges + n; faces = all.faces + (n - 1) }))
      (put_ring O (ring_of O f pe n taken.points found T) T)
      → ◌≡◌ {A = State} (tables_of ps2 es2 is2 fs2 (record { points = all.points; edges = all.edges + n; faces = all.faces + (n - 1) }))
      (visit_along O np f pe n S)
  unfolding visit_along
  along-visited few long a b c =
      c ∙ found-read few long a ∙ ap (λ (t : State). put_ring O (ring_of O f pe n taken.points (found_on pe n S) t) t) b

-- a visit goes along the border of its face
pub visited-border : (oe of : List ℕ) (np ne f : ℕ) (about : FaceBorder) (s : State) → about ≡ border (face_tables oe of) ne f
    → {n : ℕ} → about.passed ≡ Some n → visit_along (face_tables oe []) np f about.edges n s ≡ visit (face_tables oe of) np ne f s
unfolding visit
visited-border oe of np ne f about s h {n} came =
    let m : Mesh = face_tables oe of in
    let es : List ℕ = edges_of (face_walk m ne f) in
    let count : n ≡ passed (face_walk m ne f) =
    sym (passed-back (face_walk m ne f) (sym (ap (λ (x : FaceBorder). x.passed) h ∙ border-passed m ne f) ∙ came)) in
    rw (h, border-edges m ne f, count)
    (visit_along-bare m np f (padded 64 es) (passed (face_walk m ne f)) s
    ∙ visit_along-same m np f (passed (face_walk m ne f)) (padded 64 es) es (λ i l. get_or-padded 64 es i) s)
