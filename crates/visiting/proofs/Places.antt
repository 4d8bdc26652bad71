-- What stands at the places of a perimeter, in lent arrays of any content. Assumes nothing.
--     filled-places      the first places of two arrays that are filled alike hold the same
--     length-filled      a filled array has its length
--     put_ring-places     a ring is written by its first places alone
use mathlib.Core.Path.{◌≡◌, sym, ◌∙◌, ap}
use mathlib.Core.List.{List}
use Prim.Native.Nat.{ℕ, ◌-◌, ◌≤◌, ◌<◌}
use lib.ListN.{length, get_or, set, length-set}
use lib.Ieee.{Float, nan}
use Rattle.perimeters.specs.Places.{next_place, prev_place}
use Rattle.perimeters.proofs.Laws.{next-below, prev-below}
use Rattle.tables.specs.Mesh.{Mesh}
use Rattle.refined_meshes.specs.Turns.{turns, filled}
use Rattle.refined_meshes.specs.State.{State, take_rows}
use Rattle.refined_meshes.specs.Ring.{Ring, put_join, put_first, put_second, put_new_face, put_face_point}
use Rattle.refined_meshes.specs.Visits.{put_ring}
use Rattle.refined_meshes.proofs.Turns.{turns-cong, turns-view, get_or-filled}
use Rattle.ring_rows.specs.declared.RingRows.{RingRows}
use Rattle.ring_rows.specs.Rings.{ring}

module _ {A : Type 0} (n : ℕ) (g : ℕ → A) where
  pub filled-places : (xs ys : List A) (d : A) → n ≤ length xs → n ≤ length ys → (i : ℕ) → i < n
      → get_or (filled n g xs) i d ≡ get_or (filled n g ys) i d
  filled-places xs ys d h k i l = get_or-filled n g xs d h i l ∙ sym (get_or-filled n g ys d k i l)

  pub length-filled : (xs : List A) → length (filled n g xs) ≡ length xs
  unfolding filled
  length-filled xs = turns-view n (λ i zs. set zs i (g i)) length (λ i zs. length-set zs i (g i)) xs

-- the first places of the arrays hold the same
module _ (m : Mesh) (rows : RingRows) (es hs hs' gs gs' ms ms' : List ℕ) (ds ds' : List Float)
    (firsts : (i : ℕ) → i < rows.size → get_or hs i 0 ≡ get_or hs' i 0)
    (seconds : (i : ℕ) → i < rows.size → get_or gs i 0 ≡ get_or gs' i 0)
    (mids : (i : ℕ) → i < rows.size → get_or ms i 0 ≡ get_or ms' i 0)
    (found : (i : ℕ) → i < rows.size → get_or ds i nan ≡ get_or ds' i nan) where
  abbrev R : Ring
  R = ring rows es hs gs ms ds

  abbrev Q : Ring
  Q = ring rows es hs' gs' ms' ds'

  join-places : (i : ℕ) (s : State) → i < rows.size → put_join R i s ≡ put_join Q i s
  unfolding put_join
  join-places i s l =
      rw (
        firsts i l,
        seconds i l,
        mids i l,
        found (next_place rows.size i) (next-below rows.size i l),
        found (prev_place rows.size i) (prev-below rows.size i l),
      )

  first-places : (i : ℕ) (s : State) → i < rows.size → put_first m R i s ≡ put_first m Q i s
  unfolding put_first
  first-places i s l = rw (firsts i l, seconds (prev_place rows.size i) (prev-below rows.size i l))

  second-places : (i : ℕ) (s : State) → i < rows.size → put_second m R i s ≡ put_second m Q i s
  unfolding put_second
  second-places i s l = rw (seconds i l, firsts (next_place rows.size i) (next-below rows.size i l))

  face-places : (i : ℕ) (s : State) → i < rows.size → put_new_face m R i s ≡ put_new_face m Q i s
  unfolding put_new_face
  face-places i s l = rw (firsts i l, mids (prev_place rows.size i) (prev-below rows.size i l), mids i l)

  pub put_ring-places : (s : State) → put_ring m R s ≡ put_ring m Q s
  unfolding put_ring put_face_point
  put_ring-places s =
      let n = rows.size in
      let s1 : State = turns n (put_join Q) s in
      let s2 : State = turns n (put_first m Q) s1 in
      let s3 : State = turns n (put_second m Q) s2 in
      let e1 : turns n (put_join R) s ≡ s1 = turns-cong n (put_join R) (put_join Q) join-places s in
      let e2 : turns n (put_first m R) s1 ≡ s2 = turns-cong n (put_first m R) (put_first m Q) first-places s1 in
      let e3 : turns n (put_second m R) s2 ≡ s3 = turns-cong n (put_second m R) (put_second m Q) second-places s2 in
      let e4 : turns n (put_new_face m R) s3 ≡ turns n (put_new_face m Q) s3 = turns-cong n (put_new_face m R) (put_new_face m Q) face-places s3 in
      ap (λ (x : State). take_rows 0 n (n - 1) (put_face_point Q x))
      (ap (λ (x : State). turns n (put_new_face m R) (turns n (put_second m R) (turns n (put_first m R) x))) e1
      ∙ ap (λ (x : State). turns n (put_new_face m R) (turns n (put_second m R) x)) e2
      ∙ ap (turns n (put_new_face m R)) e3 ∙ e4)
