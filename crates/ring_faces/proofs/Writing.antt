-- What is written for a new face at one place, over plain variables: me is the mesh's table of edges, pe the perimeter, hs, gs, ms,
-- ds what stands at its places. Assumes nothing.
use mathlib.Core.Path.{◌≡◌, refl}
use mathlib.Core.Bool.{Bool, true, false, cond}
use mathlib.Core.List.{List, []}
use Prim.Native.Nat.{ℕ, ◌+◌, ◌-◌, ◌*◌, ◌≤◌, ◌<◌}
use native.Mathlib.Omega.{arith}
use borrow.Author.Tests.{eqb-false}
use lib.Dec.{eqb}
use lib.ListN.{length, get_or}
use lib.Ieee.{Float}
use Rattle.perimeters.specs.Places.{prev_place}
use Rattle.audited_meshes.specs.Walks.{first_point}
use Rattle.tables.specs.Parts.{face_tables}
use Rattle.refined_meshes.specs.State.{State, put_face}
use Rattle.refined_meshes.specs.Ring.{face_row, put_new_face}
use Rattle.ring_rows.specs.declared.RingRows.{RingRows}
use Rattle.ring_rows.specs.Rings.{ring}

module _ (rows : RingRows) (i : ℕ) where
  -- the row of a new face is a row of the table of faces
  pub faces-fit : (fs : List ℕ) → i < rows.size → rows.face * 5 + 5 ≤ length fs → (rows.faces + (rows.size - 1)) * 5 ≤ length fs
      → face_row (ring rows [] [] [] [] []) i * 5 + 5 ≤ length fs
  faces-fit fs l a b = go (eqb i 0) refl
    where
      go : (t : Bool) → eqb i 0 ≡ t → cond t rows.face (rows.faces + (i - 1)) * 5 + 5 ≤ length fs
      go true h = a
      go false h = let z : ¬ (i ≡ 0) = eqb-false i 0 h in omega arith

  module _ (pe hs gs ms : List ℕ) (ds : List Float) (s : State) (me : List ℕ) (e : ℕ) (at : e ≡ get_or pe i 0) where
    pub face-put : (prev p f : ℕ) → prev ≡ prev_place rows.size i → p ≡ first_point (face_tables me []) rows.face e
        → f ≡ face_row (ring rows [] [] [] [] []) i
        → put_face f (get_or hs i 0) rows.centre (get_or ms prev 0) p (get_or ms i 0) s
        ≡ put_new_face (face_tables me []) (ring rows pe hs gs ms ds) i s
    unfolding put_new_face
    face-put prev p f a b x = rw (a, b, x, at)
