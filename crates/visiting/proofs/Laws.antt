-- The laws of rings and visits that the code goes by. Assumes nothing.
--     border-edges                         the border of a face holds its perimeter, padded
--     visits-none, visits-more             no visits, and one more
--     visit-bare, visits-bare              a visit looks at the mesh's edges and faces alone
--     refined_rows-bare                     so do all visits, begun with a copy of the rows
--     rows-copied                          such a copy, table by table
use mathlib.Core.Path.{◌≡◌, refl, ◌∙◌, ap}
use mathlib.Core.Bool.{Bool, true, false, cond}
use mathlib.Core.List.{List, []}
use Prim.Native.Nat.{ℕ, ◌+◌, ◌*◌}
use lib.ListN.{get_or}
use lib.Ieee.{Float}
use Rattle.tables.specs.declared.Counts.{Counts}
use Rattle.tables.specs.Mesh.{Mesh}
use Rattle.tables.specs.Rows.{over}
use Rattle.audited_meshes.specs.Walks.{Walk, back, lost, edges_of, face_walk}
use Rattle.walks.specs.Border.{padded, border, border_of}
use Rattle.tables.specs.Parts.{face_tables}
use Rattle.refined_meshes.specs.State.{State, copied}
use Rattle.refined_meshes.specs.Ring.{put_first, put_second, put_new_face}
use Rattle.refined_meshes.specs.Visits.{ring_of, put_ring, visit_along, visit, visits, refined_rows}
use Rattle.splitting.specs.Scratch.{tables_of}
use Rattle.refined_meshes.proofs.Turns.{turns-none, turns-turn, turns-cong}
use Rattle.visiting.specs.Visiting.{bare}

pub border-edges : (m : Mesh) (ne f : ℕ) → (border m ne f).edges ≡ padded 64 (edges_of (face_walk m ne f))
unfolding border
border-edges m ne f = go (face_walk m ne f)
  where
    go : (w : Walk) → (border_of m f w).edges ≡ padded 64 (edges_of w)
    go (back es) = refl
    go lost = refl

-- A visit along a perimeter looks at the mesh's edges alone.
pub visit_along-bare : (m : Mesh) (np f : ℕ) (es : List ℕ) (n : ℕ) (s : State)
    → visit_along (face_tables m.edges []) np f es n s ≡ visit_along m np f es n s
unfolding visit_along ring_of put_ring put_first put_second put_new_face
visit_along-bare m np f es n s = refl

pub visit-bare : (m : Mesh) (np ne f : ℕ) (s : State) → visit (bare m) np ne f s ≡ visit m np ne f s
unfolding visit visit_along ring_of put_ring put_first put_second put_new_face face_walk
visit-bare m np ne f s = refl

module _ (m : Mesh) (np ne : ℕ) (order : List ℕ) (s : State) where
  pub visits-none : s ≡ visits m np ne 0 order s
  unfolding visits
  visits-none = turns-none (λ i. visit m np ne (get_or order i 0)) s

  pub visits-more : (i : ℕ) (t : State) → t ≡ visits m np ne i order s → visit m np ne (get_or order i 0) t ≡ visits m np ne (i + 1) order s
  unfolding visits
  visits-more i t h = turns-turn (λ i. visit m np ne (get_or order i 0)) i t s h

  pub visits-bare : (k : ℕ) → visits (bare m) np ne k order s ≡ visits m np ne k order s
  unfolding visits
  visits-bare k =
      turns-cong k (λ i. visit (bare m) np ne (get_or order i 0)) (λ i. visit m np ne (get_or order i 0))
      (λ i t l. visit-bare m np ne (get_or order i 0) t) s

-- The refined rows: the visits of a mesh of which the edges and faces alone are looked at, begun with a copy of all its rows.
pub refined_rows-bare : (m t : Mesh) (np ne nf : ℕ) (order : List ℕ) (s : State) → s ≡ copied m np ne nf t
    → visits (bare m) np ne nf order s ≡ refined_rows m np ne nf order t
unfolding refined_rows
refined_rows-bare m t np ne nf order s h = visits-bare m np ne order s nf ∙ ap (visits m np ne nf order) h

-- the rows of a mesh copied, table by table
pub rows-copied : (m t : Mesh) (c : Counts) (ps es : List ℕ) (is : List Float) (fs : List ℕ)
    → ps ≡ over (c.points * 3) m.points t.points → es ≡ over (c.edges * 8) m.edges t.edges
    → is ≡ over c.edges m.intervals t.intervals → fs ≡ over (c.faces * 5) m.faces t.faces
    → ◌≡◌ {A = State} (tables_of ps es is fs c) (copied m c.points c.edges c.faces t)
unfolding copied
rows-copied m t c ps es is fs p e i f = rw (p, e, i, f)
