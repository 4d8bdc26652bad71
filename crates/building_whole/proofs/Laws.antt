-- The laws of the tests of the whole, of marks and of rows. Assumes nothing.
--     passes-back, passes-lost    whether a walk passes as many edges as the valence, by its answer
--     marked-none, marked_more    the marks before the first turn, and one turn more
--     whole_is                    the verdict on the whole by its three tests
use mathlib.Core.Path.{◌≡◌, refl}
use mathlib.Core.Bool.{Bool, not, cond}
use mathlib.Core.List.{List, []}
use Prim.Native.Nat.{ℕ, ◌+◌, ◌*◌}
use native.Mathlib.Numerals.{add-one}
use native.Mathlib.Omega.{arith}
use lib.Dec.{ltb}
use lib.Ieee.{Float}
use lib.ListN.{get_or, set}
use Rattle.std.specs.Prelude.{Some, None, Result, Ok, Err, ⊤}
use Rattle.built_meshes.specs.declared.Ground.{Ground}
use Rattle.tables.specs.Mesh.{Mesh, mesh_of}
use Rattle.audited_meshes.specs.Walks.{Walk, back, lost, passed, point_walk}
use Rattle.walks.specs.Steps.{passed_by}
use Rattle.tables.specs.Parts.{point_tables}
use Rattle.built_meshes.specs.Whole.{no_missing_face, every_edged, no_missed_edge, whole_verdict, mark_of, marked}
use Rattle.built_meshes.specs.declared.Ground.TheVariants.{MissingFace, NoEdge, MissedEdge}

passed-back : (w : Walk) (n : ℕ) → passed_by w ≡ Some n → passed w ≡ n
passed-back (back es) n h = cc
passed-back lost n h = let z : ◌≡◌ {A = ℕ} 0 1 = cc in absurd (omega arith)

passed-lost : (w : Walk) → passed_by w ≡ None → passed w ≡ 0
passed-lost (back es) h = let z : ◌≡◌ {A = ℕ} 0 1 = cc in absurd (omega arith)
passed-lost lost h = refl

-- v is the valence k as the code reads it
module _ (m : Mesh) (ne v k p : ℕ) (e : v ≡ k) where
  pub passes-back : (n : ℕ) → passed_by (point_walk m ne v p) ≡ Some n → not (ltb n v) ≡ not (ltb (passed (point_walk m ne k p)) k)
  passes-back n h = rw (← e, passed-back (point_walk m ne v p) n h)

  pub passes-lost : passed_by (point_walk m ne v p) ≡ None → not (ltb 0 v) ≡ not (ltb (passed (point_walk m ne k p)) k)
  passes-lost h = rw (← e, passed-lost (point_walk m ne v p) h)

pub marked-none : (ws : List ℕ) → marked 0 ws ≡ ws
unfolding marked
marked-none ws = refl

pub marked_more : (p : ℕ) (ws₀ ws : List ℕ) (mark : ℕ) → ws ≡ marked p ws₀ → mark ≡ mark_of (get_or ws (p * 3) 0)
    → set ws (p * 3 + 2) mark ≡ marked (p + 1) ws₀
unfolding marked
marked_more p ws₀ ws mark h m = rw (add-one p, m, h)

-- the verdict by the three tests
abbrev pub whole_by : Bool → Bool → Bool → Result ⊤ Ground
whole_by faces edged walks =
    cond (not faces) (Err MissingFace) (cond (not edged) (Err NoEdge) (cond (not walks) (Err MissedEdge) (Ok tt)))

pub whole_is : (ps : List Float) (pts es : List ℕ) (is : List Float) (fs : List ℕ) (np ne : ℕ)
    → whole_verdict (mesh_of ps pts es is fs) np ne
    ≡ whole_by (no_missing_face (point_tables [] es) ne) (every_edged (point_tables pts []) np) (no_missed_edge (point_tables pts es) np ne)
unfolding whole_verdict no_missing_face every_edged no_missed_edge point_walk
whole_is ps pts es is fs np ne = refl
