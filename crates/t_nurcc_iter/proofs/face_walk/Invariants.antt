-- face_walk meets its contract. The invariant: the walk has passed n edges.
use Prim.Native.Nat.{ℕ}
use mathlib.Core.Bool.{Bool, ◌&&◌}
use lib.Dec.{ltb}
use Rattle.tables.specs.Mesh.{Mesh, face_start}
use Rattle.audited_meshes.specs.Walks.{acw_of_face, borders, face_walk}
use Rattle.tables.specs.Parts.{face_tables}
use Rattle.walks.proofs.Counting.{Counted}
use Rattle.t_nurcc_iter.proofs.face_walk.Given as goal

abbrev pub on : Mesh → ℕ → ℕ → ℕ → Bool
on m ne f e = ltb e ne && borders m f e

abbrev pub Way : Mesh → ℕ → ℕ → ℕ → ℕ → Type 0
Way m ne f n e = Counted (acw_of_face m f) (on m ne f) (face_start m f) 64 (face_walk m ne f) n e

abbrev pub invariant-loop-n : goal.invariant-loop-n
invariant-loop-n l = Way (face_tables l.edges l.faces) l.ne l.f l.n l.e
