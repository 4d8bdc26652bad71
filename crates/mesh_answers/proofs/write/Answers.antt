-- `write` meets its contract: the bytes take the place of as many of the list.
use native.Mathlib.Omega.{arith}
use mathlib.Core.List.{List, append_assoc}
use mathlib.Core.Path.{◌≡◌, refl, sym, ◌∙◌}
use Prim.Native.Nat.{ℕ, ◌+◌, ◌≤◌}
use lib.ListN.{length, take, drop}
use lib.Seq.{sets, sets-eq}
use borrow.Rule.Slice.PartMut.{put_mid}
use Rattle.std.proofs.lemmas.List.{drop-drop}
use Rattle.mesh_answers.proofs.write.Goals as goal

put_is_sets : (out t ys : List ℕ) (at k : ℕ) → ys ≡ t → k ≡ length t → at + length t ≤ length out → put_mid at k out ys ≡ sets out at t
put_is_sets out t ys at k ey ek h = rw (ey, ek, drop-drop (length t) at out) (sym (append_assoc (take at out) t (drop (at + length t) out)) ∙ sym (sets-eq t out at h))

pub returns : goal.returns
returns c =
    record { place = refl; list = put_is_sets _ _ _ _ _ c.copy_from_slice.ensures.after (omega arith) c.requires }
