-- The buffer is long enough. Its length is told by a lemma: no list of a million zeros is made.
use Rattle.std.proofs.Common.{ℕ, ◌≤◌, length, replicate, sym, subst, arith}
use Rattle.std.proofs.lemmas.List.{length-replicate}
use Rattle.mend.proofs.main.Goals as goal

room : 31 ≤ length (replicate {A = ℕ} 1048577 0)
room = subst (λ (n : ℕ). 31 ≤ n) (sym (length-replicate {A = ℕ} 1048577 0)) (omega arith)

pub slice_bounds-mend_input-end : goal.slice_bounds-mend_input-end
slice_bounds-mend_input-end c = sym (length-replicate {A = ℕ} 1048577 0)

pub mend_input-requires : goal.mend_input-requires
mend_input-requires c = room
