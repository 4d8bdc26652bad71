-- A face line after `[face`: r is the answer for its sides, which list c points and end at i; ls', qs', ps' and ds' are the lists that they leave.
use mathlib.Core.List.{List, map}
use mathlib.Core.Path.{◌≡◌, sym, ◌∙◌}
use mathlib.Core.Bool.{true, false}
use Prim.Native.Nat.{ℕ, ◌+◌, ◌≤◌}
use lib.ListN.{length}
use lib.Ieee.{Float}
use Rattle.std.specs.Prelude.{Option, Some, None, OnSome}
use Rattle.text_numbers.specs.Form.{bytes, times, stands}
use Rattle.mesh_lines.specs.Grammar.{side_form, face_form, flat, side_first, side_points, side_intervals}
use Rattle.mesh_lines.specs.Parts.{run_answer, stored, length_word, listed_in}
use Rattle.mesh_lines.proofs.Laws.{takes-sides}
use Rattle.text_numbers.proofs.Turns.{literal-found, literal-none}
use Rattle.mesh_lines.proofs.Answers.{run_of, run_none}

module _ (s : List ℕ) (at : ℕ) where
  pub no_sides : {r : Option (ℕ × ℕ)} → r ≡ run_answer listed_in (times 4 (side_form s) at) → r ≡ None → None ≡ run_answer listed_in (face_form s at)
  unfolding face_form
  no_sides er en = rw (run_none listed_in (times 4 (side_form s) at) (sym er ∙ en))

  pub sides-inside : at ≤ length s → {r : Option (ℕ × ℕ)} {c i : ℕ} → r ≡ run_answer listed_in (times 4 (side_form s) at) → r ≡ Some (c, i) → i ≤ length s
  sides-inside h {r} {c} {i} er ec =
      let a = run_of listed_in (times 4 (side_form s) at) (sym er ∙ ec) in
      (takes-sides s at h a.0 i a.1).1

  pub no_end : {r : Option (ℕ × ℕ)} {c i : ℕ} → r ≡ run_answer listed_in (times 4 (side_form s) at) → r ≡ Some (c, i) → stands s i (bytes "]\n") ≡ false
      → None ≡ run_answer listed_in (face_form s at)
  unfolding face_form
  no_end {r} {c} {i} er ec es = rw ((run_of listed_in (times 4 (side_form s) at) (sym er ∙ ec)).1, literal-none s (bytes "]\n") i es)

  pub whole : (ls qs : List ℕ) (f : ℕ) (ps : List ℕ) (ds : List Float) (n : ℕ) {r : Option (ℕ × ℕ)} {c i : ℕ} {ls' qs' ps' : List ℕ} {ds' : List Float}
      → r ≡ run_answer listed_in (times 4 (side_form s) at) → r ≡ Some (c, i) → stands s i (bytes "]\n") ≡ true
      → OnSome r (ls' ≡ stored (map length_word) ls f (times 4 (side_form s) at))
      → OnSome r (qs' ≡ stored (map side_first) qs f (times 4 (side_form s) at))
      → OnSome r (ps' ≡ stored (flat side_points) ps n (times 4 (side_form s) at))
      → OnSome r (ds' ≡ stored (flat side_intervals) ds n (times 4 (side_form s) at))
      → (Some (c, i + 2) ≡ run_answer listed_in (face_form s at))
      × ((ls' ≡ stored (map length_word) ls f (face_form s at))
      × ((qs' ≡ stored (map side_first) qs f (face_form s at))
      × ((ps' ≡ stored (flat side_points) ps n (face_form s at)) × (ds' ≡ stored (flat side_intervals) ds n (face_form s at)))))
  unfolding face_form
  whole ls qs f ps ds n {r} {c} {i} er ec es el eq ep ed =
      let a = run_of listed_in (times 4 (side_form s) at) (sym er ∙ ec) in
      let l = literal-found s (bytes "]\n") i es in
      (rw (a.1, l, a.2), (rw (a.1, l) (rw (ec, a.1) at el), (rw (a.1, l) (rw (ec, a.1) at eq), (rw (a.1, l) (rw (ec, a.1) at ep), rw (a.1, l) (rw (ec, a.1) at ed)))))
