-- A point line after `[point`: r is the answer for its coordinates, i the place after them, ys the list that they leave.
use mathlib.Core.List.{List, map}
use mathlib.Core.Path.{◌≡◌, sym, ◌∙◌}
use mathlib.Core.Bool.{true, false}
use Prim.Native.Nat.{ℕ, ◌+◌, ◌≤◌}
use lib.ListN.{length}
use lib.Ieee.{Float}
use Rattle.std.specs.Prelude.{Option, Some, None, OnSome}
use Rattle.text_numbers.specs.Form.{bytes, times, stands}
use Rattle.mesh_lines.specs.Grammar.{coordinate_form, point_form}
use Rattle.text_numbers.specs.Numbers.{float}
use Rattle.mesh_lines.specs.Parts.{place_answer, stored}
use Rattle.text_numbers.proofs.Laws.{takes-times}
use Rattle.mesh_lines.proofs.Laws.{takes-coordinate}
use Rattle.text_numbers.proofs.Turns.{literal-found, literal-none}
use Rattle.mesh_lines.proofs.Answers.{place_at, place_none}

module _ (s : List ℕ) (at : ℕ) where
  pub no-coordinates : {r : Option ℕ} → r ≡ place_answer (times 3 (coordinate_form s) at) → r ≡ None → None ≡ place_answer (point_form s at)
  unfolding point_form
  no-coordinates er en = rw (place_none (times 3 (coordinate_form s) at) (sym er ∙ en))

  pub coordinates-inside : at ≤ length s → {r : Option ℕ} {i : ℕ} → r ≡ place_answer (times 3 (coordinate_form s) at) → r ≡ Some i → i ≤ length s
  coordinates-inside h {r} {i} er ei =
      let a = place_at (times 3 (coordinate_form s) at) (sym er ∙ ei) in
      (takes-times s (λ v. 1) (coordinate_form s) 3 (takes-coordinate s) at h a.0 i a.1).1

  pub no_end : {r : Option ℕ} {i : ℕ} → r ≡ place_answer (times 3 (coordinate_form s) at) → r ≡ Some i
      → stands s i (bytes "]\n") ≡ false → None ≡ place_answer (point_form s at)
  unfolding point_form
  no_end {r} {i} er ei es = rw ((place_at (times 3 (coordinate_form s) at) (sym er ∙ ei)).1, literal-none s (bytes "]\n") i es)

  pub whole : (xs : List Float) (n : ℕ) {r : Option ℕ} {i : ℕ} {ys : List Float} → r ≡ place_answer (times 3 (coordinate_form s) at) → r ≡ Some i
      → OnSome r (ys ≡ stored (map float) xs n (times 3 (coordinate_form s) at)) → stands s i (bytes "]\n") ≡ true
      → (Some (i + 2) ≡ place_answer (point_form s at)) × (ys ≡ stored (map float) xs n (point_form s at))
  unfolding point_form
  whole xs n {r} {i} {ys} er ei el es =
      let a = place_at (times 3 (coordinate_form s) at) (sym er ∙ ei) in
      (rw (a.1, literal-found s (bytes "]\n") i es), rw (a.1, literal-found s (bytes "]\n") i es) (rw (ei, a.1) at el))
