-- A side: its first point v ends at i; r is the answer for its listed points, which end at j, and ps' and ds' are the lists that they leave.
use mathlib.Core.List.{List}
use mathlib.Core.Path.{◌≡◌, refl, sym, ◌∙◌}
use mathlib.Core.Bool.{true, false}
use Prim.Native.Nat.{ℕ, ◌+◌, ◌≤◌}
use native.Mathlib.Omega.{arith}
use lib.ListN.{length}
use lib.Ieee.{Float}
use Rattle.std.specs.Prelude.{Option, Some, None, OnSome}
use Rattle.text_numbers.specs.Form.{bytes, Form, parsed, unparsed, many, stands}
use Rattle.mesh_lines.specs.Grammar.{Listed, listed_form, side_form, points_in, intervals_in, side_points, side_intervals}
use Rattle.text_numbers.specs.Numbers.{decimal}
use Rattle.mesh_lines.specs.Parts.{run_answer, side_answer, stored}
use Rattle.text_numbers.proofs.Laws.{takes-decimal, takes-many, stands-inside}
use Rattle.mesh_lines.proofs.Laws.{takes-listed}
use Rattle.text_numbers.proofs.Turns.{literal-found, literal-none}
use Rattle.mesh_lines.proofs.Answers.{run_of, run_none}

abbrev points : List ℕ → Form (List Listed)
points s = many s (bytes " [") (listed_form s) (length s)

module _ (s : List ℕ) (at : ℕ) where
  pub no_start : stands s at (bytes " [") ≡ false → None ≡ side_answer (side_form s at)
  unfolding side_form
  no_start e = rw (literal-none s (bytes " [") at e)

  pub no-first : stands s at (bytes " [") ≡ true → decimal s (at + 2) ≡ unparsed → None ≡ side_answer (side_form s at)
  unfolding side_form
  no-first e f = rw (literal-found s (bytes " [") at e, f)

  pub first-inside : at ≤ length s → {v i : ℕ} → stands s at (bytes " [") ≡ true → decimal s (at + 2) ≡ parsed v i → (at ≤ i) × (i ≤ length s)
  first-inside h {v} {i} e f = let t = takes-decimal s (at + 2) (stands-inside s (bytes " [") at refl h e) v i f in omega arith

  module _ {v i : ℕ} {r : Option (ℕ × ℕ)} where
    pub no-points : stands s at (bytes " [") ≡ true → decimal s (at + 2) ≡ parsed v i → r ≡ run_answer length
        (points s i) → r ≡ None → None ≡ side_answer (side_form s at)
    unfolding side_form
    no-points e f er en = rw (literal-found s (bytes " [") at e, f, run_none length (points s i) (sym er ∙ en))

    module _ {k j : ℕ} where
      pub points-inside : at ≤ length s → stands s at (bytes " [") ≡ true → decimal s (at + 2) ≡ parsed v i → r ≡ run_answer length (points s i) → r ≡ Some (k, j) → j ≤ length s
      points-inside h e f er ek =
          let a = run_of length (points s i) (sym er ∙ ek) in
          (takes-many s (bytes " [") (λ p. 0) (listed_form s) (length s) refl (takes-listed s) i (first-inside h e f).1 a.0 j a.1).1

      pub no_end : stands s at (bytes " [") ≡ true → decimal s (at + 2) ≡ parsed v i → r ≡ run_answer length (points s i) → r ≡ Some (k, j)
          → stands s j (bytes "]") ≡ false → None ≡ side_answer (side_form s at)
      unfolding side_form
      no_end e f er ek g =
          let a = run_of length (points s i) (sym er ∙ ek) in
          rw (literal-found s (bytes " [") at e, f, a.1, literal-none s (bytes "]") j g)

      pub whole : (ps : List ℕ) (ds : List Float) (n : ℕ) {ps' : List ℕ} {ds' : List Float} → stands s at (bytes " [")
          ≡ true → decimal s (at + 2) ≡ parsed v i → r ≡ run_answer length (points s i) → r ≡ Some (k, j) → OnSome r
          (ps' ≡ stored points_in ps n (points s i)) → OnSome r (ds' ≡ stored intervals_in ds n (points s i)) → stands s
          j (bytes "]") ≡ true →
          (Some (record { first = v; listed = k; after = j + 1 }) ≡ side_answer (side_form s at)) ×
          ((ps' ≡ stored side_points ps n (side_form s at)) × (ds' ≡ stored side_intervals ds n (side_form s at)))
      unfolding side_form
      whole ps ds n e f er ek ep ed g =
          let a = run_of length (points s i) (sym er ∙ ek) in
          let l1 = literal-found s (bytes " [") at e in
          let l2 = literal-found s (bytes "]") j g in
          (rw (l1, f, a.1, l2, a.2), (rw (l1, f, a.1, l2) (rw (ek, a.1) at ep), rw (l1, f, a.1, l2) (rw (ek, a.1) at ed)))
