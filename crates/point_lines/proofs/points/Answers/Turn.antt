-- One turn of the reading of the point lines: k are read and stored, the next one is to stand at i.
use mathlib.Core.List.{List, map}
use mathlib.Core.Path.{◌≡◌, refl, sym, ap, ◌∙◌}
use mathlib.Core.Bool.{true, false}
use Prim.Native.Nat.{ℕ, suc, ◌+◌, ◌-◌, ◌*◌, ◌≤◌}
use native.Mathlib.Nat.{add-zero}
use native.Mathlib.Omega.{arith}
use lib.ListN.{length, length-map}
use lib.Seq.{sets, length-sets}
use lib.Ieee.{Float}
use Rattle.std.specs.Prelude.{Option, Some, None, OnSome}
use Rattle.text_numbers.specs.Form.{bytes, parsed, Form, many, stands}
use Rattle.mesh_lines.specs.Grammar.{point_form, flat}
use Rattle.text_numbers.specs.Numbers.{float}
use Rattle.mesh_lines.specs.Parts.{place_answer, run_answer, stored}
use Rattle.mesh_lines.proofs.Laws.{takes-point, length-point}
use Rattle.text_numbers.proofs.Laws.{stands-inside}
use Rattle.text_numbers.proofs.Turns.{many-found, many-none, many-stop}
use Rattle.mesh_lines.proofs.Answers.{place_at, place_none, run_from, run-next, run-start, stored_next}

-- the point lines from i on, at most k of them
abbrev lines : List ℕ → ℕ → Form (List (List ℕ))
lines s k = many s (bytes "[point") (point_form s) k

pub record Points (s : List ℕ) (at : ℕ) (xs₀ : List Float) (xs : List Float) (i k : ℕ) : Type 0 where
  pub inside : i ≤ length s
  pub counted : 6 * k ≤ i
  pub same : length xs ≡ length xs₀
  pub run : run_from length k (many s (bytes "[point") (point_form s) (length s - k) i) ≡ run_answer length (many s (bytes "[point") (point_form s) (length s) at)
  pub list : stored (flat (map float)) xs (3 * k) (many s (bytes "[point") (point_form s) (length s - k) i)
      ≡ stored (flat (map float)) xs₀ 0 (many s (bytes "[point") (point_form s) (length s) at)

pub start : (s : List ℕ) (at : ℕ) (xs₀ : List Float) → at ≤ length s → Points s at xs₀ xs₀ at 0
start s at xs₀ h =
    let e : length s - 0 ≡ length s = omega arith in
    record { inside = h; counted = omega arith; same = refl; run = rw e (run-start length (lines s (length s) at)); list = rw e refl }

module _ (s : List ℕ) (at : ℕ) (xs₀ : List Float) (xs : List Float) (i k : ℕ) (inv : Points s at xs₀ xs i k) where
  pub end : stands s i (bytes "[point") ≡ false
      → (Some (k, i) ≡ run_answer length (lines s (length s) at)) × (xs ≡ stored (flat (map float)) xs₀ 0 (lines s (length s) at))
  unfolding flat
  end e =
      let m = many-stop s (bytes "[point") (point_form s) i (length s - k) e in
      (ap (λ c. Some (c, i)) (sym (add-zero k)) ∙ (rw m at inv.run), rw m at inv.list)

  module _ (e : stands s i (bytes "[point") ≡ true) where
    pub head-inside : i + 6 ≤ length s
    head-inside = stands-inside s (bytes "[point") i refl inv.inside e

    fuel : length s - k ≡ suc (length s - (k + 1))
    fuel = let h = head-inside in let c = inv.counted in omega arith

    pub stop : {r : Option ℕ} → r ≡ place_answer (point_form s (i + 6)) → r ≡ None → None ≡ run_answer length (lines s (length s) at)
    stop {r} er en =
        rw (fuel, many-none s (bytes "[point") (point_form s) i (length s - (k + 1)) e (place_none (point_form s (i + 6)) (sym er ∙ en))) at inv.run

    module _ {r : Option ℕ} {j : ℕ} (er : r ≡ place_answer (point_form s (i + 6))) (ej : r ≡ Some j) where
      line : (a : List ℕ) × (point_form s (i + 6) ≡ parsed a j)
      line = place_at (point_form s (i + 6)) (sym er ∙ ej)

      pub line-longer : (i + 6 ≤ j) × (j ≤ length s)
      line-longer = let t = takes-point s (i + 6) head-inside line.0 j line.1 in omega arith

      pub turn : {ys : List Float} → OnSome r (ys ≡ stored (map float) xs (3 * k) (point_form s (i + 6))) → Points s at xs₀ ys j (k + 1)
      unfolding flat
      turn {ys} el =
          let a = line.0 in
          let rest = lines s (length s - (k + 1)) j in
          let t = many-found s (bytes "[point") (point_form s) i (length s - (k + 1)) e line.1 in
          let ey : ys ≡ sets xs (3 * k) (map float a) = rw (ej, line.1) at el in
          let l3 : length (map float a) ≡ 3 = length-map a float ∙ length-point s (i + 6) a j line.1 in
          let en : 3 * (k + 1) ≡ 3 * k + length (map float a) = omega arith in
          let lo = line-longer in
          let c = inv.counted in
          record {
            inside = lo.1;
            counted = omega arith;
            same = ap length ey ∙ length-sets xs (3 * k) (map float a) ∙ inv.same;
            run = sym (run-next length k 1 a rest (λ l. omega arith)) ∙ (rw (fuel, t) at inv.run);
            list =
                ap (λ (v : List Float). stored (flat (map float)) v (3 * (k + 1)) rest) ey
                ∙ ap (λ (m : ℕ). stored (flat (map float)) (sets xs (3 * k) (map float a)) m rest) en
                ∙ sym (stored_next (flat (map float)) (map float) xs (3 * k) a rest (λ l. refl))
                ∙ (rw (fuel, t) at inv.list);
          }
