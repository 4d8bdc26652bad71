-- One turn of a loop over the lines of a kind: k lines are read and stored, the next one is to stand at i. The head of a line is
-- h bytes long, and a line takes at least c bytes after it. Assumes nothing.
--     Progress              where the loop stands
--     Table                 what is stored in one table: w elements a row
use mathlib.Core.Path.{◌≡◌, refl, sym, ap, ◌∙◌, subst}
use mathlib.Core.List.{List}
use mathlib.Core.Bool.{true, false}
use Prim.Native.Nat.{ℕ, suc, ◌+◌, ◌-◌, ◌*◌, ◌≤◌}
use native.Mathlib.Nat.{add-zero, suc-mul}
use native.Mathlib.Numerals.{add-one}
use native.Mathlib.Omega.{arith}
use lib.ListN.{length}
use lib.Seq.{sets}
use Rattle.std.specs.Prelude.{Option, Some, None, OnSome}
use Rattle.text_numbers.specs.Form.{parsed, Form, many, stands}
use Rattle.text_numbers.proofs.Laws.{Takes, solid, stands-inside}
use Rattle.text_numbers.proofs.Turns.{many-found, many-none, many-stop}
use Rattle.mesh_lines.specs.Grammar.{flat}
use Rattle.mesh_lines.specs.Parts.{place_answer, run_answer, stored}
use Rattle.mesh_lines.proofs.Answers.{place_at, place_none, run_from, run-next, run-start, stored_next}
use Rattle.listings.specs.Printing.{ListedRow}

module _ (s t : List ℕ) (p : Form ListedRow) (c at : ℕ) where
  pub record Progress (i k : ℕ) : Type 0 where
    pub inside : i ≤ length s
    pub counted : k ≤ i
    pub far : k * c ≤ i
    pub run : run_from length k (many s t p (length s - k) i) ≡ run_answer length (many s t p (length s) at)

  pub record Table {B : Type 0} (G : ListedRow → List B) (w : ℕ) (xs₀ xs : List B) (i k : ℕ) : Type 0 where
    pub list : stored (flat G) xs (k * w) (many s t p (length s - k) i) ≡ stored (flat G) xs₀ 0 (many s t p (length s) at)

  pub start : at ≤ length s → Progress at 0
  start h =
      let e : length s - 0 ≡ length s = omega arith in
      let z : 0 * c ≡ 0 = omega arith in
      record { inside = h; counted = omega arith; far = rw z (omega arith); run = rw e (run-start length (many s t p (length s) at)) }

  pub table-start : {B : Type 0} (G : ListedRow → List B) (w : ℕ) (xs₀ : List B) → Table G w xs₀ xs₀ at 0
  table-start G w xs₀ =
      let e : length s - 0 ≡ length s = omega arith in
      let z : 0 * w ≡ 0 = omega arith in
      record { list = rw (e, z) refl }

  module _ {i k : ℕ} (e : stands s i t ≡ false) where
    pub end : Progress i k → Some (k, i) ≡ run_answer length (many s t p (length s) at)
    end inv = ap (λ v. Some (v, i)) (sym (add-zero k)) ∙ (rw (many-stop s t p i (length s - k) e) at inv.run)

    pub table-end : {B : Type 0} (G : ListedRow → List B) (w : ℕ) {xs₀ xs : List B} → Table G w xs₀ xs i k → xs ≡ stored (flat G) xs₀ 0 (many s t p (length s) at)
    unfolding flat
    table-end G w inv = rw (many-stop s t p i (length s - k) e) at inv.list

  module _ (sol : solid t ≡ true) (long : 1 ≤ length t) {i k : ℕ} (inv : Progress i k) (e : stands s i t ≡ true) where
    pub head-inside : i + length t ≤ length s
    head-inside = stands-inside s t i sol inv.inside e

    fuel : length s - k ≡ suc (length s - (k + 1))
    fuel = let h = head-inside in let q = inv.counted in omega arith

    pub stop : {r : Option ℕ} → r ≡ place_answer (p (i + length t)) → r ≡ None → None ≡ run_answer length (many s t p (length s) at)
    stop {r} er en = rw (fuel, many-none s t p i (length s - (k + 1)) e (place_none (p (i + length t)) (sym er ∙ en))) at inv.run

    module _ {r : Option ℕ} {j : ℕ} (er : r ≡ place_answer (p (i + length t))) (ej : r ≡ Some j) where
      line : (a : ListedRow) × (p (i + length t) ≡ parsed a j)
      line = place_at (p (i + length t)) (sym er ∙ ej)

      pub line-longer : Takes s 0 (λ a. c) p → (i + length t + c ≤ j) × (j ≤ length s)
      line-longer tk = let q = tk (i + length t) head-inside line.0 j line.1 in (omega arith, q.1)

      pub turn : Takes s 0 (λ a. c) p → Progress j (k + 1)
      turn tk =
          let (lo, hi) = line-longer tk in
          let q = inv.counted in
          let g = inv.far in
          let m : (k + 1) * c ≡ k * c + c = ap (λ v. v * c) (add-one k) ∙ suc-mul k c in
          let rest = many s t p (length s - (k + 1)) j in
          record {
            inside = hi;
            counted = omega arith;
            far = omega arith;
            run =
                sym (run-next length k 1 line.0 rest (λ l. omega arith))
                ∙ (rw (fuel, many-found s t p i (length s - (k + 1)) e line.1) at inv.run);
          }

      pub table-turn : {B : Type 0} (G : ListedRow → List B) (w : ℕ) → ((a : ListedRow) (n : ℕ) → p (i + length t) ≡ parsed a n → length (G a) ≡ w)
          → {xs₀ xs ys : List B} → Table G w xs₀ xs i k → OnSome r (ys ≡ stored G xs (k * w) (p (i + length t))) → Table G w xs₀ ys j (k + 1)
      unfolding flat
      table-turn {B} G w lw {xs₀} {xs} {ys} tb el =
          let a = line.0 in
          let rest = many s t p (length s - (k + 1)) j in
          let ey : ys ≡ sets xs (k * w) (G a) = rw (ej, line.1) at el in
          let m : (k + 1) * w ≡ k * w + w = ap (λ v. v * w) (add-one k) ∙ suc-mul k w in
          let lg : length (G a) ≡ w = lw a j line.1 in
          let en : (k + 1) * w ≡ k * w + length (G a) = m ∙ ap (λ v. k * w + v) (sym lg) in
          record {
            list =
                ap (λ (v : List B). stored (flat G) v ((k + 1) * w) rest) ey
                ∙ ap (λ (q : ℕ). stored (flat G) (sets xs (k * w) (G a)) q rest) en
                ∙ sym (stored_next (flat G) G xs (k * w) a rest (λ l. refl))
                ∙ (rw (fuel, many-found s t p i (length s - (k + 1)) e line.1) at tb.list);
          }

      -- the same for one element a row
      pub table-turn-one : {B : Type 0} (G : ListedRow → List B) → ((a : ListedRow) (n : ℕ) → p (i + length t) ≡ parsed a n → length (G a) ≡ 1)
          → {xs₀ xs ys : List B} → Table G 1 xs₀ xs i k → OnSome r (ys ≡ stored G xs k (p (i + length t))) → Table G 1 xs₀ ys j (k + 1)
      table-turn-one {B} G lw {xs₀} {xs} {ys} tb el =
          let one : k ≡ k * 1 = omega arith in
          table-turn G 1 lw tb (subst (λ (q : ℕ). OnSome r (ys ≡ stored G xs q (p (i + length t)))) one el)
