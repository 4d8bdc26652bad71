-- One turn of the reading of a side's listed points: k are read and stored from n on, the next one is to stand at i.
use mathlib.Core.List.{List, [], ◌∷◌}
use mathlib.Core.Path.{◌≡◌, refl, sym, ap, ◌∙◌}
use mathlib.Core.Bool.{true, false}
use Prim.Native.Nat.{ℕ, suc, ◌+◌, ◌-◌, ◌≤◌}
use native.Mathlib.Nat.{add-zero}
use native.Mathlib.Omega.{arith}
use lib.ListN.{length, set, length-set}
use lib.Ieee.{Float}
use Rattle.std.specs.Prelude.{Some, None}
use Rattle.text_numbers.specs.Form.{bytes, parsed, unparsed, Form, many, stands}
use Rattle.mesh_lines.specs.Grammar.{Listed, listed_form, points_in, intervals_in}
use Rattle.text_numbers.specs.Numbers.{float}
use Rattle.mesh_lines.specs.Parts.{run_answer, stored}
use Rattle.mesh_lines.proofs.Laws.{takes-listed}
use Rattle.text_numbers.proofs.Laws.{stands-inside}
use Rattle.text_numbers.proofs.Turns.{many-found, many-none, many-stop}
use Rattle.mesh_lines.proofs.Answers.{run_from, run-next, run-start, stored_next}

-- the listed points from a place on, at most k of them
abbrev pub listed_from : List ℕ → ℕ → Form (List Listed)
listed_from s k = many s (bytes " [") (listed_form s) k

pub record ListedSoFar (s : List ℕ) (at : ℕ) (ps₀ : List ℕ) (ds₀ : List Float) (n : ℕ) (ps : List ℕ) (ds : List Float) (i k : ℕ) : Type 0 where
  pub inside : i ≤ length s
  pub counted : n + k ≤ i
  pub same_points : length ps ≡ length ps₀
  pub same-intervals : length ds ≡ length ds₀
  pub run : run_from length k (listed_from s (length s - k) i) ≡ run_answer length (listed_from s (length s) at)
  pub points : stored points_in ps (n + k) (listed_from s (length s - k) i) ≡ stored points_in ps₀ n (listed_from s (length s) at)
  pub intervals : stored intervals_in ds (n + k) (listed_from s (length s - k) i) ≡ stored intervals_in ds₀ n (listed_from s (length s) at)

pub start : (s : List ℕ) (at : ℕ) (ps₀ : List ℕ) (ds₀ : List Float) (n : ℕ) → at ≤ length s → n ≤ at → ListedSoFar s at ps₀ ds₀ n ps₀ ds₀ at 0
start s at ps₀ ds₀ n h hn =
    let e : length s - 0 ≡ length s = omega arith in
    record {
      inside = h;
      counted = omega arith;
      same_points = refl;
      same-intervals = refl;
      run = rw e (run-start length (listed_from s (length s) at));
      points = rw (e, add-zero) refl;
      intervals = rw (e, add-zero) refl;
    }

module _ (s : List ℕ) (at : ℕ) (ps₀ : List ℕ) (ds₀ : List Float) (n : ℕ) (ps : List ℕ) (ds : List Float) (i k : ℕ)
    (inv : ListedSoFar s at ps₀ ds₀ n ps ds i k) where
  pub end : stands s i (bytes " [") ≡ false
      → (Some (k, i) ≡ run_answer length (listed_from s (length s) at))
      × ((ps ≡ stored points_in ps₀ n (listed_from s (length s) at)) × (ds ≡ stored intervals_in ds₀ n (listed_from s (length s) at)))
  end e =
      let m = many-stop s (bytes " [") (listed_form s) i (length s - k) e in
      (ap (λ c. Some (c, i)) (sym (add-zero k)) ∙ (rw m at inv.run), (rw m at inv.points, rw m at inv.intervals))

  module _ (e : stands s i (bytes " [") ≡ true) where
    pub head-inside : i + 2 ≤ length s
    head-inside = stands-inside s (bytes " [") i refl inv.inside e

    fuel : length s - k ≡ suc (length s - (k + 1))
    fuel = let h = head-inside in let c = inv.counted in omega arith

    pub stop : listed_form s (i + 2) ≡ unparsed → None ≡ run_answer length (listed_from s (length s) at)
    stop en = rw (fuel, many-none s (bytes " [") (listed_form s) i (length s - (k + 1)) e en) at inv.run

    module _ {p d j : ℕ} (el : listed_form s (i + 2) ≡ parsed (record { point = p; interval = d }) j) where
      pub listed-longer : (i + 2 ≤ j) × (j ≤ length s)
      listed-longer = let t = takes-listed s (i + 2) head-inside _ j el in omega arith

      pub turn : {ps' : List ℕ} → ps' ≡ set ps (n + k) p → {x : Float} → x ≡ float d → {ds' : List Float} → ds' ≡ set ds (n + k) x
          → ListedSoFar s at ps₀ ds₀ n ps' ds' j (k + 1)
      turn {ps'} ep {x} ex {ds'} ed =
          let a : Listed = record { point = p; interval = d } in
          let rest = listed_from s (length s - (k + 1)) j in
          let t = many-found s (bytes " [") (listed_form s) i (length s - (k + 1)) e el in
          let lo = listed-longer in
          let c = inv.counted in
          let en : n + (k + 1) ≡ n + k + 1 = omega arith in
          record {
            inside = lo.1;
            counted = omega arith;
            same_points = ap length ep ∙ length-set ps (n + k) p ∙ inv.same_points;
            same-intervals = ap length ed ∙ length-set ds (n + k) x ∙ inv.same-intervals;
            run = sym (run-next length k 1 a rest (λ l. omega arith)) ∙ (rw (fuel, t) at inv.run);
            points =
                ap (λ (v : List ℕ). stored points_in v (n + (k + 1)) rest) ep
                ∙ ap (λ (m : ℕ). stored points_in (set ps (n + k) p) m rest) en
                ∙ sym (stored_next points_in (λ (b : Listed). b.point ∷ []) ps (n + k) a rest (λ l. refl))
                ∙ (rw (fuel, t) at inv.points);
            intervals =
                ap (λ (v : List Float). stored intervals_in v (n + (k + 1)) rest) (ed ∙ ap (set ds (n + k)) ex)
                ∙ ap (λ (m : ℕ). stored intervals_in (set ds (n + k) (float d)) m rest) en
                ∙ sym (stored_next intervals_in (λ (b : Listed). float b.interval ∷ []) ds (n + k) a rest (λ l. refl))
                ∙ (rw (fuel, t) at inv.intervals);
          }
