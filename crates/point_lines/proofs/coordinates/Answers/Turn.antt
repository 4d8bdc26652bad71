-- One turn of the reading of w coordinates: k are read and stored from n on, the next one is to stand at i.
use mathlib.Core.List.{List, [], ◌∷◌, map}
use mathlib.Core.Path.{◌≡◌, refl, sym, ap, ◌∙◌}
use Prim.Native.Nat.{ℕ, suc, ◌+◌, ◌-◌, ◌≤◌, ◌<◌}
use native.Mathlib.Nat.{add-zero}
use native.Mathlib.Omega.{arith}
use lib.ListN.{length, set, length-set}
use lib.Ieee.{Float}
use Rattle.std.specs.Prelude.{Some, None}
use Rattle.text_numbers.specs.Form.{Parsed, parsed, unparsed, times}
use Rattle.mesh_lines.specs.Grammar.{coordinate_form}
use Rattle.text_numbers.specs.Numbers.{float}
use Rattle.mesh_lines.specs.Parts.{place_answer, stored}
use Rattle.mesh_lines.proofs.Laws.{takes-coordinate}
use Rattle.text_numbers.proofs.Turns.{times-found, times_none}
use Rattle.mesh_lines.proofs.Answers.{place-next, stored_next}

pub record Coordinates (s : List ℕ) (at : ℕ) (xs₀ : List Float) (n w : ℕ) (xs : List Float) (i k : ℕ) : Type 0 where
  pub far : at + k ≤ i
  pub inside : i ≤ length s
  pub same : length xs ≡ length xs₀
  pub place : place_answer (times (w - k) (coordinate_form s) i) ≡ place_answer (times w (coordinate_form s) at)
  pub list : stored (map float) xs (n + k) (times (w - k) (coordinate_form s) i) ≡ stored (map float) xs₀ n (times w (coordinate_form s) at)

pub start : (s : List ℕ) (at : ℕ) (xs₀ : List Float) (n w : ℕ) → at ≤ length s → Coordinates s at xs₀ n w xs₀ at 0
start s at xs₀ n w h =
    let e : w - 0 ≡ w = omega arith in
    record { far = omega arith; inside = h; same = refl; place = rw e refl; list = rw (e, add-zero) refl }

module _ (s : List ℕ) (at : ℕ) (xs₀ : List Float) (n w : ℕ) (xs : List Float) (i k : ℕ) (inv : Coordinates s at xs₀ n w xs i k) where
  pub turn : k < w → at ≤ length s → {b j : ℕ} → coordinate_form s i ≡ parsed b j → {x : Float} → x ≡ float b → {ys : List Float} → ys ≡ set xs (n + k) x
      → Coordinates s at xs₀ n w ys j (k + 1)
  turn hk h {b} {j} e {x} ex {ys} ey =
      let f : w - k ≡ suc (w - (k + 1)) = omega arith in
      let t = times-found (coordinate_form s) i (w - (k + 1)) e in
      let l : n + (k + 1) ≡ n + k + 1 = omega arith in
      let rest : Parsed (List ℕ) = times (w - (k + 1)) (coordinate_form s) j in
      record {
        far = let t = takes-coordinate s i inv.inside b j e in let g = inv.far in omega arith;
        inside = (takes-coordinate s i inv.inside b j e).1;
        same = ap length ey ∙ length-set xs (n + k) x ∙ inv.same;
        place = sym (place-next b rest) ∙ (rw (f, t) at inv.place);
        list =
            ap (λ (v : List Float). stored (map float) v (n + (k + 1)) rest) (ey ∙ ap (set xs (n + k)) ex)
            ∙ ap (λ (m : ℕ). stored (map float) (set xs (n + k) (float b)) m rest) l
            ∙ sym (stored_next (map float) (λ (v : ℕ). float v ∷ []) xs (n + k) b rest (λ v. refl))
            ∙ (rw (f, t) at inv.list);
      }

  pub stop : k < w → coordinate_form s i ≡ unparsed → None ≡ place_answer (times w (coordinate_form s) at)
  stop hk e =
      let f : w - k ≡ suc (w - (k + 1)) = omega arith in
      rw (f, times_none (coordinate_form s) i (w - (k + 1)) e) at inv.place

  pub end : w ≤ k → (Some i ≡ place_answer (times w (coordinate_form s) at)) × (xs ≡ stored (map float) xs₀ n (times w (coordinate_form s) at))
  unfolding times
  end hk =
      let f : w - k ≡ 0 = omega arith in
      (rw f at inv.place, rw f at inv.list)
