-- One turn of the reading of w words: k are read and stored from n on, the last of them is v, the next one is to stand at i.
use mathlib.Core.List.{List, [], ◌∷◌}
use mathlib.Core.Path.{◌≡◌, refl, sym, ap, ◌∙◌}
use Prim.Native.Nat.{ℕ, suc, ◌+◌, ◌-◌, ◌≤◌, ◌<◌}
use native.Mathlib.Nat.{add-zero}
use native.Mathlib.Omega.{arith}
use lib.ListN.{length, set, length-set}
use Rattle.std.specs.Prelude.{Some, None}
use Rattle.text_numbers.specs.Form.{Parsed, parsed, unparsed, times}
use Rattle.text_numbers.proofs.Turns.{times-found, times_none}
use Rattle.mesh_lines.specs.Parts.{stored}
use Rattle.mesh_lines.proofs.Answers.{stored_next}
use Rattle.listings.specs.Grammar.{word_form}
use Rattle.listing_lines.specs.Parts.{last_word, same}
use Rattle.listing_lines.proofs.Laws.{takes-word, last-next}

pub record Words (s : List ℕ) (at : ℕ) (ws₀ : List ℕ) (n w : ℕ) (ws : List ℕ) (i k v : ℕ) : Type 0 where
  pub far : at + k ≤ i
  pub inside : i ≤ length s
  pub long : length ws ≡ length ws₀
  pub last : last_word v (times (w - k) (word_form s) i) ≡ last_word 0 (times w (word_form s) at)
  pub list : stored same ws (n + k) (times (w - k) (word_form s) i) ≡ stored same ws₀ n (times w (word_form s) at)

pub start : (s : List ℕ) (at : ℕ) (ws₀ : List ℕ) (n w : ℕ) → at ≤ length s → Words s at ws₀ n w ws₀ at 0 0
start s at ws₀ n w h =
    let e : w - 0 ≡ w = omega arith in
    record { far = omega arith; inside = h; long = refl; last = rw e refl; list = rw (e, add-zero) refl }

module _ (s : List ℕ) (at : ℕ) (ws₀ : List ℕ) (n w : ℕ) (ws : List ℕ) (i k v : ℕ) (inv : Words s at ws₀ n w ws i k v) where
  pub turn : k < w → {b j : ℕ} → word_form s i ≡ parsed b j → {ys : List ℕ} → ys ≡ set ws (n + k) b → Words s at ws₀ n w ys j (k + 1) b
  turn hk {b} {j} e {ys} ey =
      let f : w - k ≡ suc (w - (k + 1)) = omega arith in
      let t = times-found (word_form s) i (w - (k + 1)) e in
      let l : n + (k + 1) ≡ n + k + 1 = omega arith in
      let rest : Parsed (List ℕ) = times (w - (k + 1)) (word_form s) j in
      let tk = takes-word s i inv.inside b j e in
      let g = inv.far in
      record {
        far = omega arith;
        inside = tk.1;
        long = ap length ey ∙ length-set ws (n + k) b ∙ inv.long;
        last = sym (last-next v b rest) ∙ (rw (f, t) at inv.last);
        list =
            ap (λ (x : List ℕ). stored same x (n + (k + 1)) rest) ey
            ∙ ap (λ (m : ℕ). stored same (set ws (n + k) b) m rest) l
            ∙ sym (stored_next same (λ (x : ℕ). x ∷ []) ws (n + k) b rest (λ x. refl))
            ∙ (rw (f, t) at inv.list);
      }

  pub stop : k < w → word_form s i ≡ unparsed → None ≡ last_word 0 (times w (word_form s) at)
  stop hk e =
      let f : w - k ≡ suc (w - (k + 1)) = omega arith in
      rw (f, times_none (word_form s) i (w - (k + 1)) e) at inv.last

  pub end : w ≤ k → (Some (v, i) ≡ last_word 0 (times w (word_form s) at)) × (ws ≡ stored same ws₀ n (times w (word_form s) at))
  unfolding times
  end hk =
      let f : w - k ≡ 0 = omega arith in
      (rw f at inv.last, rw f at inv.list)
