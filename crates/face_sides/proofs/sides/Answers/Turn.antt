-- One turn of the reading of four sides: k are read, with c listed points, their lengths and first points stored from f on, their points and intervals from n on;
-- the next one is to stand at i; `read` is what is found of it.
use mathlib.Core.List.{List, [], ◌∷◌, map}
use mathlib.Core.Path.{◌≡◌, refl, sym, ap, ◌∙◌}
use Prim.Native.Nat.{ℕ, suc, ◌+◌, ◌-◌, ◌%◌, ◌≤◌, ◌<◌}
use native.Mathlib.Nat.{add-zero}
use native.Mathlib.Omega.{arith}
use lib.ListN.{length, set, length-set, length-map, length-append}
use lib.Seq.{sets, length-sets}
use lib.Ieee.{Float}
use Rattle.std.specs.Prelude.{Option, Some, None, OnSome}
use Rattle.text_numbers.specs.Form.{parsed, times}
use Rattle.mesh_lines.specs.Grammar.{Side, side_form, flat, side_first, side_count, side_points, side_intervals}
use Rattle.mesh_lines.specs.Parts.{run_answer, side_answer, stored, length_word, listed_in}
use Rattle.mesh_lines.specs.declared.SideRead.{SideRead}
use Rattle.mesh_lines.proofs.Laws.{takes-side}
use Rattle.text_numbers.proofs.Turns.{times-found, times_none}
use Rattle.mesh_lines.proofs.Answers.{side-is, side-none, run_from, run-next, run-start, stored_next}

pub record SidesSoFar (s : List ℕ) (at : ℕ) (ls₀ qs₀ : List ℕ) (f : ℕ) (ps₀ : List ℕ) (ds₀ : List Float) (n : ℕ)
    (ls qs ps : List ℕ) (ds : List Float) (i c k : ℕ) : Type 0 where
  pub inside : i ≤ length s
  pub counted : n + c ≤ i
  pub same-lengths : length ls ≡ length ls₀
  pub same-firsts : length qs ≡ length qs₀
  pub same_points : length ps ≡ length ps₀
  pub same-intervals : length ds ≡ length ds₀
  pub run : run_from listed_in c (times (4 - k) (side_form s) i) ≡ run_answer listed_in (times 4 (side_form s) at)
  pub lengths : stored (map length_word) ls (f + k) (times (4 - k) (side_form s) i) ≡ stored (map length_word) ls₀ f (times 4 (side_form s) at)
  pub firsts : stored (map side_first) qs (f + k) (times (4 - k) (side_form s) i) ≡ stored (map side_first) qs₀ f (times 4 (side_form s) at)
  pub points : stored (flat side_points) ps (n + c) (times (4 - k) (side_form s) i) ≡ stored (flat side_points) ps₀ n (times 4 (side_form s) at)
  pub intervals : stored (flat side_intervals) ds (n + c) (times (4 - k) (side_form s) i) ≡ stored (flat side_intervals) ds₀ n (times 4 (side_form s) at)

pub start : (s : List ℕ) (at : ℕ) (ls₀ qs₀ : List ℕ) (f : ℕ) (ps₀ : List ℕ) (ds₀ : List Float) (n : ℕ) → at ≤ length s → n ≤ at
    → SidesSoFar s at ls₀ qs₀ f ps₀ ds₀ n ls₀ qs₀ ps₀ ds₀ at 0 0
start s at ls₀ qs₀ f ps₀ ds₀ n h hn =
    record {
      inside = h;
      counted = omega arith;
      same-lengths = refl;
      same-firsts = refl;
      same_points = refl;
      same-intervals = refl;
      run = run-start listed_in (times 4 (side_form s) at);
      lengths = rw add-zero refl;
      firsts = rw add-zero refl;
      points = rw add-zero refl;
      intervals = rw add-zero refl;
    }

module _ (s : List ℕ) (at : ℕ) (ls₀ qs₀ : List ℕ) (f : ℕ) (ps₀ : List ℕ) (ds₀ : List Float) (n : ℕ) (ls qs ps : List ℕ) (ds : List Float) (i c k : ℕ)
    (inv : SidesSoFar s at ls₀ qs₀ f ps₀ ds₀ n ls qs ps ds i c k) where
  pub end : 4 ≤ k
      → (Some (c, i) ≡ run_answer listed_in (times 4 (side_form s) at))
      × ((ls ≡ stored (map length_word) ls₀ f (times 4 (side_form s) at))
      × ((qs ≡ stored (map side_first) qs₀ f (times 4 (side_form s) at))
      × ((ps ≡ stored (flat side_points) ps₀ n (times 4 (side_form s) at)) × (ds ≡ stored (flat side_intervals) ds₀ n (times 4 (side_form s) at)))))
  unfolding times flat
  end hk =
      let e : 4 - k ≡ 0 = omega arith in (
        ap (λ v. Some (v, i)) (sym (add-zero c)) ∙ (rw e at inv.run),
        (rw e at inv.lengths, (rw e at inv.firsts, (rw e at inv.points, rw e at inv.intervals))),
      )

  module _ (hk : k < 4) where
    fuel : 4 - k ≡ suc (4 - (k + 1))
    fuel = omega arith

    pub stop : {r : Option SideRead} → r ≡ side_answer (side_form s i) → r ≡ None → None ≡ run_answer listed_in (times 4 (side_form s) at)
    stop er en = rw (fuel, times_none (side_form s) i (4 - (k + 1)) (side-none (side_form s i) (sym er ∙ en))) at inv.run

    module _ {r : Option SideRead} {read : SideRead} (er : r ≡ side_answer (side_form s i)) (em : r ≡ Some read) where
      found_side : (a : Side) × (side_form s i ≡ parsed a read.after) × (side_count a ≡ read.listed) × (a.first ≡ read.first)
      found_side = side-is (side_form s i) (sym er ∙ em)

      pub side-longer : (i + read.listed ≤ read.after) × (read.after ≤ length s)
      side-longer =
          let (a, ea, la, qa) = found_side in
          let t = takes-side s i inv.inside a read.after ea in
          omega arith

      pub turn : {ls' qs' ps' : List ℕ} {ds' : List Float} → ls' ≡ set ls (f + k) (read.listed % 4294967296) → qs' ≡ set qs (f + k) read.first
          → OnSome r (ps' ≡ stored side_points ps (n + c) (side_form s i)) → OnSome r (ds' ≡ stored side_intervals ds (n + c) (side_form s i))
          → SidesSoFar s at ls₀ qs₀ f ps₀ ds₀ n ls' qs' ps' ds' read.after (c + read.listed) (k + 1)
      unfolding flat
      turn {ls'} {qs'} {ps'} {ds'} el eq ep ed =
          let a = found_side.0 in
          let ea = found_side.1 in
          let la = found_side.2 in
          let rest = times (4 - (k + 1)) (side_form s) read.after in
          let t = times-found (side_form s) i (4 - (k + 1)) ea in
          let lo = side-longer in
          let co = inv.counted in
          let el' : ls' ≡ set ls (f + k) (length_word a) = el ∙ ap (λ (v : ℕ). set ls (f + k) (v % 4294967296)) (sym la) in
          let eq' : qs' ≡ set qs (f + k) (side_first a) = eq ∙ ap (λ (v : ℕ). set qs (f + k) v) (sym found_side.3) in
          let ep' : ps' ≡ sets ps (n + c) (side_points a) = rw (em, ea) at ep in
          let ed' : ds' ≡ sets ds (n + c) (side_intervals a) = rw (em, ea) at ed in
          let lp : length (side_points a) ≡ read.listed = length-map a.listed _ ∙ la in
          let ld : length (side_intervals a) ≡ read.listed = length-map a.listed _ ∙ la in
          let ek : f + (k + 1) ≡ f + k + 1 = omega arith in
          let np : n + (c + read.listed) ≡ n + c + length (side_points a) = omega arith in
          let nd : n + (c + read.listed) ≡ n + c + length (side_intervals a) = omega arith in
          record {
            inside = lo.1;
            counted = omega arith;
            same-lengths = ap length el ∙ length-set ls (f + k) (read.listed % 4294967296) ∙ inv.same-lengths;
            same-firsts = ap length eq ∙ length-set qs (f + k) read.first ∙ inv.same-firsts;
            same_points = ap length ep' ∙ length-sets ps (n + c) (side_points a) ∙ inv.same_points;
            same-intervals = ap length ed' ∙ length-sets ds (n + c) (side_intervals a) ∙ inv.same-intervals;
            run =
                sym (run-next listed_in c read.listed a rest (λ l. length-append (side_points a) (flat side_points l) ∙ ap (λ (v : ℕ). v + listed_in l) lp))
                ∙ (rw (fuel, t) at inv.run);
            lengths =
                ap (λ (v : List ℕ). stored (map length_word) v (f + (k + 1)) rest) el'
                ∙ ap (λ (v : ℕ). stored (map length_word) (set ls (f + k) (length_word a)) v rest) ek
                ∙ sym (stored_next (map length_word) (λ (b : Side). length_word b ∷ []) ls (f + k) a rest (λ l. refl))
                ∙ (rw (fuel, t) at inv.lengths);
            firsts =
                ap (λ (v : List ℕ). stored (map side_first) v (f + (k + 1)) rest) eq'
                ∙ ap (λ (v : ℕ). stored (map side_first) (set qs (f + k) (side_first a)) v rest) ek
                ∙ sym (stored_next (map side_first) (λ (b : Side). side_first b ∷ []) qs (f + k) a rest (λ l. refl))
                ∙ (rw (fuel, t) at inv.firsts);
            points =
                ap (λ (v : List ℕ). stored (flat side_points) v (n + (c + read.listed)) rest) ep'
                ∙ ap (λ (v : ℕ). stored (flat side_points) (sets ps (n + c) (side_points a)) v rest) np
                ∙ sym (stored_next (flat side_points) side_points ps (n + c) a rest (λ l. refl))
                ∙ (rw (fuel, t) at inv.points);
            intervals =
                ap (λ (v : List Float). stored (flat side_intervals) v (n + (c + read.listed)) rest) ed'
                ∙ ap (λ (v : ℕ). stored (flat side_intervals) (sets ds (n + c) (side_intervals a)) v rest) nd
                ∙ sym (stored_next (flat side_intervals) side_intervals ds (n + c) a rest (λ l. refl))
                ∙ (rw (fuel, t) at inv.intervals);
          }
