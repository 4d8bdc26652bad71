-- One turn of the reading of the face lines: k are read, with c listed points; the next one is to stand at i.
use mathlib.Core.List.{List, ◌∷◌, ◌++◌, map}
use mathlib.Core.Path.{◌≡◌, refl, sym, ap, ◌∙◌}
use mathlib.Core.Bool.{true, false}
use Prim.Native.Nat.{ℕ, suc, ◌+◌, ◌-◌, ◌*◌, ◌≤◌}
use native.Mathlib.Nat.{add-zero, zero-add}
use native.Mathlib.Omega.{arith}
use lib.ListN.{length, length-map, length-append}
use lib.Seq.{sets, length-sets}
use lib.Ieee.{Float}
use Rattle.std.specs.Prelude.{Option, Some, None, OnSome}
use Rattle.text_numbers.specs.Form.{bytes, Parsed, parsed, unparsed, if_parsed, Form, onward, pure, many, stands}
use Rattle.mesh_lines.specs.Grammar.{Side, face_form, flat, side_first, side_points, side_intervals}
use Rattle.mesh_lines.specs.Parts.{run_answer, lines_answer, stored, length_word, listed_in}
use Rattle.mesh_lines.specs.declared.Lines.{Lines}
use Rattle.mesh_lines.proofs.Laws.{takes-face, length-face, same_count}
use Rattle.text_numbers.proofs.Laws.{stands-inside}
use Rattle.text_numbers.proofs.Turns.{many-found, many-none, many-stop}
use Rattle.mesh_lines.proofs.Answers.{run_of, run_none, stored_next}

-- the face lines from a place on, at most k of them
abbrev pub faces_from : List ℕ → ℕ → Form (List (List Side))
faces_from s k = many s (bytes "[face") (face_form s) k

-- lines and listed points counted on from k and c
abbrev pub lines_from : ℕ → ℕ → Parsed (List (List Side)) → Option Lines
lines_from k c x = if_parsed (λ fs n. Some (record { faces = k + length fs; listed = c + length (flat (flat side_points) fs); after = n })) None x

lines_start : (x : Parsed (List (List Side))) → lines_from 0 0 x ≡ lines_answer x
lines_start (parsed fs n) = rw (zero-add (length fs), zero-add (length (flat (flat side_points) fs)))
lines_start unparsed = refl

lines_next : (k c : ℕ) (a : List Side) (x : Parsed (List (List Side))) → lines_from k c (onward (λ l. pure (a ∷ l)) x) ≡ lines_from (k + 1) (c + listed_in a) x
unfolding flat
lines_next k c a (parsed fs n) =
    let e : k + suc (length fs) ≡ k + 1 + length fs = omega arith in
    let l = length-append (flat side_points a) (flat (flat side_points) fs) in
    let g : c + length (flat side_points a ++ flat (flat side_points) fs) ≡ c + listed_in a + length (flat (flat side_points) fs) = omega arith in
    rw (e, g)
lines_next k c a unparsed = refl

pub record FacesSoFar (s : List ℕ) (at : ℕ) (ls₀ qs₀ ps₀ : List ℕ) (ds₀ : List Float) (ls qs ps : List ℕ) (ds : List Float) (i k c : ℕ) : Type 0 where
  pub inside : i ≤ length s
  pub counted : 5 * k ≤ i
  pub listed : c ≤ i
  pub same-lengths : length ls ≡ length ls₀
  pub same-firsts : length qs ≡ length qs₀
  pub same_points : length ps ≡ length ps₀
  pub same-intervals : length ds ≡ length ds₀
  pub lines : lines_from k c (faces_from s (length s - k) i) ≡ lines_answer (faces_from s (length s) at)
  pub lengths : stored (flat (map length_word)) ls (4 * k) (faces_from s (length s - k) i) ≡ stored (flat (map length_word)) ls₀ 0 (faces_from s (length s) at)
  pub firsts : stored (flat (map side_first)) qs (4 * k) (faces_from s (length s - k) i) ≡ stored (flat (map side_first)) qs₀ 0 (faces_from s (length s) at)
  pub points : stored (flat (flat side_points)) ps c (faces_from s (length s - k) i) ≡ stored (flat (flat side_points)) ps₀ 0 (faces_from s (length s) at)
  pub intervals : stored (flat (flat side_intervals)) ds c (faces_from s (length s - k) i) ≡ stored (flat (flat side_intervals)) ds₀ 0 (faces_from s (length s) at)

pub start : (s : List ℕ) (at : ℕ) (ls₀ qs₀ ps₀ : List ℕ) (ds₀ : List Float) → at ≤ length s → FacesSoFar s at ls₀ qs₀ ps₀ ds₀ ls₀ qs₀ ps₀ ds₀ at 0 0
start s at ls₀ qs₀ ps₀ ds₀ h =
    let e : length s - 0 ≡ length s = omega arith in
    record {
      inside = h;
      counted = omega arith;
      listed = omega arith;
      same-lengths = refl;
      same-firsts = refl;
      same_points = refl;
      same-intervals = refl;
      lines = rw e (lines_start (faces_from s (length s) at));
      lengths = rw e refl;
      firsts = rw e refl;
      points = rw e refl;
      intervals = rw e refl;
    }

module _ (s : List ℕ) (at : ℕ) (ls₀ qs₀ ps₀ : List ℕ) (ds₀ : List Float) (ls qs ps : List ℕ) (ds : List Float) (i k c : ℕ)
    (inv : FacesSoFar s at ls₀ qs₀ ps₀ ds₀ ls qs ps ds i k c) where
  pub end : stands s i (bytes "[face") ≡ false
      → (Some (record { faces = k; listed = c; after = i }) ≡ lines_answer (faces_from s (length s) at))
      × ((ls ≡ stored (flat (map length_word)) ls₀ 0 (faces_from s (length s) at))
      × ((qs ≡ stored (flat (map side_first)) qs₀ 0 (faces_from s (length s) at))
      × ((ps ≡ stored (flat (flat side_points)) ps₀ 0 (faces_from s (length s) at)) × (ds ≡ stored (flat (flat side_intervals)) ds₀ 0 (faces_from s (length s) at)))))
  unfolding flat
  end e =
      let m = many-stop s (bytes "[face") (face_form s) i (length s - k) e in
      (rw (add-zero k, add-zero c) at (rw m at inv.lines), (rw m at inv.lengths, (rw m at inv.firsts, (rw m at inv.points, rw m at inv.intervals))))

  module _ (e : stands s i (bytes "[face") ≡ true) where
    pub head-inside : i + 5 ≤ length s
    head-inside = stands-inside s (bytes "[face") i refl inv.inside e

    fuel : length s - k ≡ suc (length s - (k + 1))
    fuel = let h = head-inside in let n = inv.counted in omega arith

    pub stop : {r : Option (ℕ × ℕ)} → r ≡ run_answer listed_in (face_form s (i + 5)) → r ≡ None → None ≡ lines_answer (faces_from s (length s) at)
    stop er en =
        rw (fuel, many-none s (bytes "[face") (face_form s) i (length s - (k + 1)) e (run_none listed_in (face_form s (i + 5)) (sym er ∙ en))) at inv.lines

    module _ {r : Option (ℕ × ℕ)} {m j : ℕ} (er : r ≡ run_answer listed_in (face_form s (i + 5))) (em : r ≡ Some (m, j)) where
      line : (a : List Side) × (face_form s (i + 5) ≡ parsed a j) × (listed_in a ≡ m)
      line = run_of listed_in (face_form s (i + 5)) (sym er ∙ em)

      pub line-longer : (i + 5 + m ≤ j) × (j ≤ length s)
      line-longer =
          let (a, ea, la) = line in
          let t = takes-face s (i + 5) head-inside a j ea in
          omega arith

      pub turn : {ls' qs' ps' : List ℕ} {ds' : List Float}
          → OnSome r (ls' ≡ stored (map length_word) ls (4 * k) (face_form s (i + 5)))
          → OnSome r (qs' ≡ stored (map side_first) qs (4 * k) (face_form s (i + 5)))
          → OnSome r (ps' ≡ stored (flat side_points) ps c (face_form s (i + 5)))
          → OnSome r (ds' ≡ stored (flat side_intervals) ds c (face_form s (i + 5)))
          → FacesSoFar s at ls₀ qs₀ ps₀ ds₀ ls' qs' ps' ds' j (k + 1) (c + m)
      unfolding flat
      turn {ls'} {qs'} {ps'} {ds'} el eq ep ed =
          let a = line.0 in
          let ea = line.1 in
          let la = line.2 in
          let rest = faces_from s (length s - (k + 1)) j in
          let t = many-found s (bytes "[face") (face_form s) i (length s - (k + 1)) e ea in
          let lo = line-longer in
          let n = inv.counted in
          let co = inv.listed in
          let el' : ls' ≡ sets ls (4 * k) (map length_word a) = rw (em, ea) at el in
          let eq' : qs' ≡ sets qs (4 * k) (map side_first a) = rw (em, ea) at eq in
          let ep' : ps' ≡ sets ps c (flat side_points a) = rw (em, ea) at ep in
          let ed' : ds' ≡ sets ds c (flat side_intervals a) = rw (em, ea) at ed in
          let l4 : length (map length_word a) ≡ 4 = length-map a length_word ∙ length-face s (i + 5) a j ea in
          let q4 : length (map side_first a) ≡ 4 = length-map a side_first ∙ length-face s (i + 5) a j ea in
          let nq : 4 * (k + 1) ≡ 4 * k + length (map side_first a) = omega arith in
          let nl : 4 * (k + 1) ≡ 4 * k + length (map length_word a) = omega arith in
          let np : c + m ≡ c + length (flat side_points a) = ap (λ (v : ℕ). c + v) (sym la) in
          let nd : c + m ≡ c + length (flat side_intervals a) = ap (λ (v : ℕ). c + v) (sym la ∙ same_count a) in
          record {
            inside = lo.1;
            counted = omega arith;
            listed = omega arith;
            same-lengths = ap length el' ∙ length-sets ls (4 * k) (map length_word a) ∙ inv.same-lengths;
            same-firsts = ap length eq' ∙ length-sets qs (4 * k) (map side_first a) ∙ inv.same-firsts;
            same_points = ap length ep' ∙ length-sets ps c (flat side_points a) ∙ inv.same_points;
            same-intervals = ap length ed' ∙ length-sets ds c (flat side_intervals a) ∙ inv.same-intervals;
            lines = ap (λ (v : ℕ). lines_from (k + 1) (c + v) rest) (sym la) ∙ sym (lines_next k c a rest) ∙ (rw (fuel, t) at inv.lines);
            lengths =
                ap (λ (v : List ℕ). stored (flat (map length_word)) v (4 * (k + 1)) rest) el'
                ∙ ap (λ (v : ℕ). stored (flat (map length_word)) (sets ls (4 * k) (map length_word a)) v rest) nl
                ∙ sym (stored_next (flat (map length_word)) (map length_word) ls (4 * k) a rest (λ l. refl))
                ∙ (rw (fuel, t) at inv.lengths);
            firsts =
                ap (λ (v : List ℕ). stored (flat (map side_first)) v (4 * (k + 1)) rest) eq'
                ∙ ap (λ (v : ℕ). stored (flat (map side_first)) (sets qs (4 * k) (map side_first a)) v rest) nq
                ∙ sym (stored_next (flat (map side_first)) (map side_first) qs (4 * k) a rest (λ l. refl))
                ∙ (rw (fuel, t) at inv.firsts);
            points =
                ap (λ (v : List ℕ). stored (flat (flat side_points)) v (c + m) rest) ep'
                ∙ ap (λ (v : ℕ). stored (flat (flat side_points)) (sets ps c (flat side_points a)) v rest) np
                ∙ sym (stored_next (flat (flat side_points)) (flat side_points) ps c a rest (λ l. refl))
                ∙ (rw (fuel, t) at inv.points);
            intervals =
                ap (λ (v : List Float). stored (flat (flat side_intervals)) v (c + m) rest) ed'
                ∙ ap (λ (v : ℕ). stored (flat (flat side_intervals)) (sets ds c (flat side_intervals a)) v rest) nd
                ∙ sym (stored_next (flat (flat side_intervals)) (flat side_intervals) ds c a rest (λ l. refl))
                ∙ (rw (fuel, t) at inv.intervals);
          }
