-- A form finds exactly what is printed: what it finds is the printing of a value that fits, and a printing of such a value is found.
-- Assumes nothing.
--     Exact s p pr Ok        p finds a value exactly where its printing pr stands and Ok holds of it
--     exact_word exact-coordinate exact-times          of the fields of a line
--     sound-many complete-many                         of lines
use mathlib.Core.Path.{◌≡◌, refl, sym, ap, ◌∙◌, subst}
use mathlib.Core.List.{List, [], ◌∷◌, ◌++◌}
use mathlib.Core.Bool.{Bool, true, false, ◌&&◌}
use Prim.Native.Nat.{ℕ, zero, suc, ◌+◌, ◌≤◌, ◌<◌}
use native.Mathlib.Nat.{add-zero}
use native.Mathlib.Omega.{arith}
use lib.ListN.{length, get_or, length-append}
use lib.Dec.{eqb}
use borrow.Author.Tests.{eqb-true}
use Rattle.text_numbers.specs.Form.{bytes, Parsed, parsed, unparsed, Form, onward, pure, choose, times, stands, literal, many}
use Rattle.text_numbers.specs.Numbers.{digit_value, bits, decimal}
use Rattle.text_numbers.proofs.Laws.{and_both, inside, onward-found, decimal-below}
use Rattle.text_numbers.proofs.Turns.{times-found, literal-found, many-found, many-stop}
use Rattle.mesh_lines.specs.Grammar.{coordinate_form, flat}
use Rattle.mesh_answers.specs.Lines.{decimal_bytes, decimal_digits, hex_bytes, number_field, bits_field}
use Rattle.mesh_answers.proofs.Laws.{length-hex}
use Rattle.mesh_answers.proofs.RoundTrip.{decimal-of-decimal_bytes, bits-of-hex_bytes}
use Rattle.listings.specs.Printing.{All}
use Rattle.listings.specs.Grammar.{word_form}
use Rattle.mesh_answers.proofs.Printed.{decimal_bytes-of-decimal, hex_bytes-of-bits}

and-true : (a b : Bool) → a ≡ true → b ≡ true → a && b ≡ true
and-true a b ea eb = rw (ea, eb)

-- one printing after another
pub stands-both : (s xs ys : List ℕ) (at : ℕ) → stands s at xs ≡ true → stands s (at + length xs) ys ≡ true → stands s at (xs ++ ys) ≡ true
unfolding stands
stands-both s [] ys at e f = rw (add-zero at) at f
stands-both s (b ∷ xs) ys at e f =
    let (g, h) = and_both (eqb (get_or s at 0) b) (stands s (at + 1) xs) e in
    let p : at + suc (length xs) ≡ at + 1 + length xs = omega arith in
    and-true (eqb (get_or s at 0) b) (stands s (at + 1) (xs ++ ys)) g (stands-both s xs ys (at + 1) h (rw p at f))

-- the same place by another name
pub stands_at : (s xs : List ℕ) {m k : ℕ} → m ≡ k → stands s m xs ≡ true → stands s k xs ≡ true
stands_at s xs e h = rw e at h

pub stands_parts : (s xs ys : List ℕ) (at : ℕ) → stands s at (xs ++ ys) ≡ true → (stands s at xs ≡ true) × (stands s (at + length xs) ys ≡ true)
unfolding stands
stands_parts s [] ys at e = (refl, rw (add-zero at) e)
stands_parts s (b ∷ xs) ys at e =
    let (g, h) = and_both (eqb (get_or s at 0) b) (stands s (at + 1) (xs ++ ys)) e in
    let (i, j) = stands_parts s xs ys (at + 1) h in
    let p : at + suc (length xs) ≡ at + 1 + length xs = omega arith in
    (and-true (eqb (get_or s at 0) b) (stands s (at + 1) xs) g i, rw p j)

-- no digit stands at a place
abbrev pub NoDigit : List ℕ → ℕ → Type 0
NoDigit s n = 10 ≤ digit_value (get_or s n 0)

-- what is found from a place on, up to the place n, is the printing of a value that fits
abbrev pub Prints : {A : Type 0} → List ℕ → (A → List ℕ) → (A → Type 0) → ℕ → ℕ → A → Type 0
Prints s pr Ok at n a = Ok a × (stands s at (pr a) ≡ true) × (n ≡ at + length (pr a))

-- the same value by another name
pub prints-same : {A : Type 0} (s : List ℕ) (pr : A → List ℕ) (Ok : A → Type 0) (at n : ℕ) (a b : A) → a ≡ b → Prints s pr Ok at n a → Prints s pr Ok at n b
prints-same s pr Ok at n a b e h = subst (λ q. Prints s pr Ok at n q) e h

pub record Exact {A : Type 0} (s : List ℕ) (p : Form A) (pr : A → List ℕ) (Ok : A → Type 0) : Type 0 where
  pub sound : (at : ℕ) (a : A) (n : ℕ) → p at ≡ parsed a n → Prints s pr Ok at n a
  pub complete : (at : ℕ) (a : A) → Ok a → stands s at (pr a) ≡ true → NoDigit s (at + length (pr a)) → p at ≡ parsed a (at + length (pr a))

-- a printing begins with a byte that is no digit
abbrev pub Leads : {A : Type 0} → List ℕ → (A → List ℕ) → Type 0
Leads {A} s pr = (at : ℕ) (a : A) → stands s at (pr a) ≡ true → NoDigit s at

-- nor does the printing of several, where no digit stands after it
pub leads-flat : {A : Type 0} (s : List ℕ) (pr : A → List ℕ) → Leads s pr → (n : ℕ) (l : List A) → stands s n (flat pr l) ≡ true
    → NoDigit s (n + length (flat pr l)) → NoDigit s n
unfolding flat
leads-flat s pr h n [] e g = rw (add-zero n) at g
leads-flat s pr h n (b ∷ l) e g = h n b (stands_parts s (pr b) (flat pr l) n e).0

module _ (s : List ℕ) where
  pub literal-stands : (t : List ℕ) (at : ℕ) (z : Unit {0}) (n : ℕ) → literal s t at ≡ parsed z n → (stands s at t ≡ true) × (n ≡ at + length t)
  unfolding literal
  literal-stands t at z n e = go (stands s at t) e
    where
      go : (b : Bool) → choose b (λ i. parsed tt (i + length t)) (λ i. unparsed) at ≡ parsed z n → (b ≡ true) × (n ≡ at + length t)
      go true g = (refl, cc)
      go false g = let y : ◌≡◌ {A = ℕ} 0 1 = cc in absurd (omega arith)

  -- a byte that stands
  pub first-stands : (at b : ℕ) (xs : List ℕ) → stands s at (b ∷ xs) ≡ true → (get_or s at 0 ≡ b) × (stands s (at + 1) xs ≡ true)
  unfolding stands
  first-stands at b xs e =
      let (g, h) = and_both (eqb (get_or s at 0) b) (stands s (at + 1) xs) e in
      (eqb-true (get_or s at 0) b g, h)

  -- a space leads
  space-leads : (at : ℕ) (xs : List ℕ) → stands s at (32 ∷ xs) ≡ true → NoDigit s at
  unfolding digit_value
  space-leads at xs e = rw (first-stands at 32 xs e).0 (omega arith)

  pub leads-word : Leads s number_field
  leads-word at v e = space-leads at (decimal_bytes v) e

  pub leads-coordinate : Leads s bits_field
  leads-coordinate at v e = space-leads at (hex_bytes 16 v) e

  pub exact_word : Exact s (word_form s) number_field (λ v. v < 4294967296)
  unfolding word_form
  exact_word = record { sound = sound; complete = complete }
    where
      sound : (at v n : ℕ) → word_form s at ≡ parsed v n → (v < 4294967296) × (stands s at (number_field v) ≡ true) × (n ≡ at + length (number_field v))
      sound at v n e =
          let (z, m, ez, ev) = onward-found (λ z. decimal s) (literal s (bytes " ") at) e in
          let (st, em) = literal-stands (bytes " ") at z m ez in
          let (sd, en) = decimal_bytes-of-decimal s m v n ev in
          (decimal-below s m v n ev, stands-both s (bytes " ") (decimal_bytes v) at st (rw em at sd), omega arith)

      complete : (at v : ℕ) → v < 4294967296 → stands s at (number_field v) ≡ true → NoDigit s (at + length (number_field v))
          → word_form s at ≡ parsed v (at + length (number_field v))
      complete at v h e g =
          let (st, sd) = stands_parts s (bytes " ") (decimal_bytes v) at e in
          let i = inside s at (rw (first-stands at 32 (decimal_bytes v) e).0 (omega arith)) in
          let en : at + suc (length (decimal_bytes v)) ≡ at + 1 + length (decimal_bytes v) = omega arith in
          let d = decimal-of-decimal_bytes s (at + 1) v (omega arith) h sd (rw en at g) in
          rw (literal-found s (bytes " ") at st) (d ∙ (rw en))

  pub exact-coordinate : Exact s (coordinate_form s) bits_field (λ v. v < 18446744073709551616)
  unfolding coordinate_form
  exact-coordinate = record { sound = sound; complete = complete }
    where
      sound : (at v n : ℕ) → coordinate_form s at ≡ parsed v n → (v < 18446744073709551616) × (stands s at (bits_field v) ≡ true) × (n ≡ at + length (bits_field v))
      sound at v n e =
          let (z, m, ez, ev) = onward-found (λ z. bits s) (literal s (bytes " ") at) e in
          let (st, em) = literal-stands (bytes " ") at z m ez in
          let (sd, en, below) = hex_bytes-of-bits s m v n ev in
          let l = length-hex 16 v in
          (below, stands-both s (bytes " ") (hex_bytes 16 v) at st (rw em at sd), omega arith)

      complete : (at v : ℕ) → v < 18446744073709551616 → stands s at (bits_field v) ≡ true → NoDigit s (at + length (bits_field v))
          → coordinate_form s at ≡ parsed v (at + length (bits_field v))
      complete at v h e g =
          let (st, sd) = stands_parts s (bytes " ") (hex_bytes 16 v) at e in
          let l = length-hex 16 v in
          let en : at + 1 + 16 ≡ at + suc (length (hex_bytes 16 v)) = omega arith in
          let d = bits-of-hex_bytes s (at + 1) v h sd in
          rw (literal-found s (bytes " ") at st) (d ∙ ap (parsed v) en)

  module _ {A : Type 0} (p : Form A) (pr : A → List ℕ) (Ok : A → Type 0) (x : Exact s p pr Ok) where
    times-sound : (k at : ℕ) (l : List A) (n : ℕ) → times k p at ≡ parsed l n
        → ((length l ≡ k) × All Ok l) × (stands s at (flat pr l) ≡ true) × (n ≡ at + length (flat pr l))
    unfolding times flat stands
    times-sound zero at l n e =
        let el : [] ≡ l = cc in
        let an : at ≡ n = cc in
        rw (← el) ((refl, tt), refl, omega arith)
    times-sound (suc k) at l n e =
        let (a, m, ep, ea) = onward-found _ (p at) e in
        let (l', m', et, el) = onward-found _ (times k p m) ea in
        let ll : a ∷ l' ≡ l = cc in
        let mn : m' ≡ n = cc in
        let (ok, sa, em) = x.sound at a m ep in
        let (oks, sl, en) = times-sound k m l' m' et in
        let lg = length-append (pr a) (flat pr l') in
        let all : ((length (a ∷ l') ≡ suc k) × All Ok (a ∷ l')) × (stands s at (flat pr (a ∷ l')) ≡ true) × (n ≡ at + length (flat pr (a ∷ l'))) =
        ((ap suc oks.0, (ok, oks.1)), stands-both s (pr a) (flat pr l') at sa (stands_at s (flat pr l') em sl), omega arith) in
        prints-same s (flat pr) (λ v. (length v ≡ suc k) × All Ok v) at n (a ∷ l') l ll all

    times-complete : Leads s pr → (k at : ℕ) (l : List A) → (length l ≡ k) × All Ok l → stands s at (flat pr l) ≡ true
        → NoDigit s (at + length (flat pr l)) → times k p at ≡ parsed l (at + length (flat pr l))
    unfolding times flat stands
    times-complete h zero at [] o e g = rw (add-zero at)
    times-complete h zero at (a ∷ l) o e g = absurd (let q = o.0 in omega arith)
    times-complete h (suc k) at [] o e g = absurd (let q = o.0 in omega arith)
    times-complete h (suc k) at (a ∷ l) o e g =
        let (sa, sl) = stands_parts s (pr a) (flat pr l) at e in
        let lg = length-append (pr a) (flat pr l) in
        let en : at + length (pr a ++ flat pr l) ≡ at + length (pr a) + length (flat pr l) = omega arith in
        let r = times-complete h k (at + length (pr a)) l (count o, o.1.1) sl (rw en at g) in
        let pa = x.complete at a o.1.0 sa (leads-flat s pr h (at + length (pr a)) l sl (rw en at g)) in
        times-found p at k pa ∙ (rw (r, en))
      where
        count : (length (a ∷ l) ≡ suc k) × All Ok (a ∷ l) → length l ≡ k
        count o = let q = o.0 in omega arith

    pub exact-times : Leads s pr → (k : ℕ) → Exact s (times k p) (flat pr) (λ l. (length l ≡ k) × All Ok l)
    exact-times h k = record { sound = times-sound k; complete = times-complete h k }

  module _ {A : Type 0} (t : List ℕ) (p : Form A) (pr : A → List ℕ) (Ok : A → Type 0) (x : Exact s p pr Ok) where
    pub sound-many : (k at : ℕ) (l : List A) (n : ℕ) → many s t p k at ≡ parsed l n
        → All Ok l × (stands s at (flat (λ a. t ++ pr a) l) ≡ true) × (n ≡ at + length (flat (λ a. t ++ pr a) l))
    unfolding many flat stands
    sound-many zero at l n e =
        let el : [] ≡ l = cc in
        let an : at ≡ n = cc in
        rw (← el) (tt, refl, omega arith)
    sound-many (suc k) at l n e = go (stands s at t) refl e (sound-many k)
      where
        go : (b : Bool) → stands s at t ≡ b
            → choose b (λ i. onward (λ z j. onward (λ a j'. onward (λ rest. pure (a ∷ rest)) (many s t p k j')) (p j)) (literal s t i)) (pure []) at ≡ parsed l n
            → ((at' : ℕ) (l' : List A) (n' : ℕ) → many s t p k at' ≡ parsed l' n'
            → All Ok l' × (stands s at' (flat (λ a. t ++ pr a) l') ≡ true) × (n' ≡ at' + length (flat (λ a. t ++ pr a) l')))
            → All Ok l × (stands s at (flat (λ a. t ++ pr a) l) ≡ true) × (n ≡ at + length (flat (λ a. t ++ pr a) l))
        go true eb g rec =
            let (z, m0, ez, e1) = onward-found _ (literal s t at) g in
            let (st, em0) = literal-stands t at z m0 ez in
            let (a, m, ep, ea) = onward-found _ (p m0) e1 in
            let (l', m', et, el) = onward-found _ (many s t p k m) ea in
            let ll : a ∷ l' ≡ l = cc in
            let mn : m' ≡ n = cc in
            let (ok, sa, em) = x.sound m0 a m ep in
            let (oks, sl, en) = rec m l' m' et in
            let la = length-append t (pr a) in
            let lg = length-append (t ++ pr a) (flat (λ a. t ++ pr a) l') in
            let line : stands s at (t ++ pr a) ≡ true = stands-both s t (pr a) at st (stands_at s (pr a) em0 sa) in
            let pm : m ≡ at + length (t ++ pr a) = omega arith in
            let all : All Ok (a ∷ l') × (stands s at (flat (λ a. t ++ pr a) (a ∷ l')) ≡ true) × (n ≡ at + length (flat (λ a. t ++ pr a) (a ∷ l'))) =
            ((ok, oks), stands-both s (t ++ pr a) (flat (λ a. t ++ pr a) l') at line (stands_at s (flat (λ a. t ++ pr a) l') pm sl), omega arith) in
            prints-same s (flat (λ a. t ++ pr a)) (All Ok) at n (a ∷ l') l ll all
        go false eb g rec =
            let el : [] ≡ l = cc in
            let an : at ≡ n = cc in
            rw (← el) (tt, refl, omega arith)

    -- a line after the head ends with no digit after it, whatever follows
    pub complete-many : (k at : ℕ) (l : List A) → length l ≤ k → All Ok l → stands s at (flat (λ a. t ++ pr a) l) ≡ true
        → Leads s (λ a. t ++ pr a) → NoDigit s (at + length (flat (λ a. t ++ pr a) l))
        → stands s (at + length (flat (λ a. t ++ pr a) l)) t ≡ false
        → many s t p k at ≡ parsed l (at + length (flat (λ a. t ++ pr a) l))
    unfolding flat stands
    complete-many k at [] h o e hd g f = many-stop s t p at k (rw (add-zero at) at f) ∙ (rw (add-zero at))
    complete-many zero at (a ∷ l) h o e hd g f = absurd (omega arith)
    complete-many (suc k) at (a ∷ l) h o e hd g f =
        let (sa, sl) = stands_parts s (t ++ pr a) (flat (λ a. t ++ pr a) l) at e in
        let (st, sp) = stands_parts s t (pr a) at sa in
        let la = length-append t (pr a) in
        let lg = length-append (t ++ pr a) (flat (λ a. t ++ pr a) l) in
        let en : at + length ((t ++ pr a) ++ flat (λ a. t ++ pr a) l) ≡ at + length (t ++ pr a) + length (flat (λ a. t ++ pr a) l) = omega arith in
        let em : at + length (t ++ pr a) ≡ at + length t + length (pr a) = omega arith in
        let r = complete-many k (at + length (t ++ pr a)) l (omega arith) o.1 sl hd (rw en at g) (rw en at f) in
        let nd : NoDigit s (at + length (t ++ pr a)) = leads-flat s (λ a. t ++ pr a) hd (at + length (t ++ pr a)) l sl (rw en at g) in
        let pa = x.complete (at + length t) a o.0 sp (rw em at nd) in
        many-found s t p at k st (pa ∙ ap (parsed a) (sym em)) ∙ (rw (r, en))
