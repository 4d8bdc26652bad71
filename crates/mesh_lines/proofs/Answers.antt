-- What the answers of the reader's parts say of the forms. Assumes nothing.
use mathlib.Core.List.{List, ◌∷◌, ◌++◌}
use mathlib.Core.Path.{◌≡◌, refl, sym, ap, ◌∙◌}
use Prim.Native.Nat.{ℕ, ◌+◌}
use native.Mathlib.Nat.{zero-add, add_assoc}
use native.Mathlib.Omega.{arith}
use lib.ListN.{length}
use lib.Seq.{sets}
use Rattle.std.specs.Prelude.{Option, Some, None, OnSome}
use Rattle.text_numbers.proofs.Stores.{sets-append}
use Rattle.text_numbers.specs.Form.{Parsed, parsed, unparsed, onward, pure, if_parsed}
use Rattle.mesh_lines.specs.Grammar.{Listed, Side, flat, side_count, side_points}
use Rattle.mesh_lines.specs.Parts.{place_answer, run_answer, listed_answer, side_answer, lines_answer, Parses, place_after, stored}
use Rattle.std.proofs.lemmas.Option.{same_Some, some_pair_parts}
use Rattle.mesh_lines.specs.declared.ListedPoint.{ListedPoint}
use Rattle.mesh_lines.specs.declared.SideRead.{SideRead}
use Rattle.mesh_lines.specs.declared.Lines.{Lines}

pub listing-is : (x : Parsed Listed) {r : ListedPoint} → listed_answer x ≡ Some r → x ≡ parsed (record { point = r.point; interval = r.interval }) r.after
listing-is (parsed l m) e =
    let k = same_Some _ _ e in
    λ i. parsed (record { point = (k i).point; interval = (k i).interval }) (k i).after
listing-is unparsed e = cc

pub listing_none : (x : Parsed Listed) → listed_answer x ≡ None → x ≡ unparsed
listing_none (parsed l n) e = cc
listing_none unparsed e = refl

pub side-is : (x : Parsed Side) {r : SideRead} → side_answer x ≡ Some r → (a : Side) × (x ≡ parsed a r.after) × (side_count a ≡ r.listed) × (a.first ≡ r.first)
side-is (parsed a m) e =
    let k = same_Some _ _ e in
    (a, ap (λ (r : SideRead). parsed a r.after) k, ap (λ (r : SideRead). r.listed) k, ap (λ (r : SideRead). r.first) k)
side-is unparsed e = let z : ◌≡◌ {A = ℕ} 0 1 = cc in absurd (omega arith)

pub side-none : (x : Parsed Side) → side_answer x ≡ None → x ≡ unparsed
side-none (parsed a n) e = cc
side-none unparsed e = refl

pub lines_are : (x : Parsed (List (List Side))) {r : Lines} → lines_answer x ≡ Some r
    → (fs : List (List Side)) × (x ≡ parsed fs r.after) × (length fs ≡ r.faces) × (length (flat (flat side_points) fs) ≡ r.listed)
lines_are (parsed fs m) e =
    let k = same_Some _ _ e in
    (fs, ap (λ (r : Lines). parsed fs r.after) k, ap (λ (r : Lines). r.faces) k, ap (λ (r : Lines). r.listed) k)
lines_are unparsed e = let z : ◌≡◌ {A = ℕ} 0 1 = cc in absurd (omega arith)

pub lines_none : (x : Parsed (List (List Side))) → lines_answer x ≡ None → x ≡ unparsed
lines_none (parsed fs n) e = cc
lines_none unparsed e = refl

-- what is promised where something was found, holds of lines that are of the form
pub at-lines : (x : Parsed (List (List Side))) → Parses x → (r : Option Lines) → r ≡ lines_answer x → (P : Type 0) → OnSome r P → P
at-lines x (a, n, e) r er P h = rw (er, e) at h

-- what is counted on from c
abbrev pub run_from : {A : Type 0} → (List A → ℕ) → ℕ → Parsed (List A) → Option (ℕ × ℕ)
run_from F c x = if_parsed (λ l n. Some (c + F l, n)) None x

module _ {A : Type 0} where
  pub place_at : (x : Parsed A) {n : ℕ} → place_answer x ≡ Some n → (a : A) × (x ≡ parsed a n)
  place_at (parsed a m) e = (a, cc)
  place_at unparsed e = let z : ◌≡◌ {A = ℕ} 0 1 = cc in absurd (omega arith)

  pub place_none : (x : Parsed A) → place_answer x ≡ None → x ≡ unparsed
  place_none (parsed a n) e = cc
  place_none unparsed e = refl

  pub run_of : (f : A → ℕ) (x : Parsed A) {c n : ℕ} → run_answer f x ≡ Some (c, n) → (a : A) × (x ≡ parsed a n) × (f a ≡ c)
  run_of f (parsed a m) e = let p = some_pair_parts _ _ _ _ e in (a, cc, p.0)
  run_of f unparsed e = let z : ◌≡◌ {A = ℕ} 0 1 = cc in absurd (omega arith)

  pub run_none : (f : A → ℕ) (x : Parsed A) → run_answer f x ≡ None → x ≡ unparsed
  run_none f (parsed a n) e = cc
  run_none f unparsed e = refl

  pub at-run : (f : A → ℕ) (x : Parsed A) → Parses x → (r : Option (ℕ × ℕ)) → r ≡ run_answer f x → (P : Type 0) → OnSome r P → P
  at-run f x (a, n, e) r er P h = rw (er, e) at h

  -- the place after lines that are of the form
  pub after_run : (f : A → ℕ) (x : Parsed A) → Parses x → (r : Option (ℕ × ℕ)) → r ≡ run_answer f x → {c n : ℕ} → r ≡ Some (c, n) → n ≡ place_after x
  after_run f x h r er e = let (a, ea, ec) = run_of f x (sym er ∙ e) in rw ea

  pub after_none : (f : A → ℕ) (x : Parsed A) → Parses x → (r : Option (ℕ × ℕ)) → r ≡ run_answer f x → r ≡ None → 0 ≡ place_after x
  after_none f x h r er e = rw (run_none f x (sym er ∙ e))

  -- the same after one more element was found
  pub place-next : (a : A) (x : Parsed (List A)) → place_answer (onward (λ l. pure (a ∷ l)) x) ≡ place_answer x
  place-next a (parsed l n) = refl
  place-next a unparsed = refl

  pub run-next : (F : List A → ℕ) (c w : ℕ) (a : A) (x : Parsed (List A)) → ((l : List A) → F (a ∷ l) ≡ w + F l)
      → run_from F c (onward (λ l. pure (a ∷ l)) x) ≡ run_from F (c + w) x
  run-next F c w a (parsed l n) e = ap (λ v. Some (v, n)) (ap (λ v. c + v) (e l) ∙ sym (add_assoc c w (F l)))
  run-next F c w a unparsed e = refl

  pub run-start : (F : List A → ℕ) (x : Parsed (List A)) → run_from F 0 x ≡ run_answer F x
  run-start F (parsed l n) = ap (λ v. Some (v, n)) (zero-add (F l))
  run-start F unparsed = refl

  -- what is stored of one more element, then of the others
  pub stored_next : {B : Type 0} (F : List A → List B) (G : A → List B) (xs : List B) (i : ℕ) (a : A) (x : Parsed (List A)) → ((l : List A) → F (a ∷ l) ≡ G a ++ F l)
      → stored F xs i (onward (λ l. pure (a ∷ l)) x) ≡ stored F (sets xs i (G a)) (i + length (G a)) x
  stored_next F G xs i a (parsed l n) e = ap (λ v. sets xs i v) (e l) ∙ sets-append xs i (G a) (F l)
  stored_next F G xs i a unparsed e = refl
