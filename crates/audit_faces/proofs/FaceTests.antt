-- The walk of one face, and the sizes of faces in turn: what each test decides. Assumes nothing.
use mathlib.Core.Path.{◌≡◌, refl, sym, ◌∙◌, ap, ap₂, subst}
use mathlib.Core.Bool.{Bool, true, false, not, cond}
use mathlib.Core.List.{List, map}
use Prim.Native.Nat.{ℕ, ◌+◌, ◌<◌, ◌≤◌}
use native.Mathlib.Omega.{arith}
use native.Mathlib.Decide.{ℕ_discrete}
use lib.Dec.{eqb}
use lib.ListN.{length, get_or, length-map}
use borrow.Author.Tests.{ne_eqb, le-leb, lt-leb}
use Rattle.std.specs.Prelude.{Option, Some, None}
use Rattle.std.proofs.lemmas.Option.{none-some}
use Rattle.closed_meshes.specs.Renumbering.{sum_to}
use Rattle.tables.specs.Mesh.{Mesh}
use Rattle.audited_meshes.specs.Folds.{every, distinct}
use Rattle.audited_meshes.specs.Walks.{Walk, back, lost, passed, first_point, face_walk}
use Rattle.audited_meshes.specs.Quick.{face_back}
use Rattle.walks.specs.declared.FaceBorder.{FaceBorder}
use Rattle.walks.specs.Border.{border_of, border, BorderLaid}
use Rattle.walks.specs.Steps.{passed_by}
use Rattle.walks.proofs.Laws.{border-point, border-walk, passed-back, passed-lost, get_d_map}
use Rattle.walks.proofs.Border.{laid-point}
use Rattle.walks.proofs.Back.{face_walk-within}
use Rattle.audit_tests.specs.Parts.{new_among, differ_at, face_size, faces_walked}
use Rattle.audited_meshes.proofs.Folds.{and-false, every-none, every_more, every-stop}
use Rattle.audit_tests.proofs.Laws.{every-all, every-cong, sum_to-none, sum_to-more, sum_to-stop, sum_to-all}

-- ---- the size of a face, by its border

abbrev all_apart : List ℕ → ℕ → Bool
all_apart ks n = every n (λ i. every i (λ j. differ_at ks i j))

eqb-turned : (a b : ℕ) → eqb a b ≡ eqb b a
eqb-turned a b = go (ℕ_discrete a b)
  where
    go : Dec (a ≡ b) → eqb a b ≡ eqb b a
    go (yes q) = rw q
    go (no d) = ne_eqb a b d ∙ sym (ne_eqb b a (λ e. d (sym e)))

-- a point that is new among those before differs from each of them
pub new-differs : (ks : List ℕ) (i : ℕ) → new_among ks i (get_or ks i 0) ≡ every i (λ j. differ_at ks i j)
new-differs ks i = every-cong i _ _ (λ j l. ap not (eqb-turned (get_or ks j 0) (get_or ks i 0)))

module _ (m : Mesh) (f : ℕ) (es : List ℕ) where
  -- the points of the border are those of the walk, as far as they are looked at
  apart-border : all_apart (border_of m f (back es)).points (length es) ≡ distinct (map (first_point m f) es)
  unfolding distinct
  apart-border =
      every-cong (length es) _ _
      (λ i l. every-cong i _ _ (λ j k. ap₂ (λ (a b : ℕ). not (eqb a b)) (same i l) (same j (omega arith))))
      ∙ ap (λ (n : ℕ). every n (λ i. every i (λ j. differ_at (map (first_point m f) es) i j))) (sym (length-map es (first_point m f)))
    where
      same : (i : ℕ) → i < length es → get_or (border_of m f (back es)).points i 0 ≡ get_or (map (first_point m f) es) i 0
      same i l = border-point m f es i l ∙ sym (get_d_map (first_point m f) es i l)

-- the size of a face by its walk
abbrev size_by : Mesh → ℕ → Walk → Option ℕ
size_by m f w = cond (face_back m f w) (Some (passed w)) None

walk-short : (m : Mesh) (f : ℕ) (w : Walk) → passed w < 3 → size_by m f w ≡ None
unfolding face_back
walk-short m f (back es) l = rw (lt-leb 3 (length es) l)
walk-short m f lost l = refl

walk-size : (m : Mesh) (f : ℕ) (w : Walk) → 3 ≤ passed w → size_by m f w ≡ cond (all_apart (border_of m f w).points (passed w)) (Some (passed w)) None
unfolding face_back
walk-size m f (back es) l = rw (le-leb 3 (length es) l) (ap (λ (d : Bool). cond {A = Option ℕ} d (Some (length es)) None) (sym (apart-border m f es)))
walk-size m f lost l = absurd (omega arith)

module _ (m : Mesh) (ne f : ℕ) (answer : Option ℕ) (xs qs xs₀ qs₀ : List ℕ) (h : BorderLaid m ne f answer xs qs xs₀ qs₀) where
  passed_is : passed_by (face_walk m ne f) ≡ answer
  passed_is = sym h.answered

  pub size-lost : answer ≡ None → None ≡ face_size m ne f
  size-lost e =
      let z = passed-lost (face_walk m ne f) (passed_is ∙ e) in
      sym (walk-short m f (face_walk m ne f) (omega arith))

  module _ {n : ℕ} (came : answer ≡ Some n) where
    count : passed (face_walk m ne f) ≡ n
    count = passed-back (face_walk m ne f) (passed_is ∙ came)

    pub size-within : n ≤ 64
    size-within = rw (← count) (face_walk-within m ne f)

    pub size-short : n < 3 → None ≡ face_size m ne f
    size-short l = sym (walk-short m f (face_walk m ne f) (rw count l))

    -- the points in the array are those of the border, as far as they are looked at
    apart-laid : all_apart qs n ≡ all_apart (border m ne f).points n
    apart-laid = every-cong n _ _ (λ i l. every-cong i _ _ (λ j k. ap₂ (λ (a b : ℕ). not (eqb a b)) (same i l) (same j (omega arith))))
      where
        same : (i : ℕ) → i < n → get_or qs i 0 ≡ get_or (border m ne f).points i 0
        same i l = laid-point m ne f answer xs qs xs₀ qs₀ h came i (omega arith)

    pub size_is : 3 ≤ n → (d : Bool) → d ≡ all_apart qs n → cond {A = Option ℕ} d (Some n) None ≡ face_size m ne f
    size_is l d q =
        sym (walk-size m f (face_walk m ne f) (rw count l)
        ∙ ap (λ (x : FaceBorder). cond {A = Option ℕ} (all_apart x.points (passed (face_walk m ne f))) (Some (passed (face_walk m ne f))) None)
        (sym (border-walk m ne f))
        ∙ ap (λ (k : ℕ). cond {A = Option ℕ} (all_apart (border m ne f).points k) (Some k) None) count
        ∙ ap (λ (t : Bool). cond {A = Option ℕ} t (Some n) None) (sym (q ∙ apart-laid)))

-- ---- the sizes of faces in turn

none-fails : {A : Type 0} (b : Bool) (x : A) → None ≡ cond b (Some x) None → b ≡ false
none-fails true x h = absurd (none-some x h)
none-fails false x h = refl

some-passes : (b : Bool) (k n : ℕ) → Some n ≡ cond {A = Option ℕ} b (Some k) None → (b ≡ true) × (n ≡ k)
some-passes true k n h = (refl, (cc))
some-passes false k n h = absurd (none-some n (sym h))

module _ (m : Mesh) (ne : ℕ) where
  abbrev come : ℕ → Bool
  come f = face_back m f (face_walk m ne f)

  abbrev size : ℕ → ℕ
  size f = passed (face_walk m ne f)

  pub size_small : (f n : ℕ) → Some n ≡ face_size m ne f → n ≤ 64
  size_small f n h = subst (λ (k : ℕ). k ≤ 64) (sym (some-passes (come f) (size f) n h).1) (face_walk-within m ne f)

  -- the sizes of the first f faces, which all come back, add up to sum
  pub record Added (total f sum : ℕ) : Type 0 where
    pub all_back : every f come ≡ true
    pub added : sum ≡ sum_to f size
    pub not-past : sum ≤ total

  pub added-start : (total : ℕ) → Added total 0 0
  added-start total = record { all_back = every-none come; added = sym (sum_to-none size); not-past = omega arith }

  module _ (nf total f sum : ℕ) (h : Added total f sum) where
    pub added-none : f < nf → None ≡ face_size m ne f → false ≡ faces_walked m ne nf total
    added-none l z = sym (rw (every-stop nf f come l (none-fails (come f) (size f) z)))

    module _ (n : ℕ) (e : Some n ≡ face_size m ne f) where
      is_some : (come f ≡ true) × (n ≡ size f)
      is_some = some-passes (come f) (size f) n e

      pub added-past : f < nf → total < sum + n → false ≡ faces_walked m ne nf total
      added-past l p =
          sym (rw (sym (sum_to-stop size f sum h.added nf total n l is_some.1 p)) (and-false (every nf come)))

      pub added_more : sum + n ≤ total → Added total (f + 1) (sum + n)
      added_more p = record {
        all_back = every_more f come h.all_back is_some.0;
        added = sum_to-more size f sum h.added n is_some.1;
        not-past = p;
      }

  pub added-all : (nf total f sum : ℕ) → Added total f sum → nf ≡ f → eqb sum total ≡ faces_walked m ne nf total
  added-all nf total f sum h e = sum_to-all size f sum h.added nf total e ∙ sym (rw (every-all nf f come h.all_back e))
