-- What holds of a text that meets no ground before 44. Assumes nothing.
--     Past c l                the lists l meet no ground before 44
--     past-numbers            they meet neither 2 nor 3
--     past-face               the tests that each face has passed
--     interval-from           an interval of reversed lists is one of the lists
--     text-turned             the lists of the text with the faces of a choice turned
--     same-turned             choices that agree on the faces turn a text alike
use mathlib.Core.Path.{◌≡◌, refl, sym, ap, ◌∙◌}
use mathlib.Core.Bool.{Bool, true, false, not, cond}
use mathlib.Core.Logic.{◌⊎◌, inl, inr}
use mathlib.Core.List.{List, [], ◌∷◌}
use Prim.Native.Nat.{ℕ, suc, ◌*◌, ◌≤◌, ◌<◌}
use native.Mathlib.Omega.{arith}
use lib.ListN.{length, get_or}
use lib.Ieee.{Float, nan, inf, fin}
use lib.Ieee.Scale.{finite}
use Rattle.std.specs.Prelude.{Result, Ok, Err, ⊤}
use Rattle.tables.specs.declared.Sizes.{Sizes}
use Rattle.audited_meshes.specs.Folds.{every}
use Rattle.audited_meshes.specs.Audit.{interval_fit}
use Rattle.audited_meshes.proofs.Tests.{self-is, and_is, every-is}
use Rattle.mesh_lines.specs.Grammar.{Side}
use Rattle.mesh_text.specs.Text.{TextMesh}
use Rattle.built_meshes.specs.Lists.{Lists, points_of, faces_of, size, offset, counts_fit, listed_fit, general_limits}
use Rattle.built_meshes.specs.Faces.{size_fit, listed_in_range, no_point_twice, firsts_fit, sums_fit, face_verdict}
use Rattle.built_meshes.specs.declared.Version.{Version}
use Rattle.built_meshes.specs.declared.Version.TheVariants.{Two}
use Rattle.built_meshes.specs.declared.Ground.{Ground}
use Rattle.built_meshes.specs.declared.Ground.TheVariants.{OverCounts, UnfitNumber, FaceSize, OutOfRange, PointTwice, FirstPoint, NonRectangularFace}
use Rattle.text_meshes.specs.TextBuilding.{lists_of}
use Rattle.mesh_printing.specs.Printing.{FitText}
use Rattle.mended_lists.specs.declared.Unmended.{Unmended}
use Rattle.mended_lists.specs.declared.Unmended.TheVariants.{Refused, Twisted}
use Rattle.mended_lists.specs.Reversal.{Choice, reversed}
use Rattle.mended_lists.specs.Mending.{forgiven, mending_if, mending}
use Rattle.mended_lists.specs.Claims.{Fitting}
use Rattle.mended_lists.proofs.Turned as turned
use Rattle.mended_lists.proofs.Passed.{unfit, mended-parts, face-passed, at-least-three}
use Rattle.mended_texts.specs.Turning.{turned_if, turned_faces, turned_text}
use Rattle.mended_texts.proofs.Turned.{Four, face_of, faces-count, sides-length, firsts-length, listed-length, beside-length, round-of-firsts}
use Rattle.mended_texts.proofs.Turned.{lists-turned}
use Rattle.mended_texts.proofs.Printed.{four-of-fit}
use Rattle.mended_texts.proofs.Faces.{Round}

abbrev pub Past : Sizes → Lists → Type 0
Past c l = (mending c l ≡ Ok tt) ⊎ (mending c l ≡ Err Twisted)

-- ---- the tests passed

pub past-numbers : (c : Sizes) (l : Lists) → Past c l → (counts_fit c l ≡ true) × (listed_fit l ≡ true)
unfolding mending mending_if
past-numbers c l = go (counts_fit c l) (listed_fit l)
  where
    refused : (g : Ground) → ◌≡◌ {A = Result ⊤ Unmended} (Err (Refused g)) (Ok tt) ⊎ ◌≡◌ {A = Result ⊤ Unmended} (Err (Refused g)) (Err Twisted) → ⊥
    refused g (inl h) = let z : ◌≡◌ {A = ℕ} 0 1 = cc in omega arith
    refused g (inr h) = let z : ◌≡◌ {A = ℕ} 0 1 = cc in omega arith

    go : (a b : Bool) → (mending_if a b l ≡ Ok tt) ⊎ (mending_if a b l ≡ Err Twisted) → (a ≡ true) × (b ≡ true)
    go true true h = (refl, refl)
    go true false h = absurd (refused UnfitNumber h)
    go false b h = absurd (refused OverCounts h)

-- what face f of the lists has passed: 10, 11, 12 and 43 do not hold of it
pub record FacePast (l : Lists) (f : ℕ) : Type 0 where
  pub size-fit : size_fit (size l f) ≡ true
  pub in-range : listed_in_range l (points_of l) (offset l f) (size l f) ≡ true
  pub none-twice : no_point_twice l (offset l f) (size l f) ≡ true
  pub firsts-fit : firsts_fit l.version l f (offset l f) ≡ true

pub past-face : (c : Sizes) (l : Lists) → Past c l → (f : ℕ) → f < faces_of l → FacePast l f
unfolding face_verdict
past-face c l past f h =
    tests (size_fit (size l f)) (listed_in_range l (points_of l) (offset l f) (size l f)) (no_point_twice l (offset l f) (size l f))
    (firsts_fit l.version l f (offset l f)) (cond (not (sums_fit l.version l f (offset l f))) (Err NonRectangularFace) (Ok tt)) refl refl refl refl
    (face-passed l (mended-parts c l past).0 f h).0
  where
    tests :
        (a b c d : Bool) (rest : Result ⊤ Ground) → size_fit (size l f) ≡ a → listed_in_range l (points_of l) (offset l f) (size l f) ≡ b →
        no_point_twice l (offset l f) (size l f) ≡ c → firsts_fit l.version l f (offset l f) ≡ d →
        forgiven
        (cond (not a) (Err FaceSize)
        (cond (not b) (Err OutOfRange) (cond (not c) (Err PointTwice) (cond (not d) (Err FirstPoint) rest)))) ≡ Ok tt →
        FacePast l f
    tests true true true true rest ea eb ec ed h = record { size-fit = ea; in-range = eb; none-twice = ec; firsts-fit = ed }
    tests true true true false rest ea eb ec ed h = absurd (unfit FirstPoint h)
    tests true true false d rest ea eb ec ed h = absurd (unfit PointTwice h)
    tests true false c d rest ea eb ec ed h = absurd (unfit OutOfRange h)
    tests false b c d rest ea eb ec ed h = absurd (unfit FaceSize h)

-- ---- intervals

fit-finite : (x : Float) → interval_fit x ≡ true → finite x ≡ true
fit-finite nan h = h
fit-finite (inf s) h = h
fit-finite (fin s n k) h = refl

pub past-intervals : (l : Lists) → listed_fit l ≡ true → (k : ℕ) → k < length l.intervals → interval_fit (get_or l.intervals k nan) ≡ true
unfolding listed_fit
past-intervals l h =
    ((and_is (self-is (every (length l.coordinates) (λ k. finite (get_or l.coordinates k nan))))
    (every-is (length l.intervals) (λ k. self-is (interval_fit (get_or l.intervals k nan))))).0 h).1

pub finite-intervals : (l : Lists) → listed_fit l ≡ true → (k : ℕ) → k < length l.intervals → finite (get_or l.intervals k nan) ≡ true
finite-intervals l h k b = fit-finite (get_or l.intervals k nan) (past-intervals l h k b)

pub interval-from :
    (c : Choice) (l : Lists) → Fitting l → (k : ℕ) → k < length (reversed c l).intervals →
    (j : ℕ) × (j < length l.intervals) × (get_or (reversed c l).intervals k nan ≡ get_or l.intervals j nan)
interval-from c l fit = turned.interval-from c l fit.intervals

-- ---- texts

pub text-fitting : (t : TextMesh) → FitText t → Fitting (lists_of t)
text-fitting t fit =
    let four = four-of-fit t fit in
    record {
      sides = sides-length t four ∙ ap (λ (x : ℕ). x * 4) (sym (faces-count t four));
      firsts = firsts-length t four ∙ ap (λ (x : ℕ). x * 4) (sym (faces-count t four));
      listed = listed-length t four;
      intervals = beside-length t four;
    }

pub text-turned :
    (t : TextMesh) → FitText t → t.version ≡ Two → Past general_limits (lists_of t) → (c : Choice) →
    lists_of (turned_text c t) ≡ reversed c (lists_of t)
text-turned t fit two past c = lists-turned c t four round
  where
    four : Four t
    four = four-of-fit t fit

    some : (n : ℕ) → 3 ≤ n → 0 < n
    some n h = omega arith

    round : (f : ℕ) → f < length t.faces → Round (face_of t f)
    round f h =
        let b : f < faces_of (lists_of t) = rw (faces-count t four) h in
        round-of-firsts t four f h
        (some (size (lists_of t) f) (at-least-three (lists_of t) (mended-parts general_limits (lists_of t) past).0 f b))
        (ap (λ (v : Version). firsts_fit v (lists_of t) f (offset (lists_of t) f)) (sym two)
        ∙ (past-face general_limits (lists_of t) past f b).firsts-fit)

pub same-turned : (b c : Choice) (fs : List (List Side)) → ((f : ℕ) → f < length fs → b f ≡ c f) → turned_faces b fs ≡ turned_faces c fs
unfolding turned_faces
same-turned b c [] h = refl
same-turned b c (f ∷ fs) h =
    both (h 0 (omega arith)) (same-turned (λ k. b (suc k)) (λ k. c (suc k)) fs (λ k l. h (suc k) (omega arith)))
  where
    both :
        b 0 ≡ c 0 → turned_faces (λ k. b (suc k)) fs ≡ turned_faces (λ k. c (suc k)) fs →
        turned_if (b 0) f ∷ turned_faces (λ k. b (suc k)) fs ≡ turned_if (c 0) f ∷ turned_faces (λ k. c (suc k)) fs
    both e r = rw (e, r)
