-- Lists that meet no ground before 44 meet none when faces are turned, and are mended if neighbours then run opposite ways. Assumes
-- nothing.
--     sides-sum                 the side lengths of the first faces make up their listed points
--     interval-from             an interval of turned lists is one of the lists
--     turned-tests              the tests of a face that is turned
--     turned-meets-none, mends-again    the claims
use mathlib.Core.Path.{◌≡◌, refl, sym, ◌∙◌, ap}
use mathlib.Core.Bool.{Bool, true, false, cond}
use mathlib.Core.Logic.{◌⊎◌, inl, inr}
use Prim.Native.Nat.{ℕ, ◌+◌, ◌*◌, ◌%◌, ◌≤◌, ◌<◌}
use native.Mathlib.Omega.{arith}
use lib.ListN.{length, get_or}
use lib.Ieee.{nan}
use borrow.Author.Tests.{eq-eqb}
use Rattle.std.specs.Prelude.{Ok, Err}
use Rattle.tables.specs.declared.Sizes.{Sizes}
use Rattle.closed_meshes.specs.Renumbering.{sum_to}
use Rattle.closed_meshes.proofs.Sums.{place-below, place_found}
use Rattle.audited_meshes.specs.Audit.{interval_fit}
use Rattle.built_meshes.specs.Lists.{Lists, faces_of, size, offset, firsts_counted, counts_fit, listed_fit}
use Rattle.built_meshes.specs.Faces.{firsts_fit}
use Rattle.built_meshes.specs.Places.{point_of, beside_of, Differ, Earlier}
use Rattle.built_meshes.specs.Grounds.{lists, over-counts, unfit-number}
use Rattle.built_meshes.specs.declared.Version.{Version}
use Rattle.built_meshes.specs.declared.Version.TheVariants.{One, Two}
use Rattle.built_meshes.specs.declared.Ground.TheVariants.{OverCounts, UnfitNumber}
use Rattle.built_meshes.proofs.Begin.{Counted, counts-is, counts-fail, counted-fits, Numbered, numbers-is, numbers-fail, numbered-fits}
use Rattle.built_meshes.proofs.Begin.{sum_to-fours, sides-listed}
use Rattle.built_meshes.proofs.Before.{Tests, Triple}
use Rattle.mended_lists.specs.declared.Unmended.TheVariants.{Twisted}
use Rattle.mended_lists.specs.Reversal.{turned_point, turned_interval, Choice, reversed}
use Rattle.mended_lists.specs.Mending.{mending}
use Rattle.mended_lists.specs.Claims.{Sound, Paired}
use Rattle.mended_lists.specs.Grounds.{LoneEdge, as-built, MeetsNone, TurnedMeetsNone, MendsAgain}
use Rattle.mended_lists.proofs.InTurn.{length-in_turn}
use Rattle.mended_lists.proofs.Reversal.{turned-below, turned-turned, reversed-faces, reversed-size, reversed-offset, reversed-point}
use Rattle.mended_lists.proofs.Again.{interval-at, reversed-none, reversed-fitting, reversed-sound, reversed-paired}
use Rattle.mended_lists.proofs.Passed.{passed, mended-parts}
use Rattle.mended_lists.proofs.Sides.{firsts-agree}
use Rattle.mended_lists.proofs.Grounds.{no_tables, faces-pass, none-met, none-answer, else-mended}

-- ---- lengths

pub sides-sum : (l : Lists) (n : ℕ) → sum_to (n * 4) (λ k. get_or l.sides k 0) ≡ offset l n
unfolding offset
sides-sum l n = sum_to-fours n (λ k. get_or l.sides k 0)

-- ---- intervals

pub interval-from :
    (c : Choice) (l : Lists) → length l.intervals ≡ offset l (faces_of l) → (k : ℕ) → k < length (reversed c l).intervals →
    (j : ℕ) × (j < length l.intervals) × (get_or (reversed c l).intervals k nan ≡ get_or l.intervals j nan)
unfolding reversed offset
interval-from c l fit k h =
    go
    (place_found (λ f. size l f) (faces_of l) k
    (rw (length-in_turn (faces_of l) (λ f. size l f) (λ f i. beside_of l f (cond (c f) (turned_interval (size l f) i) i))) at h))
  where
    within : (n i : ℕ) (t : Bool) → i < n → cond t (turned_interval n i) i < n
    within n i true h = omega arith
    within n i false h = h

    go :
        (f : ℕ) × (f < faces_of l) × (i : ℕ) × (i < size l f) × (sum_to f (λ f. size l f) + i ≡ k) →
        (j : ℕ) × (j < length l.intervals) × (get_or (reversed c l).intervals k nan ≡ get_or l.intervals j nan)
    go (f, a, i, b, q) = (
      offset l f + cond (c f) (turned_interval (size l f) i) i,
      rw fit (place-below (λ f. size l f) f (faces_of l) (cond (c f) (turned_interval (size l f) i) i) a (within (size l f) i (c f) b)),
      ap (λ (x : ℕ). get_or (reversed c l).intervals x nan) (sym q) ∙ interval-at c l f i (a, b),
    )

-- ---- the numbers

module _ (c : Sizes) (l : Lists) (t : Choice) (none : MeetsNone c l) where
  counted : Counted c l
  counted = go (counts_fit c l) refl
    where
      go : (b : Bool) → counts_fit c l ≡ b → Counted c l
      go true e = counts-is c l e
      go false e = absurd (none lists OverCounts (as-built no_tables refl (over-counts (counts-fail c l e))))

  numbered : Numbered l
  numbered = go (listed_fit l) refl
    where
      go : (b : Bool) → listed_fit l ≡ b → Numbered l
      go true e = numbers-is l e
      go false e = absurd (none lists UnfitNumber (as-built no_tables refl (unfit-number (numbers-fail l e))))

  listed-all : offset l (faces_of l) ≡ length l.listed
  listed-all = sides-listed c l counted

  intervals-all : length l.intervals ≡ offset l (faces_of l)
  intervals-all = sym counted.alike ∙ sym listed-all

  turned-listed : length (reversed t l).listed ≡ length l.listed
  turned-listed =
      (reversed-fitting t l).listed ∙ ap (offset (reversed t l)) (reversed-faces t l)
      ∙ reversed-offset t l (faces_of l) (omega arith) ∙ listed-all

  turned-firsts : (v : Version) → firsts_counted v (reversed t l) ≡ true
  turned-firsts One = refl
  turned-firsts Two =
      eq-eqb (length (reversed t l).firsts) (length (reversed t l).sides) ((reversed-fitting t l).firsts ∙ sym (reversed-fitting t l).sides)

  same_points : (reversed t l).coordinates ≡ l.coordinates
  unfolding reversed
  same_points = refl

  turned-counted : Counted c (reversed t l)
  turned-counted =
      record {
        points-few = rw same_points counted.points-few;
        faces-few = rw (reversed-faces t l) counted.faces-few;
        listed-few = rw turned-listed counted.listed-few;
        points-whole = rw same_points counted.points-whole;
        faces-whole = whole (length (reversed t l).sides) (faces_of (reversed t l)) (reversed-fitting t l).sides;
        alike = (reversed-fitting t l).listed ∙ sym (reversed-fitting t l).intervals;
        sum_alike =
            ap (λ (n : ℕ). sum_to n (λ k. get_or (reversed t l).sides k 0)) (reversed-fitting t l).sides
            ∙ sides-sum (reversed t l) (faces_of (reversed t l)) ∙ sym (reversed-fitting t l).listed;
        firsts-alike = turned-firsts (reversed t l).version;
      }
    where
      whole : (n k : ℕ) → n ≡ k * 4 → n % 4 ≡ 0
      whole n k e = omega arith

  turned-numbered : Numbered (reversed t l)
  turned-numbered =
      record {
        coordinates-finite = rw same_points numbered.coordinates-finite;
        intervals-fit =
            λ k b. let j = interval-from t l intervals-all k b in ap interval_fit j.2 ∙ numbered.intervals-fit j.0 j.1;
      }

-- ---- a face

-- where a listed point of a face that is turned, or is not, was
from_place : Bool → ℕ → ℕ → ℕ
from_place t n i = cond t (turned_point n i) i

module _ (t : Bool) (n : ℕ) where
  from-below : (i : ℕ) → i < n → from_place t n i < n
  unfolding from_place
  from-below i b = go t
    where
      go : (t : Bool) → cond t (turned_point n i) i < n
      go true = turned-below n i b
      go false = b

  from-once : (i j : ℕ) → i < n → j < n → from_place t n i ≡ from_place t n j → i ≡ j
  unfolding from_place
  from-once i j a b = go t
    where
      go : (t : Bool) → cond t (turned_point n i) i ≡ cond t (turned_point n j) j → i ≡ j
      go true e = sym (turned-turned n i a) ∙ ap (turned_point n) e ∙ turned-turned n j b
      go false e = e

module _ (c : Sizes) (l : Lists) (t : Choice) (none : MeetsNone c l) (f : ℕ) (in-faces : f < faces_of l) (tests : Tests l f 13) where
  few : (i : ℕ) → i < size (reversed t l) f → i < size l f
  few i b = rw (reversed-size t l f in-faces) at b

  point-from : (i : ℕ) → i < size l f → point_of (reversed t l) f i ≡ point_of l f (from_place (t f) (size l f) i)
  unfolding from_place
  point-from i b = reversed-point t l f i in-faces b

  sized : (3 ≤ size l f) × (size l f ≤ 64)
  sized = tests.sizes (omega arith)

  turned-fit : (v : Version) → firsts_fit v l f (offset l f) ≡ true → firsts_fit v (reversed t l) f (offset (reversed t l) f) ≡ true
  unfolding firsts_fit
  turned-fit One h = refl
  turned-fit Two h = firsts-agree t l f in-faces (omega (arith, sized.0)) h

  same_version : (reversed t l).version ≡ l.version
  unfolding reversed
  same_version = refl

  pub turned-tests : Tests (reversed t l) f 13
  turned-tests =
      record {
        sizes = λ h. rw (reversed-size t l f in-faces) sized;
        ranges =
            λ h i b.
            rw (point-from i (few i b), same_points c l t none)
            (tests.ranges (omega arith) (from_place (t f) (size l f) i) (from-below (t f) (size l f) i (few i b)));
        once =
            λ h i j a b e.
            from-once (t f) (size l f) i j (few i a) (few j b)
            (tests.once (omega arith) (from_place (t f) (size l f) i) (from_place (t f) (size l f) j)
            (from-below (t f) (size l f) i (few i a)) (from-below (t f) (size l f) j (few j b))
            (sym (point-from i (few i a)) ∙ e ∙ point-from j (few j b)));
        firsts =
            λ h.
            ap (λ (v : Version). firsts_fit v (reversed t l) f (offset (reversed t l) f)) same_version
            ∙ turned-fit l.version (tests.firsts (omega arith));
        sums = λ h. absurd (omega arith);
      }

-- ---- the claims

sound-triple : (l : Lists) → Sound l → (f i : ℕ) → ¬ Triple l f i
sound-triple l sound f i (g, j, h, k, p, q, r, a, b, x, y, d) =
    sound.at_most_two g j h k f i p q a b (inl r) d (before g j x) (before h k y)
  where
    before : (g j : ℕ) → Earlier g j f i → Differ g j f i
    before g j (inl a) (e, s) = omega arith
    before g j (inr a) (e, s) = omega arith

paired-lone : (l : Lists) → Paired l → ¬ LoneEdge l
paired-lone l paired e = let z = paired e.f e.i e.p e.q e.runs in z.2 (e.none_other z.0 z.1 z.3)

pub turned-meets-none : TurnedMeetsNone
turned-meets-none c l t none =
    none-met c (reversed t l) (counted-fits c (reversed t l) (turned-counted c l t none))
    (numbered-fits (reversed t l) (turned-numbered c l t none))
    (λ f b.
    let a : f < faces_of l = rw (reversed-faces t l) at b in
    record {
      tests = turned-tests c l t none f a (faces-pass c l (mended-parts c l past).0 f a).tests;
      edges = λ i x y. sound-triple (reversed t l) (reversed-sound t l (passed c l past).0) f i;
    })
    (paired-lone (reversed t l) (reversed-paired t l (passed c l past).1))
  where
    past : (mending c l ≡ Ok tt) ⊎ (mending c l ≡ Err Twisted)
    past = none-answer c l none

pub mends-again : MendsAgain
mends-again c l t none works =
    (else-mended c (reversed t l)).1 (
      turned-meets-none c l t none,
      (
        λ f. false,
        rw (reversed-none (λ f. false) (reversed t l) (reversed-fitting t l) (λ f a. refl)) works,
      ),
    )
