-- The laws of chains of places. Assumes nothing.
use mathlib.Core.Path.{◌≡◌, refl, sym, ◌∙◌, ap}
use mathlib.Core.Bool.{Bool, true, false, not, cond, ◌&&◌, ◌||◌, false≢true}
use mathlib.Core.Logic.{◌⊎◌, inl, inr, ◌≢◌}
use mathlib.Core.List.{List}
use Prim.Native.Nat.{ℕ, zero, suc, ◌+◌, ◌-◌, ◌≤◌, ◌<◌, min}
use native.Mathlib.Omega.{arith}
use native.Mathlib.Numerals.{add-one}
use native.Mathlib.Decide.{ℕ_discrete, dec_lt}
use lib.Dec.{eqb}
use lib.ListN.{length, get_or, set, length-set}
use lib.Seq.{get_or-set_same, get_or-set_other}
use borrow.Author.Tests.{eqb-true, eq-eqb}
use Rattle.audited_meshes.proofs.Folds.{every_more, every-stop}
use Rattle.audited_meshes.proofs.Tests.{Is, and_is, or_is, eqb_is, self-is, every-is}
use Rattle.audited_meshes.specs.Folds.{every}
use Rattle.mended_lists.specs.Edges.{latest}
use Rattle.mended_lists.proofs.Reversal.{eqb-false}
use Rattle.mended_lists.proofs.Edges.{Last, latest-none, latest-last}
use Rattle.shared_edges.specs.Chains.{joins_at, low_at, mate_at, has_mate_at, third_at, second_at, ChainLinks, PlacesChained, LinksRoom, PairRoom, PlacesRoom, PairedAt, PlacesEntered, EnteredTo}

-- ---- the last number that passes a test

pub latest-below : (test : ℕ → Bool) (n : ℕ) → latest test n ≤ n
unfolding latest
latest-below test zero = omega arith
latest-below test (suc n) = go (test n) (latest-below test n)
  where
    go : (b : Bool) → latest test n ≤ n → cond b (suc n) (latest test n) ≤ suc n
    go true h = omega arith
    go false h = omega arith

latest-here : (test : ℕ → Bool) (n : ℕ) → test n ≡ true → latest test (suc n) ≡ suc n
unfolding latest
latest-here test n e = rw e

latest-before : (test : ℕ → Bool) (n : ℕ) → test n ≡ false → latest test (suc n) ≡ latest test n
unfolding latest
latest-before test n e = rw e

-- the numbers from m on do not pass
latest-fewer : (test : ℕ → Bool) (m n : ℕ) → m ≤ n → ((i : ℕ) → m ≤ i → i < n → test i ≡ false) → latest test n ≡ latest test m
latest-fewer test m zero l none = let e : m ≡ 0 = omega arith in rw e
latest-fewer test m (suc n) l none = go (ℕ_discrete m (suc n)) (λ h. latest-fewer test m n h (λ i a b. none i a (omega arith)))
  where
    go : Dec (m ≡ suc n) → (m ≤ n → latest test n ≡ latest test m) → latest test (suc n) ≡ latest test m
    go (yes e) before = rw e
    go (no e) before = latest-before test n (none n (omega arith) (omega arith)) ∙ before (omega arith)

pub latest-same : (test other : ℕ → Bool) (n : ℕ) → ((i : ℕ) → i < n → test i ≡ other i) → latest test n ≡ latest other n
unfolding latest
latest-same test other zero e = refl
latest-same test other (suc n) e = go (latest-same test other n (λ i b. e i (omega arith))) (e n (omega arith))
  where
    go : latest test n ≡ latest other n → test n ≡ other n → cond (test n) (suc n) (latest test n) ≡ cond (other n) (suc n) (latest other n)
    go a b = rw (a, b)

none-latest : (test : ℕ → Bool) (n : ℕ) → ((i : ℕ) → i < n → test i ≡ false) → latest test n ≡ 0
none-latest test n none = latest-fewer test 0 n (omega arith) (λ i a b. none i b) ∙ unfold latest in refl

-- ---- a search along a chain

-- what joins two points has their lower one
joins-low : (ls ts : List ℕ) (p q j : ℕ) → joins_at ls ts p q j ≡ true → low_at ls ts j ≡ min p q
joins-low ls ts p q j e =
    go
    ((or_is (and_is (eqb_is (get_or ls j 0) p) (eqb_is (get_or ts j 0) q)) (and_is (eqb_is (get_or ls j 0) q) (eqb_is (get_or ts j 0) p))).0 e)
  where
    go :
        ((get_or ls j 0 ≡ p) × (get_or ts j 0 ≡ q)) ⊎ ((get_or ls j 0 ≡ q) × (get_or ts j 0 ≡ p)) → low_at ls ts j ≡ min p q
    go (inl (a, b)) = omega arith
    go (inr (a, b)) = omega arith

-- the chain has come to the places below m
pub record Searching (ls ts : List ℕ) (k p q link : ℕ) : Type 0 where
  pub m : ℕ
  pub m-below : m ≤ k
  pub link-is : link ≡ latest (λ i. eqb (low_at ls ts i) (min p q)) m
  pub same : latest (λ i. joins_at ls ts p q i) k ≡ latest (λ i. joins_at ls ts p q i) m

pub search-start :
    (ls ts : List ℕ) (k p q from : ℕ) → from ≡ latest (λ i. eqb (low_at ls ts i) (min p q)) k → Searching ls ts k p q from
search-start ls ts k p q from e = record { m = k; m-below = omega arith; link-is = e; same = refl }

module _ (ls ts : List ℕ) (k p q link : ℕ) (s : Searching ls ts k p q link) where
  passes-not : (m' : ℕ) → ((i : ℕ) → m' ≤ i → i < s.m → eqb (low_at ls ts i) (min p q) ≡ false) → (i : ℕ) → m' ≤ i → i < s.m → joins_at ls ts p q i ≡ false
  passes-not m' none i a b = go (joins_at ls ts p q i) refl
    where
      go : (t : Bool) → joins_at ls ts p q i ≡ t → t ≡ false
      go true e = absurd (false≢true (sym (none i a b) ∙ eq-eqb (low_at ls ts i) (min p q) (joins-low ls ts p q i e)))
      go false e = refl

  pub search-end : link ≡ 0 → 0 ≡ latest (λ i. joins_at ls ts p q i) k
  search-end e =
      sym
      (s.same
      ∙ none-latest (λ i. joins_at ls ts p q i) s.m
      (λ i b. passes-not 0 (λ i a b. latest-none (λ i. eqb (low_at ls ts i) (min p q)) s.m (sym s.link-is ∙ e) i b) i (omega arith) b))

  module _ (j : ℕ) (here : link ≡ suc j) where
    last : Last (λ i. eqb (low_at ls ts i) (min p q)) s.m j
    last = latest-last (λ i. eqb (low_at ls ts i) (min p q)) s.m j (sym s.link-is ∙ here)

    pub search-below : j < k
    search-below = omega (arith, last.in-range, s.m-below)

    next : latest (λ i. joins_at ls ts p q i) k ≡ latest (λ i. joins_at ls ts p q i) (suc j)
    next =
        s.same
        ∙ latest-fewer (λ i. joins_at ls ts p q i) (suc j) s.m last.in-range (passes-not (suc j) (λ i a b. last.none-later i a b))

    pub search-found : joins_at ls ts p q j ≡ true → link ≡ latest (λ i. joins_at ls ts p q i) k
    search-found e = here ∙ sym (next ∙ latest-here (λ i. joins_at ls ts p q i) j e)

    pub search-turn :
        (links : List ℕ) → ChainLinks ls ts links k → joins_at ls ts p q j ≡ false → Searching ls ts k p q (get_or links j 0)
    search-turn links chain e =
        record {
          m = j;
          m-below = omega (arith, search-below);
          link-is =
              chain j search-below
              ∙ ap (λ (x : ℕ). latest (λ i. eqb (low_at ls ts i) x) j) (eqb-true (low_at ls ts j) (min p q) last.passes);
          same = next ∙ latest-before (λ i. joins_at ls ts p q i) j e;
        }

    pub search-less : (links : List ℕ) → ChainLinks ls ts links k → get_or links j 0 < link
    search-less links chain =
        omega (arith, chain j search-below, latest-below (λ i. eqb (low_at ls ts i) (low_at ls ts j)) j)

-- ---- a place chained

pub chained_more :
    (ls ts heads links : List ℕ) (k low : ℕ) → PlacesChained ls ts heads links k → low ≡ low_at ls ts k → low < length heads → k < length links →
    PlacesChained ls ts (set heads low (k + 1)) (set links k (get_or heads low 0)) (k + 1)
chained_more ls ts heads links k low c e hb lb = record { head = head; link = link }
  where
    s : k + 1 ≡ suc k
    s = omega arith

    head : (p : ℕ) → p < length (set heads low (k + 1)) → get_or (set heads low (k + 1)) p 0 ≡ latest (λ i. eqb (low_at ls ts i) p) (k + 1)
    head p b = go (ℕ_discrete p low)
      where
        b' : p < length heads
        b' = rw (length-set heads low (k + 1)) at b

        go : Dec (p ≡ low) → get_or (set heads low (k + 1)) p 0 ≡ latest (λ i. eqb (low_at ls ts i) p) (k + 1)
        go (yes q) =
            rw (q, get_or-set_same heads low (k + 1) 0 hb, s)
            (sym (latest-here (λ i. eqb (low_at ls ts i) low) k (eq-eqb (low_at ls ts k) low (sym e))))
        go (no q) =
            rw (get_or-set_other heads low p (k + 1) 0 q, s)
            (c.head p b'
            ∙ sym (latest-before (λ i. eqb (low_at ls ts i) p) k (eqb-false (low_at ls ts k) p (λ t. q (sym t ∙ sym e)))))

    link : ChainLinks ls ts (set links k (get_or heads low 0)) (k + 1)
    link j b = go (ℕ_discrete j k)
      where
        go : Dec (j ≡ k) → get_or (set links k (get_or heads low 0)) j 0 ≡ latest (λ i. eqb (low_at ls ts i) (low_at ls ts j)) j
        go (yes q) =
            rw (q, get_or-set_same links k (get_or heads low 0) 0 lb)
            (c.head low hb ∙ ap (λ (x : ℕ). latest (λ i. eqb (low_at ls ts i) x) k) e)
        go (no q) = rw (get_or-set_other links k j (get_or heads low 0) 0 q) (c.link j (omega arith))

-- ---- a place paired with its mate

pub mate-below : (ls ts : List ℕ) (k : ℕ) → mate_at ls ts k ≤ k
mate-below ls ts k = latest-below (λ j. joins_at ls ts (get_or ls k 0) (get_or ts k 0) j) k

pub paired_none : (mates seconds : List ℕ) (k m : ℕ) → m ≡ 0 → PairedAt mates seconds (set mates k m) seconds k m true
paired_none mates seconds k m z =
    record { mates-are = refl; none = λ e. (refl, refl); some = λ j e. absurd (never j e) }
  where
    never : (j : ℕ) → m ≡ suc j → ⊥
    never j e = omega arith

pub paired-some :
    (mates seconds : List ℕ) (k m j : ℕ) → m ≡ suc j →
    PairedAt mates seconds (set mates k m) (set seconds j (k + 1)) k m (eqb (get_or (set mates k m) j 0) 0)
paired-some mates seconds k m j e =
    record { mates-are = refl; none = λ z. absurd (never z); some = λ i q. some i (omega arith) }
  where
    never : m ≡ 0 → ⊥
    never z = omega arith

    some : (i : ℕ) → i ≡ j → (set seconds j (k + 1) ≡ set seconds i (suc k)) × (eqb (get_or (set mates k m) j 0) 0 ≡ eqb (get_or (set mates k m) i 0) 0)
    some i q = (rw (q, add-one k), rw q)

module _ (ls ts heads links mates seconds heads' links' mates' seconds' : List ℕ) (k m : ℕ) (r : Bool)
    (e : PlacesEntered ls ts heads links mates seconds k) (room : PairRoom mates seconds k) (mate : m ≡ mate_at ls ts k)
    (chained : PlacesChained ls ts heads' links' (k + 1)) (p : PairedAt mates seconds mates' seconds' k m r) where
  s : k + 1 ≡ suc k
  s = omega arith

  mates-after : (j : ℕ) → j < k + 1 → get_or mates' j 0 ≡ mate_at ls ts j
  mates-after j b = go (ℕ_discrete j k)
    where
      go : Dec (j ≡ k) → get_or mates' j 0 ≡ mate_at ls ts j
      go (yes q) = rw (p.mates-are, q, get_or-set_same mates k m 0 room.mates-fit) mate
      go (no q) = rw (p.mates-are, get_or-set_other mates k j m 0 q) (e.mate-is j (omega arith))

  pub entered-answer : r ≡ not (third_at ls ts k)
  entered-answer = go m refl
    where
      go : (x : ℕ) → m ≡ x → r ≡ not (third_at ls ts k)
      go zero z = (p.none z).1 ∙ rw (sym mate ∙ z)
      go (suc j) z =
          let less : j < k = omega (arith, mate-below ls ts k) in
          (p.some j z).1 ∙ ap (λ (x : ℕ). eqb x 0) (sym (ap (λ (x : List ℕ). get_or x j 0) p.mates-are) ∙ mates-after j (omega arith))
          ∙ twice (eqb (mate_at ls ts j) 0) ∙ rw (sym mate ∙ z)
        where
          twice : (b : Bool) → b ≡ not (not b)
          twice true = refl
          twice false = refl

  seconds-after : (j : ℕ) → j < length seconds' → get_or seconds' j 0 ≡ second_at ls ts (k + 1) j
  seconds-after j b = go m refl
    where
      other : (x : ℕ) → m ≡ x → x ≢ suc j → second_at ls ts (k + 1) j ≡ second_at ls ts k j
      other x z d =
          ap (λ (y : ℕ). second_at ls ts y j) s
          ∙ latest-before (λ i. eqb (mate_at ls ts i) (suc j)) k (eqb-false (mate_at ls ts k) (suc j) (λ q. d (sym z ∙ mate ∙ q)))

      go : (x : ℕ) → m ≡ x → get_or seconds' j 0 ≡ second_at ls ts (k + 1) j
      go zero z =
          let b' : j < length seconds = rw (p.none z).0 at b in
          ap (λ (x : List ℕ). get_or x j 0) (p.none z).0 ∙ e.second_is j b' ∙ sym (other 0 z (λ q. omega arith))
      go (suc i) z = this (ℕ_discrete j i)
        where
          less : i < k
          less = omega (arith, mate-below ls ts k)

          length-same : length seconds' ≡ length seconds
          length-same = ap length (p.some i z).0 ∙ length-set seconds i (suc k)

          this : Dec (j ≡ i) → get_or seconds' j 0 ≡ second_at ls ts (k + 1) j
          this (yes q) =
              ap (λ (x : List ℕ). get_or x j 0) (p.some i z).0
              ∙ rw (q, s)
              (get_or-set_same seconds i (suc k) 0 (omega (arith, room.seconds-fit, less))
              ∙ sym (latest-here (λ x. eqb (mate_at ls ts x) (suc i)) k (eq-eqb (mate_at ls ts k) (suc i) (sym mate ∙ z))))
          this (no q) =
              ap (λ (x : List ℕ). get_or x j 0) (p.some i z).0 ∙ get_or-set_other seconds i j (suc k) 0 q
              ∙ e.second_is j (omega (arith, length-same)) ∙ sym (other (suc i) z (λ t. q (omega arith)))

  pub entered-more : PlacesEntered ls ts heads' links' mates' seconds' (k + 1)
  entered-more = record { chained = chained; mate-is = mates-after; second_is = seconds-after }

-- ---- tests of all places

pub every-fails : (n : ℕ) (test : ℕ → Bool) (i : ℕ) → i < n → test i ≡ false → false ≡ every n test
every-fails n test i b e = sym (every-stop n i test b e)

pub all-passed : (n k : ℕ) (test : ℕ → Bool) → k ≡ n → every k test ≡ true → true ≡ every n test
all-passed n k test e t = sym (rw e at t)

-- ---- all places of a face

room-like :
    (ls ts : List ℕ) (np np' : ℕ) (links links' : List ℕ) (k : ℕ) → np' ≡ np → length links' ≡ length links → LinksRoom ls ts np links k →
    LinksRoom ls ts np' links' k
room-like ls ts np np' links links' k a b r =
    record {
      listed-fit = r.listed-fit;
      tos-fit = r.tos-fit;
      links-fit = omega (arith, r.links-fit);
      low-fit = omega (arith, r.low-fit);
      few = r.few;
    }

-- i places from place a on were entered, and none was the third on its edge
pub record Entering (ls ts heads₀ links₀ mates₀ seconds₀ heads links mates seconds : List ℕ) (a n i : ℕ) : Type 0 where
  pub not-past : i ≤ n
  pub heads-length : length heads ≡ length heads₀
  pub links-length : length links ≡ length links₀
  pub mates-length : length mates ≡ length mates₀
  pub seconds-length : length seconds ≡ length seconds₀
  pub entered : PlacesEntered ls ts heads links mates seconds (a + i)
  pub passed : every i (λ i. not (third_at ls ts (a + i))) ≡ true

pub entering-none :
    (ls ts heads links mates seconds : List ℕ) (a n : ℕ) → PlacesEntered ls ts heads links mates seconds a →
    Entering ls ts heads links mates seconds heads links mates seconds a n 0
entering-none ls ts heads links mates seconds a n e =
    let z : a + 0 ≡ a = omega arith in
    record {
      not-past = omega arith;
      heads-length = refl;
      links-length = refl;
      mates-length = refl;
      seconds-length = refl;
      entered = rw z e;
      passed = unfold every in refl;
    }

module _ (ls ts heads₀ links₀ mates₀ seconds₀ heads links mates seconds : List ℕ) (a n i : ℕ)
    (e : Entering ls ts heads₀ links₀ mates₀ seconds₀ heads links mates seconds a n i)
    (rooms : PlacesRoom ls ts (length heads₀) links₀ mates₀ seconds₀ a n) (l : i < n) where
  pub entering-room : LinksRoom ls ts (length heads) links (a + i)
  entering-room = room-like ls ts (length heads₀) (length heads) links₀ links (a + i) e.heads-length e.links-length (rooms.room i l)

  pub entering-pair-room : PairRoom mates seconds (a + i)
  entering-pair-room =
      record {
        mates-fit = omega (arith, e.mates-length, (rooms.pair-room i l).mates-fit);
        seconds-fit = omega (arith, e.seconds-length, (rooms.pair-room i l).seconds-fit);
        few = (rooms.pair-room i l).few;
      }

  pub entering-few : a + i < 16384
  entering-few = (rooms.room i l).few

  pub entering-more :
      (heads' links' mates' seconds' : List ℕ) (r : Bool) → length heads' ≡ length heads → length links' ≡ length links →
      length mates' ≡ length mates → length seconds' ≡ length seconds → r ≡ not (third_at ls ts (a + i)) →
      PlacesEntered ls ts heads' links' mates' seconds' (a + i + 1) → r ≡ true →
      Entering ls ts heads₀ links₀ mates₀ seconds₀ heads' links' mates' seconds' a n (i + 1)
  entering-more heads' links' mates' seconds' r x y z w q after t =
      let s : a + (i + 1) ≡ a + i + 1 = omega arith in
      record {
        not-past = omega arith;
        heads-length = x ∙ e.heads-length;
        links-length = y ∙ e.links-length;
        mates-length = z ∙ e.mates-length;
        seconds-length = w ∙ e.seconds-length;
        entered = rw s after;
        passed = every_more i (λ i. not (third_at ls ts (a + i))) e.passed (sym q ∙ t);
      }

  pub entering-stopped :
      (r : Bool) → r ≡ not (third_at ls ts (a + i)) → r ≡ false → false ≡ every n (λ i. not (third_at ls ts (a + i)))
  entering-stopped r q t = every-fails n (λ i. not (third_at ls ts (a + i))) i l (sym q ∙ t)

pub entering-all :
    (ls ts heads₀ links₀ mates₀ seconds₀ heads links mates seconds : List ℕ) (a n i : ℕ) → n ≤ i →
    Entering ls ts heads₀ links₀ mates₀ seconds₀ heads links mates seconds a n i →
    (true ≡ every n (λ i. not (third_at ls ts (a + i)))) × PlacesEntered ls ts heads links mates seconds (a + n)
entering-all ls ts heads₀ links₀ mates₀ seconds₀ heads links mates seconds a n i b e =
    let s : i ≡ n = omega (arith, e.not-past) in (sym (rw s at e.passed), rw s at e.entered)
