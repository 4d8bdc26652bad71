-- The laws of the tests of the whole. Assumes nothing.
use mathlib.Core.Path.{◌≡◌, refl, sym, ◌∙◌, ap}
use mathlib.Core.Bool.{Bool, true, false, not, cond, ◌&&◌, false≢true}
use mathlib.Core.List.{List, []}
use mathlib.Core.Logic.{◌≢◌}
use Prim.Native.Nat.{ℕ, zero, suc, ◌+◌, ◌-◌, ◌*◌, ◌/◌, ◌≤◌, ◌<◌}
use native.Mathlib.Omega.{arith}
use native.Mathlib.Numerals.{add-one}
use native.Mathlib.Decide.{ℕ_discrete}
use lib.Dec.{eqb}
use lib.Ieee.{Float}
use lib.ListN.{length, get_or, set, take, replicate, length-replicate, get_or-replicate, length-set}
use lib.Seq.{length-take-le, get_or-set_same, get_or-set_other}
use borrow.Author.Tests.{eqb-true, eq-eqb}
use Rattle.std.specs.Prelude.{Ok, Err}
use Rattle.tables.specs.Layout.{position_width}
use Rattle.perimeters.specs.Places.{next_place}
use Rattle.perimeters.proofs.Laws.{next-below}
use Rattle.closed_meshes.proofs.Sums.{place-below}
use Rattle.audited_meshes.specs.Folds.{every}
use Rattle.audited_meshes.proofs.Tests.{self-is, every-is}
use Rattle.built_meshes.specs.Lists.{Lists, points_of, faces_of, size, offset}
use Rattle.built_meshes.specs.declared.Ground.TheVariants.{MissingFace, NoEdge, MissedEdge}
use Rattle.building_tests.specs.Lent.{lists}
use Rattle.mended_lists.specs.Edges.{FacePlace, listed_place, places_of, place_at, same_edge, latest, mate, follower, lone}
use Rattle.mended_lists.specs.Mending.{edges_shared}
use Rattle.mended_lists.proofs.Reversal.{eqb-false}
use Rattle.mended_lists.proofs.InTurn.{get_or-in_turn}
use Rattle.mended_lists.proofs.Edges.{places-length, places-at, number-below, Numbered, numbered}
use Rattle.audited_meshes.proofs.Folds.{every_more}
use Rattle.shared_edges.proofs.Laws.{latest-below, latest-same, every-fails, all-passed}
use Rattle.face_mending.proofs.Laws.{every-same}
use Rattle.face_places.specs.Spread.{Spread}
use Rattle.face_places.proofs.Laws.{same-offset}
use Rattle.whole_grounds.specs.Turning.{linked_to, partner, nexts_of, turn_from, start_at, comes, points_begun, comes_back, turns_come, whole_verdict_if, whole_met}
use Rattle.whole_tests.specs.Whole.{step_at, TurnRoom, StartRoom, WholeRoom}

-- ---- the last places that begin at points

abbrev pub Started : List ℕ → List ℕ → ℕ → Type 0
Started ls starts k = (p : ℕ) → p < length starts → get_or starts p 0 ≡ latest (λ k. eqb (get_or ls k 0) p) k

pub start_none : (ls starts : List ℕ) → StartRoom ls starts → Started ls starts 0
unfolding latest
start_none ls starts r p b = r.none_yet p b

pub start-more :
    (ls starts : List ℕ) (k q : ℕ) → q ≡ get_or ls k 0 → q < length starts → Started ls starts k → Started ls (set starts q (k + 1)) (k + 1)
unfolding latest
start-more ls starts k q e b s p h = go (ℕ_discrete q p)
  where
    h' : p < length starts
    h' = rw (length-set starts q (k + 1)) at h

    go : Dec (q ≡ p) → get_or (set starts q (k + 1)) p 0 ≡ latest (λ k. eqb (get_or ls k 0) p) (k + 1)
    go (yes y) =
        let t : eqb (get_or ls k 0) p ≡ true = eq-eqb (get_or ls k 0) p (sym e ∙ y) in
        rw (add-one k, t) (ap (λ (x : ℕ). get_or (set starts q (suc k)) x 0) (sym y) ∙ get_or-set_same starts q (suc k) 0 b)
    go (no d) =
        let t : eqb (get_or ls k 0) p ≡ false = eqb-false (get_or ls k 0) p (λ y. d (e ∙ y)) in
        rw (add-one k, t) (get_or-set_other starts q p (suc k) 0 (λ z. d (sym z)) ∙ s p h')

-- ---- numbers

pub numbers_more :
    (xs : List ℕ) (k : ℕ) → k < length xs → ((j : ℕ) → j < k → get_or xs j 0 ≡ j) → (j : ℕ) → j < k + 1 → get_or (set xs k k) j 0 ≡ j
numbers_more xs k b h j l = go (ℕ_discrete k j)
  where
    go : Dec (k ≡ j) → get_or (set xs k k) j 0 ≡ j
    go (yes e) = ap (λ (x : ℕ). get_or (set xs k k) x 0) (sym e) ∙ get_or-set_same xs k k 0 b ∙ e
    go (no d) = get_or-set_other xs k j k 0 (λ z. d (sym z)) ∙ h j (omega arith)

-- ---- links

pub before-zero : (m : ℕ) → m ≡ 0 → 0 ≡ m - 1
before-zero m e = omega arith

pub linked-none : (m s r : ℕ) → m ≡ 0 → r ≡ s - 1 → r ≡ linked_to m s
linked-none m zero r e h = rw e (h ∙ omega arith)
linked-none m (suc s) r e h = rw e (h ∙ omega arith)

pub linked-some : (m s r : ℕ) → m ≢ 0 → r ≡ m - 1 → r ≡ linked_to m s
linked-some zero s r d h = absurd (d refl)
linked-some (suc j) s r d h = h ∙ omega arith

-- ---- turning

pub comes-here : (step : ℕ → ℕ) (left k s : ℕ) → k ≡ s → true ≡ comes step left k s
unfolding comes
comes-here step zero k s e = sym (eq-eqb k s e)
comes-here step (suc left) k s e = rw (eq-eqb k s e)

pub comes-on : (step : ℕ → ℕ) (left k s : ℕ) → 0 < left → k ≢ s → comes step (left - 1) (step k) s ≡ comes step left k s
unfolding comes
comes-on step zero k s p d = absurd (omega arith)
comes-on step (suc left) k s p d = let e : suc left - 1 ≡ left = omega arith in rw (eqb-false k s d, e)

pub comes-end : (step : ℕ → ℕ) (left k s : ℕ) → left ≡ 0 → eqb k s ≡ comes step left k s
unfolding comes
comes-end step left k s e = rw e

comes-same :
    (n : ℕ) (step other : ℕ → ℕ) → ((k : ℕ) → k < n → step k ≡ other k) → ((k : ℕ) → k < n → step k < n) →
    (fuel k s : ℕ) → k < n → comes step fuel k s ≡ comes other fuel k s
unfolding comes
comes-same n step other e b zero k s h = refl
comes-same n step other e b (suc fuel) k s h =
    ap (cond (eqb k s) true)
    (comes-same n step other e b fuel (step k) s (b k h) ∙ ap (λ (x : ℕ). comes other fuel x s) (e k h))

-- ---- the lists show the places

module _ (ss ls mates seconds : List ℕ) (np : ℕ) (r : WholeRoom ss ls mates seconds np) where
  abbrev L : Lists
  L = lists [] ss ls []

  many : length (places_of L) ≡ length ls
  many = places-length L ∙ sym (same-offset ss ls (length ss / 4)) ∙ r.all_listed

  follower-many : (k : ℕ) → follower (places_of L) (length ls) k ≡ follower (places_of L) (length (places_of L)) k
  follower-many k = ap (λ (n : ℕ). follower (places_of L) n k) (sym many)

  other-shown : (k : ℕ) → k < length ls → linked_to (get_or mates k 0) (get_or seconds k 0) ≡ partner (places_of L) k
  unfolding partner
  other-shown k b = rw (r.mates-shown k b, r.seconds-shown k b, follower-many k)

  other-in : (k : ℕ) → k < length ls → linked_to (get_or mates k 0) (get_or seconds k 0) < length ls
  unfolding mate follower
  other-in k b =
      go (get_or mates k 0) (get_or seconds k 0)
      (omega (arith, r.mates-shown k b, latest-below (λ j. same_edge (place_at (places_of L) j) (place_at (places_of L) k)) k))
      (omega (arith, r.seconds-shown k b, latest-below (λ i. eqb (mate (places_of L) i) (suc k)) (length ls)))
    where
      go : (m s : ℕ) → m ≤ k → s ≤ length ls → linked_to m s < length ls
      go zero zero x y = omega (arith, b)
      go zero (suc s) x y = omega arith
      go (suc m) s x y = omega (arith, b)

  -- the places of numbered points say what comes next
  nexts-shown :
      (numbers nexts owners : List ℕ) → length numbers ≡ length ls → ((k : ℕ) → k < length ls → get_or numbers k 0 ≡ k) →
      Spread (lists [] ss numbers []) nexts owners (length numbers) → (k : ℕ) → k < length ls →
      (get_or nexts k 0 ≡ get_or (nexts_of L) k 0) × (get_or nexts k 0 < length ls)
  unfolding nexts_of offset
  nexts-shown numbers nexts owners e num sp k b = go (numbered L k (rw many b))
    where
      go : Numbered L k → (get_or nexts k 0 ≡ get_or (nexts_of L) k 0) × (get_or nexts k 0 < length ls)
      go u =
          let f = u.face in
          let i = u.place in
          let o = offset L f in
          let below : o + next_place (size L f) i < length ls =
          rw many at (number-below L f (next_place (size L f) i) (u.is-place.0, next-below (size L f) i u.is-place.1)) in
          let x : get_or nexts k 0 ≡ o + next_place (size L f) i =
          sp.to k (omega (arith, e))
          ∙ ap (λ (x : ℕ). (place_at (places_of (lists [] ss numbers [])) x).to) (sym u.number)
          ∙ ap (λ (x : FacePlace). x.to) (places-at (lists [] ss numbers []) f i u.is-place)
          ∙ num (o + next_place (size L f) i) below in
          let y : get_or (nexts_of L) k 0 ≡ o + next_place (size L f) i =
          ap (λ (x : ℕ). get_or (nexts_of L) x 0) (sym u.number)
          ∙ get_or-in_turn (faces_of L) (λ f. size L f) (λ f i. offset L f + next_place (size L f) i) f i 0 u.is-place.0 u.is-place.1 in
          (x ∙ sym y, rw x below)

  pub turn-room :
      (numbers nexts owners : List ℕ) → length numbers ≡ length ls → ((k : ℕ) → k < length ls → get_or numbers k 0 ≡ k) →
      Spread (lists [] ss numbers []) nexts owners (length numbers) → length ls ≤ length nexts → TurnRoom nexts mates seconds (length ls)
  turn-room numbers nexts owners e num sp h =
      record {
        few = r.few;
        nexts-fit = h;
        mates-fit = omega (arith, r.mates-fit);
        seconds-fit = omega (arith, r.seconds-fit);
        other-below = other-in;
        next-below = λ k b. (nexts-shown numbers nexts owners e num sp k b).1;
      }

  pub turns-are :
      (numbers nexts owners : List ℕ) → length numbers ≡ length ls → ((k : ℕ) → k < length ls → get_or numbers k 0 ≡ k) →
      Spread (lists [] ss numbers []) nexts owners (length numbers) → (S : ℕ → ℕ) →
      every (length ls) (λ k. comes (step_at nexts mates seconds) (length ls) k (S k))
      ≡ every (length ls) (λ k. comes (turn_from L) (length ls) k (S k))
  unfolding turn_from
  turns-are numbers nexts owners e num sp S =
      every-same (length ls) (λ k. comes (step_at nexts mates seconds) (length ls) k (S k))
      (λ k. comes (turn_from L) (length ls) k (S k))
      (λ k b. comes-same (length ls) (step_at nexts mates seconds) (turn_from L) step_is
      (λ k b. (nexts-shown numbers nexts owners e num sp (linked_to (get_or mates k 0) (get_or seconds k 0)) (other-in k b)).1)
      (length ls) k (S k) b)
    where
      step_is : (k : ℕ) → k < length ls → step_at nexts mates seconds k ≡ turn_from L k
      step_is k b =
          (nexts-shown numbers nexts owners e num sp (linked_to (get_or mates k 0) (get_or seconds k 0)) (other-in k b)).0
          ∙ ap (λ (x : ℕ). get_or (nexts_of L) x 0) (other-shown k b)

  -- ---- the grounds

  shared-shown : every (length mates) (λ k. not (eqb (get_or mates k 0) 0 && eqb (get_or seconds k 0) 0)) ≡ edges_shared (places_of L)
  unfolding edges_shared lone
  shared-shown =
      every-same (length mates) (λ k. not (eqb (get_or mates k 0) 0 && eqb (get_or seconds k 0) 0))
      (λ k. not (eqb (mate (places_of L) k) 0 && eqb (follower (places_of L) (length (places_of L)) k) 0)) both
      ∙ ap (λ (n : ℕ). every n (λ k. not (eqb (mate (places_of L) k) 0 && eqb (follower (places_of L) (length (places_of L)) k) 0)))
      (r.mates-fit ∙ sym many)
    where
      both :
          (k : ℕ) → k < length mates →
          not (eqb (get_or mates k 0) 0 && eqb (get_or seconds k 0) 0)
          ≡ not (eqb (mate (places_of L) k) 0 && eqb (follower (places_of L) (length (places_of L)) k) 0)
      both k b =
          let b' : k < length ls = omega (arith, r.mates-fit) in rw (r.mates-shown k b', r.seconds-shown k b', follower-many k)

  from_is : (k : ℕ) → k < length ls → get_or ls k 0 ≡ (place_at (places_of L) k).from
  from_is k b =
      let u : Numbered L k = numbered L k (rw many b) in
      sym (ap (λ (x : FacePlace). x.from) u.at ∙ ap (λ (x : ℕ). get_or ls x 0) u.number)

  starts-are : (starts : List ℕ) → Started ls starts (length ls) → (p : ℕ) → p < length starts → get_or starts p 0 ≡ start_at (places_of L) p
  unfolding start_at
  starts-are starts st p b =
      st p b
      ∙ latest-same (λ k. eqb (get_or ls k 0) p) (λ k. eqb (place_at (places_of L) k).from p) (length ls)
      (λ k h. ap (λ (x : ℕ). eqb x p) (from_is k h))
      ∙ ap (latest (λ k. eqb (place_at (places_of L) k).from p)) (sym many)

  module _ (cs : List Float) (e : length cs / position_width ≡ np) where
    begun-shown :
        (starts : List ℕ) → Started ls starts (length ls) → np ≤ length starts →
        every np (λ p. not (eqb (get_or starts p 0) 0)) ≡ points_begun (lists cs ss ls [])
    unfolding points_begun places_of offset
    begun-shown starts st h =
        every-same np (λ p. not (eqb (get_or starts p 0) 0)) (λ p. not (eqb (start_at (places_of L) p) 0))
        (λ p b. ap (λ (x : ℕ). not (eqb x 0)) (starts-are starts st p (omega (arith, h))))
        ∙ ap (λ (n : ℕ). every n (λ p. not (eqb (start_at (places_of L) p) 0))) (sym e)

    come-shown :
        (starts : List ℕ) → Started ls starts (length ls) → np ≤ length starts →
        every (length ls) (λ k. comes (turn_from L) (length ls) k (get_or starts (get_or ls k 0) 0 - 1)) ≡ turns_come L
    unfolding turns_come
    come-shown starts st h =
        every-same (length ls) (λ k. comes (turn_from L) (length ls) k (get_or starts (get_or ls k 0) 0 - 1))
        (λ k. comes (turn_from L) (length (places_of L)) k (start_at (places_of L) (place_at (places_of L) k).from - 1)) each
        ∙ ap
        (λ (n : ℕ). every n (λ k. comes (turn_from L) (length (places_of L)) k (start_at (places_of L) (place_at (places_of L) k).from - 1)))
        (sym many)
      where
        each :
            (k : ℕ) → k < length ls →
            comes (turn_from L) (length ls) k (get_or starts (get_or ls k 0) 0 - 1)
            ≡ comes (turn_from L) (length (places_of L)) k (start_at (places_of L) (place_at (places_of L) k).from - 1)
        each k b =
            ap (λ (n : ℕ). comes (turn_from L) n k (get_or starts (get_or ls k 0) 0 - 1)) (sym many)
            ∙ ap (λ (s : ℕ). comes (turn_from L) (length (places_of L)) k (s - 1))
            (starts-are starts st (get_or ls k 0) (omega (arith, h, r.are-points k b)) ∙ ap (start_at (places_of L)) (from_is k b))

    whole_is : (a b d : Bool) → a ≡ edges_shared (places_of L) → b ≡ points_begun (lists cs ss ls []) → d ≡ turns_come L → whole_verdict_if a b d ≡ whole_met (lists cs ss ls [])
    unfolding whole_met turns_come turn_from nexts_of places_of offset
    whole_is a b d x y z = rw (x, y, z)

    pub missing-met :
        (x : Bool) → x ≡ every (length mates) (λ k. not (eqb (get_or mates k 0) 0 && eqb (get_or seconds k 0) 0)) → x ≡ false →
        Err MissingFace ≡ whole_met (lists cs ss ls [])
    missing-met x q t = whole_is false (points_begun (lists cs ss ls [])) (turns_come L) (sym t ∙ q ∙ shared-shown) refl refl

    module _ (starts : List ℕ) (st : Started ls starts (length ls)) (h : np ≤ length starts) (x y : Bool)
        (q : x ≡ every (length mates) (λ k. not (eqb (get_or mates k 0) 0 && eqb (get_or seconds k 0) 0))) (t : x ≡ true)
        (q' : y ≡ every np (λ p. not (eqb (get_or starts p 0) 0))) where
      pub bare-met : y ≡ false → Err NoEdge ≡ whole_met (lists cs ss ls [])
      bare-met t' = whole_is true false (turns_come L) (sym t ∙ q ∙ shared-shown) (sym t' ∙ q' ∙ begun-shown starts st h) refl

      pub missed-met :
          y ≡ true → (z : Bool) → z ≡ every (length ls) (λ k. comes (turn_from L) (length ls) k (get_or starts (get_or ls k 0) 0 - 1)) →
          z ≡ false → Err MissedEdge ≡ whole_met (lists cs ss ls [])
      missed-met t' z o u =
          whole_is true true false (sym t ∙ q ∙ shared-shown) (sym t' ∙ q' ∙ begun-shown starts st h) (sym u ∙ o ∙ come-shown starts st h)

      pub nothing-met :
          y ≡ true → (z : Bool) → z ≡ every (length ls) (λ k. comes (turn_from L) (length ls) k (get_or starts (get_or ls k 0) 0 - 1)) →
          z ≡ true → Ok tt ≡ whole_met (lists cs ss ls [])
      nothing-met t' z o u =
          whole_is true true true (sym t ∙ q ∙ shared-shown) (sym t' ∙ q' ∙ begun-shown starts st h) (sym u ∙ o ∙ come-shown starts st h)

-- ---- local lists

pub zero-starts :
    (ls : List ℕ) (ss mates seconds : List ℕ) (np n : ℕ) → WholeRoom ss ls mates seconds np → np ≤ n → n ≤ 4096 → StartRoom ls (replicate n 0)
zero-starts ls ss mates seconds np n r h most =
    record {
      starts-few = rw (length-replicate {A = ℕ} n 0) most;
      few = r.few;
      are-points = λ k b. rw (length-replicate {A = ℕ} n 0) (omega (arith, r.are-points k b));
      none_yet = λ p b. get_or-replicate n p 0 0 (rw (length-replicate {A = ℕ} n 0) at b);
    }

-- room for more points
pub wider : (ss ls mates seconds : List ℕ) (np n : ℕ) → WholeRoom ss ls mates seconds np → np ≤ n → WholeRoom ss ls mates seconds n
wider ss ls mates seconds np n r h =
    record {
      all_listed = r.all_listed;
      few = r.few;
      few-faces = r.few-faces;
      mates-fit = r.mates-fit;
      seconds-fit = r.seconds-fit;
      are-points = λ k b. omega (arith, r.are-points k b);
      mates-shown = r.mates-shown;
      seconds-shown = r.seconds-shown;
    }
