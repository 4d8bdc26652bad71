-- The laws of parts kept in two lists. Assumes nothing.
use mathlib.Core.Path.{◌≡◌, refl, sym, ◌∙◌, ap}
use mathlib.Core.Bool.{Bool, true, false, not, beq, ◌||◌, false≢true, or-false}
use mathlib.Core.Logic.{◌⊎◌, inl, inr, ◌≢◌}
use mathlib.Core.List.{List}
use Prim.Native.Nat.{ℕ, ◌≤◌, ◌<◌, min, max}
use native.Mathlib.Omega.{arith}
use native.Mathlib.Decide.{ℕ_discrete, dec_lt}
use lib.ListN.{length, get_or, set, length-set}
use lib.Seq.{get_or-set_same, get_or-set_other}
use Rattle.mended_lists.specs.declared.Part.{Part}
use Rattle.mended_lists.specs.Parts.{Parts, differ, lone_part, part_moved, apart, parts_joined}
use Rattle.mended_lists.proofs.Parts.{differ_self, differ-false, differ-swap, differ-assoc, Moves, here, elsewhere, moves, Joins, one, two, joins, moved_all}
use Rattle.face_parts.specs.Kept.{shifted, Falling, PartsKept, FoundPart, JoinedParts}

-- the language's test of two truth values for being unlike
pub differ-is : (a b : Bool) → not (beq a b) ≡ differ a b
differ-is true true = refl
differ-is true false = refl
differ-is false true = refl
differ-is false false = refl

shifted-shifted : (a b : Bool) (p : Part) → shifted a (shifted b p) ≡ shifted (differ a b) p
shifted-shifted a b p =
    ap (λ (x : Bool). record { root = p.root; odd = x }) (differ-assoc p.odd b a ∙ ap (differ p.odd) (differ-swap b a))

shifted-false : (p : Part) → shifted false p ≡ p
shifted-false p = ap (λ (x : Bool). record { root = p.root; odd = x }) (differ-false p.odd)

-- what stands in a list after one place was set
get_or-set-either :
    (A : Type 0) (l : List A) (i j : ℕ) (a d : A) (P : A → Type 0) → i < length l → (j ≡ i → P a) → (j ≢ i → P (get_or l j d)) → P (get_or (set l i a) j d)
get_or-set-either A l i j a d P b set_here else-there = go (ℕ_discrete j i)
  where
    go : Dec (j ≡ i) → P (get_or (set l i a) j d)
    go (yes e) = rw (e, get_or-set_same l i a d b) (set_here e)
    go (no e) = rw (get_or-set_other l i j a d e) (else-there e)

-- face g skips the face u that it points to
module _ (ups : List ℕ) (odds : List Bool) (falling : Falling ups odds) (g : ℕ) (l : g < length ups) where
  abbrev up : ℕ
  up = get_or ups g 0

  abbrev skipped_ups : List ℕ
  skipped_ups = set ups g (get_or ups (get_or ups g 0) 0)

  abbrev skipped_odds : List Bool
  skipped_odds = set odds g (differ (get_or odds g false) (get_or odds (get_or ups g 0) false))

  up-below : get_or ups (get_or ups g 0) 0 ≤ get_or ups g 0
  up-below = falling.below (get_or ups g 0) (omega (arith, falling.below g l))

  pub skip-falling : Falling skipped_ups skipped_odds
  skip-falling = record { like = like; below = below }
    where
      like : length skipped_odds ≡ length skipped_ups
      like = length-set odds g (differ (get_or odds g false) (get_or odds (get_or ups g 0) false)) ∙ falling.like
          ∙ sym (length-set ups g (get_or ups (get_or ups g 0) 0))

      below : (f : ℕ) → f < length skipped_ups → get_or skipped_ups f 0 ≤ f
      below f b =
          let b' : f < length ups = rw (length-set ups g (get_or ups (get_or ups g 0) 0)) at b in
          get_or-set-either ℕ ups g f (get_or ups (get_or ups g 0) 0) 0 (λ x. x ≤ f) l (λ e. omega (arith, up-below, falling.below g l))
          (λ e. falling.below f b')

  pub skip-kept : (s : Parts) → PartsKept ups odds s → PartsKept skipped_ups skipped_odds s
  skip-kept s k = record { step = step; top = top }
    where
      both : s.part g ≡ shifted (differ (get_or odds g false) (get_or odds (get_or ups g 0) false)) (s.part (get_or ups (get_or ups g 0) 0))
      both =
          k.step g l ∙ ap (shifted (get_or odds g false)) (k.step (get_or ups g 0) (omega (arith, falling.below g l)))
          ∙ shifted-shifted (get_or odds g false) (get_or odds (get_or ups g 0) false) (s.part (get_or ups (get_or ups g 0) 0))

      step : (f : ℕ) → f < length skipped_ups → s.part f ≡ shifted (get_or skipped_odds f false) (s.part (get_or skipped_ups f 0))
      step f b = go (ℕ_discrete f g)
        where
          b' : f < length ups
          b' = rw (length-set ups g (get_or ups (get_or ups g 0) 0)) at b

          go : Dec (f ≡ g) → s.part f ≡ shifted (get_or skipped_odds f false) (s.part (get_or skipped_ups f 0))
          go (yes e) =
              let o : g < length odds = omega (arith, falling.like) in
              rw (
                e,
                get_or-set_same ups g (get_or ups (get_or ups g 0) 0) 0 l,
                get_or-set_same odds g (differ (get_or odds g false) (get_or odds (get_or ups g 0) false)) false o,
              )
              both
          go (no e) =
              rw (
                get_or-set_other ups g f (get_or ups (get_or ups g 0) 0) 0 e,
                get_or-set_other odds g f (differ (get_or odds g false) (get_or odds (get_or ups g 0) false)) false e,
              )
              (k.step f b')

      top : (f : ℕ) → f < length skipped_ups → get_or skipped_ups f 0 ≡ f → s.part f ≡ lone_part f
      top f b = get_or-set-either ℕ ups g f (get_or ups (get_or ups g 0) 0) 0 (λ x. x ≡ f → s.part f ≡ lone_part f) l (λ e q. skipped e q) (λ e q. k.top f b' q)
        where
          b' : f < length ups
          b' = rw (length-set ups g (get_or ups (get_or ups g 0) 0)) at b

          skipped : f ≡ g → get_or ups (get_or ups g 0) 0 ≡ f → s.part f ≡ lone_part f
          skipped e q = rw e (k.top g l (omega (arith, up-below, falling.below g l)))

-- face high is hung under face low
module _ (ups : List ℕ) (odds : List Bool) (high low : ℕ) (d : Bool) (falling : Falling ups odds) (l : high < length ups) (lower : low < high) where
  pub hang-falling : Falling (set ups high low) (set odds high d)
  hang-falling =
      record {
        like = length-set odds high d ∙ falling.like ∙ sym (length-set ups high low);
        below =
            λ f b. let b' : f < length ups = rw (length-set ups high low) at b in
            get_or-set-either ℕ ups high f low 0 (λ x. x ≤ f) l (λ e. omega arith) (λ e. falling.below f b');
      }

  moved-shifted : (o : Bool) (p : Part) → part_moved high low d (shifted o p) ≡ shifted o (part_moved high low d p)
  moved-shifted o p = go (moves high low d p) (moves high low d (shifted o p))
    where
      go : Moves high low d p → Moves high low d (shifted o p) → part_moved high low d (shifted o p) ≡ shifted o (part_moved high low d p)
      go (here h m) (here k n) =
          n ∙ ap (λ (x : Bool). record { root = low; odd = x })
          (differ-assoc p.odd o d ∙ ap (differ p.odd) (differ-swap o d) ∙ sym (differ-assoc p.odd d o))
          ∙ ap (shifted o) (sym m)
      go (here h m) (elsewhere k n) = absurd (k h)
      go (elsewhere h m) (here k n) = absurd (h k)
      go (elsewhere h m) (elsewhere k n) = n ∙ ap (shifted o) (sym m)

  module _ (s : Parts) (k : PartsKept ups odds s) (high-top : s.part high ≡ lone_part high) (low-top : s.part low ≡ lone_part low) where
    moved-high : part_moved high low d (s.part high) ≡ record { root = low; odd = d }
    moved-high = go (moves high low d (s.part high))
      where
        go : Moves high low d (s.part high) → part_moved high low d (s.part high) ≡ record { root = low; odd = d }
        go (here h m) = m ∙ ap (λ (p : Part). record { root = low; odd = differ p.odd d }) high-top
        go (elsewhere h m) = absurd (h (ap (λ (p : Part). p.root) high-top))

    moved_other : (f : ℕ) → f ≢ high → s.part f ≡ lone_part f → part_moved high low d (s.part f) ≡ lone_part f
    moved_other f e t = go (moves high low d (s.part f))
      where
        go : Moves high low d (s.part f) → part_moved high low d (s.part f) ≡ lone_part f
        go (here h m) = absurd (e (sym (ap (λ (p : Part). p.root) t) ∙ h))
        go (elsewhere h m) = m ∙ t

    pub hang-kept : PartsKept (set ups high low) (set odds high d) (moved_all s high low d)
    hang-kept = record { step = step; top = top }
      where
        step :
            (f : ℕ) → f < length (set ups high low) →
            part_moved high low d (s.part f)
            ≡ shifted (get_or (set odds high d) f false) (part_moved high low d (s.part (get_or (set ups high low) f 0)))
        step f b = go (ℕ_discrete f high)
          where
            b' : f < length ups
            b' = rw (length-set ups high low) at b

            go :
                Dec (f ≡ high) →
                part_moved high low d (s.part f)
                ≡ shifted (get_or (set odds high d) f false) (part_moved high low d (s.part (get_or (set ups high low) f 0)))
            go (yes e) =
                let o : high < length odds = omega (arith, falling.like) in
                rw (e, get_or-set_same ups high low 0 l, get_or-set_same odds high d false o)
                (moved-high ∙ ap (shifted d) (sym (moved_other low (λ q. omega arith) low-top)))
            go (no e) =
                rw (get_or-set_other ups high f low 0 e, get_or-set_other odds high f d false e)
                (ap (part_moved high low d) (k.step f b') ∙ moved-shifted (get_or odds f false) (s.part (get_or ups f 0)))

        top : (f : ℕ) → f < length (set ups high low) → get_or (set ups high low) f 0 ≡ f → part_moved high low d (s.part f) ≡ lone_part f
        top f b =
            get_or-set-either ℕ ups high f low 0 (λ x. x ≡ f → part_moved high low d (s.part f) ≡ lone_part f) l (λ e q. absurd (never e q))
            (λ e q. moved_other f e (k.top f b' q))
          where
            b' : f < length ups
            b' = rw (length-set ups high low) at b

            never : f ≡ high → low ≡ f → ⊥
            never e q = omega arith

-- ---- a search that started at face f in the lists ups₀ and odds₀ and has come to face g

pub record Finding (ups₀ : List ℕ) (odds₀ : List Bool) (ups : List ℕ) (odds : List Bool) (f g : ℕ) (odd : Bool) : Type 0 where
  pub same_length : length ups ≡ length ups₀
  pub falling : Falling ups odds
  pub not-above : g ≤ f
  pub kept : (s : Parts) → PartsKept ups₀ odds₀ s → PartsKept ups odds s
  pub part : (s : Parts) → PartsKept ups₀ odds₀ s → s.part f ≡ shifted odd (s.part g)

pub find-start : (ups : List ℕ) (odds : List Bool) (f : ℕ) → Falling ups odds → Finding ups odds ups odds f f false
find-start ups odds f falling =
    record {
      same_length = refl;
      falling = falling;
      not-above = omega arith;
      kept = λ s k. k;
      part = λ s k. sym (shifted-false (s.part f));
    }

module _ (ups₀ : List ℕ) (odds₀ : List Bool) (ups : List ℕ) (odds : List Bool) (ups' : List ℕ) (odds' : List Bool) (f g h : ℕ) (odd : Bool)
    (l : f < length ups₀) (i : Finding ups₀ odds₀ ups odds f g odd) (same : h ≡ g)
    (e' : ups' ≡ set ups h (get_or ups (get_or ups h 0) 0))
    (o' : odds' ≡ set odds h (differ (get_or odds h false) (get_or odds (get_or ups h 0) false))) where
  e : ups' ≡ set ups g (get_or ups (get_or ups g 0) 0)
  e = rw same at e'

  o : odds' ≡ set odds g (differ (get_or odds g false) (get_or odds (get_or ups g 0) false))
  o = rw same at o'

  find-below : g < length ups
  find-below = omega (arith, i.same_length, i.not-above)

  falling-after : Falling ups' odds'
  falling-after = rw (e, o) (skip-falling ups odds i.falling g find-below)

  find-length : length ups' ≡ length ups
  find-length = ap length e ∙ length-set ups g (get_or ups (get_or ups g 0) 0)

  pub find-in : h < length ups'
  find-in = omega (arith, find-length, find-below)

  pub find-in-odds : h < length odds'
  find-in-odds = omega (arith, find-length, find-below, falling-after.like)

  pub find-next : get_or ups' h 0 < length ups'
  find-next = rw same (omega (arith, falling-after.below g (omega (arith, find-below, find-length)), find-length, find-below))

  up-after : get_or ups' g 0 ≡ get_or ups (get_or ups g 0) 0
  up-after = rw e (get_or-set_same ups g (get_or ups (get_or ups g 0) 0) 0 find-below)

  pub find-less : get_or ups g 0 ≢ g → get_or ups' h 0 < g
  find-less d =
      let a : get_or ups g 0 ≤ g = i.falling.below g find-below in
      let b : get_or ups (get_or ups g 0) 0 ≤ get_or ups g 0 = i.falling.below (get_or ups g 0) (omega (arith, find-below)) in
      rw (same, up-after) (omega arith)

  pub find-turn : Finding ups₀ odds₀ ups' odds' f (get_or ups' h 0) (differ odd (get_or odds' h false))
  find-turn =
      rw same
      (record {
        same_length = find-length ∙ i.same_length;
        falling = falling-after;
        not-above = omega (arith, falling-after.below g (omega (arith, find-below, find-length)), i.not-above);
        kept = kept-after;
        part =
            λ s k. i.part s k ∙ ap (shifted odd) ((kept-after s k).step g (omega (arith, find-below, find-length)))
            ∙ shifted-shifted odd (get_or odds' g false) (s.part (get_or ups' g 0));
      })
    where
      kept-after : (s : Parts) → PartsKept ups₀ odds₀ s → PartsKept ups' odds' s
      kept-after s k = rw (e, o) (skip-kept ups odds i.falling g find-below s (i.kept s k))

pub find-end :
    (ups₀ : List ℕ) (odds₀ : List Bool) (ups : List ℕ) (odds : List Bool) (f g : ℕ) (odd : Bool) → f < length ups₀ →
    Finding ups₀ odds₀ ups odds f g odd → get_or ups g 0 ≡ g →
    FoundPart ups₀ odds₀ ups odds f (record { root = g; odd = odd })
find-end ups₀ odds₀ ups odds f g odd l i e =
    record {
      same_length = i.same_length;
      falling = i.falling;
      root_below = i.not-above;
      part = λ s k. i.part s k ∙ ap (shifted odd) (top s k);
      root = top;
      kept = i.kept;
    }
  where
    top : (s : Parts) → PartsKept ups₀ odds₀ s → s.part g ≡ lone_part g
    top s k = (i.kept s k).top g (omega (arith, i.same_length, i.not-above)) e

-- ---- two parts parts_joined

module _ (ups : List ℕ) (odds : List Bool) (ups₁ : List ℕ) (odds₁ : List Bool) (ups₂ : List ℕ) (odds₂ : List Bool) (f g : ℕ) (way : Bool)
    (a b : Part) (found-a : FoundPart ups odds ups₁ odds₁ f a) (found-b : FoundPart ups₁ odds₁ ups₂ odds₂ g b) where
  part-a : (s : Parts) → PartsKept ups odds s → s.part f ≡ a
  part-a s k = found-a.part s k

  part-b : (s : Parts) → PartsKept ups odds s → s.part g ≡ b
  part-b s k = found-b.part s (found-a.kept s k)

  pub join_one : a.root ≡ b.root → JoinedParts ups odds ups₂ odds₂ f g way (apart a b way)
  join_one e =
      record {
        same_length = found-b.same_length ∙ found-a.same_length;
        falling = found-b.falling;
        twisted = λ s k. rw (part-a s k, part-b s k) (twisted s (joins s a b way));
        kept = λ s k. rw (part-a s k, part-b s k) (kept s k (joins s a b way));
      }
    where
      twisted : (s : Parts) → Joins s a b way → (parts_joined s a b way).twisted ≡ (s.twisted || apart a b way)
      twisted s (one e j) = rw j
      twisted s (two d j) = absurd (d e)

      kept : (s : Parts) → PartsKept ups odds s → Joins s a b way → PartsKept ups₂ odds₂ (parts_joined s a b way)
      kept s k (one e j) =
          let old : PartsKept ups₂ odds₂ s = found-b.kept s (found-a.kept s k) in rw j (record { step = old.step; top = old.top })
      kept s k (two d j) = absurd (d e)

  pub join-two :
      (high low : ℕ) → f < length ups → g < length ups → high ≡ max a.root b.root → low ≡ min a.root b.root → low < high →
      JoinedParts ups odds (set ups₂ high low) (set odds₂ high (apart a b way)) f g way false
  join-two high low f-below g-below h l lower =
      record {
        same_length = length-set ups₂ high low ∙ found-b.same_length ∙ found-a.same_length;
        falling = hang-falling ups₂ odds₂ high low (apart a b way) found-b.falling in-range lower;
        twisted = λ s k. rw (part-a s k, part-b s k) (twisted s (joins s a b way));
        kept = λ s k. rw (part-a s k, part-b s k) (kept s k (joins s a b way));
      }
    where
      in-range : high < length ups₂
      in-range =
          omega
          (arith, found-a.root_below, found-b.root_below, found-a.same_length, found-b.same_length)

      apart-roots : a.root ≢ b.root
      apart-roots e = omega arith

      top-a : (s : Parts) → PartsKept ups odds s → s.part a.root ≡ lone_part a.root
      top-a s k = found-a.root s k

      top-b : (s : Parts) → PartsKept ups odds s → s.part b.root ≡ lone_part b.root
      top-b s k = found-b.root s (found-a.kept s k)

      either : (s : Parts) → PartsKept ups odds s → (x : ℕ) → (x ≡ a.root) ⊎ (x ≡ b.root) → s.part x ≡ lone_part x
      either s k x (inl e) = rw e (top-a s k)
      either s k x (inr e) = rw e (top-b s k)

      of_two : (x y : ℕ) → Dec (x < y) → ((max x y ≡ x) ⊎ (max x y ≡ y)) × ((min x y ≡ x) ⊎ (min x y ≡ y))
      of_two x y (yes t) = (inr (omega arith), inl (omega arith))
      of_two x y (no t) = (inl (omega arith), inr (omega arith))

      twisted : (s : Parts) → Joins s a b way → (parts_joined s a b way).twisted ≡ (s.twisted || false)
      twisted s (one e j) = absurd (apart-roots e)
      twisted s (two d j) = rw j (sym (or-false s.twisted))

      kept : (s : Parts) → PartsKept ups odds s → Joins s a b way → PartsKept (set ups₂ high low) (set odds₂ high (apart a b way)) (parts_joined s a b way)
      kept s k (one e j) = absurd (apart-roots e)
      kept s k (two d j) =
          let sides = of_two a.root b.root (dec_lt a.root b.root) in
          rw (j, ← h, ← l)
          (hang-kept ups₂ odds₂ high low (apart a b way) found-b.falling in-range lower s (found-b.kept s (found-a.kept s k))
          (rw h (either s k (max a.root b.root) sides.0)) (rw l (either s k (min a.root b.root) sides.1)))
