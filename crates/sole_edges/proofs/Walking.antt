-- The walk about a point that notes each edge at its other end, over plain variables: n of k edges are passed, the next is i.
-- Assumes nothing.
use mathlib.Core.Path.{◌≡◌, refl, sym, ◌∙◌, ap, subst}
use mathlib.Core.Bool.{Bool, true, false, not, cond, false≢true}
use mathlib.Core.List.{List}
use mathlib.Core.Logic.{◌≢◌}
use Prim.Native.Nat.{ℕ, ◌+◌, ◌-◌, ◌*◌, ◌/◌, ◌≤◌, ◌<◌}
use native.Mathlib.Omega.{arith}
use native.Mathlib.Decide.{dec_lt, ℕ_discrete}
use borrow.Author.Tests.{lt-ltb, le-ltb}
use lib.Dec.{eqb, ltb}
use lib.ListN.{length, get_or, set, length-set}
use lib.Seq.{get_or-set_same, get_or-set_other}
use Rattle.tables.specs.Mesh.{Mesh, valence, start, origin, dest}
use Rattle.audited_meshes.specs.Walks.{acw_of_point, Touches}
use Rattle.audited_meshes.proofs.Tests.{Is, and_is, not_is, eqb_is, ltb-is}
use Rattle.audited_meshes.proofs.Audited.{touches-is}
use Rattle.walks.specs.Steps.{point_across}
use Rattle.few_edges.specs.Rounds.{walk_after, edge_about, Round, EndsApart}
use Rattle.sole_edges.specs.Sole.{ends_window, second, unseen, edge_noted, ApartIn, SoleIn, RoundsFrom}
use Rattle.few_edges.proofs.Joins.{joins-of-touches, same-of-joins, other-touched, other_differs, joins-other}
use Rattle.few_edges.proofs.Rounds.{after_one}

-- ---- one edge edge_noted

second_is : (m : Mesh) (ne p q i s : ℕ) → Is (second m ne p q i s) ((((s < ne) × (s ≢ i)) × Touches m p s) × Touches m q s)
second_is m ne p q i s = and_is (and_is (and_is (ltb-is s ne) (not_is (eqb_is s i))) (touches-is m p s)) (touches-is m q s)

not-of : (b : Bool) → not b ≡ true → b ≡ false
not-of true h = sym h
not-of false h = refl

of-not : (b : Bool) → not b ≡ false → b ≡ true
of-not true h = refl
of-not false h = sym h

module _ (m : Mesh) (ne base p : ℕ) (seen : List ℕ) (q i : ℕ) where
  -- in the window, an edge that is unseen finds no second one
  unseen-inside : base ≤ q → q - base < ends_window → unseen m ne base p seen q i ≡ true
      → second m ne p q i (get_or seen (q - base) 0) ≡ false
  unseen-inside lo hi h = not-of _ (rw (le-ltb q base lo, lt-ltb _ _ hi) at h)

  -- an edge that is seen is in the window and finds a second one
  seen-inside : unseen m ne base p seen q i ≡ false
      → (base ≤ q) × (q - base < ends_window) × (second m ne p q i (get_or seen (q - base) 0) ≡ true)
  seen-inside h = go (dec_lt q base) (dec_lt (q - base) ends_window)
    where
      go : Dec (q < base) → Dec (q - base < ends_window)
          → (base ≤ q) × (q - base < ends_window) × (second m ne p q i (get_or seen (q - base) 0) ≡ true)
      go (yes l) d = absurd (false≢true (sym h ∙ rw (lt-ltb q base l) refl))
      go (no g) (yes l) = (omega arith, l, of-not _ (rw (le-ltb q base (omega arith), lt-ltb _ _ l) at h))
      go (no g) (no f) = absurd (false≢true (sym h ∙ rw (le-ltb q base (omega arith), le-ltb (q - base) ends_window (omega arith)) refl))

module _ (base : ℕ) (seen : List ℕ) (q i : ℕ) where
  noted-inside : base ≤ q → q - base < ends_window → edge_noted base seen q i ≡ set seen (q - base) i
  noted-inside lo hi = rw (le-ltb q base lo, lt-ltb _ _ hi)

  noted-before : q < base → edge_noted base seen q i ≡ seen
  noted-before l = rw (lt-ltb q base l)

  pub noted-length : length (edge_noted base seen q i) ≡ length seen
  noted-length = go (ltb q base) (ltb (q - base) ends_window)
    where
      go : (a b : Bool) → length (cond a seen (cond b (set seen (q - base) i) seen)) ≡ length seen
      go true b = refl
      go false true = length-set seen (q - base) i
      go false false = refl

  -- what stands elsewhere is kept
  noted_other : (k : ℕ) → k ≢ q - base → get_or (edge_noted base seen q i) k 0 ≡ get_or seen k 0
  noted_other k d = go (ltb q base) (ltb (q - base) ends_window)
    where
      go : (a b : Bool) → get_or (cond a seen (cond b (set seen (q - base) i) seen)) k 0 ≡ get_or seen k 0
      go true b = refl
      go false true = get_or-set_other seen (q - base) k i 0 d
      go false false = refl

  noted-same : base ≤ q → q - base < ends_window → ends_window ≤ length seen → get_or (edge_noted base seen q i) (q - base) 0 ≡ i
  noted-same lo hi l = ap (λ (s : List ℕ). get_or s (q - base) 0) (noted-inside lo hi) ∙ get_or-set_same seen (q - base) i 0 (omega arith)

-- ---- the walk

module _ (m : Mesh) (ne p base : ℕ) where
  -- edge j is edge_noted at its other end, if this is in the window
  abbrev pub Noted : List ℕ → ℕ → Type 0
  Noted seen j = base ≤ point_across m p j → point_across m p j < base + ends_window → get_or seen (point_across m p j - base) 0 ≡ j

  abbrev pub OnPoint : ℕ → Type 0
  OnPoint e = (e < ne) × Touches m p e

  pub record Walking (k : ℕ) (seen : List ℕ) (n i : ℕ) : Type 0 where
    pub many : k ≡ valence m p
    pub within : n ≤ k
    pub room : ends_window ≤ length seen
    pub here : i ≡ edge_about m p n
    pub on : (a : ℕ) → a < n → OnPoint (edge_about m p a)
    pub away : (a : ℕ) → 0 < a → a < n → edge_about m p a ≢ start m p
    pub passed : (a : ℕ) → a < n → Noted seen (edge_about m p a)

  pub walking_start : (k i : ℕ) (seen : List ℕ) → k ≡ valence m p → i ≡ start m p → ends_window ≤ length seen → Walking k seen 0 i
  unfolding walk_after
  walking_start k i seen a b l = record {
    many = a;
    within = omega arith;
    room = l;
    here = b;
    on = λ a l. absurd (omega arith);
    away = λ a h l. absurd (omega arith);
    passed = λ a l. absurd (omega arith);
  }

  -- what was edge_noted stays, unless a second edge is found
  noted-kept : (seen : List ℕ) (i j : ℕ) → ends_window ≤ length seen → OnPoint j
      → unseen m ne base p seen (point_across m p i) i ≡ true → Noted seen j → Noted (edge_noted base seen (point_across m p i) i) j
  noted-kept seen i j room oj fresh was lo hi = go (ℕ_discrete (point_across m p j) (point_across m p i))
    where
      go : Dec (point_across m p j ≡ point_across m p i) → get_or (edge_noted base seen (point_across m p i) i) (point_across m p j - base) 0 ≡ j
      go (no d) = apart (dec_lt (point_across m p i) base)
        where
          apart : Dec (point_across m p i < base) → get_or (edge_noted base seen (point_across m p i) i) (point_across m p j - base) 0 ≡ j
          apart (yes l) =
              ap (λ (s : List ℕ). get_or s (point_across m p j - base) 0) (noted-before base seen (point_across m p i) i l) ∙ was lo hi
          apart (no g) = noted_other base seen (point_across m p i) i (point_across m p j - base) (λ e. d (omega arith)) ∙ was lo hi
      go (yes e) = same (ℕ_discrete j i)
        where
          there : get_or seen (point_across m p i - base) 0 ≡ j
          there = ap (λ (x : ℕ). get_or seen (x - base) 0) (sym e) ∙ was lo hi

          touched : Touches m (point_across m p i) j
          touched = subst (λ (x : ℕ). Touches m x j) e (other-touched m p j)

          same : Dec (j ≡ i) → get_or (edge_noted base seen (point_across m p i) i) (point_across m p j - base) 0 ≡ j
          same (yes s) =
              ap (λ (x : ℕ). get_or (edge_noted base seen (point_across m p i) i) (x - base) 0) e
              ∙ noted-same base seen (point_across m p i) i (omega arith) (omega arith) room ∙ sym s
          same (no d) =
              absurd (false≢true
              (sym (unseen-inside m ne base p seen (point_across m p i) i (omega arith) (omega arith) fresh)
              ∙ ap (λ (x : ℕ). second m ne p (point_across m p i) i x) there
              ∙ (second_is m ne p (point_across m p i) i j).1 (((oj.0, d), oj.1), touched)))

  noted_here : (seen : List ℕ) (i : ℕ) → ends_window ≤ length seen → Noted (edge_noted base seen (point_across m p i) i) i
  noted_here seen i room lo hi = noted-same base seen (point_across m p i) i lo (omega arith) room

  module _ (k : ℕ) (seen : List ℕ) (n i : ℕ) (h : Walking k seen n i) where
    -- the edge that the walk has come to
    pub walking-lost : n < k → (OnPoint i → ⊥) → Round m ne p → ⊥
    walking-lost l off r = off (subst OnPoint (sym h.here) (r.on n (omega (arith, h.many))))

    -- one edge more, and no second one was edge_noted: its other end is q, the notes are seen' then
    pub walking-next : n < k → (0 < n → i ≢ start m p) → OnPoint i → (q next : ℕ) (seen' : List ℕ) → q ≡ point_across m p i
        → next ≡ acw_of_point m p i → unseen m ne base p seen q i ≡ true → seen' ≡ edge_noted base seen q i → Walking k seen' (n + 1) next
    walking-next l yet oi q next seen' other along fresh notes = record {
      many = h.many;
      within = omega arith;
      room = omega (arith, ap length now, noted-length base seen (point_across m p i) i, h.room);
      here = along ∙ ap (acw_of_point m p) h.here ∙ sym (after_one (acw_of_point m p) n (start m p));
      on = λ a b. on-more a b (ℕ_discrete n a);
      away = λ a b c. away-more a b c (ℕ_discrete n a);
      passed = λ a b. subst (λ (s : List ℕ). Noted s (edge_about m p a)) (sym now) (passed-more a b (ℕ_discrete n a));
    }
      where
        now : seen' ≡ edge_noted base seen (point_across m p i) i
        now = notes ∙ ap (λ (x : ℕ). edge_noted base seen x i) other

        below : (a : ℕ) → a < n + 1 → n ≢ a → a < n
        below a l d = go (dec_lt a n)
          where
            go : Dec (a < n) → a < n
            go (yes b) = b
            go (no g) = absurd (d (omega arith))

        on-more : (a : ℕ) → a < n + 1 → Dec (n ≡ a) → OnPoint (edge_about m p a)
        on-more a b (yes s) = subst (λ (x : ℕ). OnPoint (edge_about m p x)) s (subst OnPoint h.here oi)
        on-more a b (no d) = h.on a (below a b d)

        away-more : (a : ℕ) → 0 < a → a < n + 1 → Dec (n ≡ a) → edge_about m p a ≢ start m p
        away-more a b c (yes s) same = yet (omega arith) (h.here ∙ ap (edge_about m p) s ∙ same)
        away-more a b c (no d) same = h.away a b (below a c d) same

        passed-more : (a : ℕ) → a < n + 1 → Dec (n ≡ a) → Noted (edge_noted base seen (point_across m p i) i) (edge_about m p a)
        passed-more a b (yes s) =
            subst (Noted (edge_noted base seen (point_across m p i) i)) (h.here ∙ ap (edge_about m p) s) (noted_here seen i h.room)
        passed-more a b (no d) =
            noted-kept seen i (edge_about m p a) h.room (h.on a (below a b d))
            (ap (λ (x : ℕ). unseen m ne base p seen x i) (sym other) ∙ fresh) (h.passed a (below a b d))

    -- where each edge is the only one between its two points, no second one is found
    pub walking-stop : ((e : ℕ) → e < ne → origin m e ≢ dest m e) → OnPoint i → (q : ℕ) → q ≡ point_across m p i
        → unseen m ne base p seen q i ≡ false → SoleIn m ne p base → ⊥
    walking-stop differ oi q other found sole =
        let (lo, hi, again) = seen-inside m ne base p seen (point_across m p i) i (ap (λ (x : ℕ). unseen m ne base p seen x i) (sym other) ∙ found) in
        let s = (second_is m ne p (point_across m p i) i (get_or seen (point_across m p i - base) 0)).0 again in
        let d = differ i oi.0 in
        let away = other_differs m p i d oi.1 in
        let joins = joins-of-touches m p (point_across m p i) (get_or seen (point_across m p i - base) 0) away s.0.1 s.1 in
        s.0.0.1
        (sym (sole i (get_or seen (point_across m p i - base) 0) oi.0 s.0.0.0 oi.1
        (same-of-joins m p (point_across m p i) i (get_or seen (point_across m p i - base) 0) (joins-other m p i d oi.1) joins) lo (omega arith)))

    -- the walk is at its start again walk_after its valence
    pub walking-home : n ≡ k → i ≡ start m p → Round m ne p × ApartIn m p base
    walking-home l home = (
      record {
        on = λ a b. h.on a (all a b);
        home = ap (edge_about m p) (sym all-passed) ∙ sym h.here ∙ home;
        away = λ a b c. h.away a b (all a c);
      },
      λ a b la lb same lo hi.
          sym (h.passed a (all a la) lo hi) ∙ ap (λ (x : ℕ). get_or seen (x - base) 0) same
          ∙ h.passed b (all b lb) (subst (λ (x : ℕ). base ≤ x) same lo) (subst (λ (x : ℕ). x < base + ends_window) same hi),
    )
      where
        all-passed : n ≡ valence m p
        all-passed = l ∙ h.many

        all : (a : ℕ) → a < valence m p → a < n
        all a b = omega (arith, all-passed)

    -- it is there walk_after its valence, if it is there again at all before
    pub walking-early : 0 < n → i ≡ start m p → Round m ne p → n ≡ k
    walking-early some home r = go (dec_lt n k)
      where
        go : Dec (n < k) → n ≡ k
        go (yes l) = absurd (r.away n some (omega (arith, h.many)) (sym h.here ∙ home))
        go (no g) = omega (arith, h.within)

    pub walking-late : k ≤ n → Round m ne p → i ≡ start m p
    walking-late l r =
        let all-passed : n ≡ valence m p = omega (arith, h.many, h.within) in
        h.here ∙ ap (edge_about m p) all-passed ∙ r.home

-- ---- all windows together

pub same-at-most : (a b : ℕ) → a ≡ b → b ≤ a
same-at-most a b e = omega arith

-- what holds of the numbers below n and of n holds of those below n + 1
pub below_more : (A : ℕ → Type 0) (n : ℕ) → ((j : ℕ) → j < n → A j) → A n → (j : ℕ) → j < n + 1 → A j
below_more A n all a j l = go (dec_lt j n)
  where
    go : Dec (j < n) → A j
    go (yes lt) = all j lt
    go (no g) = subst A (omega arith) a

-- one point more
pub rounds-more : (m : Mesh) (ne from p : ℕ) → RoundsFrom m p ne from → Round m ne p × EndsApart m p → RoundsFrom m (p + 1) ne from
rounds-more m ne from p rounds here q a b = go (dec_lt q p)
  where
    go : Dec (q < p) → Round m ne q × EndsApart m q
    go (yes l) = rounds q a l
    go (no g) = subst (λ (x : ℕ). Round m ne x × EndsApart m x) (omega arith) here

-- the points before p, and those from p on
pub rounds-joined : (m : Mesh) (np ne p : ℕ) → RoundsFrom m p ne 0 → RoundsFrom m np ne p → RoundsFrom m np ne 0
rounds-joined m np ne p before behind q a b = go (dec_lt q p)
  where
    go : Dec (q < p) → Round m ne q × EndsApart m q
    go (yes l) = before q a l
    go (no g) = behind q (omega arith) b

pub apart-of-windows : (m : Mesh) (np ne p : ℕ) → ((i : ℕ) → i < ne → point_across m p i < np) → Round m ne p
    → ((k : ℕ) → k < np / ends_window + 1 → ApartIn m p (k * ends_window)) → EndsApart m p
apart-of-windows m np ne p below r apart a b la lb same =
    let o = point_across m p (edge_about m p a) in
    let l : o < np = below (edge_about m p a) (r.on a la).0 in
    apart (o / ends_window) (omega arith) a b la lb same (omega arith) (omega arith)

pub other-below : (m : Mesh) (np p i : ℕ) → origin m i < np → dest m i < np → point_across m p i < np
other-below m np p i a b = go (eqb (origin m i) p)
  where
    go : (t : Bool) → cond t (dest m i) (origin m i) < np
    go true = b
    go false = a
