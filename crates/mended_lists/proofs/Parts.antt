-- The laws of parts, place by place: roots are the lowest faces met so far, every choice that works turns a face as its part says, and
-- while nothing is twisted the places met so far run opposite ways. Assumes nothing.
use mathlib.Core.Path.{◌≡◌, refl, sym, ◌∙◌, ap}
use mathlib.Core.Bool.{Bool, true, false, ◌||◌, false≢true}
use mathlib.Core.Logic.{◌⊎◌, inl, inr, ◌≢◌}
use mathlib.Core.List.{List}
use Prim.Native.Nat.{ℕ, zero, suc, ◌≤◌, ◌<◌, min, max}
use native.Mathlib.Omega.{arith}
use native.Mathlib.Decide.{ℕ_discrete, dec_lt}
use lib.Dec.{eqb}
use borrow.Author.Tests.{eqb-true, eq-eqb}
use Rattle.mended_lists.specs.Edges.{FacePlace, place_at, same_way, mate}
use Rattle.mended_lists.specs.declared.Part.{Part}
use Rattle.mended_lists.specs.Parts.{Parts, differ, lone_part, part_moved, apart, joined_if, parts_joined, parts_met, parts_to}

-- ---- truth values that differ

pub differ_self : (a : Bool) → differ a a ≡ false
differ_self true = refl
differ_self false = refl

pub differ-false : (a : Bool) → differ a false ≡ a
differ-false true = refl
differ-false false = refl

pub differ-none : (a b : Bool) → differ a b ≡ false → a ≡ b
differ-none true true e = refl
differ-none true false e = absurd (false≢true (sym e))
differ-none false true e = absurd (false≢true (sym e))
differ-none false false e = refl

pub differ-swap : (a b : Bool) → differ a b ≡ differ b a
differ-swap true true = refl
differ-swap true false = refl
differ-swap false true = refl
differ-swap false false = refl

pub differ-assoc : (a b c : Bool) → differ (differ a b) c ≡ differ a (differ b c)
differ-assoc true true true = refl
differ-assoc true true false = refl
differ-assoc true false c = refl
differ-assoc false b c = refl

-- what both differ by does not show
pub differ-both : (a b d : Bool) → differ (differ a d) (differ b d) ≡ differ a b
differ-both a b true = go a b
  where
    go : (a b : Bool) → differ (differ a true) (differ b true) ≡ differ a b
    go true true = refl
    go true false = refl
    go false true = refl
    go false false = refl
differ-both a b false = rw (differ-false a, differ-false b)

-- two faces of one part
same-part : (r a b x y w : Bool) → x ≡ differ r a → y ≡ differ r b → differ x y ≡ w → differ (differ a b) w ≡ false
same-part r a b x y w p q e =
    rw (← e, p, q, differ-swap r a, differ-swap r b, differ-both a b r) (differ_self (differ a b))

-- two faces of two parts: the parts are turned against each other by d
two-parts : (r t a b x y w : Bool) → x ≡ differ r a → y ≡ differ t b → differ x y ≡ w → r ≡ differ t (differ (differ a b) w)
two-parts r t a b x y w p q e = rw (← e, p, q) (go r t a b)
  where
    go : (r t a b : Bool) → r ≡ differ t (differ (differ a b) (differ (differ r a) (differ t b)))
    go true true true true = refl
    go true true true false = refl
    go true true false true = refl
    go true true false false = refl
    go true false true true = refl
    go true false true false = refl
    go true false false true = refl
    go true false false false = refl
    go false true true true = refl
    go false true true false = refl
    go false true false true = refl
    go false true false false = refl
    go false false true true = refl
    go false false true false = refl
    go false false false true = refl
    go false false false false = refl

-- turned by d the one way or the other
back : (r t d : Bool) → r ≡ differ t d → t ≡ differ r d
back r t d e = rw (e, differ-assoc t d d, differ_self d) (sym (differ-false t))

-- the faces of the two parts then differ as they have to
settled : (a b w : Bool) → differ a (differ b (differ (differ a b) w)) ≡ w
settled true true true = refl
settled true true false = refl
settled true false true = refl
settled true false false = refl
settled false true true = refl
settled false true false = refl
settled false false true = refl
settled false false false = refl

settled-other : (a b w : Bool) → differ (differ a (differ (differ a b) w)) b ≡ w
settled-other true true true = refl
settled-other true true false = refl
settled-other true false true = refl
settled-other true false false = refl
settled-other false true true = refl
settled-other false true false = refl
settled-other false false true = refl
settled-other false false false = refl

or_left : (a b : Bool) → (a || b) ≡ false → a ≡ false
or_left true b e = e
or_left false b e = refl

or_right : (a b : Bool) → (a || b) ≡ false → b ≡ false
or_right true b e = absurd (false≢true (sym e))
or_right false b e = e

-- ---- two parts parts_joined

pub data Moves (high low : ℕ) (d : Bool) (p : Part) : Type 0 where
  here : p.root ≡ high → part_moved high low d p ≡ record { root = low; odd = differ p.odd d } → Moves high low d p
  elsewhere : p.root ≢ high → part_moved high low d p ≡ p → Moves high low d p

pub moves : (high low : ℕ) (d : Bool) (p : Part) → Moves high low d p
moves high low d p = go (eqb p.root high) refl
  where
    go : (b : Bool) → eqb p.root high ≡ b → Moves high low d p
    go true e = here (eqb-true p.root high e) (rw e)
    go false e = elsewhere (λ q. false≢true (sym e ∙ eq-eqb p.root high q)) (rw e)

pub data Joins (s : Parts) (a b : Part) (way : Bool) : Type 0 where
  one :
      a.root ≡ b.root → parts_joined s a b way ≡ record { part = s.part; twisted = s.twisted || apart a b way } → Joins s a b way
  two :
      a.root ≢ b.root →
      parts_joined s a b way
      ≡ record { part = λ f. part_moved (max a.root b.root) (min a.root b.root) (apart a b way) (s.part f); twisted = s.twisted } →
      Joins s a b way

pub joins : (s : Parts) (a b : Part) (way : Bool) → Joins s a b way
unfolding parts_joined joined_if
joins s a b way = go (eqb a.root b.root) refl
  where
    go : (t : Bool) → eqb a.root b.root ≡ t → Joins s a b way
    go true e = one (eqb-true a.root b.root e) (rw e)
    go false e = two (λ q. false≢true (sym e ∙ eq-eqb a.root b.root q)) (rw e)

-- the faces of the parts s are parts_joined to lower ones, and the lowest are parts_joined to none
pub record Rooted (s : Parts) : Type 0 where
  pub below : (f : ℕ) → (s.part f).root ≤ f
  pub stays : (f : ℕ) → s.part (s.part f).root ≡ lone_part (s.part f).root

lowest-alone : (s : Parts) (a b : ℕ) → s.part a ≡ lone_part a → s.part b ≡ lone_part b → s.part (min a b) ≡ lone_part (min a b)
lowest-alone s a b p q = go (dec_lt a b)
  where
    go : Dec (a < b) → s.part (min a b) ≡ lone_part (min a b)
    go (yes l) = let e : min a b ≡ a = omega arith in rw e p
    go (no l) = let e : min a b ≡ b = omega arith in rw e q

abbrev highest : Part → Part → ℕ
highest a b = max a.root b.root

abbrev lowest : Part → Part → ℕ
lowest a b = min a.root b.root

-- the parts after two were parts_joined
abbrev pub moved_all : Parts → ℕ → ℕ → Bool → Parts
moved_all s high low d = record { part = λ f. part_moved high low d (s.part f); twisted = s.twisted }

module _ (s : Parts) (high low : ℕ) (d : Bool) (r : Rooted s) (lower : low < high) (top : s.part low ≡ lone_part low) where
  moved-below : (f : ℕ) → (part_moved high low d (s.part f)).root ≤ f
  moved-below f = go (moves high low d (s.part f))
    where
      go : Moves high low d (s.part f) → (part_moved high low d (s.part f)).root ≤ f
      go (here e m) = rw m (omega (arith, r.below f))
      go (elsewhere e m) = rw m (r.below f)

  -- a face that is parts_joined to none and is not the one that moves
  moved-alone : (f : ℕ) → f ≢ high → s.part f ≡ lone_part f → part_moved high low d (s.part f) ≡ lone_part f
  moved-alone f l e = go (moves high low d (s.part f))
    where
      go : Moves high low d (s.part f) → part_moved high low d (s.part f) ≡ lone_part f
      go (here h m) = absurd (l (sym (ap (λ (p : Part). p.root) e) ∙ h))
      go (elsewhere h m) = m ∙ e

  moved-stays : (f : ℕ) → part_moved high low d (s.part (part_moved high low d (s.part f)).root) ≡ lone_part (part_moved high low d (s.part f)).root
  moved-stays f = go (moves high low d (s.part f))
    where
      go :
          Moves high low d (s.part f) →
          part_moved high low d (s.part (part_moved high low d (s.part f)).root) ≡ lone_part (part_moved high low d (s.part f)).root
      go (here e m) = rw m (moved-alone low (omega arith) top)
      go (elsewhere e m) = rw m (moved-alone (s.part f).root e (r.stays f))

  moved-rooted : Rooted (moved_all s high low d)
  moved-rooted = record { below = moved-below; stays = moved-stays }

module _ (s : Parts) (f g : ℕ) (way : Bool) where
  joined-rooted : Rooted s → Rooted (parts_joined s (s.part f) (s.part g) way)
  joined-rooted r = go (joins s (s.part f) (s.part g) way)
    where
      go : Joins s (s.part f) (s.part g) way → Rooted (parts_joined s (s.part f) (s.part g) way)
      go (one e j) = rw j (record { below = r.below; stays = r.stays })
      go (two e j) =
          rw j
          (moved-rooted s (highest (s.part f) (s.part g)) (lowest (s.part f) (s.part g)) (apart (s.part f) (s.part g) way) r
          (omega arith)
          (lowest-alone s (s.part f).root (s.part g).root (r.stays f) (r.stays g)))

-- ---- a choice that works turns a face as its part says

abbrev pub Follows : (ℕ → Bool) → Parts → Type 0
Follows c s = (f : ℕ) → c f ≡ differ (c (s.part f).root) (s.part f).odd

moved-follows :
    (c : ℕ → Bool) (s : Parts) (high low : ℕ) (d : Bool) → Follows c s → c high ≡ differ (c low) d → Follows c (moved_all s high low d)
moved-follows c s high low d follows e f = go (moves high low d (s.part f))
  where
    go : Moves high low d (s.part f) → c f ≡ differ (c (part_moved high low d (s.part f)).root) (part_moved high low d (s.part f)).odd
    go (here h m) =
        rw m
        (follows f ∙ ap (λ (x : ℕ). differ (c x) (s.part f).odd) h ∙ ap (λ (x : Bool). differ x (s.part f).odd) e
        ∙ differ-assoc (c low) d (s.part f).odd ∙ ap (differ (c low)) (differ-swap d (s.part f).odd))
    go (elsewhere h m) = rw m (follows f)

module _ (c : ℕ → Bool) (s : Parts) (f g : ℕ) (way : Bool) (follows : Follows c s) (opposite : differ (c f) (c g) ≡ way) where
  high-turned :
      (highest (s.part f) (s.part g) ≡ (s.part f).root) ⊎ (highest (s.part f) (s.part g) ≡ (s.part g).root) →
      c (highest (s.part f) (s.part g)) ≡ differ (c (lowest (s.part f) (s.part g))) (apart (s.part f) (s.part g) way)
  high-turned (inl e) =
      let l : lowest (s.part f) (s.part g) ≡ (s.part g).root = omega arith in
      rw (e, l)
      (two-parts (c (s.part f).root) (c (s.part g).root) (s.part f).odd (s.part g).odd (c f) (c g) way (follows f) (follows g) opposite)
  high-turned (inr e) =
      let l : lowest (s.part f) (s.part g) ≡ (s.part f).root = omega arith in
      rw (e, l)
      (back (c (s.part f).root) (c (s.part g).root) (apart (s.part f) (s.part g) way)
      (two-parts (c (s.part f).root) (c (s.part g).root) (s.part f).odd (s.part g).odd (c f) (c g) way (follows f) (follows g) opposite))

  joined-follows : s.twisted ≡ false → Follows c (parts_joined s (s.part f) (s.part g) way) × ((parts_joined s (s.part f) (s.part g) way).twisted ≡ false)
  joined-follows t = go (joins s (s.part f) (s.part g) way)
    where
      either : (a b : ℕ) → (max a b ≡ a) ⊎ (max a b ≡ b)
      either a b = this (dec_lt a b)
        where
          this : Dec (a < b) → (max a b ≡ a) ⊎ (max a b ≡ b)
          this (yes l) = inr (omega arith)
          this (no l) = inl (omega arith)

      go :
          Joins s (s.part f) (s.part g) way →
          Follows c (parts_joined s (s.part f) (s.part g) way) × ((parts_joined s (s.part f) (s.part g) way).twisted ≡ false)
      go (one e j) =
          rw j (
            follows,
            rw t
                (same-part (c (s.part f).root) (s.part f).odd (s.part g).odd (c f) (c g) way (follows f)
                (follows g ∙ ap (λ (x : ℕ). differ (c x) (s.part g).odd) (sym e)) opposite),
          )
      go (two e j) =
          rw j (
            moved-follows c s (highest (s.part f) (s.part g)) (lowest (s.part f) (s.part g)) (apart (s.part f) (s.part g) way) follows
                (high-turned (either (s.part f).root (s.part g).root)),
            t,
          )

-- ---- faces that were parts_joined agree

-- f and g are of one part, and if nothing is twisted they are turned differently exactly if they run the same way
pub record Agree (s : Parts) (f g : ℕ) (way : Bool) : Type 0 where
  pub root : (s.part f).root ≡ (s.part g).root
  pub turned : s.twisted ≡ false → differ (s.part f).odd (s.part g).odd ≡ way

moved-agree : (s : Parts) (high low : ℕ) (d : Bool) (f g : ℕ) (way : Bool) → Agree s f g way → Agree (moved_all s high low d) f g way
moved-agree s high low d f g way a = go (moves high low d (s.part f)) (moves high low d (s.part g))
  where
    go : Moves high low d (s.part f) → Moves high low d (s.part g) → Agree (moved_all s high low d) f g way
    go (here h m) (here k n) =
        record {
          root = rw (m, n);
          turned = λ t. rw (m, n) (differ-both (s.part f).odd (s.part g).odd d ∙ a.turned t);
        }
    go (here h m) (elsewhere k n) = absurd (k (sym a.root ∙ h))
    go (elsewhere h m) (here k n) = absurd (h (a.root ∙ k))
    go (elsewhere h m) (elsewhere k n) = record { root = rw (m, n) a.root; turned = λ t. rw (m, n) (a.turned t) }

joined-agree : (s : Parts) (a b : Part) (w : Bool) (f g : ℕ) (way : Bool) → Agree s f g way → Agree (parts_joined s a b w) f g way
joined-agree s a b w f g way old = go (joins s a b w)
  where
    go : Joins s a b w → Agree (parts_joined s a b w) f g way
    go (one e j) = rw j (record { root = old.root; turned = λ t. old.turned (or_left s.twisted (apart a b w) t) })
    go (two e j) = rw j (moved-agree s (highest a b) (lowest a b) (apart a b w) f g way old)

newly-agree : (s : Parts) (f g : ℕ) (way : Bool) → Agree (parts_joined s (s.part f) (s.part g) way) f g way
newly-agree s f g way = go (joins s (s.part f) (s.part g) way)
  where
    go : Joins s (s.part f) (s.part g) way → Agree (parts_joined s (s.part f) (s.part g) way) f g way
    go (one e j) =
        rw j
        (record {
          root = e;
          turned =
              λ t. differ-none (differ (s.part f).odd (s.part g).odd) way
              (or_right s.twisted (apart (s.part f) (s.part g) way) t);
        })
    go (two e j) =
        rw j
        (this (moves (highest (s.part f) (s.part g)) (lowest (s.part f) (s.part g)) (apart (s.part f) (s.part g) way) (s.part f))
        (moves (highest (s.part f) (s.part g)) (lowest (s.part f) (s.part g)) (apart (s.part f) (s.part g) way) (s.part g)))
      where
        this :
            Moves (highest (s.part f) (s.part g)) (lowest (s.part f) (s.part g)) (apart (s.part f) (s.part g) way) (s.part f) →
            Moves (highest (s.part f) (s.part g)) (lowest (s.part f) (s.part g)) (apart (s.part f) (s.part g) way) (s.part g) →
            Agree
            (moved_all s (highest (s.part f) (s.part g)) (lowest (s.part f) (s.part g)) (apart (s.part f) (s.part g) way)) f g way
        this (here h m) (here k n) = absurd (e (h ∙ sym k))
        this (here h m) (elsewhere k n) =
            record {
              root = rw (m, n) (omega arith);
              turned = λ t. rw (m, n) (settled-other (s.part f).odd (s.part g).odd way);
            }
        this (elsewhere h m) (here k n) =
            record { root = rw (m, n) (omega arith); turned = λ t. rw (m, n) (settled (s.part f).odd (s.part g).odd way) }
        this (elsewhere h m) (elsewhere k n) = absurd (neither (s.part f).root (s.part g).root h k)
          where
            neither : (a b : ℕ) → a ≢ max a b → b ≢ max a b → ⊥
            neither a b h k = omega arith

-- ---- a face and the lowest of its part are parts_joined

-- for any relation that holds of every face and itself, and that is carried back and on
module _ (R : ℕ → ℕ → Type 0) (same : (f : ℕ) → R f f) (turn-back : (f g : ℕ) → R f g → R g f)
    (on : (f g h : ℕ) → R f g → R g h → R f h) where
  moved-within :
      (s : Parts) (high low : ℕ) (d : Bool) → ((f : ℕ) → R f (s.part f).root) → R high low →
      (f : ℕ) → R f (part_moved high low d (s.part f)).root
  moved-within s high low d within step f = go (moves high low d (s.part f))
    where
      go : Moves high low d (s.part f) → R f (part_moved high low d (s.part f)).root
      go (here e m) = rw m (on f high low (rw e at (within f)) step)
      go (elsewhere e m) = rw m (within f)

  joined-within :
      (s : Parts) (f g : ℕ) (way : Bool) → ((h : ℕ) → R h (s.part h).root) → R f g →
      (h : ℕ) → R h ((parts_joined s (s.part f) (s.part g) way).part h).root
  joined-within s f g way within step h = go (joins s (s.part f) (s.part g) way)
    where
      roots : R (s.part f).root (s.part g).root
      roots =
          on (s.part f).root f (s.part g).root (turn-back f (s.part f).root (within f))
          (on f g (s.part g).root step (within g))

      ordered : (a b : ℕ) → R a b → R (max a b) (min a b)
      ordered a b r = this (dec_lt a b)
        where
          this : Dec (a < b) → R (max a b) (min a b)
          this (yes l) =
              let e : max a b ≡ b = omega arith in
              let k : min a b ≡ a = omega arith in
              rw (e, k) (turn-back a b r)
          this (no l) =
              let e : max a b ≡ a = omega arith in
              let k : min a b ≡ b = omega arith in
              rw (e, k) r

      go : Joins s (s.part f) (s.part g) way → R h ((parts_joined s (s.part f) (s.part g) way).part h).root
      go (one e j) = rw j (within h)
      go (two e j) =
          rw j
          (moved-within s (highest (s.part f) (s.part g)) (lowest (s.part f) (s.part g)) (apart (s.part f) (s.part g) way) within
          (ordered (s.part f).root (s.part g).root roots) h)

-- ---- all places

-- place k and its mate, if it has one, run opposite ways in the choice c
abbrev pub OppositeAt : (ℕ → Bool) → List FacePlace → ℕ → Type 0
OppositeAt c ps k =
    (j : ℕ) → mate ps k ≡ suc j → differ (c (place_at ps j).face) (c (place_at ps k).face) ≡ same_way (place_at ps j) (place_at ps k)

-- the faces of two places agree
abbrev pub AgreeAt : List FacePlace → Parts → ℕ → ℕ → Type 0
AgreeAt ps s i j = Agree s (place_at ps j).face (place_at ps i).face (same_way (place_at ps j) (place_at ps i))

module _ (ps : List FacePlace) where
  pub parts-rooted : (k : ℕ) → Rooted (parts_to ps k)
  unfolding parts_to parts_met
  parts-rooted zero = record { below = λ f. omega arith; stays = λ f. refl }
  parts-rooted (suc k) = go (mate ps k) (parts-rooted k)
    where
      go : (m : ℕ) → Rooted (parts_to ps k) → Rooted (parts_met m ps k (parts_to ps k))
      go zero r = r
      go (suc j) r =
          joined-rooted (parts_to ps k) (place_at ps j).face (place_at ps k).face (same_way (place_at ps j) (place_at ps k)) r

  pub parts-follow :
      (c : ℕ → Bool) (k : ℕ) → ((i : ℕ) → i < k → OppositeAt c ps i) → Follows c (parts_to ps k) × ((parts_to ps k).twisted ≡ false)
  unfolding parts_to parts_met
  parts-follow c zero h = (λ f. sym (differ-false (c f)), refl)
  parts-follow c (suc k) h = go (mate ps k) refl (parts-follow c k (λ i l. h i (omega arith)))
    where
      go :
          (m : ℕ) → mate ps k ≡ m → Follows c (parts_to ps k) × ((parts_to ps k).twisted ≡ false) →
          Follows c (parts_met m ps k (parts_to ps k)) × ((parts_met m ps k (parts_to ps k)).twisted ≡ false)
      go zero e r = r
      go (suc j) e r =
          joined-follows c (parts_to ps k) (place_at ps j).face (place_at ps k).face (same_way (place_at ps j) (place_at ps k)) r.0
          (h k (omega arith) j e) r.1

  pub parts-agree : (k i j : ℕ) → i < k → mate ps i ≡ suc j → AgreeAt ps (parts_to ps k) i j
  unfolding parts_to parts_met
  parts-agree zero i j l e = absurd (omega arith)
  parts-agree (suc k) i j l e = go (mate ps k) refl (ℕ_discrete i k) (λ h. parts-agree k i j h e)
    where
      go :
          (m : ℕ) → mate ps k ≡ m → Dec (i ≡ k) → (i < k → AgreeAt ps (parts_to ps k) i j) → AgreeAt ps (parts_met m ps k (parts_to ps k)) i j
      go zero z (yes q) before = absurd (none (mate ps k) j z (rw q at e))
        where
          none : (m j : ℕ) → m ≡ 0 → m ≡ suc j → ⊥
          none m j a b = omega arith
      go zero z (no q) before = before (omega arith)
      go (suc j') z (yes q) before =
          let same : j' ≡ j = this (mate ps k) j' j z (rw q at e) in
          rw (q, same)
          (newly-agree (parts_to ps k) (place_at ps j).face (place_at ps k).face (same_way (place_at ps j) (place_at ps k)))
        where
          this : (m a b : ℕ) → m ≡ suc a → m ≡ suc b → a ≡ b
          this m a b x y = omega arith
      go (suc j') z (no q) before =
          joined-agree (parts_to ps k) ((parts_to ps k).part (place_at ps j').face) ((parts_to ps k).part (place_at ps k).face)
          (same_way (place_at ps j') (place_at ps k)) (place_at ps j).face (place_at ps i).face (same_way (place_at ps j) (place_at ps i))
          (before (omega arith))

  pub parts_within :
      (R : ℕ → ℕ → Type 0) → ((f : ℕ) → R f f) → ((f g : ℕ) → R f g → R g f) → ((f g h : ℕ) → R f g → R g h → R f h) →
      (k : ℕ) → ((i j : ℕ) → i < k → mate ps i ≡ suc j → R (place_at ps j).face (place_at ps i).face) →
      (f : ℕ) → R f ((parts_to ps k).part f).root
  unfolding parts_to parts_met
  parts_within R same turn-back on zero h f = same f
  parts_within R same turn-back on (suc k) h f =
      go (mate ps k) refl (parts_within R same turn-back on k (λ i j l. h i j (omega arith)))
    where
      go :
          (m : ℕ) → mate ps k ≡ m → ((g : ℕ) → R g ((parts_to ps k).part g).root) →
          R f ((parts_met m ps k (parts_to ps k)).part f).root
      go zero e before = before f
      go (suc j) e before =
          joined-within R same turn-back on (parts_to ps k) (place_at ps j).face (place_at ps k).face
          (same_way (place_at ps j) (place_at ps k)) before (h k j (omega arith) e) f
