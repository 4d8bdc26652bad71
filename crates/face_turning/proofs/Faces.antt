-- The laws of turning face by face. Assumes nothing.
use mathlib.Core.Path.{◌≡◌, refl, sym, ◌∙◌, ap}
use mathlib.Core.Bool.{Bool, true, false, cond, ◌&&◌}
use mathlib.Core.Logic.{◌⊎◌, inl, inr, ◌≢◌}
use mathlib.Core.List.{List, []}
use Prim.Native.Nat.{ℕ, zero, suc, ◌+◌, ◌-◌, ◌*◌, ◌/◌, ◌≤◌, ◌<◌}
use native.Mathlib.Omega.{arith}
use native.Mathlib.Decide.{ℕ_discrete, dec_lt}
use lib.Dec.{ltb}
use lib.ListN.{length, get_or}
use lib.Ieee.{Float, nan}
use borrow.Author.Tests.{lt-ltb, le-ltb}
use Rattle.closed_meshes.specs.Renumbering.{sum_to}
use Rattle.built_meshes.specs.Lists.{Lists, faces_of, side_length, size, offset}
use Rattle.built_meshes.specs.declared.Version.TheVariants.{Two}
use Rattle.building_tests.specs.Lent.{lists, lists_in}
use Rattle.mended_lists.specs.Reversal.{Choice, turned_point, turned_interval, turned_side, turned_first, reversed}
use Rattle.mended_lists.specs.Claims.{Fitting}
use Rattle.mended_lists.proofs.Reversal.{turned-below, first_below}
use Rattle.mended_lists.proofs.Again.{Turned, reversed-is}
use Rattle.face_places.proofs.Laws.{offset-more, offset-le}
use Rattle.face_turning.specs.Moved.{Moved, FaceTurned}

-- ---- choices of the first faces

abbrev pub chosen : List Bool → Choice
chosen ts f = get_or ts f false

-- the faces of the choice that are before face f
abbrev pub before : Choice → ℕ → Choice
before c f g = ltb g f && c g

before-itself : (c : Choice) (f : ℕ) → before c f f ≡ false
before-itself c f = rw (le-ltb f f (omega arith))

before-next : (c : Choice) (f : ℕ) → before c (f + 1) f ≡ c f
before-next c f = rw (lt-ltb f (f + 1) (omega arith))

before-other : (c : Choice) (f g : ℕ) → g ≢ f → before c (f + 1) g ≡ before c f g
before-other c f g d = go (dec_lt g f)
  where
    go : Dec (g < f) → before c (f + 1) g ≡ before c f g
    go (yes l) = rw (lt-ltb g f l, lt-ltb g (f + 1) (omega arith))
    go (no l) = rw (le-ltb g f (omega arith), le-ltb g (f + 1) (omega arith))

before-all : (c : Choice) (f g : ℕ) → g < f → before c f g ≡ c g
before-all c f g l = rw (lt-ltb g f l)

-- ---- one list

-- Part g of a list has `count g` values from `from g` on. Parts before part f are as the choice has them; then part f is moved, or stays.
module _ {A : Type 0} (d : A) (from count : ℕ → ℕ) (t : ℕ → ℕ → ℕ) (c : Choice) (f : ℕ) (xs ys zs : List A) where
  pub part-more :
      ((g h : ℕ) → g < h → from g + count g ≤ from h) →
      ((i : ℕ) → i < count f → t f i < count f) →
      ((i : ℕ) → i < count f → get_or ys (from f + i) d ≡ get_or xs (from f + cond (before c f f) (t f i) i) d) →
      Moved d (from f) (count f) (λ i. cond (c f) (t f i) i) ys zs → (g i : ℕ) → i < count g →
      get_or ys (from g + i) d ≡ get_or xs (from g + cond (before c f g) (t g i) i) d →
      get_or zs (from g + i) d ≡ get_or xs (from g + cond (before c (f + 1) g) (t g i) i) d
  part-more apart below here m g i b there = go (ℕ_discrete g f) (dec_lt g f)
    where
      as_before : (i : ℕ) → i < count f → get_or ys (from f + i) d ≡ get_or xs (from f + i) d
      as_before i b = here i b ∙ rw (before-itself c f)

      below-if : (v : Bool) (i : ℕ) → i < count f → cond v (t f i) i < count f
      below-if true i b = below i b
      below-if false i b = b

      go :
          Dec (g ≡ f) → Dec (g < f) →
          get_or zs (from g + i) d ≡ get_or xs (from g + cond (before c (f + 1) g) (t g i) i) d
      go (yes e) o =
          let b' : i < count f = rw e at b in
          rw (e, before-next c f) (m.inside i b' ∙ as_before (cond (c f) (t f i) i) (below-if (c f) i b'))
      go (no e) (yes l) =
          rw (before-other c f g e) (m.outside (from g + i) (inl (omega (arith, apart g f l))) ∙ there)
      go (no e) (no l) =
          rw (before-other c f g e) (m.outside (from g + i) (inr (omega (arith, apart f g (omega arith)))) ∙ there)

-- ---- all lists

four-apart : (g h : ℕ) → g < h → g * 4 + 4 ≤ h * 4
four-apart g h l = omega arith

faces-apart : (l : Lists) (g h : ℕ) → g < h → offset l g + size l g ≤ offset l h
faces-apart l g h b = omega (arith, offset-more l g, offset-le l (suc g) h b)

-- the faces of the choice that are before face f are turned, and the points of face f stand from a on
pub record Turning (c : Choice) (l m : Lists) (a f : ℕ) : Type 0 where
  pub not-past : f ≤ faces_of l
  pub at-is : a ≡ offset l f
  pub turned : Turned (before c f) l m

pub turning-none : (c : Choice) (l : Lists) → Fitting l → Turning c l l 0 0
unfolding offset sum_to
turning-none c l fit =
    record {
      not-past = omega arith;
      at-is = refl;
      turned =
          record {
            version = refl;
            coordinates = refl;
            firsts-length = fit.firsts;
            sides-length = fit.sides;
            listed-length = fit.listed;
            intervals-length = fit.intervals;
            side = λ f k a b. rw (none f);
            first = λ f k a b. rw (none f);
            point = λ f i at. rw (none f);
            interval = λ f i at. rw (none f);
          };
    }
  where
    none : (f : ℕ) → ltb f 0 ≡ false
    none f = le-ltb f 0 (omega arith)

module _ (c : Choice) (l m : Lists) (a f n : ℕ) (s : Turning c l m a f) (b : f < faces_of l)
    (e : n ≡ size (lists [] m.sides [] []) f) where
  side_left : (k : ℕ) → k < 4 → get_or m.sides (f * 4 + k) 0 ≡ side_length l f k
  side_left k h = s.turned.side f k b h ∙ rw (before-itself c f)

  -- face f is not turned yet
  pub size-left : n ≡ size l f
  size-left =
      e
      ∙ rw (side_left 0 (omega arith), side_left 1 (omega arith), side_left 2 (omega arith), side_left 3 (omega arith))

  pub points-within : a + n ≤ length m.listed
  points-within =
      omega (arith, s.at-is, size-left, faces-apart l f (suc f) (omega arith), offset-le l (suc f) (faces_of l) b, s.turned.listed-length)

  pub intervals-within : a + n ≤ length m.intervals
  intervals-within = omega (arith, points-within, s.turned.listed-length, s.turned.intervals-length)

  pub turning-more :
      (m' : Lists) → m.version ≡ m'.version → m.coordinates ≡ m'.coordinates → length m'.sides ≡ length m.sides →
      length m'.firsts ≡ length m.firsts → length m'.listed ≡ length m.listed →
      length m'.intervals ≡ length m.intervals → FaceTurned (c f) f a n m m' → Turning c l m' (a + n) (f + 1)
  turning-more m' v cs ss fs ls is t =
      record {
        not-past = omega arith;
        at-is = omega (arith, s.at-is, size-left, offset-more l f, ap (offset l) next);
        turned =
            record {
              version = s.turned.version ∙ v;
              coordinates = s.turned.coordinates ∙ cs;
              firsts-length = fs ∙ s.turned.firsts-length;
              sides-length = ss ∙ s.turned.sides-length;
              listed-length = ls ∙ s.turned.listed-length;
              intervals-length = is ∙ s.turned.intervals-length;
              side = λ g k x y.
                  part-more 0 (λ h. h * 4) (λ h. 4) (λ h. turned_side) c f l.sides m.sides m'.sides four-apart
                  (λ i z. omega arith) (λ i z. s.turned.side f i b z) t.sides g k y (s.turned.side g k x y);
              first = λ g k x y.
                  part-more 0 (λ h. h * 4) (λ h. 4) (λ h. turned_first) c f l.firsts m.firsts m'.firsts four-apart
                  first_below (λ i z. s.turned.first f i b z) t.firsts g k y (s.turned.first g k x y);
              point = λ g i x.
                  part-more 0 (offset l) (size l) (λ h. turned_point (size l h)) c f l.listed m.listed m'.listed (faces-apart l)
                  (turned-below (size l f)) (λ i z. s.turned.point f i (b, z)) points g i x.1 (s.turned.point g i x);
              interval = λ g i x.
                  part-more nan (offset l) (size l) (λ h. turned_interval (size l h)) c f l.intervals m.intervals m'.intervals
                  (faces-apart l) (λ i z. omega arith) (λ i z. s.turned.interval f i (b, z)) numbers g i x.1
                  (s.turned.interval g i x);
            };
      }
    where
      next : f + 1 ≡ suc f
      next = omega arith

      points : Moved 0 (offset l f) (size l f) (λ i. cond (c f) (turned_point (size l f) i) i) m.listed m'.listed
      points = rw (s.at-is, size-left) at t.listed

      numbers : Moved nan (offset l f) (size l f) (λ i. cond (c f) (turned_interval (size l f) i) i) m.intervals m'.intervals
      numbers = rw (s.at-is, size-left) at t.intervals

-- Coordinates play no part.
pub turning-all :
    (c : Choice) (ss fs ls ss' fs' ls' : List ℕ) (is is' : List Float) (a f : ℕ) → length ss / 4 ≤ f →
    Turning c (lists_in Two [] ss fs ls is) (lists_in Two [] ss' fs' ls' is') a f → (cs : List Float) →
    lists_in Two cs ss' fs' ls' is' ≡ reversed c (lists_in Two cs ss fs ls is)
unfolding offset
turning-all c ss fs ls ss' fs' ls' is is' a f e s cs =
    sym
    (reversed-is c (lists_in Two cs ss fs ls is) (lists_in Two cs ss' fs' ls' is')
    (record {
      version = refl;
      coordinates = refl;
      firsts-length = s.turned.firsts-length;
      sides-length = s.turned.sides-length;
      listed-length = s.turned.listed-length;
      intervals-length = s.turned.intervals-length;
      side = λ g k x y. rw (all g x) at (s.turned.side g k x y);
      first = λ g k x y. rw (all g x) at (s.turned.first g k x y);
      point = λ g i x. rw (all g x.0) at (s.turned.point g i x);
      interval = λ g i x. rw (all g x.0) at (s.turned.interval g i x);
    }))
  where
    all : (g : ℕ) → g < length ss / 4 → ltb g f ≡ true
    all g x = lt-ltb g f (omega arith)

pub fitting-with :
    (cs cs' : List Float) (ss fs ls : List ℕ) (is : List Float) → Fitting (lists_in Two cs ss fs ls is) → Fitting (lists_in Two cs' ss fs ls is)
unfolding offset
fitting-with cs cs' ss fs ls is fit =
    record { sides = fit.sides; firsts = fit.firsts; listed = fit.listed; intervals = fit.intervals }
