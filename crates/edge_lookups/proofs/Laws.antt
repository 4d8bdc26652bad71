-- The laws of the edge that is told, as the code reads the lists. Assumes nothing. The definitions' own laws are those of `told_edges`.
--     runs-both, runs-not        what the two comparisons say of a place
--     offset-next, offset-fits   where the listed points of the next face begin, and that those of a face are there
--     Searched, searched-..      the invariant of the search for a face
--     none_read                  whether a face has no such place, as the code is told it
--     told-there, face-cut       what is told of a place that is listed, and after a face whose points are not all there
--     Begun, begun-..            the invariant of finding where the listed points of the face begin
use mathlib.Core.Path.{◌≡◌, sym, ◌∙◌, ap}
use mathlib.Core.Bool.{Bool, true, false, not, ◌&&◌}
use mathlib.Core.List.{List, []}
use Prim.Native.Nat.{ℕ, suc, ◌+◌, ◌≤◌, ◌<◌}
use native.Mathlib.Omega.{arith}
use lib.Dec.{eqb}
use lib.ListN.{length, get_or}
use borrow.Author.Tests.{eq-eqb, ne_eqb}
use Rattle.perimeters.specs.Places.{next_place}
use Rattle.audited_meshes.specs.Folds.{every}
use Rattle.built_meshes.specs.Lists.{Lists, faces_of, size, offset}
use Rattle.building_tests.specs.Lent.{lists}
use Rattle.told_edges.specs.declared.ToldEdge.{ToldEdge}
use Rattle.told_edges.specs.declared.ToldEdge.TheVariants.{Missing, First}
use Rattle.told_edges.specs.Told.{none_runs, same_way_before, told_edge}
use Rattle.told_edges.proofs.Laws.{offset-none, offset-more, offset-le, before-none, before_more, no-points, there}

-- ---- one place

pub runs-both : (x y p q : ℕ) → x ≡ p → {r : Bool} → r ≡ eqb y q → r ≡ (eqb x p && eqb y q)
runs-both x y p q e h = rw (eq-eqb x p e) h

pub runs-not : (x y p q : ℕ) → ¬ (x ≡ p) → false ≡ (eqb x p && eqb y q)
runs-not x y p q e = rw (ne_eqb x p e)

-- ---- where the points of faces begin

pub offset-next : (l : Lists) (a g n : ℕ) → a ≡ offset l g → n ≡ size l g → a + n ≡ offset l (g + 1)
offset-next l a g n e h =
    let next : g + 1 ≡ suc g = omega arith in omega (arith, e, h, offset-more l g, ap (offset l) next)

-- the points of a face below f end where those of face f begin, or before
pub offset-fits : (l : Lists) (a f g n k : ℕ) → a ≡ offset l g → n ≡ size l g → g < f → offset l f ≤ k → a + n ≤ k
offset-fits l a f g n k e h b w = omega (arith, e, h, offset-more l g, offset-le l (suc g) f b)

-- ---- the search for a face

-- face g is come to, whose listed points stand from a on, and no face before it runs from p to q
pub record Searched (l : Lists) (f p q a g : ℕ) : Type 0 where
  pub not-past : g ≤ f
  pub at-is : a ≡ offset l g
  pub none_yet : same_way_before l p q g ≡ First p q

pub searched-none : (l : Lists) (f p q : ℕ) → Searched l f p q 0 0
searched-none l f p q = record { not-past = omega arith; at-is = offset-none l; none_yet = before-none l p q }

pub searched-more :
    (l : Lists) (f p q a g n : ℕ) → Searched l f p q a g → g < f → n ≡ size l g → none_runs l p q g ≡ true → Searched l f p q (a + n) (g + 1)
searched-more l f p q a g n s b e h =
    record {
      not-past = omega arith;
      at-is = offset-next l a g n s.at-is e;
      none_yet = before_more l p q g s.none_yet h;
    }

pub searched-all : (l : Lists) (f p q a g : ℕ) → Searched l f p q a g → f ≤ g → First p q ≡ same_way_before l p q f
searched-all l f p q a g s h = let e : f ≡ g = omega (arith, s.not-past) in rw e (sym s.none_yet)

-- whether none runs, as the code is told it
pub none_read : (ss ls : List ℕ) (a g n p q : ℕ) → a ≡ offset (lists [] ss ls []) g → n ≡ size (lists [] ss ls []) g → {r : Bool} →
    r ≡ every n (λ j. not (eqb (get_or ls (a + j) 0) p && eqb (get_or ls (a + next_place n j) 0) q)) → none_runs (lists [] ss ls []) p q g ≡ r
unfolding none_runs
none_read ss ls a g n p q e h k =
    sym (k ∙ λ t. every (h t) (λ j. not (eqb (get_or ls (e t + j) 0) p && eqb (get_or ls (e t + next_place (h t) j) 0) q)))

-- ---- the place

-- what is told of the place as the code reads its points
pub told-there :
    (l : Lists) (f i a n j : ℕ) → f < faces_of l → a ≡ offset l f → n ≡ size l f → a + n ≤ length l.listed → i < n → j ≡ next_place n i →
    {r : ToldEdge} → r ≡ same_way_before l (get_or l.listed (a + i) 0) (get_or l.listed (a + j) 0) f → r ≡ told_edge l f i
told-there l f i a n j b e h w k t x =
    let next : j ≡ next_place (size l f) i = t ∙ ap (λ (n : ℕ). next_place n i) h in
    x ∙ (λ s. same_way_before l (get_or l.listed (e s + i) 0) (get_or l.listed (e s + next s) 0) f)
    ∙ there l f i b (omega (arith, e, h)) (omega (arith, h))

-- a face before face f whose points are not all there
pub face-cut : (l : Lists) (a f g i n : ℕ) → a ≡ offset l g → n ≡ size l g → g < f → f < faces_of l → length l.listed < a + n → Missing ≡ told_edge l f i
face-cut l a f g i n e h b w k = no-points l f i w (omega (arith, e, h, offset-more l g, offset-le l (suc g) f b))

-- face g is come to, whose listed points stand from a on, and those before it are all there
pub record Begun (l : Lists) (f a g : ℕ) : Type 0 where
  pub not-past : g ≤ f
  pub at-is : a ≡ offset l g
  pub all_there : a ≤ length l.listed

pub begun-none : (l : Lists) (f : ℕ) → Begun l f 0 0
begun-none l f = record { not-past = omega arith; at-is = offset-none l; all_there = omega arith }

pub begun_more :
    (l : Lists) (f a g n : ℕ) → Begun l f a g → g < f → n ≡ size l g → a + n ≤ length l.listed → Begun l f (a + n) (g + 1)
begun_more l f a g n s b e h = record { not-past = omega arith; at-is = offset-next l a g n s.at-is e; all_there = h }

pub begun_all : (l : Lists) (f a g : ℕ) → Begun l f a g → f ≤ g → a ≡ offset l f
begun_all l f a g s h = let e : g ≡ f = omega (arith, s.not-past) in s.at-is ∙ ap (offset l) e
