-- The laws of the edge that is told. Assumes nothing.
--     offset-none, offset-more, offset-le       where the listed points of faces begin
--     before-none, before_more, before-stop     the search for a face: its start, a face on, a face that ends it
--     no-face, no-points, no_place, there       what is told by the tests of the place
use mathlib.Core.Path.{◌≡◌, refl, sym}
use mathlib.Core.Bool.{true, false}
use Prim.Native.Nat.{ℕ, zero, suc, ◌+◌, ◌≤◌, ◌<◌}
use native.Mathlib.Omega.{arith}
use native.Mathlib.Decide.{ℕ_discrete}
use lib.ListN.{length}
use borrow.Author.Tests.{lt-ltb, le-ltb, le-leb, lt-leb}
use Rattle.closed_meshes.specs.Renumbering.{sum_to}
use Rattle.built_meshes.specs.Lists.{Lists, faces_of, size, offset}
use Rattle.built_meshes.specs.Places.{point_of, next_of}
use Rattle.told_edges.specs.declared.ToldEdge.TheVariants.{Missing, First, Again}
use Rattle.told_edges.specs.Told.{none_runs, same_way_before, is_listed, told_edge}

-- ---- where the points of faces begin

pub offset-none : (l : Lists) → 0 ≡ offset l 0
unfolding offset sum_to
offset-none l = refl

pub offset-more : (l : Lists) (f : ℕ) → offset l (suc f) ≡ offset l f + size l f
unfolding offset sum_to
offset-more l f = refl

pub offset-le : (l : Lists) (f g : ℕ) → f ≤ g → offset l f ≤ offset l g
offset-le l f zero h = let e : f ≡ 0 = omega arith in rw e (omega arith)
offset-le l f (suc g) h = go (ℕ_discrete f (suc g)) (λ b. offset-le l f g b)
  where
    go : Dec (f ≡ suc g) → (f ≤ g → offset l f ≤ offset l g) → offset l f ≤ offset l (suc g)
    go (yes e) rest = rw e (omega arith)
    go (no e) rest = omega (arith, rest (omega arith), offset-more l g)

-- ---- the search for a face

module _ (l : Lists) (p q : ℕ) where
  pub before-none : same_way_before l p q 0 ≡ First p q
  unfolding same_way_before
  before-none = refl

  pub before_more : (g : ℕ) → same_way_before l p q g ≡ First p q → none_runs l p q g ≡ true → same_way_before l p q (g + 1) ≡ First p q
  unfolding same_way_before
  before_more g e h = let next : g + 1 ≡ suc g = omega arith in rw (next, e, h)

  -- what is found stays
  before-stays : (f g h : ℕ) → g ≤ f → same_way_before l p q g ≡ Again p q h → same_way_before l p q f ≡ Again p q h
  unfolding same_way_before
  before-stays zero g h b e = let z : g ≡ 0 = omega arith in rw z at e
  before-stays (suc f) g h b e = go (ℕ_discrete g (suc f)) (λ b. before-stays f g h b e)
    where
      go : Dec (g ≡ suc f) → (g ≤ f → same_way_before l p q f ≡ Again p q h) → same_way_before l p q (suc f) ≡ Again p q h
      go (yes z) rest = rw z at e
      go (no z) rest = rw (rest (omega arith))

  pub before-stop : (f g : ℕ) → g < f → same_way_before l p q g ≡ First p q → none_runs l p q g ≡ false → Again p q g ≡ same_way_before l p q f
  unfolding same_way_before
  before-stop f g b e h = sym (before-stays f (suc g) g b (rw (e, h)))

-- ---- the place

module _ (l : Lists) (f i : ℕ) where
  told-missing : is_listed l f i ≡ false → Missing ≡ told_edge l f i
  unfolding told_edge
  told-missing h = rw h

  pub no-face : faces_of l ≤ f → Missing ≡ told_edge l f i
  unfolding is_listed
  no-face h = told-missing (rw (le-ltb f (faces_of l) h))

  pub no-points : f < faces_of l → length l.listed < offset l f + size l f → Missing ≡ told_edge l f i
  unfolding is_listed
  no-points b h = told-missing (rw (lt-ltb f (faces_of l) b, lt-leb (offset l f + size l f) (length l.listed) h))

  pub no_place : f < faces_of l → offset l f + size l f ≤ length l.listed → size l f ≤ i → Missing ≡ told_edge l f i
  unfolding is_listed
  no_place b w h =
      told-missing (rw (lt-ltb f (faces_of l) b, le-leb (offset l f + size l f) (length l.listed) w, le-ltb i (size l f) h))

  pub there :
      f < faces_of l → offset l f + size l f ≤ length l.listed → i < size l f →
      same_way_before l (point_of l f i) (next_of l f i) f ≡ told_edge l f i
  unfolding told_edge is_listed
  there b w h = rw (lt-ltb f (faces_of l) b, le-leb (offset l f + size l f) (length l.listed) w, lt-ltb i (size l f) h)
