-- The laws of what is met in faces. Assumes nothing.
use mathlib.Core.Path.{◌≡◌, refl, sym, ◌∙◌, ap}
use mathlib.Core.Bool.{Bool, true, false, not, cond, ◌&&◌, false≢true}
use mathlib.Core.List.{List, []}
use mathlib.Core.Logic.{◌≢◌}
use Prim.Native.Nat.{ℕ, zero, suc, ◌+◌, ◌-◌, ◌*◌, ◌/◌, ◌≤◌, ◌<◌, min}
use native.Mathlib.Omega.{arith}
use native.Mathlib.Decide.{ℕ_discrete}
use lib.Dec.{eqb, ltb}
use lib.Ieee.{Float}
use lib.ListN.{length, get_or}
use native.Mathlib.Numerals.{add-one}
use Rattle.std.specs.Prelude.{Result, Ok, Err, ⊤}
use Rattle.tables.specs.Layout.{position_width}
use Rattle.audited_meshes.specs.Folds.{every}
use Rattle.audited_meshes.proofs.Tests.{Is, self-is, ltb-is, every-is}
use Rattle.closed_meshes.specs.Renumbering.{sum_to}
use Rattle.built_meshes.specs.Lists.{Lists, points_of, faces_of, size, offset}
use Rattle.built_meshes.specs.Faces.{size_fit, listed_in_range, no_point_twice, firsts_fit, sums_fit, face_verdict}
use Rattle.built_meshes.specs.declared.Version.{Version}
use Rattle.built_meshes.specs.declared.Ground.{Ground}
use Rattle.built_meshes.specs.declared.Ground.TheVariants.{FaceSize, OutOfRange, PointTwice, FirstPoint, NonRectangularFace, EdgeTripleFace, SameWay}
use Rattle.building_tests.specs.Lent.{lists, lists_in}
use Rattle.mended_lists.specs.Edges.{FacePlace, places_of, place_at, mate, third}
use Rattle.face_mending.specs.Shown.{FaceRoom, FacesRoom, TosShown}
use Rattle.face_mending.proofs.Laws.{unfit, from-shown, mate-shown, third-shown}
use Rattle.face_places.proofs.Laws.{offset-more, offset-le}
use Rattle.shared_edges.specs.Chains.{low_at, mate_at, third_at, LinksRoom, PairRoom, PlacesRoom, PlacesEntered, EnteredTo}
use Rattle.shared_edges.proofs.Laws.{mate-below}
use Rattle.refusal_places.specs.declared.Spot.{Spot}
use Rattle.refusal_places.specs.declared.Spot.TheVariants.{Face, Edge}
use Rattle.refusal_places.specs.Spots.{then_spot, runs_with, runs_with_mate, spot_at, edge_spot, edges_spot, verdict_spot, face_spot, faces_spot}
use Rattle.refusal_places.proofs.Theorem.{Stops, stops}
use Rattle.face_grounds.specs.Found.{runs_with_at, edge_spot_at, edges_spot_at, FoundIf}

-- ---- what stops

stopped-then : (s t : Result ⊤ Spot) → Stops s → then_spot s t ≡ s
stopped-then s t (stops x) = refl

-- ---- one place

pub runs_none : (ls : List ℕ) (m k : ℕ) → m ≡ 0 → false ≡ runs_with_at ls m k
runs_none ls m k e = rw e

pub runs-some :
    (ls : List ℕ) (m k : ℕ) → m ≢ 0 → (j : ℕ) → j ≡ m - 1 → eqb (get_or ls j 0) (get_or ls k 0) ≡ runs_with_at ls m k
runs-some ls zero k d j e = absurd (d refl)
runs-some ls (suc n) k d j e = let q : j ≡ n = omega arith in rw q

pub one-room :
    (ls ts : List ℕ) (nh : ℕ) (links mates seconds : List ℕ) (k : ℕ) → LinksRoom ls ts nh links k → PairRoom mates seconds k →
    PlacesRoom ls ts nh links mates seconds k 1
one-room ls ts nh links mates seconds k r p =
    record {
      room = λ i b. let e : k + i ≡ k = omega arith in rw e r;
      pair-room = λ i b. let e : k + i ≡ k = omega arith in rw e p;
    }

one-third : (ls ts : List ℕ) (k : ℕ) → every 1 (λ i. not (third_at ls ts (k + i))) ≡ not (third_at ls ts k)
unfolding every
one-third ls ts k = let e : k + 0 ≡ k = omega arith in rw e

pub third-met :
    (ls ts : List ℕ) (f i k : ℕ) (r : Bool) → r ≡ every 1 (λ i. not (third_at ls ts (k + i))) → r ≡ false →
    Err (Edge f i EdgeTripleFace) ≡ spot_at f i (third_at ls ts k) (runs_with_at ls (mate_at ls ts k) k)
third-met ls ts f i k r a b = go (third_at ls ts k) (sym (one-third ls ts k) ∙ sym a ∙ b)
  where
    go : (t : Bool) → not t ≡ false → Err (Edge f i EdgeTripleFace) ≡ spot_at f i t (runs_with_at ls (mate_at ls ts k) k)
    go true h = refl
    go false h = absurd (false≢true (sym h))

not_third : (ls ts : List ℕ) (k : ℕ) (r : Bool) → r ≡ every 1 (λ i. not (third_at ls ts (k + i))) → r ≡ true → third_at ls ts k ≡ false
not_third ls ts k r a b = go (third_at ls ts k) (sym (one-third ls ts k) ∙ sym a ∙ b)
  where
    go : (t : Bool) → not t ≡ true → t ≡ false
    go true h = absurd (false≢true h)
    go false h = refl

pub mate-is : (ls ts heads links mates seconds : List ℕ) (k : ℕ) (r : Bool) →
    EnteredTo ls ts heads links mates seconds (k + 1) r → r ≡ true → get_or mates k 0 ≡ mate_at ls ts k
mate-is ls ts heads links mates seconds k r e t = (e t).mate-is k (omega arith)

pub mate-within : (ls ts : List ℕ) (k m : ℕ) → m ≡ mate_at ls ts k → m ≤ k
mate-within ls ts k m e = omega (arith, mate-below ls ts k)

pub same_met :
    (ls ts : List ℕ) (f i k : ℕ) (r : Bool) (m : ℕ) (s : Bool) → r ≡ every 1 (λ i. not (third_at ls ts (k + i))) → r ≡ true →
    m ≡ mate_at ls ts k → s ≡ runs_with_at ls m k → s ≡ true →
    Err (Edge f i SameWay) ≡ spot_at f i (third_at ls ts k) (runs_with_at ls (mate_at ls ts k) k)
same_met ls ts f i k r m s a b e q t =
    let x : runs_with_at ls (mate_at ls ts k) k ≡ true = ap (λ (m : ℕ). runs_with_at ls m k) (sym e) ∙ sym q ∙ t in
    rw (not_third ls ts k r a b, x)

pub none-met :
    (ls ts : List ℕ) (f i k : ℕ) (r : Bool) (m : ℕ) (s : Bool) → r ≡ every 1 (λ i. not (third_at ls ts (k + i))) → r ≡ true →
    m ≡ mate_at ls ts k → s ≡ runs_with_at ls m k → s ≡ false →
    Ok tt ≡ spot_at f i (third_at ls ts k) (runs_with_at ls (mate_at ls ts k) k)
none-met ls ts f i k r m s a b e q t =
    let x : runs_with_at ls (mate_at ls ts k) k ≡ false = ap (λ (m : ℕ). runs_with_at ls m k) (sym e) ∙ sym q ∙ t in
    rw (not_third ls ts k r a b, x)

-- ---- the places of a face

room-like :
    (ls ts : List ℕ) (np np' : ℕ) (links links' : List ℕ) (k : ℕ) → np' ≡ np → length links' ≡ length links → LinksRoom ls ts np links k →
    LinksRoom ls ts np' links' k
room-like ls ts np np' links links' k a b r =
    record {
      listed-fit = r.listed-fit;
      tos-fit = r.tos-fit;
      links-fit = omega (arith, r.links-fit);
      low-fit = omega (arith, r.low-fit);
      few = r.few;
    }

-- i places of face f were entered, and nothing was met
pub record EdgesEntered (ls ts heads₀ links₀ mates₀ seconds₀ heads links mates seconds : List ℕ) (f a n i : ℕ) : Type 0 where
  pub not-past : i ≤ n
  pub heads-length : length heads ≡ length heads₀
  pub links-length : length links ≡ length links₀
  pub mates-length : length mates ≡ length mates₀
  pub seconds-length : length seconds ≡ length seconds₀
  pub entered : PlacesEntered ls ts heads links mates seconds (a + i)
  pub clear : edges_spot_at ls ts f a i ≡ Ok tt

pub edges_none :
    (ls ts heads links mates seconds : List ℕ) (f a n : ℕ) → PlacesEntered ls ts heads links mates seconds a →
    EdgesEntered ls ts heads links mates seconds heads links mates seconds f a n 0
edges_none ls ts heads links mates seconds f a n e =
    let z : a + 0 ≡ a = omega arith in
    record {
      not-past = omega arith;
      heads-length = refl;
      links-length = refl;
      mates-length = refl;
      seconds-length = refl;
      entered = rw z e;
      clear = unfold edges_spot_at in refl;
    }

edges-stay : (ls ts : List ℕ) (f a : ℕ) (s : Result ⊤ Spot) → Stops s → (k n : ℕ) → k ≤ n → edges_spot_at ls ts f a k ≡ s → edges_spot_at ls ts f a n ≡ s
unfolding edges_spot_at
edges-stay ls ts f a s stop k zero b e = let q : k ≡ 0 = omega arith in rw q at e
edges-stay ls ts f a s stop k (suc n) b e = go (ℕ_discrete k (suc n)) (λ h. edges-stay ls ts f a s stop k n h e)
  where
    go : Dec (k ≡ suc n) → (k ≤ n → edges_spot_at ls ts f a n ≡ s) → then_spot (edges_spot_at ls ts f a n) (edge_spot_at ls ts f a n) ≡ s
    go (yes q) before = rw q at e
    go (no q) before = rw (before (omega arith)) (stopped-then s (edge_spot_at ls ts f a n) stop)

module _ (ls ts heads₀ links₀ mates₀ seconds₀ heads links mates seconds : List ℕ) (f a n i : ℕ)
    (e : EdgesEntered ls ts heads₀ links₀ mates₀ seconds₀ heads links mates seconds f a n i)
    (rooms : PlacesRoom ls ts (length heads₀) links₀ mates₀ seconds₀ a n) (l : i < n) where
  pub edges_room : LinksRoom ls ts (length heads) links (a + i)
  edges_room = room-like ls ts (length heads₀) (length heads) links₀ links (a + i) e.heads-length e.links-length (rooms.room i l)

  pub edges-pair-room : PairRoom mates seconds (a + i)
  edges-pair-room =
      record {
        mates-fit = omega (arith, e.mates-length, (rooms.pair-room i l).mates-fit);
        seconds-fit = omega (arith, e.seconds-length, (rooms.pair-room i l).seconds-fit);
        few = (rooms.pair-room i l).few;
      }

  pub edges_few : a + i < 16384
  edges_few = (rooms.room i l).few

  module _ (r : Result ⊤ Spot) (told : r ≡ spot_at f i (third_at ls ts (a + i)) (runs_with_at ls (mate_at ls ts (a + i)) (a + i))) where
    pub edges-stopped : (s : Result ⊤ Spot) → Stops s → r ≡ s → s ≡ edges_spot_at ls ts f a n
    unfolding edges_spot_at
    edges-stopped s stop q = sym (edges-stay ls ts f a s stop (suc i) n l (rw e.clear (sym told ∙ q)))

    pub edges_more :
        (heads' links' mates' seconds' : List ℕ) → length heads' ≡ length heads → length links' ≡ length links →
        length mates' ≡ length mates → length seconds' ≡ length seconds → r ≡ Ok tt →
        FoundIf ls ts heads' links' mates' seconds' (a + i + 1) r →
        EdgesEntered ls ts heads₀ links₀ mates₀ seconds₀ heads' links' mates' seconds' f a n (i + 1)
    unfolding edges_spot_at
    edges_more heads' links' mates' seconds' x y z w q after =
        let s : a + (i + 1) ≡ a + i + 1 = omega arith in
        record {
          not-past = omega arith;
          heads-length = x ∙ e.heads-length;
          links-length = y ∙ e.links-length;
          mates-length = z ∙ e.mates-length;
          seconds-length = w ∙ e.seconds-length;
          entered = rw s (after q);
          clear = rw (add-one i, e.clear) (sym told ∙ q);
        }

pub edges-all :
    (ls ts heads₀ links₀ mates₀ seconds₀ heads links mates seconds : List ℕ) (f a n i : ℕ) → n ≤ i →
    EdgesEntered ls ts heads₀ links₀ mates₀ seconds₀ heads links mates seconds f a n i →
    (Ok tt ≡ edges_spot_at ls ts f a n) × PlacesEntered ls ts heads links mates seconds (a + n)
edges-all ls ts heads₀ links₀ mates₀ seconds₀ heads links mates seconds f a n i b e =
    let s : i ≡ n = omega (arith, e.not-past) in (sym (rw s at e.clear), rw s at e.entered)

-- ---- one face

in-range : (a b : Bool) (rest : Result ⊤ Ground) → cond (not a) (Err FaceSize) (cond (not b) (Err OutOfRange) rest) ≡ Ok tt → b ≡ true
in-range true true rest h = refl
in-range true false rest h = absurd (unfit OutOfRange h)
in-range false b rest h = absurd (unfit FaceSize h)

-- a face that is fit has points in range
points-in-range :
    (v : Version) (ss fs ls : List ℕ) (is : List Float) (np f a n : ℕ) → n ≡ size (lists [] ss [] []) f →
    face_verdict (lists_in v [] ss fs ls is) np f a ≡ Ok tt → (i : ℕ) → i < n → get_or ls (a + i) 0 < np
unfolding face_verdict listed_in_range
points-in-range v ss fs ls is np f a n e h i b =
    (every-is (size (lists [] ss [] []) f) (λ i. ltb-is (get_or ls (a + i) 0) np)).0
    (in-range (size_fit (size (lists [] ss [] []) f)) (every (size (lists [] ss [] []) f) (λ i. ltb (get_or ls (a + i) 0) np))
    (cond (not (no_point_twice (lists_in v [] ss fs ls is) a (size (lists_in v [] ss fs ls is) f))) (Err PointTwice)
    (cond (not (firsts_fit v (lists_in v [] ss fs ls is) f a)) (Err FirstPoint)
    (cond (not (sums_fit v (lists_in v [] ss fs ls is) f a)) (Err NonRectangularFace) (Ok tt))))
    h)
    i (rw e at b)

pub places-room :
    (v : Version) (ss fs ls : List ℕ) (is : List Float) (ts : List ℕ) (nh : ℕ) (links mates seconds : List ℕ) (np f a n : ℕ) →
    FaceRoom ss fs ls is ts nh links mates seconds np f a n → face_verdict (lists_in v [] ss fs ls is) np f a ≡ Ok tt →
    PlacesRoom ls ts nh links mates seconds a n
places-room v ss fs ls is ts nh links mates seconds np f a n r h =
    record {
      room =
          λ i b.
          record {
            listed-fit = omega (arith, r.listed-fit);
            tos-fit = omega (arith, r.tos-fit);
            links-fit = omega (arith, r.links-fit);
            low-fit = omega (arith, r.points-fit, points-in-range v ss fs ls is np f a n r.size_is h i b);
            few = omega (arith, r.listed-fit, r.few);
          };
      pair-room =
          λ i b.
          record {
            mates-fit = omega (arith, r.mates-fit);
            seconds-fit = omega (arith, r.seconds-fit);
            few = omega (arith, r.listed-fit, r.few);
          };
    }

pub face-fit : (f : ℕ) (v : Result ⊤ Ground) (r e : Result ⊤ Spot) → v ≡ Ok tt → r ≡ e → r ≡ then_spot (verdict_spot f v) e
face-fit f v r e a b = rw a b

pub face-unfit : (f : ℕ) (v : Result ⊤ Ground) (e : Result ⊤ Spot) (g : Ground) → v ≡ Err g → Err (Face f g) ≡ then_spot (verdict_spot f v) e
face-unfit f v e g a = rw a

-- ---- the lists show the places

module _ (ss ls ts : List ℕ) (shown : TosShown ss ls ts) (all : offset (lists [] ss [] []) (length ss / 4) ≡ length ls) where
  runs-shown : (k : ℕ) → k < length ls → runs_with_at ls (mate_at ls ts k) k ≡ runs_with_mate (places_of (lists [] ss ls [])) k
  unfolding runs_with_mate
  runs-shown k b = go (mate_at ls ts k) (mate-shown ss ls ts shown all k b) (mate-below ls ts k)
    where
      go :
          (m : ℕ) → m ≡ mate (places_of (lists [] ss ls [])) k → m ≤ k →
          runs_with_at ls m k ≡ runs_with (places_of (lists [] ss ls [])) (mate (places_of (lists [] ss ls [])) k) k
      go zero e l = rw (← e)
      go (suc j) e l = rw (← e, from-shown ss ls ts shown all j (omega arith), from-shown ss ls ts shown all k b)

  edge-shown :
      (f a i : ℕ) → a + i < length ls → edge_spot_at ls ts f a i ≡ edge_spot (places_of (lists [] ss ls [])) f a i
  unfolding edge_spot
  edge-shown f a i b = rw (third-shown ss ls ts shown all (a + i) b, runs-shown (a + i) b)

  pub edges-shown :
      (f a n : ℕ) → a + n ≤ length ls → edges_spot_at ls ts f a n ≡ edges_spot (places_of (lists [] ss ls [])) f a n
  unfolding edges_spot_at edges_spot
  edges-shown f a zero b = refl
  edges-shown f a (suc n) b = rw (edges-shown f a n (omega arith), edge-shown f a n (omega arith))

-- ---- all faces

faces-stay : (l : Lists) (ps : List FacePlace) (s : Result ⊤ Spot) → Stops s → (k n : ℕ) → k ≤ n → faces_spot l ps k ≡ s → faces_spot l ps n ≡ s
unfolding faces_spot
faces-stay l ps s stop k zero b e = let q : k ≡ 0 = omega arith in rw q at e
faces-stay l ps s stop k (suc n) b e = go (ℕ_discrete k (suc n)) (λ h. faces-stay l ps s stop k n h e)
  where
    go : Dec (k ≡ suc n) → (k ≤ n → faces_spot l ps n ≡ s) → then_spot (faces_spot l ps n) (face_spot l ps n) ≡ s
    go (yes q) before = rw q at e
    go (no q) before = rw (before (omega arith)) (stopped-then s (face_spot l ps n) stop)

-- f faces are entered, and nothing was met
pub record FacesEntered (v : Version) (ss fs ls : List ℕ) (is : List Float)
    (ts heads₀ links₀ mates₀ seconds₀ heads links mates seconds : List ℕ) (np a f : ℕ) : Type 0 where
  pub not-past : f ≤ length ss / 4
  pub heads-length : length heads ≡ length heads₀
  pub links-length : length links ≡ length links₀
  pub mates-length : length mates ≡ length mates₀
  pub seconds-length : length seconds ≡ length seconds₀
  pub at-is : a ≡ offset (lists [] ss [] []) f
  pub entered : PlacesEntered ls ts heads links mates seconds a
  pub clear : (cs : List Float) → length cs / position_width ≡ np → faces_spot (lists_in v cs ss fs ls is) (places_of (lists [] ss ls [])) f ≡ Ok tt

pub faces-start :
    (v : Version) (ss fs ls : List ℕ) (is : List Float) (ts heads links mates seconds : List ℕ) (np : ℕ) →
    PlacesEntered ls ts heads links mates seconds 0 →
    FacesEntered v ss fs ls is ts heads links mates seconds heads links mates seconds np 0 0
faces-start v ss fs ls is ts heads links mates seconds np e =
    record {
      not-past = omega arith;
      heads-length = refl;
      links-length = refl;
      mates-length = refl;
      seconds-length = refl;
      at-is = unfold offset sum_to in refl;
      entered = e;
      clear = λ cs h. unfold faces_spot in refl;
    }

module _ (v : Version) (ss fs ls : List ℕ) (is : List Float) (ts heads₀ links₀ mates₀ seconds₀ heads links mates seconds : List ℕ)
    (np a f n : ℕ) (s : FacesEntered v ss fs ls is ts heads₀ links₀ mates₀ seconds₀ heads links mates seconds np a f)
    (room : FacesRoom ss fs ls is ts (length heads₀) links₀ mates₀ seconds₀ np) (shown : TosShown ss ls ts) (b : f < length ss / 4)
    (size_is : n ≡ size (lists [] ss [] []) f) where
  end_below : a + n ≤ length ls
  end_below =
      omega
      (arith, s.at-is, size_is, offset-more (lists [] ss [] []) f, offset-le (lists [] ss [] []) (suc f) (length ss / 4) b, room.all_listed)

  pub faces-room : FaceRoom ss fs ls is ts (length heads) links mates seconds np f a n
  faces-room =
      record {
        sides-fit = omega arith;
        firsts-fit = room.firsts-fit;
        size_is = size_is;
        listed-fit = end_below;
        intervals-fit = omega (arith, end_below, room.intervals-fit);
        tos-fit = omega (arith, end_below, room.tos-fit);
        points-fit = omega (arith, room.points-fit, s.heads-length);
        links-fit = omega (arith, end_below, room.links-fit, s.links-length);
        mates-fit = omega (arith, end_below, room.mates-fit, s.mates-length);
        seconds-fit = omega (arith, end_below, room.seconds-fit, s.seconds-length);
        few = room.few;
      }

  pub faces-few : a + n ≤ 16384
  faces-few = omega (arith, end_below, room.few)

  module _ (r : Result ⊤ Spot)
      (told : (cs : List Float) → r ≡ then_spot (verdict_spot f (face_verdict (lists_in v cs ss fs ls is) np f a)) (edges_spot_at ls ts f a n)) where
    edges_are : edges_spot_at ls ts f a n ≡ edges_spot (places_of (lists [] ss ls [])) f (offset (lists [] ss [] []) f) (size (lists [] ss [] []) f)
    edges_are =
        edges-shown ss ls ts shown room.all_listed f a n end_below
        ∙ ap (λ (x : ℕ). edges_spot (places_of (lists [] ss ls [])) f x n) s.at-is
        ∙ ap (λ (x : ℕ). edges_spot (places_of (lists [] ss ls [])) f (offset (lists [] ss [] []) f) x) size_is

    face-is : (cs : List Float) → length cs / position_width ≡ np → r ≡ face_spot (lists_in v cs ss fs ls is) (places_of (lists [] ss ls [])) f
    unfolding face_spot offset
    face-is cs h =
        told cs ∙ ap (then_spot (verdict_spot f (face_verdict (lists_in v cs ss fs ls is) np f a))) edges_are
        ∙ ap
        (λ (x : ℕ). then_spot (verdict_spot f (face_verdict (lists_in v cs ss fs ls is) x f a))
        (edges_spot (places_of (lists [] ss ls [])) f (offset (lists [] ss [] []) f) (size (lists [] ss [] []) f)))
        (sym h)
        ∙ ap
        (λ (x : ℕ). then_spot (verdict_spot f (face_verdict (lists_in v cs ss fs ls is) (length cs / position_width) f x))
        (edges_spot (places_of (lists [] ss ls [])) f (offset (lists [] ss [] []) f) (size (lists [] ss [] []) f)))
        s.at-is

    pub faces-stopped :
        (t : Result ⊤ Spot) → Stops t → r ≡ t → (cs : List Float) → length cs / position_width ≡ np →
        t ≡ faces_spot (lists_in v cs ss fs ls is) (places_of (lists [] ss ls [])) (length ss / 4)
    unfolding faces_spot
    faces-stopped t stop e cs h =
        sym
        (faces-stay (lists_in v cs ss fs ls is) (places_of (lists [] ss ls [])) t stop (suc f) (length ss / 4) b
        (rw (s.clear cs h) (sym (face-is cs h) ∙ e)))

    pub faces-more :
        (heads' links' mates' seconds' : List ℕ) → length heads' ≡ length heads → length links' ≡ length links → length mates' ≡ length mates →
        length seconds' ≡ length seconds → r ≡ Ok tt → FoundIf ls ts heads' links' mates' seconds' (a + n) r →
        FacesEntered v ss fs ls is ts heads₀ links₀ mates₀ seconds₀ heads' links' mates' seconds' np (a + n) (f + 1)
    unfolding faces_spot
    faces-more heads' links' mates' seconds' x y z w e after =
        let next : f + 1 ≡ suc f = omega arith in
        rw next
        (record {
          not-past = b;
          heads-length = x ∙ s.heads-length;
          links-length = y ∙ s.links-length;
          mates-length = z ∙ s.mates-length;
          seconds-length = w ∙ s.seconds-length;
          at-is = omega (arith, s.at-is, size_is, offset-more (lists [] ss [] []) f);
          entered = after e;
          clear = λ cs h. rw (s.clear cs h) (sym (face-is cs h) ∙ e);
        })

pub faces-end :
    (v : Version) (ss fs ls : List ℕ) (is : List Float) (ts heads₀ links₀ mates₀ seconds₀ heads links mates seconds : List ℕ) (np a f : ℕ) →
    FacesEntered v ss fs ls is ts heads₀ links₀ mates₀ seconds₀ heads links mates seconds np a f →
    FacesRoom ss fs ls is ts (length heads₀) links₀ mates₀ seconds₀ np → length ss / 4 ≤ f →
    ((cs : List Float) → length cs / position_width ≡ np →
    Ok tt ≡ faces_spot (lists_in v cs ss fs ls is) (places_of (lists [] ss ls [])) (length ss / 4))
    × PlacesEntered ls ts heads links mates seconds (length ls)
faces-end v ss fs ls is ts heads₀ links₀ mates₀ seconds₀ heads links mates seconds np a f s room e =
    let q : f ≡ length ss / 4 = omega (arith, s.not-past) in
    let r : a ≡ length ls = s.at-is ∙ ap (offset (lists [] ss [] [])) q ∙ room.all_listed in
    (λ cs h. sym (rw q at (s.clear cs h)), rw r at s.entered)
