-- The laws of the mender's tests of faces. Assumes nothing.
use mathlib.Core.Path.{◌≡◌, refl, sym, ◌∙◌, ap}
use mathlib.Core.Bool.{Bool, true, false, not, cond, ◌&&◌, false≢true}
use mathlib.Core.List.{List, []}
use mathlib.Core.Logic.{◌≢◌}
use Prim.Native.Nat.{ℕ, zero, suc, ◌+◌, ◌-◌, ◌*◌, ◌/◌, ◌≤◌, ◌<◌, min}
use native.Mathlib.Omega.{arith}
use native.Mathlib.Decide.{ℕ_discrete}
use lib.Dec.{eqb, ltb}
use lib.Ieee.{Float}
use lib.ListN.{length, get_or}
use Rattle.tables.specs.Layout.{position_width}
use Rattle.audited_meshes.specs.Folds.{every}
use Rattle.audited_meshes.proofs.Tests.{Is, self-is, ltb-is, every-is}
use Rattle.closed_meshes.specs.Renumbering.{sum_to}
use Rattle.built_meshes.specs.Lists.{Lists, points_of, faces_of, size, offset}
use Rattle.built_meshes.specs.Faces.{size_fit, listed_in_range, no_point_twice, firsts_fit, sums_fit, face_verdict}
use Rattle.built_meshes.specs.Answers.{ground_number}
use Rattle.built_meshes.specs.declared.Version.TheVariants.{Two}
use Rattle.built_meshes.specs.declared.Ground.{Ground}
use Rattle.built_meshes.specs.declared.Ground.TheVariants.{FaceSize, OutOfRange, PointTwice, FirstPoint, NonRectangularFace, EdgeTripleFace}
use Rattle.building_tests.specs.Lent.{lists, lists_in}
use borrow.Author.Tests.{eqb-true, eq-eqb}
use Rattle.std.specs.Prelude.{Result, Ok, Err, ⊤}
use Rattle.built_meshes.specs.Places.{point_of}
use Rattle.mended_lists.specs.Edges.{FacePlace, places_of, place_at, same_edge, latest, mate, third}
use Rattle.mended_lists.specs.Mending.{forgiven, edges_mend, then_edges, face_mends, then_face, faces_mend}
use Rattle.mended_lists.proofs.Reversal.{eqb-false}
use Rattle.mended_lists.proofs.Edges.{places-length, Numbered, numbered}
use Rattle.shared_edges.proofs.Laws.{latest-same, latest-below}
use Rattle.face_places.proofs.Laws.{offset-more, offset-le, same-offset}
use Rattle.shared_edges.specs.Chains.{low_at, joins_at, mate_at, has_mate_at, third_at, LinksRoom, PairRoom, PlacesRoom, PlacesEntered}
use Rattle.face_mending.specs.Shown.{FaceRoom, FacesRoom, TosShown, EnteredIf}

pub unfit : (g : Ground) → ◌≡◌ {A = Result ⊤ Ground} (Err g) (Ok tt) → ⊥
unfit g h = let z : ◌≡◌ {A = ℕ} 0 1 = cc in omega arith

-- a face that passes 11 has points in range
in-range :
    (a b : Bool) (rest : Result ⊤ Ground) → forgiven (cond (not a) (Err FaceSize) (cond (not b) (Err OutOfRange) rest)) ≡ Ok tt → b ≡ true
in-range true true rest h = refl
in-range true false rest h = absurd (unfit OutOfRange h)
in-range false b rest h = absurd (unfit FaceSize h)

points-in-range :
    (ss fs ls : List ℕ) (is : List Float) (np f a n : ℕ) → n ≡ size (lists [] ss [] []) f →
    forgiven (face_verdict (lists_in Two [] ss fs ls is) np f a) ≡ Ok tt → (i : ℕ) → i < n → get_or ls (a + i) 0 < np
unfolding face_verdict listed_in_range
points-in-range ss fs ls is np f a n e h i b =
    (every-is (size (lists [] ss [] []) f) (λ i. ltb-is (get_or ls (a + i) 0) np)).0
    (in-range (size_fit (size (lists [] ss [] []) f)) (every (size (lists [] ss [] []) f) (λ i. ltb (get_or ls (a + i) 0) np))
    (cond (not (no_point_twice (lists_in Two [] ss fs ls is) a (size (lists_in Two [] ss fs ls is) f))) (Err PointTwice)
    (cond (not (firsts_fit Two (lists_in Two [] ss fs ls is) f a)) (Err FirstPoint)
    (cond (not (sums_fit Two (lists_in Two [] ss fs ls is) f a)) (Err NonRectangularFace) (Ok tt))))
    h)
    i (rw e at b)

pub places-room :
    (ss fs ls : List ℕ) (is : List Float) (ts : List ℕ) (nh : ℕ) (links mates seconds : List ℕ) (np f a n : ℕ) →
    FaceRoom ss fs ls is ts nh links mates seconds np f a n → forgiven (face_verdict (lists_in Two [] ss fs ls is) np f a) ≡ Ok tt →
    PlacesRoom ls ts nh links mates seconds a n
places-room ss fs ls is ts nh links mates seconds np f a n r h =
    record {
      room =
          λ i b.
          record {
            listed-fit = omega (arith, r.listed-fit);
            tos-fit = omega (arith, r.tos-fit);
            links-fit = omega (arith, r.links-fit);
            low-fit = omega (arith, r.points-fit, points-in-range ss fs ls is np f a n r.size_is h i b);
            few = omega (arith, r.listed-fit, r.few);
          };
      pair-room =
          λ i b.
          record {
            mates-fit = omega (arith, r.mates-fit);
            seconds-fit = omega (arith, r.seconds-fit);
            few = omega (arith, r.listed-fit, r.few);
          };
    }

-- ---- 13 is not the mender's

pub forgiven-sums : (v : Result ⊤ Ground) (g : Ground) (n : ℕ) → v ≡ Err g → n ≡ ground_number g → n ≡ 13 → Ok tt ≡ forgiven v
forgiven-sums v g n e a b = rw (e, eq-eqb (ground_number g) 13 (sym a ∙ b))

pub forgiven-other : (v : Result ⊤ Ground) (g : Ground) (n : ℕ) → v ≡ Err g → n ≡ ground_number g → n ≢ 13 → Err g ≡ forgiven v
forgiven-other v g n e a b = rw (e, eqb-false (ground_number g) 13 (λ q. b (a ∙ q)))

-- ---- one face

pub edges_fit : (v : Result ⊤ Ground) (e : Bool) → v ≡ Ok tt → e ≡ true → Ok tt ≡ then_edges v e
edges_fit v e a b = rw (a, b)

pub edges-third : (v : Result ⊤ Ground) (e : Bool) → v ≡ Ok tt → e ≡ false → Err EdgeTripleFace ≡ then_edges v e
edges-third v e a b = rw (a, b)

pub edges-after : (v : Result ⊤ Ground) (e : Bool) (g : Ground) → v ≡ Err g → Err g ≡ then_edges v e
edges-after v e g a = rw a

-- ---- the lists show the places

module _ (ss ls ts : List ℕ) (shown : TosShown ss ls ts) (all : offset (lists [] ss [] []) (length ss / 4) ≡ length ls) where
  pub from-shown : (j : ℕ) → j < length ls → get_or ls j 0 ≡ (place_at (places_of (lists [] ss ls [])) j).from
  from-shown j b =
      let u : Numbered (lists [] ss ls []) j =
      numbered (lists [] ss ls []) j
      (omega (arith, places-length (lists [] ss ls []), same-offset ss ls (length ss / 4)))
      in
      sym (ap (λ x. x.from) u.at ∙ ap (λ (x : ℕ). get_or ls x 0) u.number)

  joins-shown :
      (j k : ℕ) → j < length ls → k < length ls →
      joins_at ls ts (get_or ls k 0) (get_or ts k 0) j ≡ same_edge (place_at (places_of (lists [] ss ls [])) j) (place_at (places_of (lists [] ss ls [])) k)
  joins-shown j k a b = rw (from-shown j a, from-shown k b, shown j a, shown k b)

  pub mate-shown : (k : ℕ) → k < length ls → mate_at ls ts k ≡ mate (places_of (lists [] ss ls [])) k
  unfolding mate
  mate-shown k b =
      latest-same (λ j. joins_at ls ts (get_or ls k 0) (get_or ts k 0) j)
      (λ j. same_edge (place_at (places_of (lists [] ss ls [])) j) (place_at (places_of (lists [] ss ls [])) k)) k
      (λ i c. joins-shown i k (omega arith) b)

  pub third-shown : (k : ℕ) → k < length ls → third_at ls ts k ≡ third (places_of (lists [] ss ls [])) k
  unfolding third
  third-shown k b = go (mate_at ls ts k) (mate-shown k b) (mate-below-at k)
    where
      mate-below-at : (k : ℕ) → mate_at ls ts k ≤ k
      mate-below-at k = latest-below (λ j. joins_at ls ts (get_or ls k 0) (get_or ts k 0) j) k

      go : (m : ℕ) → m ≡ mate (places_of (lists [] ss ls [])) k → m ≤ k → has_mate_at ls ts m ≡ third (places_of (lists [] ss ls [])) k
      go zero e l = rw (← e)
      go (suc j) e l = rw (← e, mate-shown j (omega arith))

-- ---- all faces

pub every-same : (n : ℕ) (test other : ℕ → Bool) → ((i : ℕ) → i < n → test i ≡ other i) → every n test ≡ every n other
unfolding every
every-same zero test other e = refl
every-same (suc n) test other e = go (every-same n test other (λ i b. e i (omega arith))) (e n (omega arith))
  where
    go : every n test ≡ every n other → test n ≡ other n → (every n test && test n) ≡ (every n other && other n)
    go a b = rw (a, b)

stays-unfit : (l : Lists) (ps : List FacePlace) (g : Ground) (k n : ℕ) → k ≤ n → faces_mend l ps k ≡ Err g → faces_mend l ps n ≡ Err g
unfolding faces_mend
stays-unfit l ps g k zero b e = let q : k ≡ 0 = omega arith in rw q at e
stays-unfit l ps g k (suc n) b e = go (ℕ_discrete k (suc n)) (λ h. stays-unfit l ps g k n h e)
  where
    go : Dec (k ≡ suc n) → (k ≤ n → faces_mend l ps n ≡ Err g) → then_face (faces_mend l ps n) (face_mends l ps n) ≡ Err g
    go (yes q) before = rw q at e
    go (no q) before = rw (before (omega arith))

-- f faces are entered, and all were fit
pub record FacesEntered (ss fs ls : List ℕ) (is : List Float) (ts heads₀ links₀ mates₀ seconds₀ heads links mates seconds : List ℕ) (np a f : ℕ) : Type 0 where
  pub not-past : f ≤ length ss / 4
  pub heads-length : length heads ≡ length heads₀
  pub links-length : length links ≡ length links₀
  pub mates-length : length mates ≡ length mates₀
  pub seconds-length : length seconds ≡ length seconds₀
  pub at-is : a ≡ offset (lists [] ss [] []) f
  pub entered : PlacesEntered ls ts heads links mates seconds a
  pub fit : (cs : List Float) → length cs / position_width ≡ np → faces_mend (lists_in Two cs ss fs ls is) (places_of (lists [] ss ls [])) f ≡ Ok tt

pub faces-start :
    (ss fs ls : List ℕ) (is : List Float) (ts heads links mates seconds : List ℕ) (np : ℕ) → PlacesEntered ls ts heads links mates seconds 0 →
    FacesEntered ss fs ls is ts heads links mates seconds heads links mates seconds np 0 0
faces-start ss fs ls is ts heads links mates seconds np e =
    record {
      not-past = omega arith;
      heads-length = refl;
      links-length = refl;
      mates-length = refl;
      seconds-length = refl;
      at-is = unfold offset sum_to in refl;
      entered = e;
      fit = λ cs h. unfold faces_mend in refl;
    }

module _ (ss fs ls : List ℕ) (is : List Float) (ts heads₀ links₀ mates₀ seconds₀ heads links mates seconds : List ℕ) (np a f n : ℕ)
    (s : FacesEntered ss fs ls is ts heads₀ links₀ mates₀ seconds₀ heads links mates seconds np a f)
    (room : FacesRoom ss fs ls is ts (length heads₀) links₀ mates₀ seconds₀ np) (shown : TosShown ss ls ts) (b : f < length ss / 4)
    (size_is : n ≡ size (lists [] ss [] []) f) where
  end_below : a + n ≤ length ls
  end_below =
      omega
      (arith, s.at-is, size_is, offset-more (lists [] ss [] []) f, offset-le (lists [] ss [] []) (suc f) (length ss / 4) b, room.all_listed)

  pub faces-room : FaceRoom ss fs ls is ts (length heads) links mates seconds np f a n
  faces-room =
      record {
        sides-fit = omega arith;
        firsts-fit = room.firsts-fit;
        size_is = size_is;
        listed-fit = end_below;
        intervals-fit = omega (arith, end_below, room.intervals-fit);
        tos-fit = omega (arith, end_below, room.tos-fit);
        points-fit = omega (arith, room.points-fit, s.heads-length);
        links-fit = omega (arith, end_below, room.links-fit, s.links-length);
        mates-fit = omega (arith, end_below, room.mates-fit, s.mates-length);
        seconds-fit = omega (arith, end_below, room.seconds-fit, s.seconds-length);
        few = room.few;
      }

  pub faces-few : a + n ≤ 16384
  faces-few = omega (arith, end_below, room.few)

  module _ (r : Result ⊤ Ground)
      (told : (cs : List Float) → r ≡ then_edges (forgiven (face_verdict (lists_in Two cs ss fs ls is) np f a)) (every n (λ i. not (third_at ls ts (a + i))))) where
    edges-shown : every n (λ i. not (third_at ls ts (a + i))) ≡ edges_mend (places_of (lists [] ss ls [])) (offset (lists [] ss [] []) f) (size (lists [] ss [] []) f)
    unfolding edges_mend
    edges-shown =
        every-same n (λ i. not (third_at ls ts (a + i))) (λ i. not (third (places_of (lists [] ss ls [])) (a + i)))
        (λ i c. ap not (third-shown ss ls ts shown room.all_listed (a + i) (omega (arith, end_below))))
        ∙ ap (λ (x : ℕ). every n (λ i. not (third (places_of (lists [] ss ls [])) (x + i)))) s.at-is
        ∙ ap (λ (x : ℕ). every x (λ i. not (third (places_of (lists [] ss ls [])) (offset (lists [] ss [] []) f + i)))) size_is

    face-is : (cs : List Float) → length cs / position_width ≡ np → r ≡ face_mends (lists_in Two cs ss fs ls is) (places_of (lists [] ss ls [])) f
    unfolding face_mends offset
    face-is cs h =
        told cs ∙ ap (then_edges (forgiven (face_verdict (lists_in Two cs ss fs ls is) np f a))) edges-shown
        ∙ ap
        (λ (x : ℕ). then_edges (forgiven (face_verdict (lists_in Two cs ss fs ls is) x f a))
        (edges_mend (places_of (lists [] ss ls [])) (offset (lists [] ss [] []) f) (size (lists [] ss [] []) f)))
        (sym h)
        ∙ ap
        (λ (x : ℕ). then_edges (forgiven (face_verdict (lists_in Two cs ss fs ls is) (length cs / position_width) f x))
        (edges_mend (places_of (lists [] ss ls [])) (offset (lists [] ss [] []) f) (size (lists [] ss [] []) f)))
        s.at-is

    pub faces-stopped :
        (g : Ground) → r ≡ Err g → (cs : List Float) → length cs / position_width ≡ np →
        Err g ≡ faces_mend (lists_in Two cs ss fs ls is) (places_of (lists [] ss ls [])) (length ss / 4)
    unfolding faces_mend
    faces-stopped g e cs h =
        sym
        (stays-unfit (lists_in Two cs ss fs ls is) (places_of (lists [] ss ls [])) g (suc f) (length ss / 4) b
        (rw (s.fit cs h) (sym (face-is cs h) ∙ e)))

    pub faces-more :
        (heads' links' mates' seconds' : List ℕ) → length heads' ≡ length heads → length links' ≡ length links → length mates' ≡ length mates →
        length seconds' ≡ length seconds → r ≡ Ok tt → EnteredIf ls ts heads' links' mates' seconds' (a + n) r →
        FacesEntered ss fs ls is ts heads₀ links₀ mates₀ seconds₀ heads' links' mates' seconds' np (a + n) (f + 1)
    unfolding faces_mend
    faces-more heads' links' mates' seconds' x y z w e after =
        let next : f + 1 ≡ suc f = omega arith in
        rw next
        (record {
          not-past = b;
          heads-length = x ∙ s.heads-length;
          links-length = y ∙ s.links-length;
          mates-length = z ∙ s.mates-length;
          seconds-length = w ∙ s.seconds-length;
          at-is = omega (arith, s.at-is, size_is, offset-more (lists [] ss [] []) f);
          entered = after e;
          fit = λ cs h. rw (s.fit cs h) (sym (face-is cs h) ∙ e);
        })

pub faces-end :
    (ss fs ls : List ℕ) (is : List Float) (ts heads₀ links₀ mates₀ seconds₀ heads links mates seconds : List ℕ) (np a f : ℕ) →
    FacesEntered ss fs ls is ts heads₀ links₀ mates₀ seconds₀ heads links mates seconds np a f →
    FacesRoom ss fs ls is ts (length heads₀) links₀ mates₀ seconds₀ np → length ss / 4 ≤ f →
    ((cs : List Float) → length cs / position_width ≡ np → Ok tt ≡ faces_mend (lists_in Two cs ss fs ls is) (places_of (lists [] ss ls [])) (length ss / 4))
    × PlacesEntered ls ts heads links mates seconds (length ls)
faces-end ss fs ls is ts heads₀ links₀ mates₀ seconds₀ heads links mates seconds np a f s room e =
    let q : f ≡ length ss / 4 = omega (arith, s.not-past) in
    let r : a ≡ length ls = s.at-is ∙ ap (offset (lists [] ss [] [])) q ∙ room.all_listed in
    (λ cs h. sym (rw q at (s.fit cs h)), rw r at s.entered)
