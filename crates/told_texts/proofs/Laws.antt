-- The laws of telling the number of an answer. Assumes nothing.
use mathlib.Core.Path.{◌≡◌, refl, sym, ◌∙◌, ap}
use mathlib.Core.Bool.{Bool, true, false, not, cond}
use mathlib.Core.List.{List, []}
use Prim.Native.Nat.{ℕ, zero, suc, ◌+◌, ◌*◌, ◌/◌, ◌≤◌, ◌<◌}
use native.Mathlib.Omega.{arith}
use native.Mathlib.Decide.{ℕ_discrete}
use lib.Ieee.{Float, nan}
use lib.ListN.{length, take, get_or, replicate, length-replicate, get_or-replicate}
use lib.Dec.{eqb, ltb}
use lib.Seq.{length-take-le, get_or-take}
use Rattle.std.specs.Prelude.{Result, Ok, Err, ⊤}
use Rattle.tables.specs.Layout.{position_width}
use Rattle.tables.specs.declared.Sizes.{Sizes}
use Rattle.mesh_text.specs.Reading.{TextLists, read_into}
use Rattle.mesh_text.specs.declared.ReadingGround.{ReadingGround}
use Rattle.built_meshes.specs.Lists.{Lists, points_of, faces_of, size, offset, counts_fit, listed_fit}
use Rattle.built_meshes.specs.declared.Ground.TheVariants.{OverCounts, UnfitNumber, FaceSize, OutOfRange, PointTwice, FirstPoint, NonRectangularFace}
use Rattle.built_meshes.specs.declared.Version.{Version}
use Rattle.built_meshes.specs.declared.Ground.{Ground}
use Rattle.building_tests.specs.Lent.{lists_in, lists as lists_one, limits_of}
use Rattle.building_tests.specs.declared.Bounds.{Bounds}
use Rattle.building_tests.specs.declared.Bounds.TheVariants.{General, Refine}
use Rattle.mended_lists.specs.Edges.{places_of, latest, mate, follower}
use Rattle.mended_lists.proofs.Edges.{places-length, Numbered, numbered}
use Rattle.shared_edges.specs.Chains.{mate_at, PlacesEntered}
use Rattle.shared_edges.proofs.Laws.{latest-same}
use Rattle.face_mending.proofs.Laws.{unfit, mate-shown}
use Rattle.built_meshes.specs.Answers.{ground_number}
use Rattle.built_meshes.specs.Places.{point_of, IsPlace}
use Rattle.built_meshes.specs.Faces.{size_fit, listed_in_range, no_point_twice, firsts_fit, sums_fit, face_verdict}
use Rattle.audited_meshes.specs.Folds.{every}
use Rattle.audited_meshes.proofs.Tests.{ltb-is, every-is}
use Rattle.face_mending.specs.Shown.{FacesRoom, TosShown}
use Rattle.text_meshes.specs.TextBuilding.{is_too_long}
use Rattle.text_building.proofs.Laws.{Held, no-form, over-text, means, fits, first-lists}
use Rattle.refusal_places.specs.declared.Spot.{Spot}
use Rattle.refusal_places.specs.declared.Spot.TheVariants.{Face, Edge}
use Rattle.refusal_places.specs.Spots.{then_spot, verdict_spot, edges_spot, face_spot, faces_spot, first_spot}
use Rattle.refusal_places.proofs.Theorem.{stops, not-clear}
use Rattle.whole_grounds.specs.Turning.{whole_met, verdict_if, lists_met, nexts_of, turn_from, points_begun, turns_come}
use Rattle.whole_tests.specs.Whole.{WholeRoom}
use Rattle.text_places.specs.TextPlaces.{SpotRoom}
use Rattle.told_texts.specs.Told.{Unpaired, Pairs, faces_met, verdict_number, form_number, told_if, told_number}

-- the limits of both kinds are within the general ones
few : (b : Bounds) → ((limits_of b).points ≤ 4096) × ((limits_of b).faces ≤ 4096) × ((limits_of b).listed ≤ 16384)
few General = omega arith
few Refine = omega arith

-- ---- by the tests before the faces

module _ (b : Bounds) (v : Version) (cs : List Float) (ss fs ls : List ℕ) (is : List Float) where
  pub met-counts :
      (x : Bool) → x ≡ counts_fit (limits_of b) (lists_in v cs ss fs ls is) → x ≡ false → Err OverCounts ≡ lists_met (limits_of b) (lists_in v cs ss fs ls is)
  unfolding lists_met
  met-counts x e t = rw (sym e ∙ t)

  pub met-numbers :
      (x y : Bool) → x ≡ counts_fit (limits_of b) (lists_in v cs ss fs ls is) → x ≡ true → y ≡ listed_fit (lists_one cs [] [] is) → y ≡ false →
      Err UnfitNumber ≡ lists_met (limits_of b) (lists_in v cs ss fs ls is)
  unfolding lists_met listed_fit
  met-numbers x y e t e' t' = go (counts_fit (limits_of b) (lists_in v cs ss fs ls is)) (listed_fit (lists_in v cs ss fs ls is)) (sym e ∙ t) (sym e' ∙ t')
    where
      go : (p q : Bool) → p ≡ true → q ≡ false → Err UnfitNumber ≡ verdict_if p q (first_spot (lists_in v cs ss fs ls is)) (whole_met (lists_in v cs ss fs ls is))
      go p q h k = rw (h, k)

  pub met-faces :
      (x y : Bool) → x ≡ counts_fit (limits_of b) (lists_in v cs ss fs ls is) → x ≡ true → y ≡ listed_fit (lists_one cs [] [] is) → y ≡ true →
      (r : Result ⊤ Ground) → r ≡ faces_met (lists_in v cs ss fs ls is) → r ≡ lists_met (limits_of b) (lists_in v cs ss fs ls is)
  unfolding lists_met listed_fit faces_met
  met-faces x y e t e' t' r h =
      h ∙ go (counts_fit (limits_of b) (lists_in v cs ss fs ls is)) (listed_fit (lists_in v cs ss fs ls is)) (sym e ∙ t) (sym e' ∙ t')
    where
      go :
          (p q : Bool) → p ≡ true → q ≡ true →
          verdict_if true true (first_spot (lists_in v cs ss fs ls is)) (whole_met (lists_in v cs ss fs ls is))
          ≡ verdict_if p q (first_spot (lists_in v cs ss fs ls is)) (whole_met (lists_in v cs ss fs ls is))
      go p q h k = rw (h, k)

-- ---- in the faces, then in the whole

module _ (l : Lists) where
  pub face-met : (s : Result ⊤ Spot) (f : ℕ) (g : Ground) → s ≡ first_spot l → s ≡ Err (Face f g) → Err g ≡ faces_met l
  unfolding faces_met
  face-met s f g e q = rw (sym e ∙ q)

  pub edge-met : (s : Result ⊤ Spot) (f i : ℕ) (g : Ground) → s ≡ first_spot l → s ≡ Err (Edge f i g) → Err g ≡ faces_met l
  unfolding faces_met
  edge-met s f i g e q = rw (sym e ∙ q)

  pub whole-met : (s : Result ⊤ Spot) (w : Result ⊤ Ground) → s ≡ first_spot l → s ≡ Ok tt → w ≡ whole_met l → w ≡ faces_met l
  unfolding faces_met
  whole-met s w e q h = rw (sym e ∙ q) h

  -- where nothing is met in the faces, all listed points are points
  clear-then : (s t : Result ⊤ Spot) → then_spot s t ≡ Ok tt → (s ≡ Ok tt) × (t ≡ Ok tt)
  clear-then (Ok tt) t h = (refl, h)
  clear-then (Err x) t h = absurd (not-clear (Err x) (stops x) h)

  clear-faces : (k : ℕ) → faces_spot l (places_of l) k ≡ Ok tt → (f : ℕ) → f < k → face_spot l (places_of l) f ≡ Ok tt
  unfolding faces_spot
  clear-faces zero h f b = absurd (omega arith)
  clear-faces (suc k) h f b = go (ℕ_discrete f k) (clear-then (faces_spot l (places_of l) k) (face_spot l (places_of l) k) h) (λ q c. clear-faces k q f c)
    where
      go :
          Dec (f ≡ k) → (faces_spot l (places_of l) k ≡ Ok tt) × (face_spot l (places_of l) k ≡ Ok tt) →
          (faces_spot l (places_of l) k ≡ Ok tt → f < k → face_spot l (places_of l) f ≡ Ok tt) → face_spot l (places_of l) f ≡ Ok tt
      go (yes e) w rest = rw e w.1
      go (no e) w rest = rest w.0 (omega arith)

  fit-verdict : (f : ℕ) (v : Result ⊤ Ground) → verdict_spot f v ≡ Ok tt → v ≡ Ok tt
  fit-verdict f (Ok tt) h = refl
  fit-verdict f (Err g) h = absurd (not-clear (Err (Face f g)) (stops (Face f g)) h)

  in-range : (a b : Bool) (rest : Result ⊤ Ground) → cond (not a) (Err FaceSize) (cond (not b) (Err OutOfRange) rest) ≡ Ok tt → b ≡ true
  in-range true true rest h = refl
  in-range true false rest h = absurd (unfit OutOfRange h)
  in-range false b rest h = absurd (unfit FaceSize h)

  are-points : first_spot l ≡ Ok tt → (f i : ℕ) → IsPlace l f i → point_of l f i < points_of l
  unfolding first_spot face_spot face_verdict listed_in_range
  are-points h f i (a, b) =
      (every-is (size l f) (λ i. ltb-is (point_of l f i) (points_of l))).0
      (in-range (size_fit (size l f)) (every (size l f) (λ i. ltb (point_of l f i) (points_of l)))
      (cond (not (no_point_twice l (offset l f) (size l f))) (Err PointTwice)
      (cond (not (firsts_fit l.version l f (offset l f))) (Err FirstPoint)
      (cond (not (sums_fit l.version l f (offset l f))) (Err NonRectangularFace) (Ok tt))))
      (fit-verdict f (face_verdict l (points_of l) f (offset l f))
      (clear-then (verdict_spot f (face_verdict l (points_of l) f (offset l f))) (edges_spot (places_of l) f (offset l f) (size l f))
      (clear-faces (faces_of l) h f a)).0))
      i b

pub whole_is :
    (v : Version) (cs : List Float) (ss fs ls : List ℕ) (is : List Float) (w : Result ⊤ Ground) → w ≡ whole_met (lists_one cs ss ls []) →
    w ≡ whole_met (lists_in v cs ss fs ls is)
unfolding whole_met points_begun turns_come turn_from nexts_of places_of offset
whole_is v cs ss fs ls is w e = e

-- ---- the number of a verdict

pub number-fit : (v : Result ⊤ Ground) → v ≡ Ok tt → 0 ≡ verdict_number v
number-fit v e = rw e

pub number-unfit : (v : Result ⊤ Ground) (g : Ground) (n : ℕ) → v ≡ Err g → n ≡ ground_number g → n ≡ verdict_number v
number-unfit v g n e h = rw e h

-- ---- the local lists

module _ (ss fs ls : List ℕ) (is : List Float) (np : ℕ) (r : SpotRoom ss fs ls is np) (mates seconds : List ℕ) (u : Unpaired ls mates seconds) where
  pub faces-room : (ts : List ℕ) → length ts ≡ 16384 → FacesRoom ss fs ls is ts 4096 (replicate 16384 0) mates seconds np
  faces-room ts e =
      record {
        all_listed = r.all_listed;
        firsts-fit = r.firsts-fit;
        intervals-fit = r.intervals-fit;
        tos-fit = omega (arith, r.few);
        points-fit = r.points-fit;
        links-fit = rw (length-replicate {A = ℕ} 16384 0) r.few;
        mates-fit = u.mates-fit;
        seconds-fit = u.seconds-fit;
        few = r.few;
        few-faces = r.few-faces;
      }

  pub nothing-entered : (ts : List ℕ) → PlacesEntered ls ts (replicate 4096 0) (replicate 16384 0) mates seconds 0
  nothing-entered ts =
      record {
        chained =
            record {
              head = λ p b. get_or-replicate 4096 p 0 0 (rw (length-replicate {A = ℕ} 4096 0) at b) ∙ unfold latest in refl;
              link = λ j b. absurd (never j b);
            };
        mate-is = λ j b. absurd (never j b);
        second_is = λ j b. u.none_yet j b ∙ unfold latest in refl;
      }
    where
      never : (j : ℕ) → j < 0 → ⊥
      never j b = omega arith

  pub pairs :
      (ts heads links mates' seconds' : List ℕ) → TosShown ss ls ts → length ls ≤ length seconds' →
      PlacesEntered ls ts heads links mates' seconds' (length ls) → Pairs ss ls mates' seconds'
  unfolding follower
  pairs ts heads links mates' seconds' shown h e =
      record {
        mates-shown = λ k b. e.mate-is k b ∙ mate-shown ss ls ts shown r.all_listed k b;
        seconds-shown =
            λ k b.
            e.second_is k (omega (arith, h))
            ∙ latest-same (λ i. eqb (mate_at ls ts i) (suc k)) (λ i. eqb (mate (places_of (lists_one [] ss ls [])) i) (suc k)) (length ls)
            (λ i c. ap (λ (x : ℕ). eqb x (suc k)) (mate-shown ss ls ts shown r.all_listed i c));
      }

pub zero-pairs : (ls : List ℕ) → length ls ≤ 16384 → Unpaired ls (replicate 16384 0) (replicate 16384 0)
zero-pairs ls h =
    record {
      mates-fit = rw (length-replicate {A = ℕ} 16384 0) h;
      seconds-fit = rw (length-replicate {A = ℕ} 16384 0) h;
      none_yet = λ k b. get_or-replicate 16384 k 0 0 (rw (length-replicate {A = ℕ} 16384 0) at b);
    }

pub whole_room :
    (v : Version) (cs : List Float) (ss fs ls : List ℕ) (is : List Float) (np : ℕ) → length cs / position_width ≡ np → SpotRoom ss fs ls is np →
    (mates seconds : List ℕ) → length ls ≤ length mates → length ls ≤ length seconds → Pairs ss ls mates seconds →
    first_spot (lists_in v cs ss fs ls is) ≡ Ok tt →
    WholeRoom ss ls (take (length ls) mates) (take (length ls) seconds) np
unfolding places_of offset
whole_room v cs ss fs ls is np en r mates seconds hm hs p e =
    record {
      all_listed = r.all_listed;
      few = r.few;
      few-faces = r.few-faces;
      mates-fit = length-take-le (length ls) mates hm;
      seconds-fit = length-take-le (length ls) seconds hs;
      are-points = λ k b. inside k (numbered (lists_in v cs ss fs ls is) k (rw many b));
      mates-shown = λ k b. get_or-take (length ls) mates k 0 b ∙ p.mates-shown k b;
      seconds-shown = λ k b. get_or-take (length ls) seconds k 0 b ∙ p.seconds-shown k b;
    }
  where
    many : length (places_of (lists_in v cs ss fs ls is)) ≡ length ls
    many = places-length (lists_in v cs ss fs ls is) ∙ r.all_listed

    inside : (k : ℕ) → Numbered (lists_in v cs ss fs ls is) k → get_or ls k 0 < np
    inside k u =
        let z : point_of (lists_in v cs ss fs ls is) u.face u.place < length cs / position_width =
        are-points (lists_in v cs ss fs ls is) e u.face u.place u.is-place in
        let q : get_or ls (offset (lists_in v cs ss fs ls is) u.face + u.place) 0 ≡ get_or ls k 0 = ap (λ (x : ℕ). get_or ls x 0) u.number in
        omega (arith, z, q, en)

-- whatever the coordinates are
pub whole-room-any :
    (v : Version) (ss fs ls : List ℕ) (is : List Float) (np : ℕ) → SpotRoom ss fs ls is np →
    (mates seconds : List ℕ) → length ls ≤ length mates → length ls ≤ length seconds → Pairs ss ls mates seconds → (x : Result ⊤ Spot) → x ≡ Ok tt →
    ((cs : List Float) → length cs / position_width ≡ np → x ≡ first_spot (lists_in v cs ss fs ls is)) →
    WholeRoom ss ls (take (length ls) mates) (take (length ls) seconds) np
whole-room-any v ss fs ls is np r mates seconds hm hs p x e h =
    let n : length (replicate (3 * np) nan) / position_width ≡ np = let a = length-replicate (3 * np) nan in omega (arith, a) in
    whole_room v (replicate (3 * np) nan) ss fs ls is np n r mates seconds hm hs p (sym (h (replicate (3 * np) nan) n) ∙ e)

-- ---- a text

module _ (b : Bounds) (s : List ℕ) (l : TextLists) {r : Result (Version × Sizes) ReadingGround} {l' : TextLists} {limits : Sizes} (eb : limits ≡ limits_of b)
    (e : record { reading = r; lists = l' } ≡ read_into s limits l) where
  pub not-text : r ≡ Err ReadingGround.NotText → 1 ≡ told_if false b s
  unfolding told_if form_number
  not-text h = rw (no-form b s l eb e h)

  pub over-limits :
      12288 ≤ length l.coordinates → 16384 ≤ length l.lengths → 16384 ≤ length l.listed → 16384 ≤ length l.intervals →
      16384 ≤ length l.firsts → r ≡ Err ReadingGround.OverLimits → 2 ≡ told_if false b s
  unfolding told_if form_number lists_met
  over-limits rx rl rp rd rq h = let (t, n, et, ec) = over-text b s l eb e rx rl rp rd rq h in rw (et, ec)

  module _ {v : Version} {c : Sizes} (ec : r ≡ Ok (v, c)) where
    pub held : Held c l'
    held = fits b s l eb e ec

    pub first-entries :
        (o : ℕ) → o ≡ verdict_number (lists_met (limits_of b)
        (lists_in v (take (3 * c.points) l'.coordinates) (take (4 * c.faces) l'.lengths) (take (4 * c.faces) l'.firsts)
        (take c.listed l'.listed) (take c.listed l'.intervals))) → o ≡ told_if false b s
    unfolding told_if form_number
    first-entries o eo =
        rw (means b s l eb e ec).form (eo ∙ ap (λ (x : Lists). verdict_number (lists_met (limits_of b) x)) (first-lists b s l eb e ec))

module _ (b : Bounds) (s : List ℕ) {t : Bool} (e : t ≡ is_too_long b (length s)) where
  pub too_long : t ≡ true → 2 ≡ told_number b s
  unfolding told_number told_if
  too_long h = rw (sym e ∙ h)

  pub not-too-long : t ≡ false → {o : ℕ} → o ≡ told_if false b s → o ≡ told_number b s
  unfolding told_number
  not-too-long h eo = rw (sym e ∙ h) eo
