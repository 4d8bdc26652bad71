-- The laws of mending lists, over plain variables. Assumes nothing.
--     length_cut            the length of the first of equal elements
--     fitted                what lists that pass ground 2 are
--     places-room, pairing-room   there is room for their places, and for pairing
--     mates-ready           the mates that are paired fit the choice of faces
--     refused_end, twisted-end, mended-end   the answers of `mend_places`, by the verdict on the pairs and by the choice
--     turns-back            the faces to turn, put back before the rest
--     refused-counts, refused-numbers, begun-mending   the answer by the tests before the faces
use mathlib.Core.Path.{◌≡◌, refl, sym, ◌∙◌, ap}
use mathlib.Core.Bool.{Bool, true, false}
use mathlib.Core.List.{List, [], ◌++◌}
use Prim.Native.Nat.{ℕ, ◌+◌, ◌*◌, ◌/◌, ◌≤◌, ◌<◌}
use native.Mathlib.Omega.{arith}
use lib.Ieee.{Float}
use lib.ListN.{length, get_or, take, replicate, length-replicate, get_or-append}
use lib.Seq.{length-take-le}
use borrow.Author.Tests.{eqb-true}
use Rattle.std.specs.Prelude.{Result, Ok, Err, ⊤}
use Rattle.built_meshes.specs.Lists.{Lists, points_of, faces_of, size, offset, general_limits, counts_fit, listed_fit}
use Rattle.built_meshes.specs.declared.Version.TheVariants.{Two}
use Rattle.built_meshes.specs.declared.Ground.{Ground}
use Rattle.built_meshes.specs.declared.Ground.TheVariants.{OverCounts, UnfitNumber, MissingFace}
use Rattle.built_meshes.proofs.Begin.{Counted, counts-is, sides-listed}
use Rattle.building_tests.specs.Lent.{lists, lists_in}
use Rattle.mended_lists.specs.declared.Unmended.{Unmended}
use Rattle.mended_lists.specs.declared.Unmended.TheVariants.{Refused, Twisted}
use Rattle.mended_lists.specs.Edges.{FacePlace, places_of, place_at, same_edge, mate}
use Rattle.mended_lists.specs.Parts.{parts_to, parts_of, faces_turned, twisted}
use Rattle.mended_lists.specs.Mending.{faces_mend, whole_mends, edges_shared, mending_if, mending}
use Rattle.mended_lists.proofs.Edges.{places-length, Numbered, numbered}
use Rattle.face_places.specs.Spread.{Spread}
use Rattle.shared_edges.proofs.Laws.{latest-below}
use Rattle.face_mending.proofs.Laws.{unfit, from-shown}
use Rattle.mending.specs.Shared.{PairingRoom, then_shared, MatesIf}
use Rattle.face_choices.specs.Mates.{MatesFit, Mates, Chosen}
use Rattle.list_mending.specs.Turning.{TurningRoom, TurnsIf}

-- the first n of m equal elements
pub length_cut : {A : Type 0} (n m : ℕ) (x : A) → n ≤ m → n ≡ length (take n (replicate m x))
length_cut n m x h = sym (length-take-le n (replicate m x) (rw (length-replicate m x) h))

-- ---- lists that pass ground 2

pub record Fitted (cs : List Float) (ss fs ls : List ℕ) (is : List Float) : Type 0 where
  pub all_listed : offset (lists [] ss [] []) (length ss / 4) ≡ length ls
  pub firsts-fit : length fs ≡ length ss
  pub intervals-fit : length ls ≡ length is
  pub points-few : length cs / 3 ≤ 4096
  pub listed-few : length ls ≤ 16384
  pub faces-few : length ss / 4 ≤ 4096

same-offset : (cs : List Float) (ss fs ls : List ℕ) (is : List Float) (f : ℕ) → offset (lists [] ss [] []) f ≡ offset (lists_in Two cs ss fs ls is) f
unfolding offset
same-offset cs ss fs ls is f = refl

pub fitted : (cs : List Float) (ss fs ls : List ℕ) (is : List Float) → counts_fit general_limits (lists_in Two cs ss fs ls is) ≡ true → Fitted cs ss fs ls is
fitted cs ss fs ls is h =
    let c : Counted general_limits (lists_in Two cs ss fs ls is) = counts-is general_limits (lists_in Two cs ss fs ls is) h in
    record {
      all_listed = same-offset cs ss fs ls is (length ss / 4) ∙ sides-listed general_limits (lists_in Two cs ss fs ls is) c;
      firsts-fit = eqb-true (length fs) (length ss) c.firsts-alike;
      intervals-fit = c.alike;
      points-few = c.points-few;
      listed-few = c.listed-few;
      faces-few = c.faces-few;
    }

-- the local lists of `mend_counted` have room
pub places-room :
    (cs : List Float) (ss fs ls : List ℕ) (is : List Float) (turned : List Bool) → Fitted cs ss fs ls is → length turned ≡ 4096 →
    TurningRoom ss ls (replicate 16384 0) (replicate 16384 0) (take (length ls) (replicate 16384 0)) (take (length ss / 4) turned)
places-room cs ss fs ls is turned fit e =
    record {
      tos-fit = rw (length-replicate {A = ℕ} 16384 0) fit.listed-few;
      faces-fit = rw (length-replicate {A = ℕ} 16384 0) fit.listed-few;
      mates-fit = sym (length_cut (length ls) 16384 0 fit.listed-few);
      turned-fit = length-take-le (length ss / 4) turned (omega (arith, fit.faces-few));
    }

-- ---- the places of lists are those of their sides and listed points

module _ (cs : List Float) (ss fs ls : List ℕ) (is : List Float) where
  same-places : places_of (lists [] ss ls []) ≡ places_of (lists_in Two cs ss fs ls is)
  unfolding places_of offset
  same-places = refl

  module _ (fit : Fitted cs ss fs ls is) where
    pub pairing-room :
        (ts ms : List ℕ) → length ls ≤ length ts → length ms ≡ length ls → PairingRoom ss fs ls is ts ms (length cs / 3)
    pairing-room ts ms t m =
        record {
          all_listed = fit.all_listed;
          firsts-fit = fit.firsts-fit;
          intervals-fit = omega (arith, fit.intervals-fit);
          tos-fit = t;
          mates-fit = m;
          points-fit = fit.points-few;
          few = fit.listed-few;
          few-faces = fit.faces-few;
        }

    places-many : length (places_of (lists [] ss ls [])) ≡ length ls
    unfolding offset
    places-many = places-length (lists [] ss ls []) ∙ fit.all_listed

    -- ---- mates that are paired

    module _ (ts faces ms : List ℕ) (like : length ms ≡ length ls) (spread : Spread (lists [] ss ls []) ts faces (length ls))
        (paired : (k : ℕ) → k < length ms → get_or ms k 0 ≡ mate (places_of (lists [] ss ls [])) k) where
      mate-before : (k : ℕ) → mate (places_of (lists [] ss ls [])) k ≤ k
      unfolding mate
      mate-before k =
          latest-below (λ j. same_edge (place_at (places_of (lists [] ss ls [])) j) (place_at (places_of (lists [] ss ls [])) k)) k

      face-below : (k : ℕ) → k < length ms → get_or faces k 0 < length ss / 4
      face-below k b =
          let u : Numbered (lists [] ss ls []) k = numbered (lists [] ss ls []) k (omega (arith, places-many)) in
          let e : get_or faces k 0 ≡ u.face = spread.face k (omega arith) ∙ ap (λ (p : FacePlace). p.face) u.at in
          omega (arith, u.is-place.0)

      mates-fit : (nf : ℕ) → nf ≡ length ss / 4 → length ls ≤ length faces → MatesFit ls faces ms nf
      mates-fit nf e room =
          record {
            listed-like = omega arith;
            faces-like = omega arith;
            before = λ k b. omega (arith, paired k b, mate-before k);
            face-below = λ k b. omega (arith, face-below k b);
          }

      mates-are : Mates (places_of (lists_in Two cs ss fs ls is)) ls faces ms (length ms)
      mates-are =
          rw (← same-places)
          (record {
            from = λ k b. from-shown ss ls ts spread.to fit.all_listed k (omega arith);
            face = λ k b. spread.face k (omega arith);
            mate-is = paired;
          })

      places-mated : length ms ≡ length (places_of (lists_in Two cs ss fs ls is))
      places-mated = like ∙ sym places-many ∙ ap length same-places

      twisted-is : (turned : List Bool) (r : Bool) → Chosen ls faces ms turned r → twisted (lists_in Two cs ss fs ls is) ≡ r
      unfolding twisted parts_of
      twisted-is turned r h =
          ap (λ (n : ℕ). (parts_to (places_of (lists_in Two cs ss fs ls is)) n).twisted) (sym places-mated)
          ∙ h.twisted (places_of (lists_in Two cs ss fs ls is)) mates-are

      turns-are :
          (turned : List Bool) (r : Bool) → Chosen ls faces ms turned r → length turned ≡ length ss / 4 →
          (f : ℕ) → f < length ss / 4 → get_or turned f false ≡ faces_turned (lists_in Two cs ss fs ls is) f
      unfolding faces_turned parts_of
      turns-are turned r h e f b =
          h.turns (places_of (lists_in Two cs ss fs ls is)) mates-are f (omega arith)
          ∙ ap (λ (n : ℕ). ((parts_to (places_of (lists_in Two cs ss fs ls is)) n).part f).odd) places-mated

-- ---- the answer

refused-pairs : (v : Result ⊤ Ground) (s t : Bool) (g : Ground) → Err g ≡ then_shared v s → Err (Refused g) ≡ whole_mends v s t
refused-pairs (Err h) s t g e = let q : g ≡ h = cc in ap (λ (x : Ground). Err (Refused x)) q
refused-pairs (Ok tt) true t g e = absurd (unfit g e)
refused-pairs (Ok tt) false t g e = let q : g ≡ MissingFace = cc in ap (λ (x : Ground). Err (Refused x)) q

fit-pairs : (v : Result ⊤ Ground) (s : Bool) → Ok tt ≡ then_shared v s → (v ≡ Ok tt) × (s ≡ true)
fit-pairs (Err h) s e = absurd (unfit h (sym e))
fit-pairs (Ok tt) true e = (refl, refl)
fit-pairs (Ok tt) false e = absurd (unfit MissingFace (sym e))

twisted-pairs : (v : Result ⊤ Ground) (s t : Bool) → Ok tt ≡ then_shared v s → t ≡ true → Err Twisted ≡ whole_mends v s t
twisted-pairs v s t e h = let z = fit-pairs v s e in rw (z.0, z.1, h)

mended-pairs : (v : Result ⊤ Ground) (s t : Bool) → Ok tt ≡ then_shared v s → t ≡ false → Ok tt ≡ whole_mends v s t
mended-pairs v s t e h = let z = fit-pairs v s e in rw (z.0, z.1, h)

refused-not-mended : (g : Ground) → ◌≡◌ {A = Result ⊤ Unmended} (Err (Refused g)) (Ok tt) → ⊥
refused-not-mended g h = let z : ◌≡◌ {A = ℕ} 0 1 = cc in omega arith

twisted-not-mended : ◌≡◌ {A = Result ⊤ Unmended} (Err Twisted) (Ok tt) → ⊥
twisted-not-mended h = let z : ◌≡◌ {A = ℕ} 0 1 = cc in omega arith

-- the verdict on the pairs, as it is promised of any coordinates
abbrev pub Told : List Float → List ℕ → List ℕ → List ℕ → List Float → Result ⊤ Ground → Type 0
Told cs ss fs ls is v =
    (cs' : List Float) → length cs' / 3 ≡ length cs / 3 →
    v ≡ then_shared (faces_mend (lists_in Two cs' ss fs ls is) (places_of (lists [] ss ls [])) (length ss / 4)) (edges_shared (places_of (lists [] ss ls [])))

-- the verdict on the faces, and whether their edges are shared
abbrev faces_on : Lists → Result ⊤ Ground
faces_on l = faces_mend l (places_of l) (faces_of l)

abbrev shared_on : Lists → Bool
shared_on l = edges_shared (places_of l)

module _ (cs : List Float) (ss fs ls : List ℕ) (is : List Float) (v : Result ⊤ Ground) (told : Told cs ss fs ls is v) where
  verdict-is : v ≡ then_shared (faces_on (lists_in Two cs ss fs ls is)) (shared_on (lists_in Two cs ss fs ls is))
  verdict-is = rw (← same-places cs ss fs ls is) (told cs refl)

  refused-whole : (g : Ground) → v ≡ Err g → Err (Refused g) ≡ mending_if true true (lists_in Two cs ss fs ls is)
  unfolding mending_if
  refused-whole g e =
      refused-pairs (faces_on (lists_in Two cs ss fs ls is)) (shared_on (lists_in Two cs ss fs ls is)) (twisted (lists_in Two cs ss fs ls is)) g
      (sym e ∙ verdict-is)

  twisted-whole : v ≡ Ok tt → twisted (lists_in Two cs ss fs ls is) ≡ true → Err Twisted ≡ mending_if true true (lists_in Two cs ss fs ls is)
  unfolding mending_if
  twisted-whole e t =
      twisted-pairs (faces_on (lists_in Two cs ss fs ls is)) (shared_on (lists_in Two cs ss fs ls is)) (twisted (lists_in Two cs ss fs ls is))
      (sym e ∙ verdict-is) t

  mended-whole : v ≡ Ok tt → twisted (lists_in Two cs ss fs ls is) ≡ false → Ok tt ≡ mending_if true true (lists_in Two cs ss fs ls is)
  unfolding mending_if
  mended-whole e t =
      mended-pairs (faces_on (lists_in Two cs ss fs ls is)) (shared_on (lists_in Two cs ss fs ls is)) (twisted (lists_in Two cs ss fs ls is))
      (sym e ∙ verdict-is) t

-- ---- the ends of `mend_places`

pub refused_end :
    (cs : List Float) (ss fs ls : List ℕ) (is : List Float) (v : Result ⊤ Ground) → Told cs ss fs ls is v → (turned : List Bool) (g : Ground) →
    v ≡ Err g →
    (Err (Refused g) ≡ mending_if true true (lists_in Two cs ss fs ls is)) × TurnsIf (lists_in Two cs ss fs ls is) turned (Err (Refused g))
refused_end cs ss fs ls is v told turned g e = (refused-whole cs ss fs ls is v told g e, λ m. absurd (refused-not-mended g m))

module _ (cs : List Float) (ss fs ls : List ℕ) (is : List Float) (fit : Fitted cs ss fs ls is) (ts faces ms : List ℕ)
    (like : length ms ≡ length ls) (spread : Spread (lists [] ss ls []) ts faces (length ls)) (v : Result ⊤ Ground) (told : Told cs ss fs ls is v)
    (e : v ≡ Ok tt) (paired : MatesIf (places_of (lists [] ss ls [])) ms v) where
  pub mates-ready : (nf : ℕ) → nf ≡ length ss / 4 → length ls ≤ length faces → MatesFit ls faces ms nf
  mates-ready = mates-fit cs ss fs ls is fit ts faces ms like spread (paired e)

  module _ (turned : List Bool) (r : Bool) (chosen : Chosen ls faces ms turned r) where
    twist : twisted (lists_in Two cs ss fs ls is) ≡ r
    twist = twisted-is cs ss fs ls is fit ts faces ms like spread (paired e) turned r chosen

    pub twisted-end :
        r ≡ true → (Err Twisted ≡ mending_if true true (lists_in Two cs ss fs ls is)) × TurnsIf (lists_in Two cs ss fs ls is) turned (Err Twisted)
    twisted-end h = (twisted-whole cs ss fs ls is v told e (twist ∙ h), λ m. absurd (twisted-not-mended m))

    pub mended-end :
        r ≡ false → length turned ≡ length ss / 4 →
        (Ok tt ≡ mending_if true true (lists_in Two cs ss fs ls is)) × TurnsIf (lists_in Two cs ss fs ls is) turned (Ok tt)
    mended-end h all = (
      mended-whole cs ss fs ls is v told e (twist ∙ h),
      λ m. turns-are cs ss fs ls is fit ts faces ms like spread (paired e) turned r chosen all,
    )

-- ---- the faces to turn, put back before the rest

pub turns-back :
    (l : Lists) (part whole : List Bool) (r : Result ⊤ Unmended) → length part ≡ faces_of l → TurnsIf l part r → TurnsIf l (part ++ whole) r
turns-back l part whole r e h m f b = get_or-append part whole false f (omega arith) ∙ h m f b

-- ---- the tests before the faces, with the list of faces as it was handed in

module _ (l : Lists) (turned : List Bool) where
  pub refused-counts : counts_fit general_limits l ≡ false → (Err (Refused OverCounts) ≡ mending general_limits l) × TurnsIf l turned (Err (Refused OverCounts))
  unfolding mending mending_if
  refused-counts h = (rw h, λ m. absurd (refused-not-mended OverCounts m))

  pub refused-numbers :
      counts_fit general_limits l ≡ true → listed_fit l ≡ false →
      (Err (Refused UnfitNumber) ≡ mending general_limits l) × TurnsIf l turned (Err (Refused UnfitNumber))
  unfolding mending mending_if
  refused-numbers h k = (rw (h, k), λ m. absurd (refused-not-mended UnfitNumber m))

pub begun-mending : (l : Lists) (r : Result ⊤ Unmended) → counts_fit general_limits l ≡ true → listed_fit l ≡ true → r ≡ mending_if true true l → r ≡ mending general_limits l
unfolding mending
begun-mending l r h k e = rw (h, k) e

pub numbers-same : (cs : List Float) (ss fs ls : List ℕ) (is : List Float) → listed_fit (lists cs [] [] is) ≡ listed_fit (lists_in Two cs ss fs ls is)
unfolding listed_fit
numbers-same cs ss fs ls is = refl
