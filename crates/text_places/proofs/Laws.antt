-- The laws of finding a place in a text. Assumes nothing.
--     spot-room              lists that pass 2 have room for the search
--     faces-room, owned      the local lists have room for it, and show the places
--     spot-counts, spot-numbers, spot-first     what is answered of lists by the tests before the faces
--     few-faces              a face that the place names is one of the lists
--     not-text, over-limits, first-entries      what the reader's answers say of the place
use mathlib.Core.Path.{◌≡◌, refl, sym, ◌∙◌, ap}
use mathlib.Core.Bool.{Bool, true, false}
use mathlib.Core.List.{List, []}
use mathlib.Core.Logic.{inl, inr}
use Prim.Native.Nat.{ℕ, ◌+◌, ◌*◌, ◌/◌, ◌≤◌, ◌<◌}
use native.Mathlib.Omega.{arith}
use lib.Ieee.{Float, nan}
use lib.ListN.{length, take, replicate, length-replicate}
use lib.Dec.{leb}
use borrow.Author.Tests.{leb-true}
use Rattle.std.specs.Prelude.{Result, Ok, Err, ⊤}
use Rattle.tables.specs.Mesh.{Mesh, mesh_of}
use Rattle.tables.specs.declared.Sizes.{Sizes}
use Rattle.mesh_text.specs.Reading.{TextLists, within, read_into}
use Rattle.mesh_text.specs.declared.ReadingGround.{ReadingGround}
use Rattle.built_meshes.specs.Lists.{Lists, points_of, faces_of, offset, counts_fit, listed_fit}
use Rattle.built_meshes.specs.Grounds.{whole}
use Rattle.built_meshes.specs.declared.Version.{Version}
use Rattle.built_meshes.specs.declared.Ground.{Ground}
use Rattle.built_meshes.proofs.Begin.{Counted, counts-is, Roomy, numbers-is, listed-all}
use Rattle.building_tests.specs.Lent.{lists_in, lists as lists_one, limits_of}
use Rattle.building_tests.specs.declared.Bounds.{Bounds}
use Rattle.building_tests.specs.declared.Bounds.TheVariants.{General, Refine}
use Rattle.mended_lists.specs.Edges.{places_of}
use Rattle.face_mending.specs.Shown.{FacesRoom}
use Rattle.text_meshes.specs.TextBuilding.{is_too_long}
use Rattle.text_building.proofs.Laws.{Held, no-form, over-text, means, fits, first-lists}
use Rattle.text_numbers.proofs.Laws.{and_both}
use Rattle.refusal_places.specs.declared.Spot.{Spot}
use Rattle.refusal_places.specs.declared.Spot.TheVariants.{Face, Edge}
use Rattle.refusal_places.specs.Spots.{faces_spot, first_spot, spot_if, spotted, where_of}
use Rattle.refusal_places.proofs.Theorem.{spot-in-faces}
use Rattle.text_places.specs.declared.TextPlace.{TextPlace}
use Rattle.text_places.specs.TextPlaces.{nowhere, place_at_check, form_place, text_place_if, text_place, SpotRoom, FewFaces}

-- the limits of both kinds are within the general ones
few : (b : Bounds) → ((limits_of b).points ≤ 4096) × ((limits_of b).faces ≤ 4096) × ((limits_of b).listed ≤ 16384)
few General = omega arith
few Refine = omega arith

-- ---- lists that pass 2 and 3

-- tables with rows to spare
roomy_mesh : Lists → Mesh
roomy_mesh l =
    mesh_of (replicate (3 * points_of l) nan) (replicate (3 * points_of l) 0) (replicate (8 * length l.listed) 0)
    (replicate (length l.listed) nan) (replicate (5 * faces_of l) 0)

roomy : (l : Lists) → Roomy l (roomy_mesh l)
unfolding roomy_mesh
roomy l =
    let a = length-replicate (3 * points_of l) nan in
    let b = length-replicate {A = ℕ} (3 * points_of l) 0 in
    let d = length-replicate {A = ℕ} (8 * length l.listed) 0 in
    let e = length-replicate (length l.listed) nan in
    let f = length-replicate {A = ℕ} (5 * faces_of l) 0 in
    record { points-enough = rw (a, b) (omega arith); faces-enough = rw f (omega arith); edges-enough = rw (d, e) (omega arith) }

same-offset : (v : Version) (cs : List Float) (ss fs ls : List ℕ) (is : List Float) (f : ℕ) →
    offset (lists_one [] ss [] []) f ≡ offset (lists_in v cs ss fs ls is) f
unfolding offset
same-offset v cs ss fs ls is f = refl

pub spot-room :
    (b : Bounds) (v : Version) (cs : List Float) (ss fs ls : List ℕ) (is : List Float) (x y : Bool) →
    x ≡ counts_fit (limits_of b) (lists_in v cs ss fs ls is) → x ≡ true → y ≡ listed_fit (lists_one cs [] [] is) → y ≡ true →
    length fs ≡ length ss → SpotRoom ss fs ls is (length cs / 3)
unfolding listed_fit
spot-room b v cs ss fs ls is x y e t e' t' h =
    let l = lists_in v cs ss fs ls is in
    let k : Counted (limits_of b) l = counts-is (limits_of b) l (sym e ∙ t) in
    let (kp, kf, kl) = few b in
    record {
      all_listed =
          same-offset v cs ss fs ls is (length ss / 4)
          ∙ listed-all (limits_of b) l (roomy_mesh l) k (numbers-is l (sym e' ∙ t')) (roomy l) (omega (arith, kf));
      firsts-fit = h;
      intervals-fit = omega (arith, k.alike);
      points-fit = omega (arith, k.points-few);
      few = omega (arith, k.listed-few);
      few-faces = omega (arith, k.faces-few);
    }

module _ (b : Bounds) (v : Version) (cs : List Float) (ss fs ls : List ℕ) (is : List Float) where
  pub spot-counts : (x : Bool) → x ≡ counts_fit (limits_of b) (lists_in v cs ss fs ls is) → x ≡ false → Ok tt ≡ spotted (limits_of b) (lists_in v cs ss fs ls is)
  unfolding spotted
  spot-counts x e t = rw (sym e ∙ t)

  pub spot-numbers :
      (x y : Bool) → x ≡ counts_fit (limits_of b) (lists_in v cs ss fs ls is) → x ≡ true → y ≡ listed_fit (lists_one cs [] [] is) → y ≡ false →
      Ok tt ≡ spotted (limits_of b) (lists_in v cs ss fs ls is)
  unfolding spotted listed_fit
  spot-numbers x y e t e' t' = go (counts_fit (limits_of b) (lists_in v cs ss fs ls is)) (listed_fit (lists_in v cs ss fs ls is)) (sym e ∙ t) (sym e' ∙ t')
    where
      go : (p q : Bool) → p ≡ true → q ≡ false → Ok tt ≡ spot_if p q (first_spot (lists_in v cs ss fs ls is))
      go p q h k = rw (h, k)

  pub spot-first :
      (x y : Bool) → x ≡ counts_fit (limits_of b) (lists_in v cs ss fs ls is) → x ≡ true → y ≡ listed_fit (lists_one cs [] [] is) → y ≡ true →
      (r : Result ⊤ Spot) → r ≡ first_spot (lists_in v cs ss fs ls is) → r ≡ spotted (limits_of b) (lists_in v cs ss fs ls is)
  unfolding spotted listed_fit
  spot-first x y e t e' t' r h =
      h ∙ go (counts_fit (limits_of b) (lists_in v cs ss fs ls is)) (listed_fit (lists_in v cs ss fs ls is)) (sym e ∙ t) (sym e' ∙ t')
    where
      go : (p q : Bool) → p ≡ true → q ≡ true → first_spot (lists_in v cs ss fs ls is) ≡ spot_if p q (first_spot (lists_in v cs ss fs ls is))
      go p q h k = rw (h, k)

  pub few-faces : (s : Result ⊤ Spot) → s ≡ spotted (limits_of b) (lists_in v cs ss fs ls is) → length ss / 4 ≤ 4096 → FewFaces s
  few-faces (Ok tt) e h = omega arith
  few-faces (Err (Face f g)) e h =
      let z = spot-in-faces (limits_of b) (lists_in v cs ss fs ls is) g f 0 (inl (sym e)) in omega (arith, z)
  few-faces (Err (Edge f i g)) e h =
      let z = spot-in-faces (limits_of b) (lists_in v cs ss fs ls is) g f i (inr (sym e)) in omega (arith, z)

-- ---- the place of what is met

pub place-clear : (np : ℕ) (s : Result ⊤ Spot) → s ≡ Ok tt → record { line = nowhere; face = nowhere; edge = nowhere } ≡ place_at_check np (where_of s)
place-clear np s e = rw e

pub place-face :
    (np : ℕ) (s : Result ⊤ Spot) (f : ℕ) (g : Ground) → s ≡ Err (Face f g) → record { line = np + f + 2; face = f; edge = nowhere } ≡ place_at_check np (where_of s)
place-face np s f g e = rw e

pub place-edge :
    (np : ℕ) (s : Result ⊤ Spot) (f i : ℕ) (g : Ground) → s ≡ Err (Edge f i g) → record { line = np + f + 2; face = f; edge = i } ≡ place_at_check np (where_of s)
place-edge np s f i g e = rw e

pub few-face : (s : Result ⊤ Spot) (f : ℕ) (g : Ground) → s ≡ Err (Face f g) → FewFaces s → f < 4096
few-face s f g e h = rw e at h

pub few-edge : (s : Result ⊤ Spot) (f i : ℕ) (g : Ground) → s ≡ Err (Edge f i g) → FewFaces s → f < 4096
few-edge s f i g e h = rw e at h

-- ---- the local lists

pub faces-room :
    (ss fs ls : List ℕ) (is : List Float) (ts : List ℕ) (np : ℕ) → SpotRoom ss fs ls is np → length ts ≡ 16384 →
    FacesRoom ss fs ls is ts 4096 (replicate 16384 0) (replicate 16384 0) (replicate 16384 0) np
faces-room ss fs ls is ts np r e =
    record {
      all_listed = r.all_listed;
      firsts-fit = r.firsts-fit;
      intervals-fit = r.intervals-fit;
      tos-fit = omega (arith, r.few);
      points-fit = r.points-fit;
      links-fit = rw (length-replicate {A = ℕ} 16384 0) r.few;
      mates-fit = rw (length-replicate {A = ℕ} 16384 0) r.few;
      seconds-fit = rw (length-replicate {A = ℕ} 16384 0) r.few;
      few = r.few;
      few-faces = r.few-faces;
    }

pub first-is :
    (v : Version) (cs : List Float) (ss fs ls : List ℕ) (is : List Float) (r : Result ⊤ Spot) →
    r ≡ faces_spot (lists_in v cs ss fs ls is) (places_of (lists_one [] ss ls [])) (length ss / 4) → r ≡ first_spot (lists_in v cs ss fs ls is)
unfolding first_spot places_of offset
first-is v cs ss fs ls is r e = e

-- ---- a text

module _ (b : Bounds) (s : List ℕ) (l : TextLists) {r : Result (Version × Sizes) ReadingGround} {l' : TextLists} {limits : Sizes} (eb : limits ≡ limits_of b)
    (e : record { reading = r; lists = l' } ≡ read_into s limits l) where
  pub not-text : r ≡ Err ReadingGround.NotText → place_at_check 0 whole ≡ text_place_if false b s
  unfolding text_place_if form_place
  not-text h = rw (no-form b s l eb e h)

  pub over-limits :
      12288 ≤ length l.coordinates → 16384 ≤ length l.lengths → 16384 ≤ length l.listed → 16384 ≤ length l.intervals →
      16384 ≤ length l.firsts → r ≡ Err ReadingGround.OverLimits → place_at_check 0 whole ≡ text_place_if false b s
  unfolding text_place_if form_place spotted
  over-limits rx rl rp rd rq h = let (t, n, et, ec) = over-text b s l eb e rx rl rp rd rq h in rw (et, ec)

  pub unread :
      12288 ≤ length l.coordinates → 16384 ≤ length l.lengths → 16384 ≤ length l.listed → 16384 ≤ length l.intervals →
      16384 ≤ length l.firsts → (g : ReadingGround) → r ≡ Err g → place_at_check 0 whole ≡ text_place_if false b s
  unread rx rl rp rd rq ReadingGround.NotText h = not-text h
  unread rx rl rp rd rq ReadingGround.OverLimits h = over-limits rx rl rp rd rq h

  module _ {v : Version} {c : Sizes} (ec : r ≡ Ok (v, c)) where
    -- the lists have room for what was read, and its counts are within the general limits
    pub record Roomed : Type 0 where
      pub held : Held c l'
      pub points-few : c.points ≤ 4096
      pub faces-few : c.faces ≤ 4096

    pub roomed : Roomed
    unfolding within
    roomed =
        let w = (means b s l eb e ec).fits in
        let (e0, e1) = and_both (leb c.points (limits_of b).points) _ w in
        let (e2, e3) = and_both (leb c.faces (limits_of b).faces) _ e1 in
        let (kp, kf, kl) = few b in
        let x = leb-true c.points (limits_of b).points e0 in
        let y = leb-true c.faces (limits_of b).faces e2 in
        record { held = fits b s l eb e ec; points-few = omega (arith, x); faces-few = omega (arith, y) }

    pub first-entries :
        (o : TextPlace) → o ≡ place_at_check c.points (where_of (spotted (limits_of b)
        (lists_in v (take (3 * c.points) l'.coordinates) (take (4 * c.faces) l'.lengths) (take (4 * c.faces) l'.firsts)
        (take c.listed l'.listed) (take c.listed l'.intervals)))) → o ≡ text_place_if false b s
    unfolding text_place_if form_place
    first-entries o eo =
        let x = means b s l eb e ec in
        let tn : c.points ≡ length x.what.points = ap (λ (v : Sizes). v.points) (sym x.counted) in
        let tl = first-lists b s l eb e ec in
        rw x.form (eo ∙ λ i. place_at_check (tn i) (where_of (spotted (limits_of b) (tl i))))

module _ (b : Bounds) (s : List ℕ) {t : Bool} (e : t ≡ is_too_long b (length s)) where
  pub too_long : t ≡ true → place_at_check 0 whole ≡ text_place b s
  unfolding text_place text_place_if
  too_long h = rw (sym e ∙ h)

  pub not-too-long : t ≡ false → {o : TextPlace} → o ≡ text_place_if false b s → o ≡ text_place b s
  unfolding text_place
  not-too-long h eo = rw (sym e ∙ h) eo
