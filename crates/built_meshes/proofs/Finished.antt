-- The tables when all is built pass the audit. Assumes nothing.
--     valence-marked, start-marked, mark-marked     the words of a point after the marks
--     position-finished, mark-finished              positions are the coordinates, marks are 0 at valence 4
--     faces-finished                                all places are in still
--     audited-finished                              the audit's clauses
use mathlib.Core.Path.{◌≡◌, refl, sym, ◌∙◌, ap, subst}
use mathlib.Core.Bool.{Bool, true, false, cond}
use mathlib.Core.Logic.{◌⊎◌, inl, inr, ⊎_elim, ◌≢◌}
use mathlib.Core.List.{List}
use Prim.Native.Nat.{ℕ, zero, suc, ◌+◌, ◌*◌, ◌%◌, ◌<◌, ◌≤◌}
use native.Mathlib.Omega.{arith}
use lib.Dec.{eqb}
use borrow.Author.Tests.{eqb-true, eqb-false}
use lib.Ieee.{nan}
use lib.Ieee.Scale.{finite}
use lib.ListN.{length, get_or, set, take, drop, length-set, get_or-append}
use lib.Seq.{get_or-set_same, get_or-set_other, get_or-take, length-take-le}
use Rattle.t_spline.specs.Edge.{none}
use Rattle.t_spline.specs.Ends.{face_from_side}
use Rattle.edge_ends.specs.declared.TnurccFaceSide.{TnurccFaceSide}
use Rattle.edge_ends.specs.declared.TnurccFaceSide.TheVariants.{Left, Right}
use Rattle.tables.specs.Mesh.{Mesh, valence, start, mark, point_rows, edge_rows, face_rows}
use Rattle.tables.specs.Rows.{over}
use Rattle.audited_meshes.specs.Walks.{passed, point_walk}
use Rattle.audited_meshes.specs.Audited.{Audited}
use Rattle.audited_meshes.proofs.Folds.{below_suc}
use Rattle.built_meshes.specs.Lists.{Lists, points_of, faces_of}
use Rattle.tables.specs.declared.Sizes.{Sizes}
use Rattle.built_meshes.specs.Perimeters.{BuildState}
use Rattle.built_meshes.specs.Whole.{mark_of, marked, finished}
use Rattle.built_meshes.specs.Beyond.{Behind, Within}
use Rattle.built_meshes.proofs.Connecting.{Keeps}
use Rattle.built_meshes.proofs.Rows.{row}
use Rattle.built_meshes.proofs.Beyond.{behind-trans, behind-set, behind-over, within-trans}
use Rattle.built_meshes.proofs.Invariant.{Invariant, sits-kept, invariant-kept}
use Rattle.built_meshes.proofs.Joining.{keeps-refl}
use Rattle.built_meshes.proofs.Entering.{counted}
use Rattle.built_meshes.proofs.Perimeter.{Done, Chained, Faces, counted-above}
use Rattle.built_meshes.proofs.Faces.{FitFaces}
use Rattle.built_meshes.proofs.Begin.{Counted, Numbered, Roomy, listed-all}
use Rattle.built_meshes.proofs.Whole.{place_of, sides-differ, acw-links, cw-links, acw-below, cw-below, one-edge, face-walk, point-walk}

-- ---- marks

-- a word that is no mark is as it was
get_or-marked-other : (k i : ℕ) (ws : List ℕ) → ((p : ℕ) → i ≢ p * 3 + 2) → get_or (marked k ws) i 0 ≡ get_or ws i 0
unfolding marked
get_or-marked-other zero i ws h = refl
get_or-marked-other (suc k) i ws h =
    get_or-set_other (marked k ws) (k * 3 + 2) i (mark_of (get_or (marked k ws) (k * 3) 0)) 0 (h k) ∙ get_or-marked-other k i ws h

pub valence-marked : (k p : ℕ) (ws : List ℕ) → get_or (marked k ws) (p * 3) 0 ≡ get_or ws (p * 3) 0
valence-marked k p ws = get_or-marked-other k (p * 3) ws (λ q h. omega arith)

pub start-marked : (k p : ℕ) (ws : List ℕ) → get_or (marked k ws) (p * 3 + 1) 0 ≡ get_or ws (p * 3 + 1) 0
start-marked k p ws = get_or-marked-other k (p * 3 + 1) ws (λ q h. omega arith)

pub length_marked : (k : ℕ) (ws : List ℕ) → length (marked k ws) ≡ length ws
unfolding marked
length_marked zero ws = refl
length_marked (suc k) ws = length-set (marked k ws) (k * 3 + 2) (mark_of (get_or (marked k ws) (k * 3) 0)) ∙ length_marked k ws

pub mark-marked : (k p : ℕ) (ws : List ℕ) → p < k → k * 3 ≤ length ws → get_or (marked k ws) (p * 3 + 2) 0 ≡ mark_of (get_or ws (p * 3) 0)
unfolding marked
mark-marked zero p ws b fits = absurd (omega arith)
mark-marked (suc k) p ws b fits =
    below_suc p k b
    (λ lt.
    get_or-set_other (marked k ws) (k * 3 + 2) (p * 3 + 2) (mark_of (get_or (marked k ws) (k * 3) 0)) 0 (λ h. omega arith)
    ∙ mark-marked k p ws lt (omega arith))
    (λ same.
    subst (λ p. get_or (set (marked k ws) (k * 3 + 2) (mark_of (get_or (marked k ws) (k * 3) 0))) (p * 3 + 2) 0 ≡ mark_of (get_or ws (p * 3) 0)) (sym same)
    (get_or-set_same (marked k ws) (k * 3 + 2) (mark_of (get_or (marked k ws) (k * 3) 0)) 0 (rw (length_marked k ws) (omega arith))
    ∙ ap mark_of (valence-marked k k ws)))

-- the mark is 0 exactly at valence 4, else 1
mark_of-is : (n : ℕ) → ((n ≡ 4) × (mark_of n ≡ 0)) ⊎ ((n ≢ 4) × (mark_of n ≡ 1))
mark_of-is n = go (eqb n 4) refl
  where
    go : (b : Bool) → eqb n 4 ≡ b → ((n ≡ 4) × (◌≡◌ {A = ℕ} (cond b 0 1) 0)) ⊎ ((n ≢ 4) × (◌≡◌ {A = ℕ} (cond b 0 1) 1))
    go true h = inl (eqb-true n 4 h, refl)
    go false h = inr (eqb-false n 4 h, refl)

behind-marked : (k : ℕ) (ws : List ℕ) (n : ℕ) → k ≤ n → Behind (n * 3) ws (marked k ws)
unfolding marked
behind-marked zero ws n h = (refl, refl)
behind-marked (suc k) ws n h =
    behind-trans (n * 3) ws (marked k ws) (marked (suc k) ws) (behind-marked k ws n (omega arith))
    (behind-set (n * 3) (marked k ws) (k * 3 + 2) (mark_of (get_or (marked k ws) (k * 3) 0)) (omega arith))

-- ---- positions

get_d_over : {A : Type 0} (n i : ℕ) (new xs : List A) (d : A) → i < n → n ≤ length new → get_or (over n new xs) i d ≡ get_or new i d
unfolding over
get_d_over n i new xs d h fits =
    get_or-append (take n new) (drop n xs) d i (rw (length-take-le n new fits) h) ∙ get_or-take n new i d h

-- ---- all places are in still

module _ (l : Lists) (m : Mesh) where
  -- positions are the coordinates
  pub position-finished : length l.coordinates % 3 ≡ 0 → (k : ℕ) → k < length l.coordinates → get_or (finished l m).positions k nan ≡ get_or l.coordinates k nan
  unfolding finished
  position-finished whole k b = get_d_over (points_of l * 3) k l.coordinates m.positions nan (omega arith) (omega arith)

  pub mark-finished :
      (p : ℕ) → p < points_of l → points_of l * 3 ≤ length m.points →
      ((valence (finished l m) p ≡ 4) × (mark (finished l m) p ≡ 0)) ⊎ ((valence (finished l m) p ≢ 4) × (mark (finished l m) p ≡ 1))
  unfolding finished
  mark-finished p b fits = rw (mark-marked (points_of l) p m.points b fits, valence-marked (points_of l) p m.points) (mark_of-is (get_or m.points (p * 3) 0))

  valence-finished : (p : ℕ) → valence (finished l m) p ≡ valence m p
  unfolding finished
  valence-finished p = valence-marked (points_of l) p m.points

  start-finished : (p : ℕ) → start (finished l m) p ≡ start m p
  unfolding finished
  start-finished p = start-marked (points_of l) p m.points

  same_rows : (e : ℕ) → Keeps (row m e) (row (finished l m) e)
  unfolding finished
  same_rows e = keeps-refl (row m e) (row (finished l m) e) refl

  -- the walk about a point is as it was
  walk-finished : (ne p : ℕ) → point_walk (finished l m) ne (valence (finished l m) p) p ≡ point_walk m ne (valence m p) p
  unfolding point_walk finished
  walk-finished ne p = rw (valence-finished p, start-finished p)

module _ (l : Lists) (k : ℕ) (s : BuildState) (all : Faces l k s) where
  pub faces-finished : Faces l k (record { mesh = finished l s.mesh; edges = s.edges })
  unfolding finished counted
  faces-finished =
      record {
        invariant =
            invariant-kept l (Done l k 0) (Chained l k 0) s.mesh s.edges all.invariant (finished l s.mesh) (λ e b. same_rows l s.mesh e)
            (valence-finished l s.mesh) (start-finished l s.mesh) (Chained l k 0) all.invariant.chained all.invariant.linked;
        counts = all.counts;
        starts = λ f b.
            sits-kept l (Done l k 0) (Chained l k 0) s.mesh s.edges all.invariant (finished l s.mesh) (λ e b. same_rows l s.mesh e)
            (valence-finished l s.mesh) (start-finished l s.mesh) f 0 _ (all.starts f b);
        corners = all.corners;
      }

-- ---- the audit's clauses

module _ (c : Sizes) (l : Lists) (m₀ : Mesh) (counted' : Counted c l) (numbered : Numbered l) (roomy : Roomy l m₀) (few : c.faces ≤ none)
    (s : BuildState) (all : Faces l (faces_of l) s) (fit : FitFaces c l m₀ (faces_of l)) (within : Within l m₀ s.mesh)
    (right : (e : ℕ) → e < s.edges → (row s.mesh e).face_right ≢ none) (edged : (p : ℕ) → p < points_of l → valence s.mesh p ≢ 0)
    (walked : (p : ℕ) → p < points_of l → valence s.mesh p ≤ passed (point_walk s.mesh s.edges (valence s.mesh p) p)) where
  abbrev after : Mesh
  after = finished l s.mesh

  faces' : Faces l (faces_of l) (record { mesh = after; edges = s.edges })
  faces' = faces-finished l (faces_of l) s all

  v : Invariant l (Done l (faces_of l) 0) (Chained l (faces_of l) 0) after s.edges
  v = faces'.invariant

  right' : (e : ℕ) → e < s.edges → (row after e).face_right ≢ none
  unfolding finished
  right' = right

  face-in : (d : TnurccFaceSide) (e : ℕ) → e < s.edges → face_from_side (row after e) d < faces_of l
  face-in d e b = (place_of l after s.edges v right' d e b).face-below

  edges_few : s.edges ≤ length l.listed
  edges_few = omega (arith, counted-above s.mesh s.edges, all.counts, listed-all c l m₀ counted' numbered roomy few)

  pub within-finished : Within l m₀ after
  unfolding finished
  within-finished =
      within-trans l within
      (record {
        positions = behind-over (points_of l * 3) l.coordinates s.mesh.positions (omega arith) (rw within.positions.0 (omega (arith, roomy.points-enough)));
        points = behind-marked (points_of l) s.mesh.points (points_of l) (omega arith);
        edges = (refl, refl);
        intervals = (refl, refl);
        faces = (refl, refl);
      })

  points-fit : points_of l ≤ point_rows after
  points-fit = rw (within-finished.positions.0, within-finished.points.0) roomy.points-enough

  edges_fit : s.edges ≤ edge_rows after
  edges_fit = rw (within-finished.edges.0, within-finished.intervals.0) (omega (arith, edges_few, roomy.edges-enough))

  faces-fit : faces_of l ≤ face_rows after
  faces-fit = rw within-finished.faces.0 roomy.faces-enough

  coordinate-finite : (p j : ℕ) → p < points_of l → j < 3 → finite (get_or after.positions (p * 3 + j) nan) ≡ true
  coordinate-finite p j b h =
      rw (position-finished l s.mesh counted'.points-whole (p * 3 + j) (omega arith)) (numbered.coordinates-finite (p * 3 + j) (omega arith))

  mark-fits : (p : ℕ) → p < points_of l → (mark after p ≡ 0) ⊎ (mark after p ≡ 1)
  mark-fits p b =
      ⊎_elim (λ h. inl h.1) (λ h. inr h.1)
      (mark-finished l s.mesh p b (rw within.points.0 (omega (arith, roomy.points-enough))))

  few' : (f : ℕ) → f < faces_of l → f ≢ none
  few' f b h = omega (arith, counted'.faces-few)

  edged' : (p : ℕ) → p < points_of l → valence after p ≢ 0
  edged' p b h = edged p b (sym (valence-finished l s.mesh p) ∙ h)

  pub audited-finished : Audited after (points_of l) s.edges (faces_of l)
  audited-finished = record {
    points-fit = points-fit;
    edges_fit = edges_fit;
    faces-fit = faces-fit;
    start-in-range = λ p b. (v.start_is p b (let h = edged' p b in omega arith)).0;
    edge-in-range = λ e b. record {
      origin-in-range = v.origin-in e b;
      dest-in-range = v.dest-in e b;
      left_face-in-range = face-in Left e b;
      right_face-in-range = face-in Right e b;
      left_cw-in-range = cw-below l after s.edges v right' Left e b;
      left_acw-in-range = acw-below l after s.edges v right' Left e b;
      right_cw-in-range = cw-below l after s.edges v right' Right e b;
      right_acw-in-range = acw-below l after s.edges v right' Right e b;
    };
    face_start-in-range = λ f b. (faces'.starts f b).below;
    x-finite = λ p b. subst (λ k. finite (get_or after.positions k nan) ≡ true)
        (let z : p * 3 + 0 ≡ p * 3 = omega arith in z) (coordinate-finite p 0 b (omega arith));
    y-finite = λ p b. coordinate-finite p 1 b (omega arith);
    z-finite = λ p b. coordinate-finite p 2 b (omega arith);
    interval-fit = v.interval-fit;
    ends-differ = v.ends-differ;
    sides-differ = sides-differ l after s.edges v right';
    one-edge = one-edge l after s.edges v right';
    left-acw = acw-links l after s.edges v right' Left;
    right-acw = acw-links l after s.edges v right' Right;
    left-cw = cw-links l after s.edges v right' Left;
    right-cw = cw-links l after s.edges v right' Right;
    face-walked = λ f b. face-walk l after s.edges v right' f b (fit.sound f b) (faces'.starts f b) (few' f b);
    point-walked = λ p b. point-walk l after s.edges v right' p b (edged' p b)
        (subst (λ w. valence after p ≤ passed w) (sym (walk-finished l s.mesh s.edges p))
        (subst (λ n. n ≤ passed (point_walk s.mesh s.edges (valence s.mesh p) p))
        (sym (valence-finished l s.mesh p)) (walked p b)));
    corner-fit = λ f k b h. inr (faces'.corners f k b h);
    mark-fit = mark-fits;
  }
