-- What the grounds 2, 3 and 4 say, and the tables in which the faces begin: their counted rows are zero. Assumes nothing.
--     counts-is, numbers-is, rows_is     the three tests, and what holds where one fails
--     sides-listed                       past 2, the sides of all faces are the listed points
--     ready                              the zeroed tables are ready
--     faces-none                         no face is in
use mathlib.Core.Path.{◌≡◌, refl, sym, ◌∙◌, ap, subst}
use mathlib.Core.Bool.{true, false, ◌&&◌, true≢false}
use mathlib.Core.Logic.{◌⊎◌, inl, inr}
use mathlib.Core.List.{List}
use Prim.Native.Nat.{ℕ, zero, suc, ◌+◌, ◌*◌, ◌%◌, ◌<◌, ◌≤◌}
use native.Mathlib.Omega.{arith}
use lib.Dec.{eqb, leb}
use lib.Ieee.{nan, of_bits, binary64}
use lib.Ieee.Scale.{finite}
use lib.ListN.{length, get_or, drop, replicate, get_or-append, get_or-replicate, length-replicate}
use borrow.Author.Tests.{leb-false, eqb-false}
use Rattle.t_spline.specs.Edge.{none}
use Rattle.tables.specs.Mesh.{Mesh, valence, point_rows, edge_rows, face_rows}
use Rattle.tables.specs.Rows.{zeroed}
use Rattle.closed_meshes.specs.Renumbering.{sum_to}
use Rattle.audited_meshes.specs.Folds.{every}
use Rattle.audited_meshes.specs.Audit.{interval_fit}
use Rattle.audited_meshes.proofs.Tests.{and_is, eqb_is, leb-is, self-is, every-is}
use Rattle.built_meshes.specs.Lists.{Lists, points_of, faces_of, rows_of, offset, firsts_counted, counts_fit, listed_fit}
use Rattle.built_meshes.specs.declared.Version.{Version}
use Rattle.built_meshes.specs.declared.Version.TheVariants.{One, Two}
use Rattle.tables.specs.declared.Sizes.{Sizes}
use Rattle.tables.specs.Counted.{rows_for, zeroed_rows}
use Rattle.built_meshes.specs.Beyond.{Within}
use Rattle.built_meshes.specs.Claims.{zero_edge}
use Rattle.built_meshes.specs.Grounds.{IsOverCounts, many-points, many-faces, many-listed, point-cut}
use Rattle.built_meshes.specs.Grounds.{face-cut, unlike, sum-unlike, firsts-unlike, HasUnfitNumber, coordinate-unfit}
use Rattle.built_meshes.specs.Grounds.{interval-unfit, HasFewRows, few-points, few-faces, few-edges}
use Rattle.built_meshes.proofs.Rows.{row, edge_at-words, of_words-cong}
use Rattle.built_meshes.proofs.Beyond.{behind-zeroed}
use Rattle.built_meshes.proofs.Entering.{counted}
use Rattle.built_meshes.proofs.Perimeter.{Ready, Done, Chained, Faces}
use Rattle.built_meshes.proofs.Versions.{every-false, and-false}

-- ---- ground 2

pub record Counted (c : Sizes) (l : Lists) : Type 0 where
  pub points-few : points_of l ≤ c.points
  pub faces-few : faces_of l ≤ c.faces
  pub listed-few : length l.listed ≤ c.listed
  pub points-whole : length l.coordinates % 3 ≡ 0
  pub faces-whole : length l.sides % 4 ≡ 0
  pub alike : length l.listed ≡ length l.intervals
  pub sum_alike : sum_to (length l.sides) (λ k. get_or l.sides k 0) ≡ length l.listed
  pub firsts-alike : firsts_counted l.version l ≡ true

pub counts-is : (c : Sizes) (l : Lists) → counts_fit c l ≡ true → Counted c l
unfolding counts_fit
counts-is c l h =
    let z =
    (and_is
    (and_is
    (and_is
    (and_is
    (and_is
    (and_is (and_is (leb-is (points_of l) c.points) (leb-is (faces_of l) c.faces)) (leb-is (length l.listed) c.listed))
    (eqb_is (length l.coordinates % 3) 0))
    (eqb_is (length l.sides % 4) 0))
    (eqb_is (length l.listed) (length l.intervals)))
    (eqb_is (sum_to (length l.sides) (λ k. get_or l.sides k 0)) (length l.listed)))
    (self-is (firsts_counted l.version l))).0 h in
    record {
      points-few = z.0.0.0.0.0.0.0;
      faces-few = z.0.0.0.0.0.0.1;
      listed-few = z.0.0.0.0.0.1;
      points-whole = z.0.0.0.0.1;
      faces-whole = z.0.0.0.1;
      alike = z.0.0.1;
      sum_alike = z.0.1;
      firsts-alike = z.1;
    }

pub counts-fail : (c : Sizes) (l : Lists) → counts_fit c l ≡ false → IsOverCounts c l
unfolding counts_fit
counts-fail c l h = go8 (and-false _ _ h)
  where
    go2 : (leb (points_of l) c.points ≡ false) ⊎ (leb (faces_of l) c.faces ≡ false) → IsOverCounts c l
    go2 (inl z) = many-points (leb-false _ _ z)
    go2 (inr z) = many-faces (leb-false _ _ z)

    go3 : (leb (points_of l) c.points && leb (faces_of l) c.faces ≡ false) ⊎ (leb (length l.listed) c.listed ≡ false) → IsOverCounts c l
    go3 (inl z) = go2 (and-false _ _ z)
    go3 (inr z) = many-listed (leb-false _ _ z)

    go4 : (leb (points_of l) c.points && leb (faces_of l) c.faces && leb (length l.listed) c.listed ≡ false) ⊎ (eqb (length l.coordinates % 3) 0 ≡ false) → IsOverCounts c l
    go4 (inl z) = go3 (and-false _ _ z)
    go4 (inr z) = point-cut (eqb-false _ _ z)

    go5 : (leb (points_of l) c.points && leb (faces_of l) c.faces && leb (length l.listed) c.listed && eqb (length l.coordinates % 3) 0 ≡ false)
        ⊎ (eqb (length l.sides % 4) 0 ≡ false) → IsOverCounts c l
    go5 (inl z) = go4 (and-false _ _ z)
    go5 (inr z) = face-cut (eqb-false _ _ z)

    go6 : (leb (points_of l) c.points && leb (faces_of l) c.faces && leb (length l.listed) c.listed && eqb (length l.coordinates % 3) 0 && eqb (length l.sides % 4) 0 ≡ false)
        ⊎ (eqb (length l.listed) (length l.intervals) ≡ false) → IsOverCounts c l
    go6 (inl z) = go5 (and-false _ _ z)
    go6 (inr z) = unlike (eqb-false _ _ z)

    go7 : (leb (points_of l) c.points && leb (faces_of l) c.faces && leb (length l.listed) c.listed && eqb (length l.coordinates % 3) 0 && eqb (length l.sides % 4) 0
        && eqb (length l.listed) (length l.intervals) ≡ false) ⊎ (eqb (sum_to (length l.sides) (λ k. get_or l.sides k 0)) (length l.listed) ≡ false) → IsOverCounts c l
    go7 (inl z) = go6 (and-false _ _ z)
    go7 (inr z) = sum-unlike (eqb-false _ _ z)

    firsts : (v : Version) → l.version ≡ v → firsts_counted v l ≡ false → IsOverCounts c l
    firsts One e z = absurd (true≢false z)
    firsts Two e z = firsts-unlike e (eqb-false _ _ z)

    go8 : (leb (points_of l) c.points && leb (faces_of l) c.faces && leb (length l.listed) c.listed && eqb (length l.coordinates % 3) 0 && eqb (length l.sides % 4) 0
        && eqb (length l.listed) (length l.intervals) && eqb (sum_to (length l.sides) (λ k. get_or l.sides k 0)) (length l.listed) ≡ false)
        ⊎ (firsts_counted l.version l ≡ false) → IsOverCounts c l
    go8 (inl z) = go7 (and-false _ _ z)
    go8 (inr z) = firsts l.version refl z

pub counted-fits : (c : Sizes) (l : Lists) → Counted c l → ¬ IsOverCounts c l
counted-fits c l h (many-points z) = omega (arith, h.points-few)
counted-fits c l h (many-faces z) = omega (arith, h.faces-few)
counted-fits c l h (many-listed z) = omega (arith, h.listed-few)
counted-fits c l h (point-cut z) = z h.points-whole
counted-fits c l h (face-cut z) = z h.faces-whole
counted-fits c l h (unlike z) = z h.alike
counted-fits c l h (sum-unlike z) = z h.sum_alike
counted-fits c l h (firsts-unlike two z) = z ((eqb_is (length l.firsts) (length l.sides)).0 (subst (λ v. firsts_counted v l ≡ true) two h.firsts-alike))

-- ---- ground 3

pub record Numbered (l : Lists) : Type 0 where
  pub coordinates-finite : (k : ℕ) → k < length l.coordinates → finite (get_or l.coordinates k nan) ≡ true
  pub intervals-fit : (k : ℕ) → k < length l.intervals → interval_fit (get_or l.intervals k nan) ≡ true

pub numbers-is : (l : Lists) → listed_fit l ≡ true → Numbered l
unfolding listed_fit
numbers-is l h =
    let z =
    (and_is (every-is (length l.coordinates) (λ k. self-is (finite (get_or l.coordinates k nan))))
    (every-is (length l.intervals) (λ k. self-is (interval_fit (get_or l.intervals k nan))))).0 h in
    record { coordinates-finite = z.0; intervals-fit = z.1 }

pub numbers-fail : (l : Lists) → listed_fit l ≡ false → HasUnfitNumber l
unfolding listed_fit
numbers-fail l h = go (and-false _ _ h)
  where
    go : (every (length l.coordinates) (λ k. finite (get_or l.coordinates k nan)) ≡ false)
        ⊎ (every (length l.intervals) (λ k. interval_fit (get_or l.intervals k nan)) ≡ false) → HasUnfitNumber l
    go (inl z) = let w = every-false _ (λ k. finite (get_or l.coordinates k nan)) z in coordinate-unfit w.0 w.1 w.2
    go (inr z) = let w = every-false _ (λ k. interval_fit (get_or l.intervals k nan)) z in interval-unfit w.0 w.1 w.2

pub numbered-fits : (l : Lists) → Numbered l → ¬ HasUnfitNumber l
numbered-fits l h (coordinate-unfit k b z) = let y : true ≡ false = sym (h.coordinates-finite k b) ∙ z in let n : ◌≡◌ {A = ℕ} 0 1 = cc in omega arith
numbered-fits l h (interval-unfit k b z) = let y : true ≡ false = sym (h.intervals-fit k b) ∙ z in let n : ◌≡◌ {A = ℕ} 0 1 = cc in omega arith

-- ---- ground 4

pub record Roomy (l : Lists) (m : Mesh) : Type 0 where
  pub points-enough : points_of l ≤ point_rows m
  pub faces-enough : faces_of l ≤ face_rows m
  pub edges-enough : length l.listed ≤ edge_rows m

pub rows_is : (l : Lists) (m : Mesh) → rows_for (rows_of l) m ≡ true → Roomy l m
unfolding rows_for
rows_is l m h =
    let z = (and_is (and_is (leb-is (points_of l) (point_rows m)) (leb-is (length l.listed) (edge_rows m))) (leb-is (faces_of l) (face_rows m))).0 h in
    record { points-enough = z.0.0; faces-enough = z.1; edges-enough = z.0.1 }

pub rows-fail : (l : Lists) (m : Mesh) → rows_for (rows_of l) m ≡ false → HasFewRows l m
unfolding rows_for
rows-fail l m h = go (and-false _ _ h)
  where
    go2 : (leb (points_of l) (point_rows m) ≡ false) ⊎ (leb (length l.listed) (edge_rows m) ≡ false) → HasFewRows l m
    go2 (inl z) = few-points (leb-false _ _ z)
    go2 (inr z) = few-edges (leb-false _ _ z)

    go : (leb (points_of l) (point_rows m) && leb (length l.listed) (edge_rows m) ≡ false) ⊎ (leb (faces_of l) (face_rows m) ≡ false) → HasFewRows l m
    go (inl z) = go2 (and-false _ _ z)
    go (inr z) = few-faces (leb-false _ _ z)

pub roomy-fits : (l : Lists) (m : Mesh) → Roomy l m → ¬ HasFewRows l m
roomy-fits l m h (few-points z) = omega (arith, h.points-enough)
roomy-fits l m h (few-faces z) = omega (arith, h.faces-enough)
roomy-fits l m h (few-edges z) = omega (arith, h.edges-enough)

-- ---- the sides of all faces are the listed points

-- a sum of four at a time
pub sum_to-fours :
    (n : ℕ) (g : ℕ → ℕ) → sum_to (n * 4) g ≡ sum_to n (λ f. g (f * 4 + 0) + g (f * 4 + 1) + g (f * 4 + 2) + g (f * 4 + 3))
unfolding sum_to
sum_to-fours zero g = refl
sum_to-fours (suc n) g = ap (λ k. sum_to k g) (four n) ∙ sums (sum_to-fours n g)
  where
    four : (n : ℕ) → suc n * 4 ≡ suc (suc (suc (suc (n * 4))))
    four n = omega arith

    sums : sum_to (n * 4) g ≡ sum_to n (λ f. g (f * 4 + 0) + g (f * 4 + 1) + g (f * 4 + 2) + g (f * 4 + 3)) →
        sum_to (n * 4) g + g (n * 4) + g (suc (n * 4)) + g (suc (suc (n * 4))) + g (suc (suc (suc (n * 4))))
        ≡ sum_to n (λ f. g (f * 4 + 0) + g (f * 4 + 1) + g (f * 4 + 2) + g (f * 4 + 3)) + (g (n * 4 + 0) + g (n * 4 + 1) + g (n * 4 + 2) + g (n * 4 + 3))
    sums ih =
        let e0 : g (n * 4 + 0) ≡ g (n * 4) = ap g (omega arith) in
        let e1 : g (n * 4 + 1) ≡ g (suc (n * 4)) = ap g (omega arith) in
        let e2 : g (n * 4 + 2) ≡ g (suc (suc (n * 4))) = ap g (omega arith) in
        let e3 : g (n * 4 + 3) ≡ g (suc (suc (suc (n * 4)))) = ap g (omega arith) in
        omega arith

pub sides-listed : (c : Sizes) (l : Lists) → Counted c l → offset l (faces_of l) ≡ length l.listed
unfolding offset
sides-listed c l h =
    sym (sum_to-fours (faces_of l) (λ k. get_or l.sides k 0))
    ∙ ap (λ k. sum_to k (λ k. get_or l.sides k 0)) (let z : faces_of l * 4 ≡ length l.sides = omega (arith, h.faces-whole) in z) ∙ h.sum_alike

-- ---- zeroed tables

pub get_or-zeroed : {A : Type 0} (n i : ℕ) (z d : A) (xs : List A) → i < n → get_or (zeroed n z xs) i d ≡ z
unfolding zeroed
get_or-zeroed n i z d xs h =
    get_or-append (replicate n z) (drop n xs) d i (subst (λ k. i < k) (sym (length-replicate n z)) h) ∙ get_or-replicate n i z d h

module _ (c : Sizes) (l : Lists) (m : Mesh) (counted' : Counted c l) (numbered : Numbered l) (roomy : Roomy l m) (few : c.faces ≤ none) where
  pub listed-all : offset l (faces_of l) ≡ length l.listed
  listed-all = sides-listed c l counted'

  points-fit : points_of l * 3 ≤ length m.points
  points-fit = omega (arith, roomy.points-enough)

  pub positions-fit : points_of l * 3 ≤ length m.positions
  positions-fit = omega (arith, roomy.points-enough)

  edges_fit : length l.listed * 8 ≤ length m.edges
  edges_fit = omega (arith, roomy.edges-enough)

  intervals-fit' : length l.listed ≤ length m.intervals
  intervals-fit' = omega (arith, roomy.edges-enough)

  faces-fit : faces_of l * 5 ≤ length m.faces
  faces-fit = omega (arith, roomy.faces-enough)

  pub within-zeroed : Within l m (zeroed_rows (rows_of l) m)
  unfolding zeroed_rows
  within-zeroed =
      record {
        positions = behind-zeroed (points_of l * 3) (of_bits binary64 0) m.positions positions-fit;
        points = behind-zeroed (points_of l * 3) 0 m.points points-fit;
        edges = behind-zeroed (length l.listed * 8) 0 m.edges edges_fit;
        intervals = behind-zeroed (length l.listed) (of_bits binary64 0) m.intervals intervals-fit';
        faces = behind-zeroed (faces_of l * 5) 0 m.faces faces-fit;
      }

  pub row-zeroed : (e : ℕ) → e < length l.listed → row (zeroed_rows (rows_of l) m) e ≡ zero_edge
  unfolding zeroed_rows
  row-zeroed e b =
      edge_at-words (zeroed_rows (rows_of l) m).edges (zeroed_rows (rows_of l) m).intervals e
      ∙ of_words-cong (λ j. 0) (λ j. get_or (zeroed_rows (rows_of l) m).edges (e * 8 + j) 0) (of_bits binary64 0) (get_or (zeroed_rows (rows_of l) m).intervals e nan)
      (λ j h. get_or-zeroed (length l.listed * 8) (e * 8 + j) 0 0 m.edges (omega arith))
      (get_or-zeroed (length l.listed) e (of_bits binary64 0) nan m.intervals b)

  pub ready : Ready l (zeroed_rows (rows_of l) m)
  ready =
      record {
        points-room = rw within-zeroed.points.0 points-fit;
        edges_room = rw within-zeroed.edges.0 edges_fit;
        intervals-room = rw within-zeroed.intervals.0 intervals-fit';
        faces-room = rw within-zeroed.faces.0 faces-fit;
        intervals-fit = λ k b. numbered.intervals-fit k (omega (arith, counted'.alike));
        all_listed = listed-all;
        faces-few = omega (arith, counted'.faces-few);
      }

  no_place : (f i : ℕ) {A : Type 0} → Done l 0 0 f i → A
  no_place f i (inl h) = absurd (omega (arith, h.0))
  no_place f i (inr h) = absurd (omega (arith, h.1))

  no-chain : (f i : ℕ) {A : Type 0} → Chained l 0 0 f i → A
  no-chain f i (inl h) = absurd (omega (arith, h.0))
  no-chain f i (inr h) = absurd (omega (arith, h.1))

  pub faces-none : Faces l 0 (record { mesh = zeroed_rows (rows_of l) m; edges = 0 })
  unfolding zeroed_rows counted sum_to offset
  faces-none =
      record {
        invariant =
            record {
              good = λ f i d. no_place f i d;
              chained = λ f i d. no-chain f i d;
              entered = λ f i d. no_place f i d;
              placed = λ s e b. absurd (omega arith);
              one_way = λ f i g j d. no_place f i d;
              left-face = λ e b. absurd (omega arith);
              origin-in = λ e b. absurd (omega arith);
              dest-in = λ e b. absurd (omega arith);
              ends-differ = λ e b. absurd (omega arith);
              one_side = λ s e t o b. absurd (omega arith);
              valence-is = λ p b. blank p b;
              start_is = λ p b h. absurd (omega (arith, blank p b));
              interval-fit = λ e b. absurd (omega arith);
              made =
                  record {
                    place = λ e. 0;
                    maker = λ e b. absurd (omega arith);
                    in_order = λ e o h b. absurd (omega arith);
                    highest = λ p e pb b. absurd (omega arith);
                  };
              linked = λ f i d. no-chain f i d;
            };
        counts = refl;
        starts = λ f b. absurd (omega arith);
        corners = λ f c b. absurd (omega arith);
      }
    where
      blank : (p : ℕ) → p < points_of l → valence (zeroed_rows (rows_of l) m) p ≡ 0
      blank p b = get_or-zeroed (points_of l * 3) (p * 3) 0 0 m.points (omega arith)
