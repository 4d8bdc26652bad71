-- A face of four sides turned round: what stands where, if the first points agree. Assumes nothing.
--     four-sides              what holds of any four sides holds of a face
--     Leads a ds z            the sides ds lead from a to z: each begins where the one before it ended
--     agreeing                first points that agree with the points listed before them
--     side-turned, first-turned, point-turned, interval-turned    what stands at a place of a face that is turned, or is not
use mathlib.Core.Path.{◌≡◌, refl, sym, ap, ◌∙◌}
use mathlib.Core.Bool.{Bool, true, false, cond}
use mathlib.Core.List.{List, [], ◌∷◌, ◌++◌, map, append_assoc, append-nil}
use Prim.Native.Nat.{ℕ, zero, suc, ◌+◌, ◌-◌, ◌≤◌, ◌<◌}
use native.Mathlib.Omega.{arith}
use native.Mathlib.Decide.{ℕ_discrete}
use lib.ListN.{length, get_or, length-append, length-map}
use lib.Ieee.{Float, nan}
use Rattle.closed_meshes.specs.Renumbering.{sum_to}
use Rattle.mesh_lines.specs.Grammar.{Listed, Side, flat, points_in, intervals_in, side_first, side_count, side_points, side_intervals}
use Rattle.built_meshes.specs.Faces.{last_before}
use Rattle.mended_lists.specs.Reversal.{turned_point, turned_interval, turned_side, turned_first}
use Rattle.mended_lists.proofs.Reversal.{turned-last, turned-other}
use Rattle.mended_texts.specs.Turning.{backward_from, backward, turned_onto, turned_face, turned_if}
use Rattle.mended_texts.proofs.Flat.{Parts, get_d_part}
use Rattle.mended_texts.proofs.Sides.{end_from, points-join, intervals-join, backward-first, backward-count, backward-onto, backward-join}
use Rattle.mended_texts.proofs.Sides.{points-back, intervals-back, end-last, end-join}

pub four-sides :
    (P : List Side → Type 0) → ((d0 d1 d2 d3 : Side) → P (d0 ∷ d1 ∷ d2 ∷ d3 ∷ [])) → (ds : List Side) → length ds ≡ 4 → P ds
four-sides P h [] e = absurd (omega arith)
four-sides P h (a ∷ []) e = absurd (omega arith)
four-sides P h (a ∷ b ∷ []) e = absurd (omega arith)
four-sides P h (a ∷ b ∷ c ∷ []) e = absurd (omega arith)
four-sides P h (a ∷ b ∷ c ∷ d ∷ []) e = h a b c d
four-sides P h (a ∷ b ∷ c ∷ d ∷ x ∷ ds) e = absurd (omega arith)

-- ---- the way round a face

abbrev listed_of : Side → List Listed
listed_of d = d.listed

pub Leads : ℕ → List Side → ℕ → Type 0
Leads a [] z = a ≡ z
Leads a (d ∷ ds) z = (a ≡ d.first) × Leads (end_from d.first d.listed) ds z

points-flat : (ds : List Side) → flat side_points ds ≡ points_in (flat listed_of ds)
unfolding flat
points-flat [] = refl
points-flat (d ∷ ds) =
    ap (λ (l : List ℕ). side_points d ++ l) (points-flat ds) ∙ sym (points-join d.listed (flat listed_of ds))

intervals-flat : (ds : List Side) → flat side_intervals ds ≡ intervals_in (flat listed_of ds)
unfolding flat
intervals-flat [] = refl
intervals-flat (d ∷ ds) =
    ap (λ (l : List Float). side_intervals d ++ l) (intervals-flat ds) ∙ sym (intervals-join d.listed (flat listed_of ds))

-- the sides run backwards one by one are the way round run backwards
turned-way :
    (a z : ℕ) (ds es : List Side) → Leads a ds z →
    flat listed_of (turned_onto ds es) ≡ (backward_from a (flat listed_of ds) []).listed ++ flat listed_of es
unfolding flat turned_onto backward_from Leads
turned-way a z [] es h = refl
turned-way a z (d ∷ ds) es (e, h) =
    let b = end_from d.first d.listed in
    let w = flat listed_of ds in
    turned-way b z ds (backward d ∷ es) h
    ∙ sym (append_assoc (backward_from b w []).listed (backward d).listed (flat listed_of es))
    ∙ ap (λ (l : List Listed). l ++ flat listed_of es)
    (sym (backward-onto b w (backward d).listed)
    ∙ sym (ap (λ (x : Side). x.listed) (backward-join d.first d.listed w []))
    ∙ ap (λ (x : ℕ). (backward_from x (d.listed ++ w) []).listed) (sym e))

leads-end : (a z : ℕ) (ds : List Side) → Leads a ds z → end_from a (flat listed_of ds) ≡ z
unfolding flat Leads
leads-end a z [] h = h
leads-end a z (d ∷ ds) (e, h) =
    end-join a d.listed (flat listed_of ds)
    ∙ ap (λ (x : ℕ). end_from (end_from x d.listed) (flat listed_of ds)) e ∙ leads-end (end_from d.first d.listed) z ds h

-- ---- first points that agree

-- a side of the points w that begins at the point listed last before the place b ends at the one before its last place
ends_at :
    (w : List ℕ) (n b a : ℕ) (ps : List Listed) → ((i : ℕ) → i < length ps → get_or w (b + i) 0 ≡ get_or (points_in ps) i 0) →
    a ≡ get_or w (last_before n b) 0 → end_from a ps ≡ get_or w (last_before n (b + length ps)) 0
ends_at w n b a [] h e = let z : b + 0 ≡ b = omega arith in e ∙ sym (ap (λ (x : ℕ). get_or w (last_before n x) 0) z)
ends_at w n b a (p ∷ ps) h e =
    let z : b + 0 ≡ b = omega arith in
    let y : b + suc (length ps) ≡ suc b + length ps = omega arith in
    ends_at w n (suc b) p.point ps
    (λ i l. let x : suc b + i ≡ b + suc i = omega arith in ap (λ (k : ℕ). get_or w k 0) x ∙ h (suc i) (omega arith))
    (sym (h 0 (omega arith)) ∙ ap (λ (k : ℕ). get_or w k 0) z)
    ∙ sym (ap (λ (x : ℕ). get_or w (last_before n x) 0) y)

-- how many points the first k sides list
abbrev pub before : List Side → ℕ → ℕ
before ds zero = 0
before ds (suc k) = before ds k + get_or (map side_count ds) k 0

-- each first point is the point listed last before its side, going round
abbrev pub Agree : List Side → Type 0
Agree ds =
    (k : ℕ) → k < 4 →
    get_or (map side_first ds) k 0 ≡ get_or (flat side_points ds) (last_before (length (flat side_points ds)) (before ds k)) 0

abbrev no_side : Side
no_side = record { first = 0; listed = [] }

module _ (d0 d1 d2 d3 : Side) where
  abbrev four : List Side
  four = d0 ∷ d1 ∷ d2 ∷ d3 ∷ []

  all : List ℕ
  unfolding flat
  all = flat side_points four

  listed-all : length all ≡ 0 + side_count d0 + side_count d1 + side_count d2 + side_count d3
  unfolding all flat
  listed-all =
      let e0 = length-append (side_points d0) (side_points d1 ++ (side_points d2 ++ (side_points d3 ++ []))) in
      let e1 = length-append (side_points d1) (side_points d2 ++ (side_points d3 ++ [])) in
      let e2 = length-append (side_points d2) (side_points d3 ++ []) in
      let e3 = length-append (side_points d3) [] in
      let c0 : length (side_points d0) ≡ side_count d0 = length-map d0.listed _ in
      let c1 : length (side_points d1) ≡ side_count d1 = length-map d1.listed _ in
      let c2 : length (side_points d2) ≡ side_count d2 = length-map d2.listed _ in
      let c3 : length (side_points d3) ≡ side_count d3 = length-map d3.listed _ in
      omega arith

  counts : Parts side_points no_side four (λ k. side_count (get_or four k no_side))
  counts k h = length-map (get_or four k no_side).listed _

  side-points :
      (k i : ℕ) → k < 4 → i < side_count (get_or four k no_side) →
      get_or all (sum_to k (λ j. side_count (get_or four j no_side)) + i) 0 ≡ get_or (side_points (get_or four k no_side)) i 0
  unfolding all
  side-points k i a b = get_d_part side_points no_side four (λ j. side_count (get_or four j no_side)) 0 counts k i a b

  module _ (agree : Agree four) (some : 0 < length all) where
    side-ends :
        (k : ℕ) → k < 4 → (b : ℕ) → b ≡ before four k → b ≡ sum_to k (λ j. side_count (get_or four j no_side)) → (d : Side) →
        d ≡ get_or four k no_side → d.first ≡ get_or (map side_first four) k 0 →
        end_from d.first d.listed ≡ get_or all (last_before (length all) (b + side_count d)) 0
    unfolding all
    side-ends k a b e s d h f =
        ends_at all (length all) b d.first d.listed
        (λ i l.
        ap (λ (x : ℕ). get_or all (x + i) 0) s
        ∙ side-points k i a (rw h at l) ∙ ap (λ (x : Side). get_or (side_points x) i 0) (sym h))
        (f ∙ agree k a ∙ ap (λ (x : ℕ). get_or all (last_before (length all) x) 0) (sym e))

    agreeing-four : Leads d0.first four d0.first
    unfolding Leads all sum_to
    agreeing-four =
        let e0 = side-ends 0 (omega arith) 0 refl refl d0 refl refl in
        let e1 = side-ends 1 (omega arith) (0 + side_count d0) refl refl d1 refl refl in
        let e2 = side-ends 2 (omega arith) (0 + side_count d0 + side_count d1) refl refl d2 refl refl in
        let e3 = side-ends 3 (omega arith) (0 + side_count d0 + side_count d1 + side_count d2) refl refl d3 refl refl in
        let back : end_from d3.first d3.listed ≡ d0.first =
        e3 ∙ ap (λ (x : ℕ). get_or all x 0) (last (length all) (0 + side_count d0 + side_count d1 + side_count d2 + side_count d3) some listed-all)
        ∙ sym (agree 0 (omega arith)) in
        (refl, (e0 ∙ sym (agree 1 (omega arith)), (e1 ∙ sym (agree 2 (omega arith)), (e2 ∙ sym (agree 3 (omega arith)), back))))
      where
        last : (n b : ℕ) → 0 < n → n ≡ b → last_before n b ≡ n - 1
        last n zero h e = absurd (omega arith)
        last n (suc b) h e = omega arith

-- ---- what stands where

abbrev pub Round : List Side → Type 0
Round ds = (a : ℕ) × Leads a ds a

pub agreeing : (ds : List Side) → length ds ≡ 4 → 0 < length (flat side_points ds) → Agree ds → Round ds
unfolding all
agreeing ds e some agree =
    four-sides (λ ds. 0 < length (flat side_points ds) → Agree ds → Round ds)
    (λ d0 d1 d2 d3 s g. (d0.first, agreeing-four d0 d1 d2 d3 g s)) ds e some agree

pub turned-count : (t : Bool) (ds : List Side) → length (turned_if t ds) ≡ length ds
unfolding turned_onto
turned-count false ds = refl
turned-count true ds = onto ds [] ∙ omega arith
  where
    onto : (ds es : List Side) → length (turned_onto ds es) ≡ length ds + length es
    onto [] es = omega arith
    onto (d ∷ ds) es = let r = onto ds (backward d ∷ es) in omega arith

pub side-turned :
    (t : Bool) (ds : List Side) → length ds ≡ 4 → (k : ℕ) → k < 4 →
    get_or (map side_count (turned_if t ds)) k 0 ≡ get_or (map side_count ds) (cond t (turned_side k) k) 0
unfolding turned_onto
side-turned false ds e = λ k h. refl
side-turned true ds e =
    four-sides (λ ds. (k : ℕ) → k < 4 → get_or (map side_count (turned_face ds)) k 0 ≡ get_or (map side_count ds) (3 - k) 0) each ds e
  where
    same : (d : Side) → side_count (backward d) ≡ side_count d
    same d = backward-count d.first d.listed [] ∙ omega arith

    each :
        (d0 d1 d2 d3 : Side) (k : ℕ) → k < 4 →
        get_or (map side_count (turned_face (d0 ∷ d1 ∷ d2 ∷ d3 ∷ []))) k 0 ≡ get_or (map side_count (d0 ∷ d1 ∷ d2 ∷ d3 ∷ [])) (3 - k) 0
    each d0 d1 d2 d3 zero h = same d3
    each d0 d1 d2 d3 (suc zero) h = same d2
    each d0 d1 d2 d3 (suc (suc zero)) h = same d1
    each d0 d1 d2 d3 (suc (suc (suc zero))) h = same d0
    each d0 d1 d2 d3 (suc (suc (suc (suc k)))) h = absurd (omega arith)

pub first-turned :
    (t : Bool) (ds : List Side) → length ds ≡ 4 → Round ds → (k : ℕ) → k < 4 →
    get_or (map side_first (turned_if t ds)) k 0 ≡ get_or (map side_first ds) (cond t (turned_first k) k) 0
unfolding turned_onto Leads
first-turned false ds e r = λ k h. refl
first-turned true ds e r =
    four-sides
    (λ ds. Round ds → (k : ℕ) → k < 4 → get_or (map side_first (turned_face ds)) k 0 ≡ get_or (map side_first ds) (turned_first k) 0) each ds e r
  where
    each :
        (d0 d1 d2 d3 : Side) → Round (d0 ∷ d1 ∷ d2 ∷ d3 ∷ []) → (k : ℕ) → k < 4 →
        get_or (map side_first (turned_face (d0 ∷ d1 ∷ d2 ∷ d3 ∷ []))) k 0 ≡ get_or (map side_first (d0 ∷ d1 ∷ d2 ∷ d3 ∷ [])) (turned_first k) 0
    each d0 d1 d2 d3 (a, (e0, (e1, (e2, (e3, e4))))) zero h = backward-first d3.first d3.listed [] ∙ e4 ∙ e0
    each d0 d1 d2 d3 (a, (e0, (e1, (e2, (e3, e4))))) (suc zero) h = backward-first d2.first d2.listed [] ∙ e3
    each d0 d1 d2 d3 (a, (e0, (e1, (e2, (e3, e4))))) (suc (suc zero)) h = backward-first d1.first d1.listed [] ∙ e2
    each d0 d1 d2 d3 (a, (e0, (e1, (e2, (e3, e4))))) (suc (suc (suc zero))) h = backward-first d0.first d0.listed [] ∙ e1
    each d0 d1 d2 d3 r (suc (suc (suc (suc k)))) h = absurd (omega arith)

module _ (ds : List Side) (r : Round ds) where
  abbrev way : List Listed
  way = flat listed_of ds

  turned-listed : flat listed_of (turned_face ds) ≡ (backward_from r.0 way []).listed
  unfolding flat
  turned-listed = turned-way r.0 r.0 ds [] r.1 ∙ append-nil (backward_from r.0 way []).listed

  points-length : length (flat side_points ds) ≡ length way
  points-length = ap length (points-flat ds) ∙ length-map way _

  intervals-length : length (flat side_intervals ds) ≡ length way
  intervals-length = ap length (intervals-flat ds) ∙ length-map way _

pub turned-points :
    (t : Bool) (ds : List Side) → Round ds → length (flat side_points (turned_if t ds)) ≡ length (flat side_points ds)
turned-points false ds r = refl
turned-points true ds r =
    ap length (points-flat (turned_face ds) ∙ ap points_in (turned-listed ds r))
    ∙ length-map (backward_from r.0 (way ds r) []).listed _ ∙ backward-count r.0 (way ds r) [] ∙ plus_none (length (way ds r))
    ∙ sym (points-length ds r)
  where
    plus_none : (n : ℕ) → n + 0 ≡ n
    plus_none n = omega arith

pub point-turned :
    (t : Bool) (ds : List Side) → Round ds → (n i : ℕ) → length (flat side_points ds) ≡ n → i < n →
    get_or (flat side_points (turned_if t ds)) i 0 ≡ get_or (flat side_points ds) (cond t (turned_point n i) i) 0
point-turned false ds r n i e h = refl
point-turned true ds r n i e h =
    let k : length (flat listed_of ds) ≡ n = sym (points-length ds r) ∙ e in
    ap (λ (l : List ℕ). get_or l i 0) (points-flat (turned_face ds) ∙ ap points_in (turned-listed ds r))
    ∙ points-back r.0 (flat listed_of ds) [] i (omega (arith, k))
    ∙ go r.0 (flat listed_of ds) k (leads-end r.0 r.0 ds r.1) (ℕ_discrete (suc i) n)
    ∙ ap (λ (l : List ℕ). get_or l (turned_point n i) 0) (sym (points-flat ds))
  where
    go :
        (a : ℕ) (w : List Listed) → length w ≡ n → end_from a w ≡ a → Dec (suc i ≡ n) →
        get_or (a ∷ points_in w) (length w - 1 - i) 0 ≡ get_or (points_in w) (turned_point n i) 0
    go a w k round (yes q) =
        let z : length w - 1 - i ≡ 0 = omega arith in
        let y : length w - 1 ≡ i = omega arith in
        ap (λ (x : ℕ). get_or (a ∷ points_in w) x 0) z ∙ sym round
        ∙ end-last a w (omega arith) ∙ ap (λ (x : ℕ). get_or (points_in w) x 0) (y ∙ sym (turned-last n i q))
    go a w k round (no q) =
        let z : length w - 1 - i ≡ suc (n - 2 - i) = omega arith in
        ap (λ (x : ℕ). get_or (a ∷ points_in w) x 0) z ∙ ap (λ (x : ℕ). get_or (points_in w) x 0) (sym (turned-other n i q))

pub interval-turned :
    (t : Bool) (ds : List Side) → Round ds → (n i : ℕ) → length (flat side_points ds) ≡ n → i < n →
    get_or (flat side_intervals (turned_if t ds)) i nan ≡ get_or (flat side_intervals ds) (cond t (turned_interval n i) i) nan
interval-turned false ds r n i e h = refl
interval-turned true ds r n i e h =
    let k : length (flat listed_of ds) ≡ n = sym (points-length ds r) ∙ e in
    let y : length (flat listed_of ds) - 1 - i ≡ n - 1 - i = omega (arith, k) in
    ap (λ (l : List Float). get_or l i nan) (intervals-flat (turned_face ds) ∙ ap intervals_in (turned-listed ds r))
    ∙ intervals-back r.0 (flat listed_of ds) [] i (omega (arith, k))
    ∙ ap (λ (l : List Float). get_or l (length (flat listed_of ds) - 1 - i) nan) (sym (intervals-flat ds))
    ∙ ap (λ (x : ℕ). get_or (flat side_intervals ds) x nan) y
