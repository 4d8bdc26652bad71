-- Walks over tables and cycles of darts: lists of passed edges make cycles, and cycles make lists of passed edges. One law each
-- serves faces and points. Assumes nothing.
use mathlib.Core.Path.{◌≡◌, refl, sym, ◌∙◌, ap, subst}
use mathlib.Core.List.{List, [], ◌∷◌}
use mathlib.Core.Logic.{◌≢◌}
use Prim.Native.Nat.{ℕ, zero, suc, ◌+◌, ◌≤◌, ◌<◌}
use native.Mathlib.Omega.{arith}
use native.Mathlib.Decide.{ℕ_discrete}
use lib.ListN.{length, get_or}
use Rattle.closed_meshes.specs.Cycles.{Cycles}
use Rattle.closed_meshes.proofs.Cycles.{rank-injective}
use Rattle.audited_meshes.specs.Folds.{occurrences}
use Rattle.audited_meshes.specs.Audited.{Passes, last, more}
use Rattle.audited_meshes.proofs.Walks.{occurrences-here, occurrences-there}
use Rattle.audited_meshes.proofs.Positions.{position, position-below, position-start, position-step, step-of-last}

-- D darts, C classes; num d is the edge number of dart d; es c are the edges that the walk about class c passes
module _
    {D C : Type 0} (num : D → ℕ) (step : D → D) (cls : D → C) (start : C → D) (len : C → ℕ)
    (step_of : C → ℕ → ℕ) (On : C → ℕ → Type 0) (start_of : C → ℕ) (es : C → List ℕ)
    (passes : (c : C) → Passes (step_of c) (On c) (start_of c) (start_of c) (es c))
    (len_is : (c : C) → length (es c) ≡ len c)
    (passed : (d : D) → 0 < occurrences (num d) (es (cls d)))
    (settled : (d d' : D) → num d ≡ num d' → cls d ≡ cls d' → d ≡ d')
    (cls-step : (d : D) → cls (step d) ≡ cls d)
    (cls-start : (c : C) → cls (start c) ≡ c)
    (num-step : (d : D) → num (step d) ≡ step_of (cls d) (num d))
    (num-start : (c : C) → num (start c) ≡ start_of c) where
  -- the rank of a dart is the place of its edge on the walk about its class
  place : D → ℕ
  place d = position (num d) (es (cls d))

  place-step : (d : D) → suc (place d) < len (cls d) → place (step d) ≡ suc (place d)
  unfolding place
  place-step d h =
      ap (λ c. position (num (step d)) (es c)) (cls-step d)
      ∙ ap (λ i. position i (es (cls d))) (num-step d)
      ∙ position-step (step_of (cls d)) (On (cls d)) (start_of (cls d)) (es (cls d)) (passes (cls d)) (num d) (passed d) (omega (arith, len_is (cls d)))

  place-last : (d : D) → suc (place d) ≡ len (cls d) → step d ≡ start (cls d)
  unfolding place
  place-last d h =
      settled (step d) (start (cls d))
      (num-step d
      ∙ step-of-last (step_of (cls d)) (On (cls d)) (start_of (cls d)) (es (cls d)) (passes (cls d)) (num d) (passed d) (h ∙ sym (len_is (cls d)))
      ∙ sym (num-start (cls d)))
      (cls-step d ∙ sym (cls-start (cls d)))

  pub cycles-of-walks : Cycles step cls start len
  unfolding place
  cycles-of-walks =
      record {
        rank = place;
        cls-step = cls-step;
        cls-start = cls-start;
        rank-start = λ c.
            ap (λ x. position (num (start c)) (es x)) (cls-start c)
            ∙ ap (λ i. position i (es c)) (num-start c)
            ∙ position-start (step_of c) (On c) (start_of c) (es c) (passes c);
        rank_below = λ d. subst (λ n. place d < n) (len_is (cls d)) (position-below (num d) (es (cls d)) (passed d));
        rank_step = place-step;
        step-last = place-last;
      }

-- the dart of class x and rank j, whose edge number is i
pub record DartAt
    {D C : Type 0} {step : D → D} {cls : D → C} {start : C → D} {len : C → ℕ} (c : Cycles step cls start len) (num : D → ℕ) (x : C) (i j : ℕ) : Type 0 where
  pub dart : D
  pub dart-cls : cls dart ≡ x
  pub dart-rank : c.rank dart ≡ j
  pub dart-num : num dart ≡ i

-- the walk about class x: it passes the edges of the darts of x in the order of their ranks
pub record ClassWalk
    {D C : Type 0} {step : D → D} {cls : D → C} {start : C → D} {len : C → ℕ} (c : Cycles step cls start len) (num : D → ℕ) (x : C)
    (step_of : ℕ → ℕ) (On : ℕ → Type 0) : Type 0 where
  pub edges : List ℕ
  pub passes : Passes step_of On (num (start x)) (num (start x)) edges
  pub length-is : length edges ≡ len x
  pub passed : (y : D) → cls y ≡ x → 0 < occurrences (num y) edges
  pub dart-at : (j : ℕ) → j < length edges → DartAt c num x (get_or edges j 0) j

-- a cycle whose step can be undone, and one class x of it; edges of darts of x are On, and step_of goes as the step does
module _
    {D C : Type 0} {step : D → D} {cls : D → C} {start : C → D} {len : C → ℕ} (c : Cycles step cls start len)
    (undo : D → D) (step-undo : (d : D) → step (undo d) ≡ d) (num : D → ℕ)
    (settled : (d d' : D) → num d ≡ num d' → cls d ≡ cls d' → d ≡ d')
    (x : C) (step_of : ℕ → ℕ) (On : ℕ → Type 0)
    (num-step : (d : D) → cls d ≡ x → step_of (num d) ≡ num (step d))
    (on : (d : D) → cls d ≡ x → On (num d)) where
  -- the edges of the k darts from d on
  edges_from : ℕ → D → List ℕ
  edges_from zero d = []
  edges_from (suc k) d = num d ∷ edges_from k (step d)

  length-edges_from : (k : ℕ) (d : D) → length (edges_from k d) ≡ k
  unfolding edges_from
  length-edges_from zero d = refl
  length-edges_from (suc k) d = ap suc (length-edges_from k (step d))

  -- d is k darts before the end of the class
  Before : ℕ → D → Type 0
  Before k d = (cls d ≡ x) × (k + c.rank d ≡ len x)

  rank-next : (k : ℕ) (d : D) → Before (suc (suc k)) d → c.rank (step d) ≡ suc (c.rank d)
  unfolding Before
  rank-next k d b = c.rank_step d (subst (λ y. suc (c.rank d) < len y) (sym b.0) (omega (arith, b.1)))

  before-next : (k : ℕ) (d : D) → Before (suc (suc k)) d → Before (suc k) (step d)
  unfolding Before
  before-next k d b = (c.cls-step d ∙ b.0, omega (arith, b.1, rank-next k d b))

  passes-from : (k : ℕ) (d : D) → Before (suc k) d → Passes step_of On (num (start x)) (num d) (edges_from (suc k) d)
  unfolding Before edges_from
  passes-from zero d b =
      last (on d b.0)
      (num-step d b.0
      ∙ ap num (c.step-last d (subst (λ y. suc (c.rank d) ≡ len y) (sym b.0) (omega (arith, b.1))) ∙ ap start b.0))
  passes-from (suc k) d b =
      more (on d b.0) (away (rank-next k d b))
      (subst (λ i. Passes step_of On (num (start x)) i (edges_from (suc k) (step d))) (sym (num-step d b.0)) (passes-from k (step d) (before-next k d b)))
    where
      away : c.rank (step d) ≡ suc (c.rank d) → step_of (num d) ≢ num (start x)
      away up e =
          let same : step d ≡ start x = settled (step d) (start x) (sym (num-step d b.0) ∙ e) (c.cls-step d ∙ b.0 ∙ sym (c.cls-start x)) in
          omega (arith, up, ap c.rank same, c.rank-start x)

  before-start : (k : ℕ) → len x ≡ suc k → Before (suc k) (start x)
  unfolding Before
  before-start k e = (c.cls-start x, omega (arith, c.rank-start x))

  len-positive : 0 < len x
  len-positive = omega (arith, subst (λ y. c.rank (start x) < len y) (c.cls-start x) (c.rank_below (start x)))

  passes-of-cycle : Passes step_of On (num (start x)) (num (start x)) (edges_from (len x) (start x))
  passes-of-cycle = go (len x) refl
    where
      go : (n : ℕ) → len x ≡ n → Passes step_of On (num (start x)) (num (start x)) (edges_from n (start x))
      go zero e = absurd (omega (arith, len-positive))
      go (suc k) e = passes-from k (start x) (before-start k e)

  dart-from : (k : ℕ) (d : D) → Before k d → (j : ℕ) → j < k → DartAt c num x (get_or (edges_from k d) j 0) (c.rank d + j)
  unfolding Before edges_from
  dart-from zero d b j l = absurd (omega arith)
  dart-from (suc k) d b zero l = record { dart = d; dart-cls = b.0; dart-rank = omega arith; dart-num = refl }
  dart-from (suc zero) d b (suc j) l = absurd (omega arith)
  dart-from (suc (suc k)) d b (suc j) l =
      let r = dart-from (suc k) (step d) (before-next k d b) j (omega arith) in
      record { dart = r.dart; dart-cls = r.dart-cls; dart-rank = omega (arith, r.dart-rank, rank-next k d b); dart-num = r.dart-num }

  dart-of-place : (j : ℕ) → j < len x → DartAt c num x (get_or (edges_from (len x) (start x)) j 0) j
  dart-of-place j l = go (len x) refl l
    where
      go : (n : ℕ) → len x ≡ n → j < n → DartAt c num x (get_or (edges_from n (start x)) j 0) j
      go zero e l = absurd (omega arith)
      go (suc k) e l =
          let r = dart-from (suc k) (start x) (before-start k e) j l in
          record { dart = r.dart; dart-cls = r.dart-cls; dart-rank = omega (arith, r.dart-rank, c.rank-start x); dart-num = r.dart-num }

  in-from : (k : ℕ) (d : D) → Before (suc k) d → (y : D) → cls y ≡ x → c.rank d ≤ c.rank y → 0 < occurrences (num y) (edges_from (suc k) d)
  unfolding Before edges_from
  in-from zero d b y cy l =
      let below : c.rank y < len x = subst (λ z. c.rank y < len z) cy (c.rank_below y) in
      let same : d ≡ y = rank-injective c undo step-undo d y (b.0 ∙ sym cy) (omega (arith, b.1)) in
      subst (λ z. 0 < occurrences (num z) (num d ∷ [])) same (omega (arith, occurrences-here (num d) []))
  in-from (suc k) d b y cy l = go (in-from k (step d) (before-next k d b) y cy) (ℕ_discrete (c.rank d) (c.rank y))
    where
      rest : List ℕ
      rest = edges_from (suc k) (step d)

      go : (c.rank (step d) ≤ c.rank y → 0 < occurrences (num y) rest) → Dec (c.rank d ≡ c.rank y) → 0 < occurrences (num y) (num d ∷ rest)
      go ih (yes e) =
          let same : d ≡ y = rank-injective c undo step-undo d y (b.0 ∙ sym cy) e in
          subst (λ z. 0 < occurrences (num z) (num d ∷ rest)) same (omega (arith, occurrences-here (num d) rest))
      go ih (no h) = later (ih (omega (arith, rank-next k d b))) (ℕ_discrete (num d) (num y))
        where
          later : 0 < occurrences (num y) rest → Dec (num d ≡ num y) → 0 < occurrences (num y) (num d ∷ rest)
          later l (yes e) = subst (λ i. 0 < occurrences i (num d ∷ rest)) e (omega (arith, occurrences-here (num d) rest))
          later l (no h) = omega (arith, occurrences-there (num y) (num d) rest h)

  passed-of-cycle : (y : D) → cls y ≡ x → 0 < occurrences (num y) (edges_from (len x) (start x))
  passed-of-cycle y cy = go (len x) refl
    where
      go : (n : ℕ) → len x ≡ n → 0 < occurrences (num y) (edges_from n (start x))
      go zero e = absurd (omega (arith, len-positive))
      go (suc k) e = in-from k (start x) (before-start k e) y cy (omega (arith, c.rank-start x))

  pub walk_of-cycle : ClassWalk c num x step_of On
  walk_of-cycle =
      record {
        edges = edges_from (len x) (start x);
        passes = passes-of-cycle;
        length-is = length-edges_from (len x) (start x);
        passed = passed-of-cycle;
        dart-at = λ j l. dart-of-place j (subst (λ n. j < n) (length-edges_from (len x) (start x)) l);
      }
