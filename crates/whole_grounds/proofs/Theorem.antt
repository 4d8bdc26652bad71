-- The claims of the ground that is told without tables. Assumes nothing.
--     lists-came             what comes of building, by the ground that is told
--     refuses-by, accepts-none       the claims of `specs/Claims.antt`
use mathlib.Core.Path.{◌≡◌, refl, sym, ◌∙◌, ap}
use mathlib.Core.Bool.{Bool, true, false}
use mathlib.Core.Logic.{◌⊎◌, inl, inr}
use Prim.Native.Nat.{ℕ, ◌≤◌, ◌<◌}
use native.Mathlib.Omega.{arith}
use Rattle.std.specs.Prelude.{Result, Ok, Err, ⊤}
use Rattle.tables.specs.declared.Sizes.{Sizes}
use Rattle.tables.specs.declared.Counts.{Counts}
use Rattle.tables.specs.Mesh.{Mesh, none}
use Rattle.built_meshes.specs.Lists.{Lists, faces_of, counts_fit, listed_fit}
use Rattle.built_meshes.specs.Building.{build}
use Rattle.built_meshes.specs.Places.{IsPlace}
use Rattle.built_meshes.specs.Grounds.{HasFewRows, HasMissingFace, HasNoEdge, HasMissedEdge, Where, lists, face, edge, whole, FirstMet}
use Rattle.built_meshes.specs.Grounds.{over-counts, unfit-number, missing-face, no_edge, missed-edge}
use Rattle.built_meshes.specs.declared.Ground.{Ground}
use Rattle.built_meshes.specs.declared.Ground.TheVariants.{OverCounts, UnfitNumber, MissingFace, NoEdge, MissedEdge}
use Rattle.built_meshes.proofs.Before.{ClearLists, first-lists, first-whole, nothing-met, Tests, Triple, Same}
use Rattle.built_meshes.proofs.Begin.{counts-is, counts-fail, counted-fits, numbers-is, numbers-fail, numbered-fits}
use Rattle.built_meshes.proofs.Theorem.{first-ground, accepts-exactly}
use Rattle.mended_lists.specs.Edges.{places_of}
use Rattle.mended_lists.specs.Mending.{edges_shared}
use Rattle.refusal_places.specs.declared.Spot.{Spot}
use Rattle.refusal_places.specs.declared.Spot.TheVariants.{Face, Edge}
use Rattle.refusal_places.specs.Spots.{first_spot}
use Rattle.refusal_places.proofs.Theorem.{SoFar, Came, passed, at-face, at_edge, first-came}
use Rattle.whole_grounds.specs.Turning.{points_begun, turns_come, whole_verdict_if, whole_met, verdict_if, lists_met}
use Rattle.whole_grounds.specs.Claims.{RefusesBy, AcceptsNone}
use Rattle.whole_grounds.proofs.Turning.{missing-of, none-missing, bare_of, none_bare, missed-of, none-missed}

module _ (c : Sizes) (l : Lists) (m : Mesh) (few : c.faces ≤ none) (rows : ¬ HasFewRows l m) where
  pub data Answered : Result ⊤ Ground → Type 0 where
    refuses : {g : Ground} → (build c l m).answer ≡ Err g → Answered (Err g)
    accepts : {k : Counts} → (build c l m).answer ≡ Ok k → Answered (Ok tt)

  by : (w : Where) (g : Ground) → FirstMet c l m w g → Answered (Err g)
  by w g h = refuses ((first-ground c l m few g).1 (w, h))

  whole-came : (clear : ClearLists c l m) → SoFar c l m clear (faces_of l) → Answered (whole_met l)
  unfolding whole_met
  whole-came clear far = go (edges_shared (places_of l)) refl (points_begun l) refl (turns_come l) refl
    where
      tested : (f : ℕ) → f < faces_of l → (k : ℕ) → Tests l f k
      tested f b k = far.tested f b k

      entered : (f i : ℕ) → IsPlace l f i → (¬ Triple l f i) × (¬ Same l f i)
      entered f i is = far.entered f i is is.0

      go :
          (a : Bool) → edges_shared (places_of l) ≡ a → (b : Bool) → points_begun l ≡ b → (d : Bool) → turns_come l ≡ d → Answered (whole_verdict_if a b d)
      go false x b y d z =
          by whole MissingFace
          (first-whole c l m clear tested entered 20 (λ h. absurd (omega arith)) (λ h. absurd (omega arith)) (λ h. absurd (omega arith))
          MissingFace refl (missing-face (missing-of c l m clear far x)))
      go true x false y d z =
          by whole NoEdge
          (first-whole c l m clear tested entered 21 (λ h. none-missing c l m clear far x) (λ h. absurd (omega arith))
          (λ h. absurd (omega arith)) NoEdge refl (no_edge (bare_of c l m clear far y)))
      go true x true y false z =
          by whole MissedEdge
          (first-whole c l m clear tested entered 22 (λ h. none-missing c l m clear far x) (λ h. none_bare c l m clear far y)
          (λ h. absurd (omega arith)) MissedEdge refl (missed-edge (missed-of c l m clear far x z)))
      go true x true y true z =
          let free = nothing-met c l m clear tested entered (none-missing c l m clear far x) (none_bare c l m clear far y)
          (none-missed c l m clear far x z) in
          accepts ((accepts-exactly c l m few).1 (λ g h. free h.0 g h.1)).1

  pub lists-came : Answered (lists_met c l)
  unfolding lists_met
  lists-came = go (counts_fit c l) refl (listed_fit l) refl
    where
      faces : (clear : ClearLists c l m) (s : Result ⊤ Spot) → Came c l m clear (SoFar c l m clear (faces_of l)) s → Answered (verdict_if true true s (whole_met l))
      faces clear s (passed far) = whole-came clear far
      faces clear s (at-face {f = f} {g = g} h) = by (face f) g h
      faces clear s (at_edge {f = f} {i = i} {g = g} h) = by (edge f i) g h

      go : (a : Bool) → counts_fit c l ≡ a → (b : Bool) → listed_fit l ≡ b → Answered (verdict_if a b (first_spot l) (whole_met l))
      go false x b y =
          by lists OverCounts
          (first-lists c l m 2 (λ z. absurd (omega arith)) (λ z. absurd (omega arith)) (omega arith) OverCounts refl
          (over-counts (counts-fail c l x)))
      go true x false y =
          by lists UnfitNumber
          (first-lists c l m 3 (λ z. counted-fits c l (counts-is c l x)) (λ z. absurd (omega arith)) (omega arith) UnfitNumber refl
          (unfit-number (numbers-fail l y)))
      go true x true y =
          let clear : ClearLists c l m =
          record { counts = counted-fits c l (counts-is c l x); numbers = numbered-fits l (numbers-is l y); rows = rows } in
          faces clear (first_spot l) (first-came c l m clear)

pub refuses-by : RefusesBy
refuses-by c l m few rows g = (to (lists_met c l) (lists-came c l m few rows), λ e. from (lists_met c l) e (lists-came c l m few rows))
  where
    to : (v : Result ⊤ Ground) → Answered c l m few rows v → (build c l m).answer ≡ Err g → v ≡ Err g
    to v (refuses {g = g'} a) b = let e : ◌≡◌ {A = Result Counts Ground} (Err g') (Err g) = sym a ∙ b in let y : g' ≡ g = cc in ap Err y
    to v (accepts {k = k} a) b = absurd (let e : ◌≡◌ {A = Result Counts Ground} (Ok k) (Err g) = sym a ∙ b in let z : ◌≡◌ {A = ℕ} 0 1 = cc in omega arith)

    from : (v : Result ⊤ Ground) → v ≡ Err g → Answered c l m few rows v → (build c l m).answer ≡ Err g
    from v e (refuses {g = g'} a) = let y : g' ≡ g = cc in a ∙ ap Err y
    from v e (accepts a) = absurd (let z : ◌≡◌ {A = ℕ} 0 1 = cc in omega arith)

pub accepts-none : AcceptsNone
accepts-none c l m few rows =
    (λ w. to (lists_met c l) (lists-came c l m few rows) w.0 w.1, λ e. from (lists_met c l) e (lists-came c l m few rows))
  where
    to : (v : Result ⊤ Ground) → Answered c l m few rows v → (k : Counts) → (build c l m).answer ≡ Ok k → v ≡ Ok tt
    to v (refuses {g = g} a) k b = absurd (let e : ◌≡◌ {A = Result Counts Ground} (Err g) (Ok k) = sym a ∙ b in let z : ◌≡◌ {A = ℕ} 0 1 = cc in omega arith)
    to v (accepts a) k b = refl

    from : (v : Result ⊤ Ground) → v ≡ Ok tt → Answered c l m few rows v → (k : Counts) × ((build c l m).answer ≡ Ok k)
    from v e (refuses a) = absurd (let z : ◌≡◌ {A = ℕ} 0 1 = cc in omega arith)
    from v e (accepts {k = k} a) = (k, a)
