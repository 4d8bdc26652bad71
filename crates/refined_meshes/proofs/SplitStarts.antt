-- Splits of all old edges, each once, leave every old point the start edge that is settled after the visits: a start edge changes only when
-- it is itself split, and its new half is no old edge. Assumes nothing.
use mathlib.Core.Path.{◌≡◌, refl, ◌∙◌, ap}
use mathlib.Core.Bool.{Bool, true, false, ◌&&◌, cond}
use mathlib.Core.List.{List, [], ◌∷◌}
use Prim.Native.Nat.{ℕ, ◌+◌, ◌≤◌, ◌<◌}
use native.Mathlib.Omega.{arith}
use native.Mathlib.Decide.{dec_lt}
use lib.Dec.{eqb}
use lib.Ieee.{Float}
use borrow.Author.Tests.{eqb-true, lt-ltb, le-ltb}
use Rattle.tables.specs.Mesh.{Mesh, start}
use Rattle.closed_meshes.specs.Mesh.{MeshOver}
use Rattle.closed_meshes.specs.Closed.{Closed}
use Rattle.closed_meshes.specs.Refinement.{org, dst}
use Rattle.closed_meshes.specs.Renumbering.{Row}
use Rattle.closed_meshes.proofs.Counting.{row-path}
use Rattle.closed_meshes.proofs.Isomorphisms.{to-injective}
use Rattle.audited_meshes.specs.Folds.{one_if, occurrences}
use Rattle.audited_meshes.specs.Rows.{Stands}
use Rattle.refined_meshes.specs.declared.Edition.TheVariants.{First}
use Rattle.refined_meshes.specs.State.{State, with_positions}
use Rattle.refined_meshes.specs.Starts.{new_half}
use Rattle.refined_meshes.specs.Refines.{Refines}
use Rattle.refined_meshes.specs.SplitStarts.{after_split, after_splits, SplitsSettle}
use Rattle.refined_meshes.proofs.Starts.{half_is}

module _ (far half : ℕ → ℕ) (p : ℕ) where
  -- A split of another edge changes nothing.
  other-split : (s e : ℕ) → eqb e s ≡ false → after_split far half p s e ≡ s
  other-split s e q = ap (λ b. cond (eqb (far e) p && b) (half e) s) q ∙ go (eqb (far e) p)
    where
      go : (b : Bool) → cond (b && false) (half e) s ≡ s
      go true = refl
      go false = refl

  own_split : (s e : ℕ) → eqb e s ≡ true → after_split far half p s e ≡ cond (eqb (far s) p) (half s) s
  own_split s e q =
      let same : e ≡ s = eqb-true e s q in
      ap (λ b. cond (eqb (far e) p && b) (half e) s) q ∙ go (eqb (far e) p) ∙ ap (λ i. cond (eqb (far i) p) (half i) s) same
    where
      go : (b : Bool) → cond (b && true) (half e) s ≡ cond b (half e) s
      go true = refl
      go false = refl

  -- A start edge that is not split stays.
  stays : (es : List ℕ) (s : ℕ) → occurrences s es ≡ 0 → after_splits far half p es s ≡ s
  unfolding after_splits occurrences
  stays [] s q = refl
  stays (e ∷ es) s q = go (stays es s) (eqb e s) refl q
    where
      go :
          (occurrences s es ≡ 0 → after_splits far half p es s ≡ s) → (b : Bool) → eqb e s ≡ b → one_if b + occurrences s es ≡ 0
          → after_splits far half p es (after_split far half p s e) ≡ s
      go later true k z = absurd (omega arith)
      go later false k z = ap (after_splits far half p es) (other-split s e k) ∙ later (omega arith)

  -- A start edge that is split once, and whose half is not split.
  split-once :
      (es : List ℕ) (s : ℕ) → occurrences s es ≡ 1 → occurrences (half s) es ≡ 0 → after_splits far half p es s ≡ cond (eqb (far s) p) (half s) s
  unfolding after_splits occurrences
  split-once [] s q k = absurd (omega arith)
  split-once (e ∷ es) s q k = go (split-once es s) (eqb e s) refl q
    where
      none-later : occurrences (half s) es ≡ 0
      none-later = omega (arith, k)

      settled : occurrences s es ≡ 0 → (b : Bool) → after_splits far half p es (cond b (half s) s) ≡ cond b (half s) s
      settled z true = stays es (half s) none-later
      settled z false = stays es s z

      go :
          (occurrences s es ≡ 1 → occurrences (half s) es ≡ 0 → after_splits far half p es s ≡ cond (eqb (far s) p) (half s) s) → (b : Bool)
          → eqb e s ≡ b → one_if b + occurrences s es ≡ 1
          → after_splits far half p es (after_split far half p s e) ≡ cond (eqb (far s) p) (half s) s
      go later true i z = ap (after_splits far half p es) (own_split s e i) ∙ settled (omega arith) (eqb (far s) p)
      go later false i z = ap (after_splits far half p es) (other-split s e i) ∙ later (omega arith) none-later

-- The new half of an old edge is no old edge: those have the rows of origin halves.
module _
    (m : Mesh) {np ne nf : ℕ} {t : MeshOver (Row np) (Row ne) (Row nf)} (stands : Stands m t) (c : Closed t) (order : List ℕ) (s : State) (ps : List Float)
    (r : Refines First m t c order (with_positions ps s))
  where
    half-new : (e : Row ne) → ne ≤ new_half (with_positions ps s) e.0
    half-new e = go (dec_lt (new_half (with_positions ps s) e.0) ne)
      where
        go : Dec (new_half (with_positions ps s) e.0 < ne) → ne ≤ new_half (with_positions ps s) e.0
        go (no l) = omega arith
        go (yes l) =
            let i : Row ne = (new_half (with_positions ps s) e.0, l) in
            let z = to-injective r.numbering.edges (org i) (dst e) (row-path _ _ (r.origin-row i ∙ half_is m stands c order s ps r e)) in
            absurd (let y : ◌≡◌ {A = ℕ} 0 1 = cc in omega arith)

pub splits-settle : SplitsSettle
splits-settle m np ne nf h order s ps r es once p l =
    let e : Row ne = h.mesh.start (p, l) in
    let at : start m p ≡ e.0 = h.stands.start-stands (p, l) in
    let below : start m p < ne = omega (arith, e.1) in
    let above : ne ≤ new_half (with_positions ps s) (start m p) = rw at (half-new m h.stands h.closed order s ps r e) in
    split-once _ (new_half (with_positions ps s)) p es (start m p) (once (start m p) ∙ ap one_if (lt-ltb (start m p) ne below))
    (once (new_half (with_positions ps s) (start m p)) ∙ ap one_if (le-ltb (new_half (with_positions ps s) (start m p)) ne above))
