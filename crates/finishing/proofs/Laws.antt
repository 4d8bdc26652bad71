-- The laws of the end of a step. Assumes nothing.
--     over-first-rows                  only the first rows are copied
--     ended-whole, ended-not-finite    a step that is made, and one that meets 33
--     rooms-kept                       rows are there as before, where lengths are as before
use Rattle.std.specs.Prelude.{Ok, Err}
use mathlib.Core.Path.{◌≡◌, ap}
use mathlib.Core.List.{List, ◌++◌}
use Prim.Native.Nat.{ℕ, ◌*◌}
use lib.ListN.{length, take, drop}
use native.Mathlib.Omega.{arith}
use lib.Seq.{take-take}
use native.Mathlib.Nat.{le_refl}
use Rattle.tables.specs.Mesh.{Mesh}
use Rattle.tables.specs.Rows.{over}
use Rattle.tables.specs.declared.Counts.{Counts}
use Rattle.steps.specs.declared.StepRefusal.TheVariants.{NotFinite}
use Rattle.steps.specs.Step.{Made, whole, not_finite_made, StepOutcome, ended}
use Rattle.tables.specs.Counted.{first_rows, zeroed_rows, over_rows}
use Rattle.steps.specs.Rows.{Room}

over_first : {A : Type 0} (n : ℕ) (new xs : List A) → over n (take n new) xs ≡ over n new xs
unfolding over
over_first n new xs = ap (λ ys. ys ++ drop n xs) (take-take n n new (le_refl n))

-- only the first rows are copied
pub over-first-rows : (c : Counts) (new t : Mesh) → over_rows c (first_rows c new) t ≡ over_rows c new t
unfolding over_rows first_rows
over-first-rows c new t =
    rw (
      over_first (c.points * 3) new.positions t.positions,
      over_first (c.points * 3) new.points t.points,
      over_first (c.edges * 8) new.edges t.edges,
      over_first c.edges new.intervals t.intervals,
      over_first (c.faces * 5) new.faces t.faces,
    )

-- ---- the end of a step: t₁ is scratch once the refined mesh is made, or was tried

module _ (m : Mesh) (c : Counts) (t t₁ : Mesh) (d : Made) (zeros : zeroed_rows c t₁ ≡ zeroed_rows c t) where
  pub ended-whole : {m₂ t₂ : Mesh} → d ≡ whole (first_rows c t₁) → m₂ ≡ over_rows c t₁ m → t₂ ≡ zeroed_rows c t₁
      → ◌≡◌ {A = StepOutcome} (record { answer = Ok c; tables = m₂; scratch = t₂ }) (ended m c t d)
  unfolding ended
  ended-whole e copied zeroed = rw (e, copied, zeroed, zeros, over-first-rows c t₁ m)

  pub ended-not-finite : {t₂ : Mesh} → d ≡ not_finite_made → t₂ ≡ zeroed_rows c t₁
      → ◌≡◌ {A = StepOutcome} (record { answer = Err NotFinite; tables = m; scratch = t₂ }) (ended m c t d)
  unfolding ended
  ended-not-finite e zeroed = rw (e, zeroed, zeros)

-- lengths after the refined mesh was made
pub rooms-kept : (c : Counts) (t t₁ : Mesh) → length t₁.positions ≡ length t.positions → length t₁.points ≡ length t.points
    → length t₁.edges ≡ length t.edges → length t₁.intervals ≡ length t.intervals → length t₁.faces ≡ length t.faces
    → Room c t → Room c t₁
rooms-kept c t t₁ lp lw le li lf h =
    record {
      positions = omega (arith, h.positions);
      points = omega (arith, h.points);
      edges = omega (arith, h.edges);
      intervals = omega (arith, h.intervals);
      faces = omega (arith, h.faces);
    }
