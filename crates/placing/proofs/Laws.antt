-- One turn of a loop that puts positions into their rows, for every rule; and only the length of the table of new positions counts.
-- Assumes nothing.
use mathlib.Core.Path.{◌≡◌, ◌∙◌, ap}
use mathlib.Core.List.{List, [], ◌∷◌}
use Prim.Native.Nat.{ℕ, suc, ◌+◌, ◌*◌, ◌<◌}
use native.Mathlib.Numerals.{add-one}
use lib.ListN.{length}
use lib.Ieee.{Float}
use Rattle.positions.specs.declared.Position.{Position}
use Rattle.positions.specs.declared.Placed.TheVariants.{At, NotFinite}
use Rattle.positions.specs.Position.{placed_at}
use Rattle.tables.specs.Rows.{put_row}
use Rattle.placing.specs.Placing.{EdgePointsFit, OldPointsFit}
use Rattle.steps.specs.Positions.{Placing, so_far, not_finite, put, put_next, placed_by}
use Rattle.steps.proofs.Placing.{stopped-stays}

module _ (row : ℕ → ℕ) (rule : ℕ → List Float → Position) (r : Placing) where
  -- one position more
  pub placed-more : (i : ℕ) (ps : List Float) {x y z : Float} → placed_by i row rule r ≡ so_far ps → placed_at (rule i ps) ≡ At x y z
      → placed_by (i + 1) row rule r ≡ so_far (put_row ps (row i * 3) (x ∷ y ∷ z ∷ []))
  unfolding placed_by
  placed-more i ps h a = rw (add-one i) (ap (put_next (row i) (rule i)) h ∙ ap (λ p. put (row i) p ps) a)

  -- one that is not finite
  placed-stop : (i : ℕ) (ps : List Float) → placed_by i row rule r ≡ so_far ps → placed_at (rule i ps) ≡ NotFinite → placed_by (suc i) row rule r ≡ not_finite
  unfolding placed_by
  placed-stop i ps h a = ap (put_next (row i) (rule i)) h ∙ ap (λ p. put (row i) p ps) a

  pub placed-ends : (n i : ℕ) (ps : List Float) → i < n → placed_by i row rule r ≡ so_far ps → placed_at (rule i ps) ≡ NotFinite
      → placed_by n row rule r ≡ not_finite
  placed-ends n i ps l h a = stopped-stays row rule n (suc i) r l (placed-stop i ps h a)

-- ---- only the length of the table of new positions counts

pub edges-fit-length : {ps is : List Float} {es newedges newfaces : List ℕ} {ne : ℕ} {newpositions new : List Float} → length new ≡ length newpositions
    → EdgePointsFit ps es is ne newedges newfaces newpositions → EdgePointsFit ps es is ne newedges newfaces new
edges-fit-length same fit =
    record {
      rule_fits = λ other e. fit.rule_fits other (e ∙ same);
      row-there = fit.row-there;
      place-there = λ e l. rw same (fit.place-there e l);
    }

pub points-fit-length : {ps is : List Float} {ws es newedges newfaces : List ℕ} {np : ℕ} {newpositions new : List Float} → length new ≡ length newpositions
    → OldPointsFit ps ws es is np newedges newfaces newpositions → OldPointsFit ps ws es is np newedges newfaces new
points-fit-length same fit =
    record {
      rule_fits = λ other e. fit.rule_fits other (e ∙ same);
      place-there = λ p l. rw same (fit.place-there p l);
    }
