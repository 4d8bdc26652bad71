-- One turn of the loop that settles a side. Assumes nothing.
--     side-none, side-turn, side-end     nothing settled, one joining edge more, all of them
--     side-fit-length                    only the length of the table of intervals counts
--     both-settled                       both sides are settled
use mathlib.Core.Path.{◌≡◌, ◌∙◌, ap, ap₂}
use mathlib.Core.List.{List}
use Prim.Native.Nat.{ℕ, ◌+◌}
use lib.ListN.{length, set}
use lib.Ieee.{Float}
use Rattle.tables.specs.Layout.{left_cw_word, left_acw_word, right_cw_word, right_acw_word}
use Rattle.tables.specs.Parts.{edge_tables}
use Rattle.refined_meshes.specs.declared.Edition.TheVariants.{Second}
use Rattle.refined_meshes.specs.Settled.{neighbour_at, quarter_at, settled_side, settled_intervals, intervals_of_edition}
use Rattle.refined_meshes.proofs.Turns.{turns-none, turns-turn}
use Rattle.settling.specs.Settling.{SideFits, edge_rows_of}

module _ (es : List ℕ) (is : List Float) (es' : List ℕ) (w next prev : ℕ) where
  abbrev put : ℕ → List Float → List Float
  put e xs = set xs (neighbour_at es' w e) (quarter_at es is next prev e)

  pub side-none : (js : List Float) → js ≡ settled_side es is es' w next prev 0 js
  unfolding settled_side
  side-none js = turns-none put js

  pub side-turn :
      (e : ℕ) (xs js : List Float) (i : ℕ) (v : Float) → xs ≡ settled_side es is es' w next prev e js → i ≡ neighbour_at es' w e
      → v ≡ quarter_at es is next prev e → set xs i v ≡ settled_side es is es' w next prev (e + 1) js
  unfolding settled_side
  side-turn e xs js i v h p q = ap₂ (set xs) p q ∙ turns-turn put e xs js h

  pub side-end :
      (e n : ℕ) (xs js : List Float) → e ≡ n → xs ≡ settled_side es is es' w next prev e js → xs ≡ settled_side es is es' w next prev n js
  side-end e n xs js q h = h ∙ ap (λ (k : ℕ). settled_side es is es' w next prev k js) q

-- Only the length of the table of intervals counts.
pub side-fit-length :
    {es : List ℕ} {is : List Float} {ne : ℕ} {newedges : List ℕ} {js xs : List Float} {w next prev : ℕ} → length xs ≡ length js
    → SideFits es is ne newedges js w next prev → SideFits es is ne newedges xs w next prev
side-fit-length same fit =
    record {
      join-word = fit.join-word;
      next_word = fit.next_word;
      prev-word = fit.prev-word;
      rows = fit.rows;
      new-rows = fit.new-rows;
      next-there = fit.next-there;
      prev-there = fit.prev-there;
      join-there = λ e l. rw same (fit.join-there e l);
    }

-- Both sides, one after the other.
pub both-settled :
    (es : List ℕ) (is : List Float) (ne : ℕ) (es' : List ℕ) (js xs ys : List Float)
    → xs ≡ settled_side es is es' left_acw_word left_acw_word left_cw_word ne js → ys ≡ settled_side es is es' right_cw_word right_acw_word right_cw_word ne xs
    → ys ≡ intervals_of_edition Second (edge_tables es is) ne (edge_rows_of es' js)
unfolding settled_intervals
both-settled es is ne es' js xs ys h k = k ∙ ap (settled_side es is es' right_cw_word right_acw_word right_cw_word ne) h
