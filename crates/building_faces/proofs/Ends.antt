-- Connecting two edges keeps the ends of all edges. Assumes nothing.
use mathlib.Core.Path.{◌≡◌, refl, sym, ◌∙◌, ap, subst}
use mathlib.Core.List.{List}
use Prim.Native.Nat.{ℕ, ◌+◌, ◌*◌, ◌≤◌, ◌<◌}
use native.Mathlib.Nat.{add-zero}
use native.Mathlib.Omega.{arith}
use native.Mathlib.Decide.{ℕ_discrete}
use lib.Ieee.{Float}
use lib.ListN.{length, get_or}
use Rattle.t_spline.specs.declared.TnurccEdge.{TnurccEdge}
use Rattle.tables.specs.Rows.{put_row}
use Rattle.tables.specs.Records.{edge_at, edge_words}
use Rattle.tables.proofs.Laws.{length-put_row, get_or-put_row, get_or-put_row-other}
use Rattle.t_nurcc_edge.specs.Connected.{pair_of, connected_rows}
use Rattle.built_meshes.proofs.Connecting.{Wrote, connected-wrote}
use Rattle.edge_search.specs.Chains.{EndsKept}
use Rattle.edge_search.proofs.Chains.{ends-trans}

-- an edge with the same ends is put into its row
module _ (es : List ℕ) (i : ℕ) (e : TnurccEdge) (fits : i * 8 + 8 ≤ length es) where
  abbrev new : List ℕ
  new = put_row es (i * 8) (edge_words e)

  word_kept : (j : ℕ) → j < 8 → get_or (edge_words e) j 0 ≡ get_or es (i * 8 + j) 0 → (x : ℕ) → get_or new (x * 8 + j) 0 ≡ get_or es (x * 8 + j) 0
  word_kept j l same x = go (ℕ_discrete x i)
    where
      go : Dec (x ≡ i) → get_or new (x * 8 + j) 0 ≡ get_or es (x * 8 + j) 0
      go (yes s) =
          subst (λ y. get_or new (y * 8 + j) 0 ≡ get_or es (y * 8 + j) 0) (sym s) (get_or-put_row (edge_words e) es (i * 8) j 0 l fits ∙ same)
      go (no n) = get_or-put_row-other (edge_words e) es 8 i x j 0 refl n l

  put-ends : e.origin ≡ get_or es (i * 8) 0 → e.dest ≡ get_or es (i * 8 + 1) 0 → EndsKept es new
  put-ends a b =
      record {
        origins = λ x.
            ap (λ (k : ℕ). get_or new k 0) (sym (add-zero (x * 8)))
            ∙ word_kept 0 (omega arith) (a ∙ ap (λ (k : ℕ). get_or es k 0) (sym (add-zero (i * 8)))) x
            ∙ ap (λ (k : ℕ). get_or es k 0) (add-zero (x * 8));
        dests = λ x. word_kept 1 (omega arith) b x;
      }

pub connected-ends : (es : List ℕ) (is : List Float) (i j : ℕ) → i * 8 + 8 ≤ length es → j * 8 + 8 ≤ length es
    → EndsKept es (connected_rows es is i j)
unfolding connected_rows
connected-ends es is i j hi hj =
    ends-trans es mid (connected_rows es is i j) one
    (put-ends mid j (pair_of es is i j).other (rw (length-put_row (edge_words (pair_of es is i j).first) es (i * 8)) hj)
    (wrote.kept-other.origin ∙ sym (one.origins j))
    (wrote.kept-other.dest ∙ sym (one.dests j)))
  where
    mid : List ℕ
    mid = put_row es (i * 8) (edge_words (pair_of es is i j).first)

    wrote : Wrote i j (edge_at es is i) (edge_at es is j) (record { first = edge_at es is i; other = edge_at es is j }) (pair_of es is i j)
    wrote = connected-wrote i j (edge_at es is i) (edge_at es is j) refl refl

    one : EndsKept es mid
    one = put-ends es i (pair_of es is i j).first hi wrote.kept-first.origin wrote.kept-first.dest
