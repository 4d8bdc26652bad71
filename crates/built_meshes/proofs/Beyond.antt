-- The steps of building write only rows that ground 4 counts. Assumes nothing.
--     behind-set ..              a list after a store, after a row, after zeros, after a copy
--     within-refl, within-trans
--     zeroed_rows-within          tables that agree beyond the counted rows are the same when these are zero
use mathlib.Core.Path.{◌≡◌, refl, ◌∙◌, ap}
use mathlib.Core.List.{List, [], ◌∷◌, ◌++◌}
use Prim.Native.Nat.{ℕ, suc, ◌+◌, ◌*◌, ◌<◌, ◌≤◌}
use native.Mathlib.Omega.{arith}
use lib.ListN.{length, set, take, drop, replicate, length-set, length-replicate}
use lib.Seq.{drop-set-lt, drop_at, length-take-le}
use lib.Ieee.{Float, of_bits, binary64}
use Rattle.tables.specs.Mesh.{Mesh}
use Rattle.tables.specs.Rows.{put_from, put_row, over, zeroed}
use Rattle.tables.proofs.Laws.{length-put_row, length_over, length-zeroed}
use Rattle.tables.specs.Records.{edge_words}
use Rattle.t_nurcc_edge.specs.Connected.{pair_of, connected_rows}
use Rattle.built_meshes.specs.Lists.{Lists, points_of, faces_of, rows_of}
use Rattle.built_meshes.specs.Edges.{touched}
use Rattle.tables.specs.Counted.{zeroed_rows}
use Rattle.built_meshes.specs.Beyond.{Behind, Within}

module _ {A : Type 0} where
  pub behind-trans : (n : ℕ) (xs ys zs : List A) → Behind n xs ys → Behind n ys zs → Behind n xs zs
  behind-trans n xs ys zs h k = (k.0 ∙ h.0, k.1 ∙ h.1)

  pub behind-set : (n : ℕ) (xs : List A) (i : ℕ) (a : A) → i < n → Behind n xs (set xs i a)
  behind-set n xs i a h = (length-set xs i a, drop-set-lt n xs i a h)

  drop-put_from : (n : ℕ) (vs xs : List A) (b k : ℕ) → b + k + length vs ≤ n → drop n (put_from xs b k vs) ≡ drop n xs
  drop-put_from n [] xs b k h = refl
  drop-put_from n (v ∷ vs) xs b k h = drop-put_from n vs (set xs (b + k) v) b (suc k) (omega arith) ∙ drop-set-lt n xs (b + k) v (omega arith)

  pub behind-put_row : (n : ℕ) (vs xs : List A) (b : ℕ) → b + length vs ≤ n → Behind n xs (put_row xs b vs)
  behind-put_row n vs xs b h = (length-put_row vs xs b, go vs h)
    where
      go : (vs : List A) → b + length vs ≤ n → drop n (put_row xs b vs) ≡ drop n xs
      go [] h = refl
      go (v ∷ vs) h = drop-put_from n vs (set xs b v) b 1 (omega arith) ∙ drop-set-lt n xs b v (omega arith)

  pub behind-zeroed : (n : ℕ) (z : A) (xs : List A) → n ≤ length xs → Behind n xs (zeroed n z xs)
  unfolding zeroed
  behind-zeroed n z xs h = (length-zeroed n z xs h, drop_at (replicate n z) (drop n xs) n (length-replicate n z))

  pub behind-over : (n : ℕ) (new xs : List A) → n ≤ length new → n ≤ length xs → Behind n xs (over n new xs)
  unfolding over
  behind-over n new xs h k = (length_over n new xs h k, drop_at (take n new) (drop n xs) n (length-take-le n new h))

  zeroed-behind : (n : ℕ) (z : A) (xs ys : List A) → Behind n xs ys → zeroed n z ys ≡ zeroed n z xs
  unfolding zeroed
  zeroed-behind n z xs ys h = ap (λ (t : List A). replicate n z ++ t) h.1

pub behind-touched : (n : ℕ) (ws : List ℕ) (p e : ℕ) → p < n → Behind (n * 3) ws (touched ws p e)
behind-touched n ws p e h =
    behind-trans (n * 3) ws (set ws (p * 3) _) (touched ws p e) (behind-set (n * 3) ws (p * 3) _ (omega arith))
    (behind-set (n * 3) (set ws (p * 3) _) (p * 3 + 1) e (omega arith))

pub within-refl : (l : Lists) (m : Mesh) → Within l m m
within-refl l m = record { positions = (refl, refl); points = (refl, refl); edges = (refl, refl); intervals = (refl, refl); faces = (refl, refl) }

pub within-trans : (l : Lists) {m m' m'' : Mesh} → Within l m m' → Within l m' m'' → Within l m m''
within-trans l h k =
    record {
      positions = (k.positions.0 ∙ h.positions.0, k.positions.1 ∙ h.positions.1);
      points = (k.points.0 ∙ h.points.0, k.points.1 ∙ h.points.1);
      edges = (k.edges.0 ∙ h.edges.0, k.edges.1 ∙ h.edges.1);
      intervals = (k.intervals.0 ∙ h.intervals.0, k.intervals.1 ∙ h.intervals.1);
      faces = (k.faces.0 ∙ h.faces.0, k.faces.1 ∙ h.faces.1);
    }

pub zeroed_rows-within : (l : Lists) (m m' : Mesh) → Within l m m' → zeroed_rows (rows_of l) m' ≡ zeroed_rows (rows_of l) m
unfolding zeroed_rows
zeroed_rows-within l m m' h =
    rw (
      zeroed-behind (points_of l * 3) (of_bits binary64 0) m.positions m'.positions h.positions,
      zeroed-behind (points_of l * 3) 0 m.points m'.points h.points,
      zeroed-behind (length l.listed * 8) 0 m.edges m'.edges h.edges,
      zeroed-behind (length l.listed) (of_bits binary64 0) m.intervals m'.intervals h.intervals,
      zeroed-behind (faces_of l * 5) 0 m.faces m'.faces h.faces,
    )

-- connecting two edges writes their rows alone
pub behind-connected :
    (n : ℕ) (es : List ℕ) (is : List Float) (e o : ℕ) → e < n → o < n → Behind (n * 8) es (connected_rows es is e o)
unfolding connected_rows
behind-connected n es is e o h k =
    behind-trans (n * 8) es (put_row es (e * 8) (edge_words (pair_of es is e o).first)) (connected_rows es is e o)
    (behind-put_row (n * 8) (edge_words (pair_of es is e o).first) es (e * 8) (omega arith))
    (behind-put_row (n * 8) (edge_words (pair_of es is e o).other) (put_row es (e * 8) (edge_words (pair_of es is e o).first)) (o * 8) (omega arith))
