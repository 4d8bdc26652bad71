-- What the functions of this crate do, over plain variables: ps, es, is are the tables of points, edges and intervals, c the rows
-- taken. Assumes nothing.
use mathlib.Core.Path.{◌≡◌, refl, sym, ◌∙◌, ap}
use mathlib.Core.List.{List, [], ◌∷◌}
use Prim.Native.Nat.{ℕ, ◌+◌, ◌*◌, ◌≤◌, ◌<◌}
use native.Mathlib.Nat.{add-zero}
use native.Mathlib.Omega.{arith}
use lib.ListN.{length, get_or, set}
use lib.Ieee.{Float}
use Rattle.t_spline.specs.declared.TnurccEdge.{TnurccEdge}
use Rattle.tables.specs.declared.Counts.{Counts}
use Rattle.tables.specs.Rows.{put_row}
use Rattle.tables.specs.Records.{edge_at, edge_words}
use Rattle.refined_meshes.specs.State.{State, put_edge, put_point, put_start}
use Rattle.refined_meshes.specs.Split.{origin_half, destination_half, split_edge, split_whole}
use Rattle.refined_meshes.specs.Visits.{split_all}
use Rattle.splitting.specs.Scratch.{scratch, InRows, SplitRoom}
use Rattle.splitting.proofs.Laws.{split_whole-split, split_all-none, split_all-more, points-split_all, edges-split_all}

-- the two halves stored: new in row h, then old in row e
module _ (es es1 es2 : List ℕ) (is is1 is2 : List Float) (e p h : ℕ) (edge new old : TnurccEdge) where
  pub halves-put : edge ≡ edge_at es is e → new ≡ destination_half p e edge → old ≡ origin_half p h edge
      → es1 ≡ put_row es (h * 8) (edge_words new) → is1 ≡ set is h new.knot_interval
      → es2 ≡ put_row es1 (e * 8) (edge_words old) → is2 ≡ set is1 e old.knot_interval
      → (edge.dest ≡ get_or es (e * 8 + 1) 0)
      × ((es2 ≡ put_row (put_row es (h * 8) (edge_words (destination_half p e (edge_at es is e)))) (e * 8) (edge_words (origin_half p h (edge_at es is e))))
      × (is2 ≡ set (set is h (destination_half p e (edge_at es is e)).knot_interval) e (origin_half p h (edge_at es is e)).knot_interval))
  halves-put a b o e1 i1 e2 i2 = (ap (λ (r : TnurccEdge). r.dest) a, (rw (e2, e1, o, b, a), rw (i2, i1, o, b, a)))

-- an edge split: the halves stored, then the midpoint, then the start edge of the old destination d
module _ (ps ps2 es es2 : List ℕ) (is is2 : List Float) (e d : ℕ) (c : Counts) where
  pub edge-split : d ≡ get_or es (e * 8 + 1) 0
      → es2 ≡ put_row (put_row es (c.edges * 8) (edge_words (destination_half c.points e (edge_at es is e)))) (e * 8)
      (edge_words (origin_half c.points c.edges (edge_at es is e)))
      → is2 ≡ set (set is c.edges (destination_half c.points e (edge_at es is e)).knot_interval) e
      (origin_half c.points c.edges (edge_at es is e)).knot_interval
      → ps2 ≡ set (put_row ps (c.points * 3) (4 ∷ e ∷ 0 ∷ [])) (d * 3 + 1) c.edges
      → ◌≡◌ {A = State} (scratch ps2 es2 is2 (record { points = c.points + 1; edges = c.edges + 1; faces = c.faces })) (split_edge e (scratch ps es is c))
  unfolding split_edge put_edge put_point put_start
  edge-split x a b q = rw (q, a, b, x, split_edge, add-zero)

-- the room for a whole edge is room for one more row of each kind
pub whole_room : (ps es : List ℕ) (is : List Float) (np e : ℕ) (c : Counts) → get_or es (e * 8 + 1) 0 < np
    → SplitRoom ps es is (split_whole np e (scratch ps es is c)).points_taken (split_whole np e (scratch ps es is c)).edges_taken
    → SplitRoom ps es is (c.points + 1) (c.edges + 1)
unfolding split_edge put_edge put_point put_start
whole_room ps es is np e c h r = rw (split_whole-split np e (scratch ps es is c) h) at r

-- the loop of split_all after i turns: ps0, es0, is0 and c0 are what it began with
pub record Splitting (ps0 es0 : List ℕ) (is0 : List Float) (np : ℕ) (perimeter : List ℕ) (n : ℕ) (c0 : Counts)
    (ps es : List ℕ) (is : List Float) (c : Counts) (i : ℕ) : Type 0 where
  pub within : i ≤ n
  pub same_points : length ps ≡ length ps0
  pub same_edges : length es ≡ length es0
  pub same-intervals : length is ≡ length is0
  pub stands : ◌≡◌ {A = State} (scratch ps es is c) (split_all np perimeter i (scratch ps0 es0 is0 c0))

module _ (ps0 es0 : List ℕ) (is0 : List Float) (np : ℕ) (perimeter : List ℕ) (n : ℕ) (c0 : Counts) where
  abbrev After : ℕ → State
  After i = split_all np perimeter i (scratch ps0 es0 is0 c0)

  pub splitting-start : Splitting ps0 es0 is0 np perimeter n c0 ps0 es0 is0 c0 0
  splitting-start = record {
    within = omega arith;
    same_points = refl;
    same_edges = refl;
    same-intervals = refl;
    stands = sym (split_all-none np perimeter (scratch ps0 es0 is0 c0));
  }

  module _ (ps es : List ℕ) (is : List Float) (c : Counts) (i : ℕ) (h : Splitting ps0 es0 is0 np perimeter n c0 ps es is c i) where
    turned : split_whole np (get_or perimeter i 0) (scratch ps es is c) ≡ After (i + 1)
    turned = ap (split_whole np (get_or perimeter i 0)) h.stands ∙ sym (split_all-more np perimeter i (scratch ps0 es0 is0 c0))

    pub splitting-rows : ((k : ℕ) → k < n → InRows es0 is0 (get_or perimeter k 0)) → i < n → InRows es is (get_or perimeter i 0)
    splitting-rows r l = record { words = rw h.same_edges (r i l).words; number = rw h.same-intervals (r i l).number }

    pub splitting-old : np * 3 ≤ length ps0 → np * 3 ≤ length ps
    splitting-old l = rw h.same_points l

    pub splitting-room : i < n → SplitRoom ps0 es0 is0 (After n).points_taken (After n).edges_taken
        → SplitRoom ps es is (split_whole np (get_or perimeter i 0) (scratch ps es is c)).points_taken
        (split_whole np (get_or perimeter i 0) (scratch ps es is c)).edges_taken
    splitting-room l r =
        let a = points-split_all np perimeter (scratch ps0 es0 is0 c0) (i + 1) n (omega arith) in
        let b = edges-split_all np perimeter (scratch ps0 es0 is0 c0) (i + 1) n (omega arith) in
        let p = h.same_points in
        let q = h.same_edges in
        let o = h.same-intervals in
        rw turned record {
          points = omega arith;
          edges = omega arith;
          intervals = omega arith;
          few-points = omega arith;
          few-edges = omega arith;
        }

    pub splitting-turn : (ps' es' : List ℕ) (is' : List Float) (c' : Counts) → i < n
        → length ps' ≡ length ps → length es' ≡ length es → length is' ≡ length is
        → ◌≡◌ {A = State} (scratch ps' es' is' c') (split_whole np (get_or perimeter i 0) (scratch ps es is c))
        → Splitting ps0 es0 is0 np perimeter n c0 ps' es' is' c' (i + 1)
    splitting-turn ps' es' is' c' l a b o t = record {
      within = omega arith;
      same_points = a ∙ h.same_points;
      same_edges = b ∙ h.same_edges;
      same-intervals = o ∙ h.same-intervals;
      stands = t ∙ turned;
    }

    pub splitting-end : n ≤ i → ◌≡◌ {A = State} (scratch ps es is c) (After n)
    splitting-end l = h.stands ∙ ap After (let e : i ≡ n = omega (arith, h.within) in e)
