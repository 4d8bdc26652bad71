-- A new edge k from p to q in the tables of points and edges and in the links, over plain variables. Assumes nothing.
--     get_or-touched            one edge more at a point counts at most one more at any point
--     standing-new            what stands, stands with the new edge
--     first-touch, second-touch, made-mesh, made-standing    the steps of `make_edge`
use mathlib.Core.Path.{◌≡◌, sym, ◌∙◌, ap}
use mathlib.Core.List.{List}
use mathlib.Core.Logic.{◌≢◌}
use Prim.Native.Nat.{ℕ, suc, ◌+◌, ◌*◌, ◌≤◌, ◌<◌}
use native.Mathlib.Nat.{add-zero}
use native.Mathlib.Omega.{arith}
use native.Mathlib.Decide.{ℕ_discrete, dec_le}
use lib.Ieee.{Float}
use lib.ListN.{length, get_or, set, length-set}
use lib.Seq.{get_or-set_same, get_or-set_other}
use Rattle.tables.specs.Mesh.{Mesh, origin, dest, mesh_of, edge_table}
use Rattle.tables.specs.Rows.{put_row}
use Rattle.tables.specs.Records.{edge_words}
use Rattle.tables.proofs.Laws.{length-put_row, get_or-put_row, get_or-put_row-before}
use Rattle.built_meshes.specs.Edges.{lone_edge, touched, new_edge}
use Rattle.edge_buckets.specs.Buckets.{buckets, bucket_of}
use Rattle.edge_buckets.proofs.Buckets.{bucket_of-below}
use Rattle.edge_search.specs.Chains.{bucket_at, Newest, chained_edge, Headed, Chained, Standing, EdgeRoom}
use Rattle.edge_search.proofs.Chains.{newest-kept, newest-more, newest-top}

pub length-touched : (ws : List ℕ) (p e : ℕ) → length (touched ws p e) ≡ length ws
length-touched ws p e = simp length-set

pub get_or-touched : (ws : List ℕ) (p e i : ℕ) → p * 3 + 3 ≤ length ws → get_or (touched ws p e) (i * 3) 0 ≤ get_or ws (i * 3) 0 + 1
get_or-touched ws p e i l = go (ℕ_discrete i p)
  where
    start : get_or (touched ws p e) (i * 3) 0 ≡ get_or (set ws (p * 3) (get_or ws (p * 3) 0 + 1)) (i * 3) 0
    start = get_or-set_other (set ws (p * 3) (get_or ws (p * 3) 0 + 1)) (p * 3 + 1) (i * 3) e 0 (λ h. omega arith)

    go : Dec (i ≡ p) → get_or (touched ws p e) (i * 3) 0 ≤ get_or ws (i * 3) 0 + 1
    go (yes s) =
        rw (start, s) (rw (get_or-set_same ws (p * 3) (get_or ws (p * 3) 0 + 1) 0 (omega arith)) (omega arith))
    go (no n) =
        rw (start, get_or-set_other ws (p * 3) (i * 3) (get_or ws (p * 3) 0 + 1) 0 (λ h. n (omega arith))) (omega arith)

-- the links
module _ (ch : List ℕ) (k b : ℕ) (below : b < buckets) (room : buckets + k + 1 ≤ length ch) where
  pub length-chained : length (chained_edge ch k b) ≡ length ch
  unfolding chained_edge
  length-chained = simp length-set

  link-top : get_or (chained_edge ch k b) b 0 ≡ k + 1
  unfolding chained_edge
  link-top = get_or-set_same (set ch (buckets + k) (get_or ch b 0)) b (k + 1) 0 (simp length-set (omega arith))

  link-older : get_or (chained_edge ch k b) (buckets + k) 0 ≡ get_or ch b 0
  unfolding chained_edge
  link-older =
      get_or-set_other (set ch (buckets + k) (get_or ch b 0)) b (buckets + k) (k + 1) 0 (λ h. omega arith)
      ∙ get_or-set_same ch (buckets + k) (get_or ch b 0) 0 (omega arith)

  link-other : (i : ℕ) → i ≢ b → i < buckets + k → get_or (chained_edge ch k b) i 0 ≡ get_or ch i 0
  unfolding chained_edge
  link-other i n l =
      get_or-set_other (set ch (buckets + k) (get_or ch b 0)) b i (k + 1) 0 n
      ∙ get_or-set_other ch (buckets + k) i (get_or ch b 0) 0 (λ h. omega arith)

-- the table of edges
module _ (es : List ℕ) (k f p q : ℕ) (v : Float) (room : k * 8 + 8 ≤ length es) where
  abbrev more : List ℕ
  more = put_row es (k * 8) (edge_words (lone_edge k f p q v))

  old-origin : (e : ℕ) → e < k → origin (edge_table more) e ≡ origin (edge_table es) e
  old-origin e l = get_or-put_row-before (edge_words (lone_edge k f p q v)) es (k * 8) (e * 8) 0 (omega arith)

  old-dest : (e : ℕ) → e < k → dest (edge_table more) e ≡ dest (edge_table es) e
  old-dest e l = get_or-put_row-before (edge_words (lone_edge k f p q v)) es (k * 8) (e * 8 + 1) 0 (omega arith)

  old-bucket : (e : ℕ) → e < k → bucket_at more e ≡ bucket_at es e
  old-bucket e l = rw (old-origin e l, old-dest e l)

  new-origin : origin (edge_table more) k ≡ p
  new-origin = ap (λ (i : ℕ). get_or more i 0) (sym (add-zero (k * 8))) ∙ get_or-put_row (edge_words (lone_edge k f p q v)) es (k * 8) 0 0 (omega arith) room

  new-dest : dest (edge_table more) k ≡ q
  new-dest = get_or-put_row (edge_words (lone_edge k f p q v)) es (k * 8) 1 0 (omega arith) room

  new-bucket : bucket_at more k ≡ bucket_of p q
  new-bucket = rw (new-origin, new-dest)

  kept : (b i l : ℕ) → i ≤ k → Newest es b i l → Newest more b i l
  kept b i l h n = newest-kept es more b i l n (λ e g. old-bucket e (omega arith))

module _ (np : ℕ) (pts es : List ℕ) (is : List Float) (ch : List ℕ) (k f p q : ℕ) (v : Float) (pin : p < np) (qin : q < np)
    (h : Standing np pts es ch k) (room : EdgeRoom es is ch k) where
  newest-new : Headed (put_row es (k * 8) (edge_words (lone_edge k f p q v))) (chained_edge ch k (bucket_of p q)) (k + 1)
  newest-new b l = go (ℕ_discrete b (bucket_of p q))
    where
      go : Dec (b ≡ bucket_of p q)
          → Newest (put_row es (k * 8) (edge_words (lone_edge k f p q v))) b (k + 1) (get_or (chained_edge ch k (bucket_of p q)) b 0)
      go (yes s) =
          rw (s, link-top ch k (bucket_of p q) (bucket_of-below p q) room.links-row)
          (newest-top (put_row es (k * 8) (edge_words (lone_edge k f p q v))) (bucket_of p q) k (new-bucket es k f p q v room.edge_row))
      go (no n) =
          rw (link-other ch k (bucket_of p q) (bucket_of-below p q) room.links-row b n (omega arith))
          (newest-more (put_row es (k * 8) (edge_words (lone_edge k f p q v))) b k (get_or ch b 0)
          (kept es k f p q v room.edge_row b k (get_or ch b 0) (omega arith) (h.newest b l))
          (λ s. n (sym s ∙ new-bucket es k f p q v room.edge_row)))

  chained-new : Chained (put_row es (k * 8) (edge_words (lone_edge k f p q v))) (chained_edge ch k (bucket_of p q)) (k + 1)
  chained-new e l = go (dec_le (suc e) k)
    where
      below : bucket_of p q < buckets
      below = bucket_of-below p q

      go : Dec (suc e ≤ k)
          → Newest (put_row es (k * 8) (edge_words (lone_edge k f p q v))) (bucket_at (put_row es (k * 8) (edge_words (lone_edge k f p q v))) e) e
          (get_or (chained_edge ch k (bucket_of p q)) (buckets + e) 0)
      go (yes g) =
          rw (
            old-bucket es k f p q v room.edge_row e g,
            link-other ch k (bucket_of p q) below room.links-row (buckets + e) (λ s. omega (arith, below, s)) (omega arith),
          )
          (kept es k f p q v room.edge_row (bucket_at es e) e (get_or ch (buckets + e) 0) (omega arith) (h.chained e g))
      go (no g) =
          let s : e ≡ k = omega arith in
          rw (s, new-bucket es k f p q v room.edge_row, link-older ch k (bucket_of p q) below room.links-row)
          (kept es k f p q v room.edge_row (bucket_of p q) k (get_or ch (bucket_of p q) 0) (omega arith) (h.newest (bucket_of p q) below))

  pub standing-new : Standing np (touched (touched pts p k) q k) (put_row es (k * 8) (edge_words (lone_edge k f p q v))) (chained_edge ch k (bucket_of p q)) (k + 1)
  standing-new =
      let fit = h.points-fit in
      record {
        points-fit = simp (length-touched, length-set) h.points-fit;
        edges_fit = rw (length-put_row (edge_words (lone_edge k f p q v)) es (k * 8)) (let r = room.edge_row in omega arith);
        links-fit = rw (length-chained ch k (bucket_of p q) (bucket_of-below p q) room.links-row) (let r = room.links-row in omega arith);
        valences = λ i l.
            omega (arith, h.valences i l, get_or-touched pts p k i (omega arith), get_or-touched (touched pts p k) q k i (simp length-set (omega arith)));
        newest = newest-new;
        chained = chained-new;
      }

  -- each end can be counted once more
  pub first-touch : (p * 3 + 3 ≤ length pts) × (get_or pts (p * 3) 0 < 4294967295)
  first-touch = let a = h.points-fit in let b = room.few in (omega arith, omega (arith, h.valences p pin))

  pub second-touch : (one : List ℕ) → one ≡ touched pts p k → (q * 3 + 3 ≤ length one) × (get_or one (q * 3) 0 < 4294967295)
  second-touch one s =
      let a = h.points-fit in
      let b = room.few in
      rw s
      (simp length-set (omega arith), omega (arith, h.valences q qin, get_or-touched pts p k q (omega arith)))

  -- the tables after the code's steps: one and two are the tables of points, row the index of the new edge
  module _ (one two new : List ℕ) (row : ℕ) (beside : List Float) (links : List ℕ) (a : one ≡ touched pts p k) (b : two ≡ touched one q k)
      (s : row ≡ k) (c : new ≡ put_row es (row * 8) (edge_words (lone_edge k f p q v))) (d : beside ≡ set is row v)
      (e : links ≡ chained_edge ch k (bucket_of p q)) where
    pub made-mesh : (ps : List Float) (fs : List ℕ) → ◌≡◌ {A = Mesh} (mesh_of ps two new beside fs) (new_edge (mesh_of ps pts es is fs) k f p q v)
    unfolding new_edge
    made-mesh ps fs = rw (c, d, b, a, s)

    pub made-standing : Standing np two new links (k + 1)
    made-standing = rw (c, e, b, a, s) standing-new
