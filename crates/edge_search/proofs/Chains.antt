-- The laws of chains, and of the first edge between two points. Assumes nothing.
--     edge_between-table       the first edge between two points is found in the table of edges alone
--     edge_between-gap         edges of other buckets change nothing
--     edge_between-below       what is found is an edge below the bound
--     newest-kept, newest-more, newest-top    the newest edge where ends stay, one edge more of another bucket, and one of the bucket
--     standing-ends           what stands, still stands while the ends of the edges stay
--     link_to-edge             the edge of a link that is not 0
--     filled-triple, filled-same-way, filled-made    what an entry at an edge that exists answers
--     entered-found, entered-new, standing-filled    a place entered, at an edge that exists and at a new one, and what stands then
--     ends-refl, ends-trans, set-ends         tables in which every edge has the same ends
use mathlib.Core.Path.{◌≡◌, refl, sym, ◌∙◌, ap, subst}
use mathlib.Core.Bool.{Bool, true, false, ◌&&◌, ◌||◌, false≢true}
use mathlib.Core.List.{List}
use mathlib.Core.Logic.{◌≢◌}
use Prim.Native.Nat.{ℕ, zero, suc, ◌+◌, ◌-◌, ◌*◌, ◌≤◌, ◌<◌}
use native.Mathlib.Numerals.{add-one}
use native.Mathlib.Omega.{arith}
use native.Mathlib.Decide.{dec_le}
use lib.Dec.{eqb}
use lib.Ieee.{Float}
use lib.ListN.{length, get_or, set}
use lib.Seq.{get_or-set_other}
use borrow.Author.Tests.{eqb-true, eq-eqb, ne_eqb}
use Rattle.std.specs.Prelude.{Option, Some, None, Result, Ok, Err}
use Rattle.tables.specs.Mesh.{Mesh, none, origin, dest, mesh_of, edge_table}
use Rattle.built_meshes.specs.declared.Ground.TheVariants.{EdgeTripleFace, SameWay}
use Rattle.built_meshes.specs.Edges.{joins, or_last, edge_between, new_edge, entered_at, entered_if, entered, with_right_face}
use Rattle.built_meshes.proofs.Entering.{Finds, finds, finds-none, found-is}
use Rattle.edge_buckets.specs.Buckets.{buckets, bucket_of}
use Rattle.edge_buckets.proofs.Buckets.{bucket_of-swap}
use Rattle.edge_search.specs.Chains.{link_to, EndsKept, bucket_at, Newest, Standing}
use Rattle.edge_search.specs.Places.{edges_after, EnteredBy, FilledBy}
use Rattle.built_meshes.specs.declared.Ground.{Ground}
use Rattle.edge_search.specs.declared.PlaceEdge.{PlaceEdge}

-- ---- buckets

-- an edge that joins two points is of their bucket
joined-bucket : (o d p q : ℕ) → (eqb o p && eqb d q || eqb o q && eqb d p) ≡ true → bucket_of o d ≡ bucket_of p q
joined-bucket o d p q h = go (eqb o p) (eqb d q) (eqb o q) (eqb d p) refl refl refl refl h
  where
    go : (a b c e : Bool) → eqb o p ≡ a → eqb d q ≡ b → eqb o q ≡ c → eqb d p ≡ e → (a && b || c && e) ≡ true → bucket_of o d ≡ bucket_of p q
    go true true c e i j k l h = rw (eqb-true o p i, eqb-true d q j)
    go true false true true i j k l h = rw (eqb-true o q k, eqb-true d p l) (bucket_of-swap q p)
    go true false true false i j k l h = absurd (false≢true h)
    go true false false e i j k l h = absurd (false≢true h)
    go false b true true i j k l h = rw (eqb-true o q k, eqb-true d p l) (bucket_of-swap q p)
    go false b true false i j k l h = absurd (false≢true h)
    go false b false e i j k l h = absurd (false≢true h)

not-joined : (es : List ℕ) (p q e : ℕ) → bucket_at es e ≢ bucket_of p q → joins (edge_table es) p q e ≡ false
not-joined es p q e n = go (joins (edge_table es) p q e) refl
  where
    go : (b : Bool) → joins (edge_table es) p q e ≡ b → b ≡ false
    go true h = absurd (n (joined-bucket (origin (edge_table es) e) (dest (edge_table es) e) p q h))
    go false h = refl

-- ---- the first edge between two points

pub edge_between-table : (m : Mesh) (k p q : ℕ) → edge_between m k p q ≡ edge_between (edge_table m.edges) k p q
unfolding edge_between
edge_between-table m zero p q = refl
edge_between-table m (suc k) p q = ap (λ (x : Option ℕ). or_last x (joins m p q k) k) (edge_between-table m k p q)

or_last-none : (x : Option ℕ) (k : ℕ) → or_last x false k ≡ x
or_last-none (Some e) k = refl
or_last-none None k = refl

pub edge_between-gap : (es : List ℕ) (p q l b : ℕ) → l ≤ b → ((e : ℕ) → l ≤ e → e < b → bucket_at es e ≢ bucket_of p q)
    → edge_between (edge_table es) b p q ≡ edge_between (edge_table es) l p q
unfolding edge_between
edge_between-gap es p q l zero h n = let s : 0 ≡ l = omega arith in ap (λ (i : ℕ). edge_between (edge_table es) i p q) s
edge_between-gap es p q l (suc b) h n = go (dec_le l b) (λ g. edge_between-gap es p q l b g (λ e i j. n e i (omega arith)))
  where
    go : Dec (l ≤ b) → (l ≤ b → edge_between (edge_table es) b p q ≡ edge_between (edge_table es) l p q)
        → edge_between (edge_table es) (suc b) p q ≡ edge_between (edge_table es) l p q
    go (yes g) rest =
        rw (not-joined es p q b (n b g (omega arith))) (or_last-none (edge_between (edge_table es) b p q) b ∙ rest g)
    go (no g) rest = let s : suc b ≡ l = omega arith in ap (λ (i : ℕ). edge_between (edge_table es) i p q) s

pub edge_between-below : (m : Mesh) (k p q e : ℕ) → edge_between m k p q ≡ Some e → e < k
edge_between-below m k p q e h = below (edge_between m k p q) (found-is m k p q) h
  where
    below : (x : Option ℕ) → Finds m k p q x → x ≡ Some e → e < k
    below x (finds {e = i} l j) s = let same : i ≡ e = cc in omega arith
    below x (finds-none n) s = let z : ◌≡◌ {A = ℕ} 0 1 = cc in absurd (omega arith)

-- ---- the newest edge

pub newest-kept : (es new : List ℕ) (b k l : ℕ) → Newest es b k l → ((e : ℕ) → e < k → bucket_at new e ≡ bucket_at es e)
    → Newest new b k l
newest-kept es new b k l h same =
    record {
      below = h.below;
      within = λ e s. let lt : l ≤ k = h.below in same e (omega arith) ∙ h.within e s;
      none_between = λ e i j s. h.none_between e i j (sym (same e j) ∙ s);
    }

pub newest-more : (es : List ℕ) (b k l : ℕ) → Newest es b k l → bucket_at es k ≢ b → Newest es b (k + 1) l
newest-more es b k l h n =
    record {
      below = let lt : l ≤ k = h.below in omega arith;
      within = h.within;
      none_between = λ e i j. go e i j (dec_le (suc e) k);
    }
  where
    go : (e : ℕ) → l ≤ e → e < k + 1 → Dec (suc e ≤ k) → bucket_at es e ≢ b
    go e i j (yes g) = h.none_between e i g
    go e i j (no g) = let s : k ≡ e = omega arith in subst (λ e. bucket_at es e ≢ b) s n

pub newest-top : (es : List ℕ) (b k : ℕ) → bucket_at es k ≡ b → Newest es b (k + 1) (k + 1)
newest-top es b k t =
    record {
      below = omega arith;
      within = λ e s. let i : k ≡ e = omega arith in subst (λ e. bucket_at es e ≡ b) i t;
      none_between = λ e i j. absurd (omega arith);
    }

-- ---- tables in which every edge has the same ends

pub ends-refl : (es : List ℕ) → EndsKept es es
ends-refl es = record { origins = λ e. refl; dests = λ e. refl }

pub ends-trans : (es mid new : List ℕ) → EndsKept es mid → EndsKept mid new → EndsKept es new
ends-trans es mid new h g =
    record { origins = λ e. g.origins e ∙ h.origins e; dests = λ e. g.dests e ∙ h.dests e }

-- a face is stored on the right of an edge
pub set-ends : (es : List ℕ) (e f : ℕ) → EndsKept es (set es (e * 8 + 3) f)
set-ends es e f =
    record {
      origins = λ i. get_or-set_other es (e * 8 + 3) (i * 8) f 0 (λ h. omega arith);
      dests = λ i. get_or-set_other es (e * 8 + 3) (i * 8 + 1) f 0 (λ h. omega arith);
    }

bucket-ends : (es new : List ℕ) (e : ℕ) → EndsKept es new → bucket_at new e ≡ bucket_at es e
bucket-ends es new e h = rw (h.origins e, h.dests e)

pub standing-ends : (np : ℕ) (pts es new ch : List ℕ) (k : ℕ) → EndsKept es new → length new ≡ length es
    → Standing np pts es ch k → Standing np pts new ch k
standing-ends np pts es new ch k s n h =
    record {
      points-fit = h.points-fit;
      edges_fit = rw n h.edges_fit;
      links-fit = h.links-fit;
      valences = h.valences;
      newest = λ b l. kept b k (get_or ch b 0) (h.newest b l);
      chained = λ e l. rw (bucket-ends es new e s) (kept (bucket_at es e) e (get_or ch (buckets + e) 0) (h.chained e l));
    }
  where
    kept : (b k l : ℕ) → Newest es b k l → Newest new b k l
    kept b k l g = newest-kept es new b k l g (λ e i. bucket-ends es new e s)

-- ---- links

pub link_to-edge : (l : ℕ) → (l ≡ 0 → ⊥) → Some (l - 1) ≡ link_to l
link_to-edge zero n = absurd (n refl)
link_to-edge (suc l) n = ap Some (less l)
  where
    less : (l : ℕ) → suc l - 1 ≡ l
    less l = omega arith

-- ---- a side filled, or refused

module _ (es : List ℕ) (k f e p : ℕ) where
  pub filled-triple : (get_or es (e * 8 + 3) 0 ≡ none → ⊥) → FilledBy es k f e p (Err EdgeTripleFace) es
  unfolding entered_at
  filled-triple n =
      record {
        filled = λ m s. rw (s, ne_eqb (get_or es (e * 8 + 3) 0) none n);
        ends = ends-refl es;
        count = refl;
      }

  pub filled-same-way : get_or es (e * 8 + 3) 0 ≡ none → get_or es (e * 8) 0 ≡ p → FilledBy es k f e p (Err SameWay) es
  unfolding entered_at
  filled-same-way a b =
      record {
        filled = λ m s. rw (s, eq-eqb (get_or es (e * 8 + 3) 0) none a, eq-eqb (get_or es (e * 8) 0) p b);
        ends = ends-refl es;
        count = refl;
      }

  pub filled-made : get_or es (e * 8 + 3) 0 ≡ none → (get_or es (e * 8) 0 ≡ p → ⊥)
      → FilledBy es k f e p (Ok (record { edges = k; edge = e })) (set es (e * 8 + 3) f)
  unfolding entered_at with_right_face
  filled-made a b =
      record {
        filled = λ m s. rw (s, eq-eqb (get_or es (e * 8 + 3) 0) none a, ne_eqb (get_or es (e * 8) 0) p b);
        ends = set-ends es e f;
        count = refl;
      }

-- ---- a place entered

module _ (pts es : List ℕ) (is : List Float) (k f p q : ℕ) (v : Float) where
  pub entered-found : (e : ℕ) (r : Result PlaceEdge Ground) (new : List ℕ) → edge_between (edge_table es) k p q ≡ Some e → FilledBy es k f e p r new
      → (ps : List Float) (fs : List ℕ) → EnteredBy r (mesh_of ps pts es is fs) (mesh_of ps pts new is fs) k f p q v
  unfolding entered entered_if
  entered-found e r new found h ps fs =
      rw (edge_between-table (mesh_of ps pts es is fs) k p q ∙ found) (h.filled (mesh_of ps pts es is fs) refl)

  pub entered-new : (ps : List Float) (fs : List ℕ) (n : Mesh) → edge_between (edge_table es) k p q ≡ None
      → n ≡ new_edge (mesh_of ps pts es is fs) k f p q v → EnteredBy (Ok (record { edges = k + 1; edge = k })) (mesh_of ps pts es is fs) n k f p q v
  unfolding entered entered_if
  entered-new ps fs n found made = rw (edge_between-table (mesh_of ps pts es is fs) k p q ∙ found, made, add-one k)

pub standing-filled : (np : ℕ) (pts es ch new : List ℕ) (k f e p : ℕ) (r : Result PlaceEdge Ground) → FilledBy es k f e p r new → length new ≡ length es
    → Standing np pts es ch k → Standing np pts new ch (edges_after r k)
standing-filled np pts es ch new k f e p r h l s = rw h.count (standing-ends np pts es new ch k h.ends l s)
