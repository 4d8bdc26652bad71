-- The loop of `search`, over plain variables: link is the next link of the chain of the bucket of p and q, found the link to the
-- lowest edge found so far that joins p and q. Assumes nothing.
use mathlib.Core.Path.{◌≡◌, refl, sym, ◌∙◌, ap, subst}
use mathlib.Core.Bool.{Bool, true, false, cond}
use mathlib.Core.List.{List}
use Prim.Native.Nat.{ℕ, suc, ◌+◌, ◌≤◌, ◌<◌}
use native.Mathlib.Omega.{arith}
use lib.ListN.{get_or}
use Rattle.std.specs.Prelude.{Option, Some, None}
use Rattle.tables.specs.Mesh.{Mesh, edge_table}
use Rattle.built_meshes.specs.Edges.{joins, or_last, edge_between}
use Rattle.edge_buckets.specs.Buckets.{buckets, bucket_of}
use Rattle.edge_search.specs.Chains.{link_to, bucket_at, Newest, Chained}
use Rattle.edge_search.proofs.Chains.{edge_between-gap}

abbrev pub or_else : Option ℕ → Option ℕ → Option ℕ
or_else (Some e) other = Some e
or_else None other = other

pub record Searching (es : List ℕ) (p q k link found : ℕ) : Type 0 where
  pub below : link ≤ k
  pub within : (e : ℕ) → link ≡ suc e → bucket_at es e ≡ bucket_of p q
  pub found_below : found ≤ k
  pub left : or_else (edge_between (edge_table es) link p q) (link_to found) ≡ edge_between (edge_table es) k p q

or_else-nothing : (x : Option ℕ) → or_else x None ≡ x
or_else-nothing (Some e) = refl
or_else-nothing None = refl

found_turn : (x : Option ℕ) (j : Bool) (e found : ℕ)
    → or_else x (link_to (cond j (suc e) found)) ≡ or_else (or_last x j e) (link_to found)
found_turn (Some i) j e found = refl
found_turn None true e found = refl
found_turn None false e found = refl

cond_below : (j : Bool) (a b k : ℕ) → a ≤ k → b ≤ k → cond j a b ≤ k
cond_below true a b k h g = h
cond_below false a b k h g = g

module _ (es : List ℕ) (p q k : ℕ) where
  pub search-start : (from : ℕ) → Newest es (bucket_of p q) k from → Searching es p q k from 0
  search-start from h =
      record {
        below = h.below;
        within = h.within;
        found_below = omega arith;
        left =
            or_else-nothing (edge_between (edge_table es) from p q)
            ∙ sym (edge_between-gap es p q from k h.below h.none_between);
      }

  -- the next link goes to the newest edge of the same bucket before e
  next-newest : (ch : List ℕ) (e found : ℕ) → Chained es ch k → Searching es p q k (suc e) found
      → Newest es (bucket_of p q) e (get_or ch (buckets + e) 0)
  next-newest ch e found c h = subst (λ b. Newest es b e (get_or ch (buckets + e) 0)) (h.within e refl) (c e h.below)

  suc-turn : (ch : List ℕ) (e found : ℕ) → Chained es ch k → Searching es p q k (suc e) found
      → Searching es p q k (get_or ch (buckets + e) 0) (cond (joins (edge_table es) p q e) (suc e) found)
  unfolding edge_between
  suc-turn ch e found c h =
      let m : Mesh = edge_table es in
      let next : ℕ = get_or ch (buckets + e) 0 in
      let l : suc e ≤ k = h.below in
      let o : Newest es (bucket_of p q) e next = next-newest ch e found c h in
      let o-below : next ≤ e = o.below in
      record {
        below = omega arith;
        within = o.within;
        found_below = cond_below (joins m p q e) (suc e) found k l h.found_below;
        left =
            ap (λ (x : Option ℕ). or_else x (link_to (cond (joins m p q e) (suc e) found)))
            (sym (edge_between-gap es p q next e o-below o.none_between))
            ∙ found_turn (edge_between m e p q) (joins m p q e) e found
            ∙ h.left;
      }

  pub search-turn : (ch : List ℕ) (link e found next new : ℕ) → Chained es ch k → link ≡ suc e
      → next ≡ get_or ch (buckets + e) 0 → new ≡ cond (joins (edge_table es) p q e) link found
      → Searching es p q k link found → Searching es p q k next new
  search-turn ch link e found next new c s n f h = rw (n, f, s) (suc-turn ch e found c (rw s at h))

  pub search-less : (ch : List ℕ) (link e found next : ℕ) → Chained es ch k → link ≡ suc e
      → next ≡ get_or ch (buckets + e) 0 → Searching es p q k link found → next < link
  search-less ch link e found next c s n h =
      let o : Newest es (bucket_of p q) e (get_or ch (buckets + e) 0) = next-newest ch e found c (rw s at h) in
      let o-below : get_or ch (buckets + e) 0 ≤ e = o.below in
      rw n (omega arith)

  pub search-end : (link found : ℕ) → link ≤ 0 → Searching es p q k link found → link_to found ≡ edge_between (edge_table es) k p q
  unfolding edge_between
  search-end link found z h = rw (none z) at h.left
    where
      none : link ≤ 0 → link ≡ 0
      none z = omega arith
