-- The walk about a point that compares the other end of each edge with those before, over plain variables: n of k edges are
-- passed, their other ends stand in the first n places of ends, and the next edge is i. Assumes nothing.
use mathlib.Core.Path.{◌≡◌, sym, ◌∙◌, ap, subst}
use mathlib.Core.Bool.{true, false, false≢true}
use mathlib.Core.List.{List}
use mathlib.Core.Logic.{◌≢◌}
use Prim.Native.Nat.{ℕ, ◌+◌, ◌≤◌, ◌<◌}
use native.Mathlib.Omega.{arith}
use native.Mathlib.Decide.{dec_lt, ℕ_discrete}
use lib.ListN.{length, get_or, set, length-set}
use lib.Seq.{get_or-set_same, get_or-set_other}
use Rattle.tables.specs.Mesh.{Mesh, valence, start, origin, dest}
use Rattle.audited_meshes.specs.Walks.{acw_of_point, Touches}
use Rattle.audited_meshes.proofs.Tests.{every-is, not_is, eqb_is}
use Rattle.walks.specs.Steps.{point_across}
use Rattle.few_edges.specs.Rounds.{new_end, walk_after, edge_about, Round, EndsApart, Sole}
use Rattle.few_edges.proofs.Joins.{same-of-others}
use Rattle.few_edges.proofs.Rounds.{after_one, round-once}

module _ (m : Mesh) (ne p : ℕ) where
  abbrev pub OnPoint : ℕ → Type 0
  OnPoint e = (e < ne) × Touches m p e

  -- the other end of the edge after a steps
  abbrev far : ℕ → ℕ
  far a = point_across m p (edge_about m p a)

  pub record Comparing (k : ℕ) (ends : List ℕ) (n i : ℕ) : Type 0 where
    pub many : k ≡ valence m p
    pub within : n ≤ k
    pub room : k ≤ length ends
    pub here : i ≡ edge_about m p n
    pub on : (a : ℕ) → a < n → OnPoint (edge_about m p a)
    pub stands : (a : ℕ) → a < n → get_or ends a 0 ≡ far a
    pub apart : (a b : ℕ) → a < b → b < n → far a ≢ far b

  pub comparing-start : (k i : ℕ) (ends : List ℕ) → k ≡ valence m p → i ≡ start m p → k ≤ length ends → Comparing k ends 0 i
  unfolding walk_after
  comparing-start k i ends a b l = record {
    many = a;
    within = omega arith;
    room = l;
    here = b;
    on = λ a l. absurd (omega arith);
    stands = λ a l. absurd (omega arith);
    apart = λ a b l k. absurd (omega arith);
  }

  -- an other end that is new stands at no place before
  new-at : (ends : List ℕ) (n q : ℕ) → new_end ends n q ≡ true → (a : ℕ) → a < n → get_or ends a 0 ≢ q
  new-at ends n q h = (every-is n (λ (a : ℕ). not_is (eqb_is (get_or ends a 0) q))).0 h

  module _ (k : ℕ) (ends : List ℕ) (n i : ℕ) (h : Comparing k ends n i) where
    -- the edge that the walk has come to
    pub comparing-lost : n < k → (OnPoint i → ⊥) → Round m ne p → ⊥
    comparing-lost l off r = off (subst OnPoint (sym h.here) (r.on n (omega (arith, h.many))))

    pub comparing-next : n < k → OnPoint i → (q next : ℕ) → q ≡ point_across m p i → next ≡ acw_of_point m p i → new_end ends n q ≡ true
        → Comparing k (set ends n q) (n + 1) next
    comparing-next l oi q next other along fresh = record {
      many = h.many;
      within = omega arith;
      room = omega (arith, length-set ends n q, h.room);
      here = along ∙ ap (acw_of_point m p) h.here ∙ sym (after_one (acw_of_point m p) n (start m p));
      on = λ a b. on-more a b (ℕ_discrete n a);
      stands = λ a b. stands-more a b (ℕ_discrete n a);
      apart = λ a b l k. apart_more a b l k (ℕ_discrete n b);
    }
      where
        q-is : q ≡ far n
        q-is = other ∙ ap (point_across m p) h.here

        below : (a : ℕ) → a < n + 1 → n ≢ a → a < n
        below a l d = go (dec_lt a n)
          where
            go : Dec (a < n) → a < n
            go (yes b) = b
            go (no g) = absurd (d (omega arith))

        on-more : (a : ℕ) → a < n + 1 → Dec (n ≡ a) → OnPoint (edge_about m p a)
        on-more a b (yes s) = subst (λ (x : ℕ). OnPoint (edge_about m p x)) s (subst OnPoint h.here oi)
        on-more a b (no d) = h.on a (below a b d)

        stands-more : (a : ℕ) → a < n + 1 → Dec (n ≡ a) → get_or (set ends n q) a 0 ≡ far a
        stands-more a b (yes s) =
            subst (λ (x : ℕ). get_or (set ends n q) x 0 ≡ far x) s (get_or-set_same ends n q 0 (omega (arith, h.room, l)) ∙ q-is)
        stands-more a b (no d) = get_or-set_other ends n a q 0 (λ s. d (sym s)) ∙ h.stands a (below a b d)

        apart_more : (a b : ℕ) → a < b → b < n + 1 → Dec (n ≡ b) → far a ≢ far b
        apart_more a b l k (yes s) same =
            new-at ends n q fresh a (omega arith) (h.stands a (omega arith) ∙ same ∙ ap far (sym s) ∙ sym q-is)
        apart_more a b l k (no d) same = h.apart a b l (below b k d) same

    -- where each edge is the only one between its two points, every other end is new
    pub comparing-stop : ((e : ℕ) → e < ne → origin m e ≢ dest m e) → n < k → (q : ℕ) → q ≡ point_across m p i → new_end ends n q ≡ false
        → Round m ne p → Sole m ne p → ⊥
    comparing-stop differ l q other found r sole =
        false≢true (sym found ∙ (every-is n (λ (a : ℕ). not_is (eqb_is (get_or ends a 0) q))).1 new)
      where
        at : (a : ℕ) → a ≤ n → OnPoint (edge_about m p a)
        at a b = r.on a (omega (arith, h.many))

        new : (a : ℕ) → a < n → get_or ends a 0 ≢ q
        new a b same =
            let one : far a ≡ far n = sym (h.stands a b) ∙ same ∙ other ∙ ap (point_across m p) h.here in
            let oa = at a (omega arith) in
            let on = at n (omega arith) in
            round-once m ne p r a n b (omega (arith, h.many))
            (sole (edge_about m p a) (edge_about m p n) oa.0 on.0 oa.1
            (same-of-others m p (edge_about m p a) (edge_about m p n) (differ _ oa.0) (differ _ on.0) oa.1 on.1 one))

    -- the walk is at its start again
    pub comparing-home : k ≤ n → i ≡ start m p → Round m ne p × EndsApart m p
    unfolding walk_after
    comparing-home l home = (
      record {
        on = λ a b. h.on a (all a b);
        home = ap (edge_about m p) (sym all-passed) ∙ sym h.here ∙ home;
        away = λ a b c q. h.apart 0 a b (all a c) (ap (point_across m p) (sym q));
      },
      λ a b la lb same. one a b la lb same (dec_lt a b) (dec_lt b a),
    )
      where
        all-passed : n ≡ valence m p
        all-passed = omega (arith, h.many, h.within)

        all : (a : ℕ) → a < valence m p → a < n
        all a b = omega (arith, all-passed)

        one : (a b : ℕ) → a < valence m p → b < valence m p → far a ≡ far b → Dec (a < b) → Dec (b < a) → edge_about m p a ≡ edge_about m p b
        one a b la lb same (yes c) d = absurd (h.apart a b c (all b lb) same)
        one a b la lb same (no c) (yes d) = absurd (h.apart b a d (all a la) (sym same))
        one a b la lb same (no c) (no d) =
            let ab : a ≡ b = omega arith in
            ap (edge_about m p) ab

    pub comparing-open : k ≤ n → Round m ne p → i ≡ start m p
    comparing-open l r =
        let all-passed : n ≡ valence m p = omega (arith, h.many, h.within) in
        h.here ∙ ap (edge_about m p) all-passed ∙ r.home
