-- The splitting of a perimeter keeps the invariant of the visits. Assumes nothing.
--     Past k i e            the edge e is split before place i of turn k
--     Splitting k i s       the invariant, with the rows taken, before place i of turn k
--     splitting-all         what splitting a whole perimeter does
use mathlib.Core.Path.{◌≡◌, refl, sym, ◌∙◌, ap}
use mathlib.Core.Bool.{Bool, true, false, false≢true}
use mathlib.Core.List.{List}
use mathlib.Core.Logic.{◌⊎◌, inl, inr}
use Prim.Native.Nat.{ℕ, suc, ◌+◌, ◌*◌, ◌≤◌, ◌<◌}
use native.Mathlib.Nat.{add-zero}
use native.Mathlib.Omega.{arith}
use native.Mathlib.Decide.{ℕ_discrete}
use lib.Dec.{ltb}
use lib.ListN.{get_or}
use borrow.Author.Tests.{ltb-false, lt-ltb, le-ltb}
use Rattle.closed_meshes.specs.Mesh.{MeshOver, Dart, lft, rgt, edge, flip, face}
use Rattle.closed_meshes.specs.Closed.{Closed}
use Rattle.closed_meshes.specs.Refinement.{mid, dst}
use Rattle.closed_meshes.specs.Renumbering.{Bijection, Row, sum_to}
use Rattle.closed_meshes.proofs.Sums.{place-below as sum_below}
use Rattle.tables.specs.Mesh.{Mesh}
use Rattle.audited_meshes.specs.Folds.{one_if}
use Rattle.refined_meshes.specs.State.{State, edge_of, put_edge, put_point, put_start}
use Rattle.refined_meshes.specs.Split.{split_edge, split_if, split_whole}
use Rattle.refined_meshes.specs.Visits.{split_all}
use Rattle.refined_meshes.proofs.Places.{dart_at, place, face-dart_at, place-dart_at, place-injective}
use Rattle.refined_meshes.proofs.Leads.{when, when-injective, leads, lead, leads-lead, lead_edge, lead-across, edge_lead, split_at, split_at-when, splits_before, splits, size_at}
use Rattle.refined_meshes.proofs.Numbering.{turn_of, slot_of, slot_of-below, points_before, edges_before, faces_before, point_no, edge_no, point_no-fits, edge_no-fits}
use Rattle.refined_meshes.proofs.Words.{ends}
use Rattle.refined_meshes.proofs.Target.{ends_old, ends_at}
use Rattle.refined_meshes.proofs.Turns.{turns-keep}
use Rattle.refined_meshes.proofs.Content.{Content, content-same}
use Rattle.refined_meshes.proofs.SplitStep.{content-split}

module _ {np ne nf : ℕ} {t : MeshOver (Row np) (Row ne) (Row nf)} (c : Closed t) (order : Bijection (Row nf) (Row nf)) where
  abbrev pub Past : ℕ → ℕ → Row ne → Type 0
  Past k i e = (turn_of c order e < k) ⊎ ((turn_of c order e ≡ k) × (place c (lead c order e) < i))

  -- The edge of a dart is split at the visit of its face at the latest.
  pub turn_of-le : (d : Dart (Row ne)) → turn_of c order (edge d) ≤ when c order (face t d)
  unfolding turn_of
  turn_of-le d = go (leads c order d) refl
    where
      go : (b : Bool) → leads c order d ≡ b → when c order (face t (lead c order (edge d))) ≤ when c order (face t d)
      go true h = rw (lead_edge c order d h) (omega arith)
      go false h = rw (lead-across c order d h) (unfold leads in ltb-false _ _ h)

  -- It is split before that visit exactly if the other side leads.
  pub turn_of-leads : (d : Dart (Row ne)) → leads c order d ≡ true → turn_of c order (edge d) ≡ when c order (face t d)
  unfolding turn_of
  turn_of-leads d h = ap (λ x. when c order (face t x)) (lead_edge c order d h)

  pub turn_of-follows : (d : Dart (Row ne)) → leads c order d ≡ false → turn_of c order (edge d) < when c order (face t d)
  turn_of-follows d h = go (ℕ_discrete (turn_of c order (edge d)) (when c order (face t d)))
    where
      go : Dec (turn_of c order (edge d) ≡ when c order (face t d)) → turn_of c order (edge d) < when c order (face t d)
      go (yes q) =
          let f : face t (lead c order (edge d)) ≡ face t d = when-injective c order _ _ (unfold turn_of in q) in
          let g : face t (flip d) ≡ face t d = ap (face t) (sym (lead-across c order d h)) ∙ f in
          absurd (differs d g)
        where
          differs : (d : Dart (Row ne)) → ¬ (face t (flip d) ≡ face t d)
          differs (lft e) q = c.sides-differ e (sym q)
          differs (rgt e) q = c.sides-differ e q
      go (no n) = omega (arith, turn_of-le d)

  -- The edges that are split have the lower rows.
  slot-below :
      (k i : ℕ) (e : Row ne) → turn_of c order e ≡ k → place c (lead c order e) < i → slot_of c order e < splits_before c order k i
  unfolding slot_of splits_before turn_of
  slot-below k i e h l =
      let s : split_at c order k (place c (lead c order e)) ≡ 1 =
      ap (λ x. split_at c order x (place c (lead c order e))) (sym h) ∙ split_at-when c order (lead c order e)
      ∙ ap one_if (leads-lead c order e) in
      let b : sum_to (place c (lead c order e)) (split_at c order k) + 0 < sum_to i (split_at c order k) =
      sum_below (split_at c order k) (place c (lead c order e)) i 0 l (omega arith) in
      rw h (omega arith)

  pub past-below :
      (k i : ℕ) (e : Row ne) → Past k i e → edge_no c order (dst e) < edges_before c order k + splits_before c order k i
  unfolding edge_no edges_before
  past-below k i e (inl l) =
      let b = sum_below (λ j. splits c order j + size_at c order j) (turn_of c order e) k (slot_of c order e) l
      (omega (arith, slot_of-below c order e)) in
      omega arith
  past-below k i e (inr h) = rw h.0 (omega (arith, slot-below k i e h.0 h.1))

-- ---- one place

-- the rows that a split takes
points-split : (s : State) (e : ℕ) → (split_edge e s).points_taken ≡ s.points_taken + 1
unfolding split_edge put_start put_point put_edge
points-split s e = refl

edges-split : (s : State) (e : ℕ) → (split_edge e s).edges_taken ≡ s.edges_taken + 1
unfolding split_edge put_start put_point put_edge
edges-split s e = refl

faces-split : (s : State) (e : ℕ) → (split_edge e s).faces_taken ≡ s.faces_taken
unfolding split_edge put_start put_point put_edge
faces-split s e = add-zero s.faces_taken

module _ (m : Mesh) {np ne nf : ℕ} {t : MeshOver (Row np) (Row ne) (Row nf)} (c : Closed t) (order : Bijection (Row nf) (Row nf)) where
  pub record Splitting (k i : ℕ) (s : State) : Type 0 where
    pub content : Content m c order (Past c order k i) k s
    pub points-taken : s.points_taken ≡ points_before c order k + suc (splits_before c order k i)
    pub edges-taken : s.edges_taken ≡ edges_before c order k + splits_before c order k i
    pub faces-taken : s.faces_taken ≡ faces_before c order k

  module _ (f : Row nf) (i : ℕ) (below : i < c.size f) (s : State) (h : Splitting (when c order f) i s) where
    abbrev k : ℕ
    k = when c order f

    abbrev d : Dart (Row ne)
    d = dart_at c f i

    abbrev e : Row ne
    e = edge d

    d-when : when c order (face t d) ≡ k
    d-when = ap (when c order) (face-dart_at c f i)

    d-place : place c d ≡ i
    d-place = place-dart_at c f i below

    -- An edge that is split at this place is this one.
    lead-here : (e' : Row ne) → turn_of c order e' ≡ k → place c (lead c order e') ≡ i → lead c order e' ≡ d
    unfolding turn_of
    lead-here e' q p =
        place-injective c (lead c order e') d (when-injective c order _ _ (q ∙ sym d-when)) (p ∙ sym d-place)

    splits-more : splits_before c order k (suc i) ≡ splits_before c order k i + one_if (leads c order d)
    unfolding splits_before sum_to
    splits-more = ap (λ x. splits_before c order k i + x) here
      where
        here : split_at c order k i ≡ one_if (leads c order d)
        here = ap (λ x. split_at c order x i) (sym d-when) ∙ ap (split_at c order _) (sym d-place) ∙ split_at-when c order d

    visited : (d' : Dart (Row ne)) → when c order (face t d') < k → Past c order k i (edge d')
    visited d' l = inl (omega (arith, turn_of-le c order d'))

    module _ (first : leads c order d ≡ true) where
      e-turn : turn_of c order e ≡ k
      e-turn = turn_of-leads c order d first ∙ d-when

      e-place : place c (lead c order e) ≡ i
      e-place = ap (place c) (lead_edge c order d first) ∙ d-place

      e-whole : ¬ Past c order k i e
      e-whole (inl l) = omega (arith, e-turn)
      e-whole (inr l) = omega (arith, l.1, e-place)

      half-row : s.edges_taken ≡ edge_no c order (dst e)
      unfolding edge_no slot_of
      half-row = h.edges-taken ∙ rw (e-turn, e-place)

      mid_row : s.points_taken ≡ point_no c order (mid e)
      unfolding point_no slot_of
      mid_row = h.points-taken ∙ rw (e-turn, e-place)

      abbrev Now : Row ne → Type 0
      Now e' = Past c order k i e' ⊎ (e' ≡ e)

      now-past : (e' : Row ne) → Now e' → Past c order k (suc i) e'
      now-past e' (inl (inl l)) = inl l
      now-past e' (inl (inr l)) = inr (l.0, omega (arith, l.1))
      now-past e' (inr q) = inr (ap (turn_of c order) q ∙ e-turn, rw (q, e-place) (omega arith))

      past-now : (e' : Row ne) → Past c order k (suc i) e' → Now e'
      past-now e' (inl l) = inl (inl l)
      past-now e' (inr l) = go (ℕ_discrete (place c (lead c order e')) i)
        where
          go : Dec (place c (lead c order e') ≡ i) → Now e'
          go (yes p) = inr (sym (edge_lead c order e') ∙ ap edge (lead-here e' l.0 p))
          go (no n) = inl (inr (l.0, omega (arith, l.1)))

      splitting-split : Splitting k (suc i) (split_edge e.0 s)
      splitting-split =
          record {
            content =
                content-same m c order now-past past-now
                (content-split m c order s h.content e e-whole visited half-row mid_row later);
            points-taken = points-split s e.0 ∙ ap (λ x. x + 1) h.points-taken ∙ more-points;
            edges-taken = edges-split s e.0 ∙ ap (λ x. x + 1) h.edges-taken ∙ more_edges;
            faces-taken = faces-split s e.0 ∙ h.faces-taken;
          }
        where
          later : (e' : Row ne) → Past c order k i e' → edge_no c order (dst e') ≤ edge_no c order (dst e)
          later e' p = rw (← half-row, h.edges-taken) (omega (arith, past-below c order k i e' p))

          one_more : splits_before c order k (suc i) ≡ splits_before c order k i + 1
          one_more = splits-more ∙ ap (λ x. splits_before c order k i + one_if x) first

          more-points : points_before c order k + suc (splits_before c order k i) + 1 ≡ points_before c order k + suc (splits_before c order k (suc i))
          more-points = omega (arith, one_more)

          more_edges : edges_before c order k + splits_before c order k i + 1 ≡ edges_before c order k + splits_before c order k (suc i)
          more_edges = omega (arith, one_more)

      test-split : ltb (edge_of s e.0).dest np ≡ true
      test-split =
          let w : (edge_of s e.0).dest ≡ (t.dest e).0 = unfold ends ends_old edge_no in ap (λ x. x.dest) (h.content.whole e e-whole) in
          rw w (lt-ltb (t.dest e).0 np (t.dest e).1)

    module _ (later : leads c order d ≡ false) where
      e-before : turn_of c order e < k
      e-before = rw (← d-when) (turn_of-follows c order d later)

      past-suc : (e' : Row ne) → Past c order k i e' → Past c order k (suc i) e'
      past-suc e' (inl l) = inl l
      past-suc e' (inr l) = inr (l.0, omega (arith, l.1))

      suc-past : (e' : Row ne) → Past c order k (suc i) e' → Past c order k i e'
      suc-past e' (inl l) = inl l
      suc-past e' (inr l) = go (ℕ_discrete (place c (lead c order e')) i)
        where
          go : Dec (place c (lead c order e') ≡ i) → Past c order k i e'
          go (yes p) =
              absurd
              (false≢true
              (sym later ∙ ap (leads c order) (sym (lead-here e' l.0 p)) ∙ leads-lead c order e'))
          go (no n) = inr (l.0, omega (arith, l.1))

      splitting-skip : Splitting k (suc i) s
      splitting-skip =
          let none_more : splits_before c order k (suc i) ≡ splits_before c order k i =
          splits-more ∙ ap (λ x. splits_before c order k i + one_if x) later ∙ omega arith in
          record {
            content = content-same m c order past-suc suc-past h.content;
            points-taken = h.points-taken ∙ ap (λ x. points_before c order k + suc x) (sym none_more);
            edges-taken = h.edges-taken ∙ ap (λ x. edges_before c order k + x) (sym none_more);
            faces-taken = h.faces-taken;
          }

      test-skip : ltb (edge_of s e.0).dest np ≡ false
      test-skip =
          let w : (edge_of s e.0).dest ≡ point_no c order (mid e) =
          unfold ends ends_at edge_no in ap (λ x. x.dest) (h.content.origin-half e (inl e-before)) in
          rw w (le-ltb (point_no c order (mid e)) np mid-above)
        where
          mid-above : np ≤ point_no c order (mid e)
          mid-above = unfold point_no points_before in omega arith

    pub splitting-place : Splitting k (suc i) (split_whole np e.0 s)
    unfolding split_whole
    splitting-place = go (leads c order d) refl
      where
        go : (b : Bool) → leads c order d ≡ b → Splitting k (suc i) (split_if (ltb (edge_of s e.0).dest np) e.0 s)
        go true q = rw (test-split q) (splitting-split q)
        go false q = rw (test-skip q) (splitting-skip q)

    -- The rows of an edge that is split here are rows of the refined mesh.
    pub split_rows : (edge_of s e.0).dest < np → (s.points_taken < np + ne + nf) × (s.edges_taken < 4 * ne)
    split_rows l = go (leads c order d) refl
      where
        go : (b : Bool) → leads c order d ≡ b → (s.points_taken < np + ne + nf) × (s.edges_taken < 4 * ne)
        go true q = (rw (mid_row q) (point_no-fits c order (mid e)), rw (half-row q) (edge_no-fits c order (dst e)))
        go false q = absurd (false≢true (sym (test-skip q) ∙ lt-ltb _ _ l))

  -- ---- the whole perimeter

  pub splitting-some :
      (f : Row nf) (es : List ℕ) (n : ℕ) → n ≤ c.size f → ((i : ℕ) → i < c.size f → get_or es i 0 ≡ (edge (dart_at c f i)).0)
      → (s : State) → Splitting (when c order f) 0 s → Splitting (when c order f) n (split_all np es n s)
  unfolding split_all
  splitting-some f es n l perimeter s h =
      turns-keep n (λ i. split_whole np (get_or es i 0)) (λ i x. Splitting (when c order f) i x)
      (λ i x b o. rw (perimeter i (omega arith)) (splitting-place f i (omega arith) x o)) s h
