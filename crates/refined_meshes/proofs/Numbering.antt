-- The numbering that visits make, in closed form: the rows of all kinds of a refined mesh, by the turns at which the faces are
-- visited. No two rows of a kind are one, and there are np + ne + nf points, 4 ne edges and 2 ne faces. Assumes nothing.
--     points_before edges_before faces_before k     the rows taken before turn k
--     turn_of e, slot_of e            the turn at which e is split, and the number of edges split before it at that turn
--     point_no edge_no face_no         the rows of the kinds
use mathlib.Core.Path.{◌≡◌, refl, sym, ◌∙◌, ap}
use mathlib.Core.Bool.{Bool, true, false, cond}
use Prim.Native.Nat.{ℕ, zero, suc, ◌+◌, ◌-◌, ◌*◌, ◌≤◌, ◌<◌}
use native.Mathlib.Omega.{arith}
use native.Mathlib.Decide.{dec_lt, ℕ_discrete}
use lib.Dec.{eqb}
use borrow.Author.Tests.{eq-eqb, ne_eqb}
use Rattle.closed_meshes.specs.Mesh.{MeshOver, Dart, edge, face}
use Rattle.closed_meshes.specs.Closed.{Closed}
use Rattle.closed_meshes.specs.Refinement.{NewPoint, old, mid, face_point, NewEdge, org, dst, join}
use Rattle.closed_meshes.specs.Renumbering.{Bijection, Row, sum_to}
use Rattle.closed_meshes.proofs.Counting.{row-path, rows-le}
use Rattle.closed_meshes.proofs.Counts.{count-points, count-edges, count-darts}
use Rattle.closed_meshes.proofs.Groupoid.{identity}
use Rattle.closed_meshes.proofs.Isomorphisms.{to-injective}
use Rattle.closed_meshes.proofs.Sums.{place-below as sum_below, place-unique, place_found}
use Rattle.audited_meshes.specs.Folds.{one_if}
use Rattle.refined_meshes.proofs.Places.{dart_at, place, face-dart_at, place-dart_at, place-below, place-injective}
use Rattle.refined_meshes.proofs.Leads.{when, when-below, when-injective, when-from, leads, lead}
use Rattle.refined_meshes.proofs.Leads.{edge_lead, leads-lead, lead_edge, at_turn-from, size_at}
use Rattle.refined_meshes.proofs.Leads.{split_at, splits_before, splits, size_at-when, split_at-when}

-- Numbers that are injective, below n and onto the numbers below n count the rows of a type.
counted :
    {A : Type 0} {a : ℕ} (n : ℕ) → Bijection A (Row a) → (g : A → ℕ) → ((x y : A) → g x ≡ g y → x ≡ y) → ((x : A) → g x < n)
    → ((r : ℕ) → r < n → (x : A) × (g x ≡ r)) → n ≡ a
counted {A} {a} n b g injective below onto =
    let up : n ≤ a =
    rows-le n a (λ r. b.to (onto r.0 r.1).0) λ r s e.
    row-path r s
    (sym (onto r.0 r.1).1 ∙ ap g (to-injective b _ _ e) ∙ (onto s.0 s.1).1) in
    let down : a ≤ n =
    rows-le a n (λ r. (g (b.from r), below (b.from r))) λ r s e.
    sym (b.to-from r) ∙ ap b.to (injective _ _ (ap (λ x. x.0) e)) ∙ b.to-from s in
    omega arith

-- A row of a sum is settled by its term and its number in the term.
slot-unique :
    (g : ℕ → ℕ) (k k' r r' : ℕ) → r < g k → r' < g k' → sum_to k g + r ≡ sum_to k' g + r' → (k ≡ k') × (r ≡ r')
slot-unique g k k' r r' h h' e =
    let i : k ≡ k' = place-unique g k k' r r' h h' e in
    let s : sum_to k g ≡ sum_to k' g = ap (λ x. sum_to x g) i in
    (i, omega arith)

one-true : (b : Bool) → 0 < one_if b → b ≡ true
one-true true h = refl
one-true false h = absurd (omega arith)

one_below : (b : Bool) (q : ℕ) → q < one_if b → q ≡ 0
one_below true q h = omega arith
one_below false q h = absurd (omega arith)

module _ {np ne nf : ℕ} {t : MeshOver (Row np) (Row ne) (Row nf)} (c : Closed t) (order : Bijection (Row nf) (Row nf)) where
  -- ---- the rows taken before a turn

  unfoldable pub points_before : ℕ → ℕ
  points_before k = np + sum_to k (λ j. suc (splits c order j))

  unfoldable pub edges_before : ℕ → ℕ
  edges_before k = ne + sum_to k (λ j. splits c order j + size_at c order j)

  unfoldable pub faces_before : ℕ → ℕ
  faces_before k = nf + sum_to k (λ j. size_at c order j - 1)

  -- the turn at which e is split, and the number of edges split before it at that turn
  unfoldable pub turn_of : Row ne → ℕ
  turn_of e = when c order (face t (lead c order e))

  unfoldable pub slot_of : Row ne → ℕ
  slot_of e = splits_before c order (turn_of e) (place c (lead c order e))

  pub slot_of-below : (e : Row ne) → slot_of e < splits c order (turn_of e)
  unfolding slot_of turn_of splits splits_before
  slot_of-below e =
      let k : ℕ = when c order (face t (lead c order e)) in
      let i : place c (lead c order e) < size_at c order k = rw (size_at-when c order (face t (lead c order e))) (place-below c (lead c order e)) in
      let s : split_at c order k (place c (lead c order e)) ≡ 1 = split_at-when c order (lead c order e) ∙ ap one_if (leads-lead c order e) in
      let b : sum_to (place c (lead c order e)) (split_at c order k) + 0 < sum_to (size_at c order k) (split_at c order k) =
      sum_below (split_at c order k) (place c (lead c order e)) (size_at c order k) 0 i (omega arith) in
      omega arith

  slot_of-injective : (e e' : Row ne) → turn_of e ≡ turn_of e' → slot_of e ≡ slot_of e' → e ≡ e'
  unfolding slot_of turn_of splits_before
  slot_of-injective e e' h s =
      let k : ℕ = when c order (face t (lead c order e)) in
      let k' : ℕ = when c order (face t (lead c order e')) in
      let a : split_at c order k (place c (lead c order e)) ≡ 1 = split_at-when c order (lead c order e) ∙ ap one_if (leads-lead c order e) in
      let a' : split_at c order k' (place c (lead c order e')) ≡ 1 = split_at-when c order (lead c order e') ∙ ap one_if (leads-lead c order e') in
      let a'' : split_at c order k (place c (lead c order e')) ≡ 1 = ap (λ x. split_at c order x (place c (lead c order e'))) h ∙ a' in
      let s' : sum_to (place c (lead c order e')) (split_at c order k) ≡ sum_to (place c (lead c order e')) (split_at c order k') =
      ap (λ x. sum_to (place c (lead c order e')) (split_at c order x)) h in
      let i : place c (lead c order e) ≡ place c (lead c order e') =
      place-unique (split_at c order k) (place c (lead c order e)) (place c (lead c order e')) 0 0 (omega arith) (omega arith) (omega arith) in
      sym (edge_lead c order e) ∙ ap edge (place-injective c (lead c order e) (lead c order e') (when-injective c order _ _ h) i) ∙ edge_lead c order e'

  -- The number r below the splits c order of turn k is the slot of an edge.
  slot-found : (k : ℕ) → k < nf → (r : ℕ) → r < splits c order k → (e : Row ne) × (turn_of e ≡ k) × (slot_of e ≡ r)
  unfolding slot_of turn_of splits splits_before
  slot-found k h r l =
      let g = place_found (split_at c order k) (size_at c order k) r l in
      let f : Row nf = order.from (k, h) in
      let i : ℕ = g.0 in
      let d : Dart (Row ne) = dart_at c f i in
      let o : split_at c order k i ≡ one_if (leads c order d) = unfold split_at in at_turn-from c order k h (λ f. one_if (leads c order (dart_at c f i))) in
      let z : g.2 ≡ 0 = one_below (leads c order d) g.2 (rw (← o) g.3) in
      let y : leads c order d ≡ true = one-true (leads c order d) (omega (arith, g.3)) in
      let x : lead c order (edge d) ≡ d = lead_edge c order d y in
      let w : when c order (face t d) ≡ k = ap (when c order) (face-dart_at c f i) ∙ when-from c order (k, h) in
      let n : size_at c order k ≡ c.size f = unfold size_at in at_turn-from c order k h (λ f. c.size f) in
      let p : place c d ≡ i = place-dart_at c f i (rw (← n) g.1) in
      (edge d, ap (λ y. when c order (face t y)) x ∙ w, rw (x, w, p) (omega (arith, g.4)))

  -- ---- the rows

  unfoldable pub point_no : NewPoint (Row np) (Row ne) (Row nf) → ℕ
  point_no (old p) = p.0
  point_no (mid e) = points_before (turn_of e) + suc (slot_of e)
  point_no (face_point f) = points_before (when c order f) + 0

  unfoldable pub edge_no : NewEdge (Row ne) → ℕ
  edge_no (org e) = e.0
  edge_no (dst e) = edges_before (turn_of e) + slot_of e
  edge_no (join d) = edges_before (when c order (face t d)) + (splits c order (when c order (face t d)) + place c d)

  unfoldable pub face_no : Dart (Row ne) → ℕ
  face_no d = cond (eqb (place c d) 0) (face t d).0 (faces_before (when c order (face t d)) + (place c d - 1))

  -- ---- points

  pub point_no-below : (x : NewPoint (Row np) (Row ne) (Row nf)) → point_no x < points_before nf
  unfolding point_no points_before
  point_no-below (old p) = omega (arith, p.1)
  point_no-below (mid e) =
      let b = sum_below (λ j. suc (splits c order j)) (turn_of e) nf (suc (slot_of e)) (unfold turn_of in when-below c order (face t (lead c order e)))
      (omega (arith, slot_of-below e)) in
      omega arith
  point_no-below (face_point f) =
      let b = sum_below (λ j. suc (splits c order j)) (when c order f) nf 0 (when-below c order f) (omega arith) in omega arith

  pub point_no-injective : (x y : NewPoint (Row np) (Row ne) (Row nf)) → point_no x ≡ point_no y → x ≡ y
  unfolding point_no points_before
  point_no-injective (old p) (old q) h = ap old (row-path p q h)
  point_no-injective (old p) (mid e) h = absurd (omega (arith, p.1))
  point_no-injective (old p) (face_point f) h = absurd (omega (arith, p.1))
  point_no-injective (mid e) (old p) h = absurd (omega (arith, p.1))
  point_no-injective (mid e) (mid e') h =
      let u = slot-unique (λ j. suc (splits c order j)) (turn_of e) (turn_of e') (suc (slot_of e)) (suc (slot_of e'))
      (omega (arith, slot_of-below e)) (omega (arith, slot_of-below e')) (omega arith) in
      ap mid (slot_of-injective e e' u.0 (omega (arith, u.1)))
  point_no-injective (mid e) (face_point f) h =
      let u = slot-unique (λ j. suc (splits c order j)) (turn_of e) (when c order f) (suc (slot_of e)) 0
      (omega (arith, slot_of-below e)) (omega arith) (omega arith) in
      absurd (omega (arith, u.1))
  point_no-injective (face_point f) (old p) h = absurd (omega (arith, p.1))
  point_no-injective (face_point f) (mid e) h =
      let u = slot-unique (λ j. suc (splits c order j)) (when c order f) (turn_of e) 0 (suc (slot_of e))
      (omega arith) (omega (arith, slot_of-below e)) (omega arith) in
      absurd (omega (arith, u.1))
  point_no-injective (face_point f) (face_point g) h =
      let u = slot-unique (λ j. suc (splits c order j)) (when c order f) (when c order g) 0 0 (omega arith) (omega arith) (omega arith) in
      ap face_point (when-injective c order f g u.0)

  point_no-onto : (r : ℕ) → r < points_before nf → (x : NewPoint (Row np) (Row ne) (Row nf)) × (point_no x ≡ r)
  unfolding point_no points_before
  point_no-onto r h = go (dec_lt r np)
    where
      new : (k : ℕ) → k < nf → (s : ℕ) → s < suc (splits c order k) → sum_to k (λ j. suc (splits c order j)) + s ≡ r - np → np ≤ r
          → (x : NewPoint (Row np) (Row ne) (Row nf)) × (point_no x ≡ r)
      new k l zero b e n =
          (face_point (order.from (k, l)), rw (when-from c order (k, l)) (omega arith))
      new k l (suc s) b e n =
          let g = slot-found k l s (omega arith) in
          (mid g.0, rw (g.1, g.2) (omega arith))

      go : Dec (r < np) → (x : NewPoint (Row np) (Row ne) (Row nf)) × (point_no x ≡ r)
      go (yes l) = (old (r, l), refl)
      go (no l) =
          let g = place_found (λ j. suc (splits c order j)) nf (r - np) (omega arith) in
          new g.0 g.1 g.2 g.3 g.4 (omega arith)

  pub points-counted : points_before nf ≡ np + ne + nf
  points-counted =
      counted (points_before nf) (count-points (identity (Row np)) (identity (Row ne)) (identity (Row nf))) point_no point_no-injective
      point_no-below point_no-onto

  -- ---- edges

  edge_slot : Dart (Row ne) → ℕ
  edge_slot d = splits c order (when c order (face t d)) + place c d

  edge_slot-below : (d : Dart (Row ne)) → edge_slot d < splits c order (when c order (face t d)) + size_at c order (when c order (face t d))
  unfolding edge_slot
  edge_slot-below d = rw (size_at-when c order (face t d)) (omega (arith, place-below c d))

  pub edge_no-below : (x : NewEdge (Row ne)) → edge_no x < edges_before nf
  unfolding edge_no edges_before edge_slot
  edge_no-below (org e) = omega (arith, e.1)
  edge_no-below (dst e) =
      let b = sum_below (λ j. splits c order j + size_at c order j) (turn_of e) nf (slot_of e) (unfold turn_of in when-below c order (face t (lead c order e)))
      (omega (arith, slot_of-below e)) in
      omega arith
  edge_no-below (join d) =
      let b = sum_below (λ j. splits c order j + size_at c order j) (when c order (face t d)) nf (edge_slot d) (when-below c order (face t d)) (edge_slot-below d) in
      omega arith

  pub edge_no-injective : (x y : NewEdge (Row ne)) → edge_no x ≡ edge_no y → x ≡ y
  unfolding edge_no edges_before edge_slot
  edge_no-injective (org e) (org e') h = ap org (row-path e e' h)
  edge_no-injective (org e) (dst e') h = absurd (omega (arith, e.1))
  edge_no-injective (org e) (join d) h = absurd (omega (arith, e.1))
  edge_no-injective (dst e) (org e') h = absurd (omega (arith, e'.1))
  edge_no-injective (dst e) (dst e') h =
      let u = slot-unique (λ j. splits c order j + size_at c order j) (turn_of e) (turn_of e') (slot_of e) (slot_of e')
      (omega (arith, slot_of-below e)) (omega (arith, slot_of-below e')) (omega arith) in
      ap dst (slot_of-injective e e' u.0 u.1)
  edge_no-injective (dst e) (join d) h =
      let u = slot-unique (λ j. splits c order j + size_at c order j) (turn_of e) (when c order (face t d)) (slot_of e) (edge_slot d)
      (omega (arith, slot_of-below e)) (edge_slot-below d) (omega arith) in
      let s : splits c order (turn_of e) ≡ splits c order (when c order (face t d)) = ap (splits c order) u.0 in
      absurd (omega (arith, u.1, slot_of-below e))
  edge_no-injective (join d) (org e) h = absurd (omega (arith, e.1))
  edge_no-injective (join d) (dst e) h =
      let u = slot-unique (λ j. splits c order j + size_at c order j) (when c order (face t d)) (turn_of e) (edge_slot d) (slot_of e)
      (edge_slot-below d) (omega (arith, slot_of-below e)) (omega arith) in
      let s : splits c order (when c order (face t d)) ≡ splits c order (turn_of e) = ap (splits c order) u.0 in
      absurd (omega (arith, u.1, slot_of-below e))
  edge_no-injective (join d) (join d') h =
      let u = slot-unique (λ j. splits c order j + size_at c order j) (when c order (face t d)) (when c order (face t d')) (edge_slot d) (edge_slot d')
      (edge_slot-below d) (edge_slot-below d') (omega arith) in
      let s : splits c order (when c order (face t d)) ≡ splits c order (when c order (face t d')) = ap (splits c order) u.0 in
      ap join (place-injective c d d' (when-injective c order _ _ u.0) (omega (arith, u.1)))

  edge_no-onto : (r : ℕ) → r < edges_before nf → (x : NewEdge (Row ne)) × (edge_no x ≡ r)
  unfolding edge_no edges_before
  edge_no-onto r h = go (dec_lt r ne)
    where
      new : (k : ℕ) → k < nf → (s : ℕ) → s < splits c order k + size_at c order k → sum_to k (λ j. splits c order j + size_at c order j) + s ≡ r - ne → ne ≤ r
          → Dec (s < splits c order k) → (x : NewEdge (Row ne)) × (edge_no x ≡ r)
      new k l s b e n (yes q) =
          let g = slot-found k l s q in (dst g.0, rw (g.1, g.2) (omega arith))
      new k l s b e n (no q) =
          let f : Row nf = order.from (k, l) in
          let z : size_at c order k ≡ c.size f = unfold size_at in at_turn-from c order k l (λ f. c.size f) in
          let i : ℕ = s - splits c order k in
          let w : when c order (face t (dart_at c f i)) ≡ k = ap (when c order) (face-dart_at c f i) ∙ when-from c order (k, l) in
          let p : place c (dart_at c f i) ≡ i = place-dart_at c f i (omega arith) in
          (join (dart_at c f i), rw (w, p) (omega arith))

      go : Dec (r < ne) → (x : NewEdge (Row ne)) × (edge_no x ≡ r)
      go (yes l) = (org (r, l), refl)
      go (no l) =
          let g = place_found (λ j. splits c order j + size_at c order j) nf (r - ne) (omega arith) in
          new g.0 g.1 g.2 g.3 g.4 (omega arith) (dec_lt g.2 (splits c order g.0))

  pub edges-counted : edges_before nf ≡ 4 * ne
  edges-counted = counted (edges_before nf) (count-edges (identity (Row ne))) edge_no edge_no-injective edge_no-below edge_no-onto

  -- ---- faces

  -- The first new face takes the old row, and the others are appended.
  pub face_no-first : (d : Dart (Row ne)) → place c d ≡ 0 → face_no d ≡ (face t d).0
  unfolding face_no
  face_no-first d h = rw (eq-eqb (place c d) 0 h)

  face_no-later : (d : Dart (Row ne)) → ¬ (place c d ≡ 0) → face_no d ≡ faces_before (when c order (face t d)) + (place c d - 1)
  unfolding face_no
  face_no-later d h = rw (ne_eqb (place c d) 0 h)

  face_slot-below : (d : Dart (Row ne)) → ¬ (place c d ≡ 0) → place c d - 1 < size_at c order (when c order (face t d)) - 1
  face_slot-below d h = rw (size_at-when c order (face t d)) (omega (arith, place-below c d))

  pub face_no-below : (d : Dart (Row ne)) → face_no d < faces_before nf
  unfolding faces_before
  face_no-below d = go (ℕ_discrete (place c d) 0)
    where
      go : Dec (place c d ≡ 0) → face_no d < faces_before nf
      go (yes h) = rw (face_no-first d h) (omega (arith, (face t d).1))
      go (no h) =
          let b = sum_below (λ j. size_at c order j - 1) (when c order (face t d)) nf (place c d - 1) (when-below c order (face t d)) (face_slot-below d h) in
          rw (face_no-later d h) (omega arith)

  pub face_no-injective : (d d' : Dart (Row ne)) → face_no d ≡ face_no d' → d ≡ d'
  unfolding faces_before
  face_no-injective d d' e = go (ℕ_discrete (place c d) 0) (ℕ_discrete (place c d') 0)
    where
      go : Dec (place c d ≡ 0) → Dec (place c d' ≡ 0) → d ≡ d'
      go (yes h) (yes h') =
          place-injective c d d' (row-path _ _ (sym (face_no-first d h) ∙ e ∙ face_no-first d' h')) (h ∙ sym h')
      go (yes h) (no h') =
          let q : (face t d).0 ≡ faces_before (when c order (face t d')) + (place c d' - 1) = sym (face_no-first d h) ∙ e ∙ face_no-later d' h' in
          absurd (omega (arith, (face t d).1))
      go (no h) (yes h') =
          let q : faces_before (when c order (face t d)) + (place c d - 1) ≡ (face t d').0 = sym (face_no-later d h) ∙ e ∙ face_no-first d' h' in
          absurd (omega (arith, (face t d').1))
      go (no h) (no h') =
          let q : faces_before (when c order (face t d)) + (place c d - 1) ≡ faces_before (when c order (face t d')) + (place c d' - 1) =
          sym (face_no-later d h) ∙ e ∙ face_no-later d' h' in
          let u = slot-unique (λ j. size_at c order j - 1) (when c order (face t d)) (when c order (face t d')) (place c d - 1) (place c d' - 1)
          (face_slot-below d h) (face_slot-below d' h') (omega arith) in
          place-injective c d d' (when-injective c order _ _ u.0) (omega (arith, u.1))

  face_no-onto : (r : ℕ) → r < faces_before nf → (d : Dart (Row ne)) × (face_no d ≡ r)
  unfolding faces_before
  face_no-onto r h = go (dec_lt r nf)
    where
      go : Dec (r < nf) → (d : Dart (Row ne)) × (face_no d ≡ r)
      go (yes l) =
          let f : Row nf = (r, l) in (
            dart_at c f 0,
            face_no-first (dart_at c f 0) (place-dart_at c f 0 (omega (arith, c.size_low f))) ∙ ap (λ x. x.0) (face-dart_at c f 0),
          )
      go (no l) =
          let g = place_found (λ j. size_at c order j - 1) nf (r - nf) (omega arith) in
          let f : Row nf = order.from (g.0, g.1) in
          let i : ℕ = suc g.2 in
          let z : size_at c order g.0 ≡ c.size f = unfold size_at in at_turn-from c order g.0 g.1 (λ f. c.size f) in
          let w : when c order (face t (dart_at c f i)) ≡ g.0 = ap (when c order) (face-dart_at c f i) ∙ when-from c order (g.0, g.1) in
          let p : place c (dart_at c f i) ≡ i = place-dart_at c f i (omega (arith, g.3)) in
          (dart_at c f i, face_no-later (dart_at c f i) (omega arith) ∙ rw (w, p) (omega (arith, g.4)))

  pub faces-counted : faces_before nf ≡ 2 * ne
  faces-counted = counted (faces_before nf) (count-darts (identity (Row ne))) face_no face_no-injective face_no-below face_no-onto

  -- ---- every row is below its number

  pub point_no-fits : (x : NewPoint (Row np) (Row ne) (Row nf)) → point_no x < np + ne + nf
  point_no-fits x = rw (← points-counted) (point_no-below x)

  pub edge_no-fits : (x : NewEdge (Row ne)) → edge_no x < 4 * ne
  edge_no-fits x = rw (← edges-counted) (edge_no-below x)

  pub face_no-fits : (d : Dart (Row ne)) → face_no d < 2 * ne
  face_no-fits d = rw (← faces-counted) (face_no-below d)
