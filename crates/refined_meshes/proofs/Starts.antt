-- The start edges that the second edition settles: those of the refinement on kinds. Assumes nothing.
--     length-starts                the table of points stays as long
--     settled-points               what the tables held before shows in no row that is settled
--     kept_word                    valences and marks stay
--     left-joining, right-joining, joins-below     the joining edges beside the row of an old edge
--     half_is                      its destination half
--     starts-stand                 each new point has its start edge
use mathlib.Core.Path.{◌≡◌, refl, sym, ◌∙◌, ap, ap₂}
use mathlib.Core.Bool.{cond}
use mathlib.Core.List.{List, []}
use mathlib.Core.Logic.{◌≢◌}
use Prim.Native.Nat.{ℕ, zero, suc, ◌+◌, ◌*◌, ◌≤◌, ◌<◌}
use native.Mathlib.Omega.{arith}
use native.Mathlib.Decide.{ℕ_discrete}
use lib.Dec.{eqb}
use lib.ListN.{length, get_or, set, length-set}
use lib.Seq.{get_or-set_same, get_or-set_other}
use lib.Ieee.{Float}
use borrow.Author.Tests.{eq-eqb, ne_eqb}
use Rattle.t_spline.specs.declared.TnurccEdge.{TnurccEdge}
use Rattle.tables.specs.Mesh.{Mesh, start, dest, left_face, left_acw, right_cw, face_start, corner}
use Rattle.closed_meshes.specs.Mesh.{MeshOver, Dart, lft, rgt, edge, first, face}
use Rattle.closed_meshes.specs.Closed.{Closed}
use Rattle.closed_meshes.specs.Refinement.{NewPoint, old, mid, face_point, NewEdge, org, dst, join, first_half, refined}
use Rattle.closed_meshes.specs.Renumbering.{Row}
use Rattle.closed_meshes.proofs.Counting.{row-path}
use Rattle.closed_meshes.proofs.Isomorphisms.{to-injective}
use Rattle.audited_meshes.specs.Rows.{Stands}
use Rattle.refined_meshes.specs.declared.Edition.{Edition}
use Rattle.refined_meshes.specs.declared.Edition.TheVariants.{First, Second}
use Rattle.refined_meshes.specs.Turns.{turns}
use Rattle.refined_meshes.specs.State.{State, with_positions, edge_of}
use Rattle.refined_meshes.specs.Starts.{new_half, old_start, centre_join, starts_put, settled_starts, points_of_edition}
use Rattle.refined_meshes.specs.Settled.{settled}
use Rattle.refined_meshes.specs.Refines.{Refines}
use Rattle.refined_meshes.proofs.Words.{point_of, face_of}
use Rattle.refined_meshes.proofs.Turns.{turns-view, turns-other, turns_same}

-- ---- start edges stored in rows

module _ (row edge : ℕ → ℕ) where
  abbrev put : ℕ → List ℕ → List ℕ
  put i xs = set xs (row i * 3 + 1) (edge i)

  length-put : (n : ℕ) (ps : List ℕ) → length (starts_put n row edge ps) ≡ length ps
  unfolding starts_put
  length-put n ps = turns-view n put length (λ i xs. length-set xs (row i * 3 + 1) (edge i)) ps

  put_other : (n : ℕ) (ps : List ℕ) (k : ℕ) → ((i : ℕ) → i < n → k ≢ row i * 3 + 1) → get_or (starts_put n row edge ps) k 0 ≡ get_or ps k 0
  unfolding starts_put
  put_other n ps k h =
      turns-other put (λ xs. length xs ≡ length ps) (λ i xs o. length-set xs (row i * 3 + 1) (edge i) ∙ o) (λ xs j. get_or xs j 0)
      (λ i. row i * 3 + 1) n (λ i xs j l o q. get_or-set_other xs (row i * 3 + 1) j (edge i) 0 q) ps refl k h

  put-at :
      (n : ℕ) (ps : List ℕ) → ((i : ℕ) → i < n → row i * 3 + 1 < length ps) → ((i j : ℕ) → i < n → j < n → row i ≡ row j → i ≡ j)
      → (i : ℕ) → i < n → get_or (starts_put n row edge ps) (row i * 3 + 1) 0 ≡ edge i
  unfolding starts_put
  put-at n ps there injective i l =
      turns_same put (λ xs. length xs ≡ length ps) (λ i xs o. length-set xs (row i * 3 + 1) (edge i) ∙ o) (λ xs j. get_or xs j 0)
      (λ i. row i * 3 + 1) n edge (λ i xs k o. get_or-set_same xs (row i * 3 + 1) (edge i) 0 (omega (arith, there i k)))
      (λ i xs j k o q. get_or-set_other xs (row i * 3 + 1) j (edge i) 0 q) (λ i j a b q. injective i j a b (omega arith)) ps refl i l

-- the same start edges, stored in the same rows of tables that are alike at the word k
module _ (row row' edge edge' : ℕ → ℕ) (k : ℕ) where
  put-alike :
      (n : ℕ) → ((i : ℕ) → i < n → row' i ≡ row i) → ((i : ℕ) → i < n → edge' i ≡ edge i) → (ps ps' : List ℕ) → k < length ps → k < length ps'
      → get_or ps' k 0 ≡ get_or ps k 0 → get_or (starts_put n row' edge' ps') k 0 ≡ get_or (starts_put n row edge ps) k 0
  unfolding starts_put turns
  put-alike zero hr he ps ps' r r' same = same
  put-alike (suc n) hr he ps ps' r r' same =
      ap₂ (λ a b. get_or (set xs' (a * 3 + 1) b) k 0) (hr n (omega arith)) (he n (omega arith))
      ∙ go (put-alike n (λ i b. hr i (omega arith)) (λ i b. he i (omega arith)) ps ps' r r' same) (ℕ_discrete k at)
    where
      xs : List ℕ
      xs = starts_put n row edge ps

      xs' : List ℕ
      xs' = starts_put n row' edge' ps'

      at : ℕ
      at = row n * 3 + 1

      go : get_or xs' k 0 ≡ get_or xs k 0 → Dec (k ≡ at) → get_or (set xs' at (edge n)) k 0 ≡ get_or (set xs at (edge n)) k 0
      go earlier (yes e) =
          ap (λ j. get_or (set xs' at (edge n)) j 0) e
          ∙ get_or-set_same xs' at (edge n) 0 (omega (arith, e, length-put row' edge' n ps'))
          ∙ sym (get_or-set_same xs at (edge n) 0 (omega (arith, e, length-put row edge n ps)))
          ∙ ap (λ j. get_or (set xs at (edge n)) j 0) (sym e)
      go earlier (no e) = get_or-set_other xs' at k (edge n) 0 e ∙ earlier ∙ sym (get_or-set_other xs at k (edge n) 0 e)

-- ---- all start edges

module _ (m w : Mesh) (np ne nf : ℕ) (ps : List ℕ) where
  abbrev olds : List ℕ
  olds = starts_put np (λ p. p) (old_start m w) ps

  abbrev mids : List ℕ
  mids = starts_put ne (dest w) (new_half w) olds

  length-all : length (settled_starts m w np ne nf ps) ≡ length ps
  unfolding settled_starts
  length-all =
      length-put (λ f. corner w f 0) (centre_join m w) nf mids ∙ length-put (dest w) (new_half w) ne olds
      ∙ length-put (λ p. p) (old_start m w) np ps

  -- A word that is no start edge stays.
  pub kept_word : (k : ℕ) → ((i : ℕ) → k ≢ i * 3 + 1) → get_or (settled_starts m w np ne nf ps) k 0 ≡ get_or ps k 0
  unfolding settled_starts
  kept_word k h =
      put_other (λ f. corner w f 0) (centre_join m w) nf mids k (λ i l. h (corner w i 0))
      ∙ put_other (dest w) (new_half w) ne olds k (λ i l. h (dest w i))
      ∙ put_other (λ p. p) (old_start m w) np ps k (λ i l. h i)

pub length-starts : (ed : Edition) (m : Mesh) (np ne nf : ℕ) (s : State) → length (points_of_edition ed m np ne nf s) ≡ length s.points
length-starts First m np ne nf s = refl
length-starts Second m np ne nf s = length-all m (with_positions [] s) np ne nf s.points

-- Words that are alike are alike when start edges are settled.
module _
    (m w w' : Mesh) (np ne nf : ℕ) (halves : (e : ℕ) → e < ne → new_half w' e ≡ new_half w e) (ends : (e : ℕ) → e < ne → dest w' e ≡ dest w e)
    (starts : (p : ℕ) → p < np → old_start m w' p ≡ old_start m w p) (centres : (f : ℕ) → f < nf → centre_join m w' f ≡ centre_join m w f)
    (corners : (f : ℕ) → f < nf → corner w' f 0 ≡ corner w f 0)
  where
    starts-alike :
        (k : ℕ) (ps ps' : List ℕ) → k < length ps → k < length ps' → get_or ps' k 0 ≡ get_or ps k 0
        → get_or (settled_starts m w' np ne nf ps') k 0 ≡ get_or (settled_starts m w np ne nf ps) k 0
    unfolding settled_starts
    starts-alike k ps ps' r r' same =
        let o = length-put (λ p. p) (old_start m w) np ps in
        let o' = length-put (λ p. p) (old_start m w') np ps' in
        let d = length-put (dest w) (new_half w) ne (olds m w np ne nf ps) in
        let d' = length-put (dest w') (new_half w') ne (olds m w' np ne nf ps') in
        put-alike (λ f. corner w f 0) (λ f. corner w' f 0) (centre_join m w) (centre_join m w') k nf corners centres (mids m w np ne nf ps)
        (mids m w' np ne nf ps') (omega (arith, d, o)) (omega (arith, d', o'))
        (put-alike (dest w) (dest w') (new_half w) (new_half w') k ne ends halves (olds m w np ne nf ps) (olds m w' np ne nf ps') (omega (arith, o))
        (omega (arith, o')) (put-alike (λ p. p) (λ p. p) (old_start m w) (old_start m w') k np (λ i l. refl) starts ps ps' r r' same))

-- Two states whose rows are alike, of which the first has its joining edges in range.
module _
    (m : Mesh) (np ne nf : ℕ) (s s' : State) (room : (np + ne + nf) * 3 ≤ length s.points) (room' : (np + ne + nf) * 3 ≤ length s'.points)
    (points : (p : ℕ) → p < np + ne + nf → point_of s' p ≡ point_of s p) (edges : (e : ℕ) → e < 4 * ne → edge_of s' e ≡ edge_of s e)
    (faces : (f : ℕ) → f < 2 * ne → face_of s' f ≡ face_of s f) (few : nf ≤ 2 * ne)
    (joins : (e : ℕ) → e < ne → left_acw (with_positions [] s) e < 4 * ne) (starts : (p : ℕ) → p < np → start m p < ne)
    (face_starts : (f : ℕ) → f < nf → face_start m f < ne)
  where
    abbrev left : Mesh
    left = with_positions [] s

    abbrev left' : Mesh
    left' = with_positions [] s'

    acw-alike : (e : ℕ) → e < 4 * ne → left_acw left' e ≡ left_acw left e
    acw-alike e l = ap (λ (r : TnurccEdge). get_or r.connections 1 0) (edges e l)

    cw-alike : (e : ℕ) → e < 4 * ne → right_cw left' e ≡ right_cw left e
    cw-alike e l = ap (λ (r : TnurccEdge). get_or r.connections 2 0) (edges e l)

    halves-alike : (e : ℕ) → e < ne → new_half left' e ≡ new_half left e
    halves-alike e l = ap (left_acw left') (acw-alike e (omega arith)) ∙ acw-alike (left_acw left e) (joins e l)

    word-alike :
        (k : ℕ) → k < (np + ne + nf) * 3 → get_or s'.points k 0 ≡ get_or s.points k 0
        → get_or (settled_starts m left' np ne nf s'.points) k 0 ≡ get_or (settled_starts m left np ne nf s.points) k 0
    unfolding face_of
    word-alike k l =
        starts-alike m left left' np ne nf halves-alike (λ e b. ap (λ (r : TnurccEdge). r.dest) (edges e (omega arith)))
        (λ p b. rw (halves-alike (start m p) (starts p b)))
        (λ f b. rw (acw-alike (face_start m f) (omega (arith, face_starts f b)), cw-alike (face_start m f) (omega (arith, face_starts f b))))
        (λ f b. ap (λ w. w.corner0) (faces f (omega arith))) k s.points s'.points (omega arith) (omega arith)

    pub settled-points : (ed : Edition) (p : ℕ) → p < np + ne + nf → point_of (settled ed m np ne nf s') p ≡ point_of (settled ed m np ne nf s) p
    unfolding settled point_of
    settled-points First p l = points p l
    settled-points Second p l =
        let v = word-alike (p * 3) (omega arith) (ap (λ w. w.valence) (points p l)) in
        let e = word-alike (p * 3 + 1) (omega arith) (ap (λ w. w.start) (points p l)) in
        let k = word-alike (p * 3 + 2) (omega arith) (ap (λ w. w.mark) (points p l)) in
        λ i. record { valence = v i; start = e i; mark = k i }

-- ---- those of the refinement on kinds

module _
    (m : Mesh) {np ne nf : ℕ} {t : MeshOver (Row np) (Row ne) (Row nf)} (stands : Stands m t) (c : Closed t) (order : List ℕ) (s : State) (ps : List Float)
    (r : Refines First m t c order (with_positions ps s))
  where
    -- the rows that the visits left, and the rows of the kinds
    abbrev w : Mesh
    w = with_positions [] s

    point_row : NewPoint (Row np) (Row ne) (Row nf) → ℕ
    point_row x = (r.numbering.points.to x).0

    edge_row : NewEdge (Row ne) → ℕ
    edge_row x = (r.numbering.edges.to x).0

    pub left-joining : (e : Row ne) → left_acw (with_positions ps s) e.0 ≡ (r.numbering.edges.to (join (lft e))).0
    left-joining e =
        ap (left_acw w) (sym (r.origin-row e)) ∙ r.stands.left_acw-stands (r.numbering.edges.to (org e))
        ∙ ap (λ x. x.0) (r.numbering.left_acw (org e))

    pub right-joining : (e : Row ne) → right_cw (with_positions ps s) e.0 ≡ (r.numbering.edges.to (join (rgt e))).0
    right-joining e =
        ap (right_cw w) (sym (r.origin-row e)) ∙ r.stands.right_cw-stands (r.numbering.edges.to (org e))
        ∙ ap (λ x. x.0) (r.numbering.right_cw (org e))

    pub joins-below : (e : ℕ) → e < ne → (left_acw (with_positions ps s) e < 4 * ne) × (right_cw (with_positions ps s) e < 4 * ne)
    joins-below e l = (
      omega (arith, left-joining (e, l), (r.numbering.edges.to (join (lft (e, l)))).1),
      omega (arith, right-joining (e, l), (r.numbering.edges.to (join (rgt (e, l)))).1),
    )

    pub half_is : (e : Row ne) → new_half (with_positions ps s) e.0 ≡ (r.numbering.edges.to (dst e)).0
    unfolding edge_row
    half_is e =
        ap (left_acw w) (left-joining e) ∙ r.stands.left_acw-stands (r.numbering.edges.to (join (lft e)))
        ∙ ap (λ x. x.0) (r.numbering.left_acw (join (lft e)))

    -- The half at the point of its start edge.
    old-is : (p : Row np) → old_start m w p.0 ≡ edge_row (first_half (c.point_dart p))
    unfolding edge_row
    old-is p = go (c.point_dart p) (c.edge-point_dart p) (c.about-points.cls-start p)
      where
        by : (e : Row ne) → e ≡ t.start p → old_start m w p.0 ≡ cond (eqb (dest m e.0) p.0) (new_half w e.0) e.0
        by e q = ap (λ i. cond (eqb (dest m i) p.0) (new_half w i) i) (stands.start-stands p ∙ ap (λ x. x.0) (sym q))

        go : (d : Dart (Row ne)) → edge d ≡ t.start p → first t d ≡ p → old_start m w p.0 ≡ edge_row (first_half d)
        go (lft e) q h =
            by e q
            ∙ ap (λ b. cond b (new_half w e.0) e.0)
            (ne_eqb (dest m e.0) p.0 (λ z. c.ends-differ e (h ∙ row-path _ _ (sym z ∙ stands.dest-stands e))))
            ∙ sym (r.origin-row e)
        go (rgt e) q h =
            by e q
            ∙ ap (λ b. cond b (new_half w e.0) e.0) (eq-eqb (dest m e.0) p.0 (stands.dest-stands e ∙ ap (λ x. x.0) h))
            ∙ half_is e

    -- The joining edge of place 0.
    centre-is : (f : Row nf) → centre_join m w f.0 ≡ edge_row (join (c.face_dart f))
    unfolding edge_row
    centre-is f = go (c.face_dart f) (c.edge-face_dart f) (c.about-faces.cls-start f)
      where
        by : (e : Row ne) → e ≡ t.face_start f → centre_join m w f.0 ≡ cond (eqb (left_face m e.0) f.0) (left_acw w e.0) (right_cw w e.0)
        by e q = ap (λ i. cond (eqb (left_face m i) f.0) (left_acw w i) (right_cw w i)) (stands.face_start-stands f ∙ ap (λ x. x.0) (sym q))

        go : (d : Dart (Row ne)) → edge d ≡ t.face_start f → face t d ≡ f → centre_join m w f.0 ≡ edge_row (join d)
        go (lft e) q h =
            by e q
            ∙ ap (λ b. cond b (left_acw w e.0) (right_cw w e.0)) (eq-eqb (left_face m e.0) f.0 (stands.left_face-stands e ∙ ap (λ x. x.0) h))
            ∙ left-joining e
        go (rgt e) q h =
            by e q
            ∙ ap (λ b. cond b (left_acw w e.0) (right_cw w e.0))
            (ne_eqb (left_face m e.0) f.0 (λ z. c.sides-differ e (row-path _ _ (sym (stands.left_face-stands e) ∙ z) ∙ sym h)))
            ∙ right-joining e

    row-injective : (x y : NewPoint (Row np) (Row ne) (Row nf)) → point_row x ≡ point_row y → x ≡ y
    unfolding point_row
    row-injective x y e = to-injective r.numbering.points x y (row-path _ _ e)

    -- the rows of the three kinds
    old-at : (p : ℕ) (l : p < np) → p ≡ point_row (old (p, l))
    unfolding point_row
    old-at p l = sym (r.old_row (p, l))

    mid_at : (e : ℕ) (l : e < ne) → dest w e ≡ point_row (mid (e, l))
    unfolding point_row
    mid_at e l = r.mid_row (e, l)

    centre-at : (f : ℕ) (l : f < nf) → corner w f 0 ≡ point_row (face_point (f, l))
    unfolding point_row
    centre-at f l = r.centre-row (f, l)

    -- A row of one kind is no row of another.
    no-centre : (x : NewPoint (Row np) (Row ne) (Row nf)) → ((f : Row nf) → x ≢ face_point f) → (f : ℕ) → f < nf → point_row x * 3 + 1 ≢ corner w f 0 * 3 + 1
    no-centre x h f l q = let z : point_row x ≡ corner w f 0 = omega arith in h (f, l) (row-injective x (face_point (f, l)) (z ∙ centre-at f l))

    no-mid : (x : NewPoint (Row np) (Row ne) (Row nf)) → ((e : Row ne) → x ≢ mid e) → (e : ℕ) → e < ne → point_row x * 3 + 1 ≢ dest w e * 3 + 1
    no-mid x h e l q = let z : point_row x ≡ dest w e = omega arith in h (e, l) (row-injective x (mid (e, l)) (z ∙ mid_at e l))

    module _ (room : (np + ne + nf) * 3 ≤ length s.points) where
      abbrev olds_put : List ℕ
      olds_put = olds m w np ne nf s.points

      abbrev mids_put : List ℕ
      mids_put = mids m w np ne nf s.points

      row-there : (x : NewPoint (Row np) (Row ne) (Row nf)) → point_row x * 3 + 1 < length s.points
      unfolding point_row
      row-there x = omega (arith, (r.numbering.points.to x).1)

      pub starts-stand :
          (x : NewPoint (Row np) (Row ne) (Row nf))
          → get_or (settled_starts m w np ne nf s.points) ((r.numbering.points.to x).0 * 3 + 1) 0 ≡ (r.numbering.edges.to ((refined t c).start x)).0
      unfolding settled_starts point_row edge_row
      starts-stand (old p) =
          put_other (λ f. corner w f 0) (centre_join m w) nf mids_put (point_row (old p) * 3 + 1)
          (no-centre (old p) (λ f q. let z : ◌≡◌ {A = ℕ} 0 1 = cc in omega arith))
          ∙ put_other (dest w) (new_half w) ne olds_put (point_row (old p) * 3 + 1)
          (no-mid (old p) (λ e q. let z : ◌≡◌ {A = ℕ} 0 1 = cc in omega arith))
          ∙ ap (λ k. get_or olds_put (k * 3 + 1) 0) (sym (old-at p.0 p.1))
          ∙ put-at (λ i. i) (old_start m w) np s.points (λ i l. omega (arith, old-at i l, row-there (old (i, l)))) (λ i j a b q. q) p.0 p.1
          ∙ old-is p
      starts-stand (mid e) =
          put_other (λ f. corner w f 0) (centre_join m w) nf mids_put (point_row (mid e) * 3 + 1)
          (no-centre (mid e) (λ f q. let z : ◌≡◌ {A = ℕ} 0 1 = cc in omega arith))
          ∙ ap (λ k. get_or mids_put (k * 3 + 1) 0) (sym (mid_at e.0 e.1))
          ∙ put-at (dest w) (new_half w) ne olds_put
          (λ i l. omega (arith, mid_at i l, row-there (mid (i, l)), length-put (λ i. i) (old_start m w) np s.points))
          (λ i j a b q.
          let z = row-injective (mid (i, a)) (mid (j, b)) (sym (mid_at i a) ∙ q ∙ mid_at j b) in
          let y : ◌≡◌ {A = Row ne} (i, a) (j, b) = cc in
          ap (λ x. x.0) y)
          e.0 e.1
          ∙ half_is e
      starts-stand (face_point f) =
          ap (λ k. get_or (settled_starts m w np ne nf s.points) (k * 3 + 1) 0) (sym (centre-at f.0 f.1))
          ∙ put-at (λ f. corner w f 0) (centre_join m w) nf mids_put
          (λ i l.
          omega (
            arith,
            centre-at i l,
            row-there (face_point (i, l)),
            length-put (λ i. i) (old_start m w) np s.points,
            length-put (dest w) (new_half w) ne olds_put,
          ))
          (λ i j a b q.
          let z = row-injective (face_point (i, a)) (face_point (j, b)) (sym (centre-at i a) ∙ q ∙ centre-at j b) in
          let y : ◌≡◌ {A = Row nf} (i, a) (j, b) = cc in
          ap (λ x. x.0) y)
          f.0 f.1
          ∙ centre-is f
