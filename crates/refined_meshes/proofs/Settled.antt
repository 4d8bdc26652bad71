-- What the second edition settles after the visits: quarters stand in the rows of the joining edges, and every other row is as the visits
-- left it. Assumes nothing.
--     length-settled            the table of intervals stays as long
--     settled-edges             what the tables held before shows in no row that is settled
--     settled-refines           where the visits made the first edition's refinement, what is settled is the refinement of the edition
--     visits-refine             the claim of `specs/Refines.antt`
use mathlib.Core.Path.{◌≡◌, refl, sym, ◌∙◌, ap, ap₂}
use mathlib.Core.List.{List, []}
use mathlib.Core.Logic.{◌≢◌}
use Prim.Native.Nat.{ℕ, zero, suc, ◌+◌, ◌*◌, ◌≤◌, ◌<◌}
use native.Mathlib.Omega.{arith}
use native.Mathlib.Decide.{ℕ_discrete}
use lib.ListN.{length, get_or, set, length-set}
use lib.Seq.{get_or-set_same, get_or-set_other}
use lib.Ieee.{Float, nan}
use Rattle.t_spline.specs.declared.TnurccEdge.{TnurccEdge}
use Rattle.tables.specs.Layout.{left_cw_word, left_acw_word, right_cw_word, right_acw_word}
use Rattle.tables.specs.Mesh.{Mesh, start, mark, interval, left_acw, right_cw}
use Rattle.closed_meshes.specs.Mesh.{MeshOver, Dart, lft, rgt, edge, first, face}
use Rattle.closed_meshes.specs.Closed.{Closed}
use Rattle.closed_meshes.specs.Refinement.{NewPoint, old, mid, face_point, NewEdge, org, dst, join, refined}
use Rattle.closed_meshes.specs.Renumbering.{Isomorphism, Touching, Row}
use Rattle.closed_meshes.proofs.Counting.{row-path}
use Rattle.closed_meshes.proofs.Isomorphisms.{to-injective, onto, dart_to, edge-map_dart, first_to, touching-of-closed}
use Rattle.closed_meshes.proofs.Refinement.{stays_closed}
use Rattle.audited_meshes.specs.Rows.{Stands}
use Rattle.refined_meshes.specs.declared.Edition.{Edition}
use Rattle.refined_meshes.specs.declared.Edition.TheVariants.{First, Second}
use Rattle.refined_meshes.specs.Turns.{turns}
use Rattle.refined_meshes.specs.State.{State, with_positions, edge_of}
use Rattle.refined_meshes.specs.Visits.{refined_rows}
use Rattle.refined_meshes.specs.Settled.{neighbour_at, quarter, quarter_at, settled_side, settled_intervals, intervals_of_edition, settled, settled_rows}
use Rattle.refined_meshes.specs.Refines.{Refines, VisitsRefine}
use Rattle.refined_meshes.proofs.Turns.{turns-view, turns-other, turns_same}
use Rattle.refined_meshes.proofs.Refines.{first-refines}
use Rattle.refined_meshes.proofs.Fits.{all-taken}
use Rattle.refined_meshes.proofs.Starts.{left-joining, right-joining, kept_word, starts-stand}

-- ---- one side

module _ (es : List ℕ) (is : List Float) (es' : List ℕ) (w next prev : ℕ) where
  abbrev put : ℕ → List Float → List Float
  put e xs = set xs (neighbour_at es' w e) (quarter_at es is next prev e)

  length-side : (n : ℕ) (js : List Float) → length (settled_side es is es' w next prev n js) ≡ length js
  unfolding settled_side
  length-side n js = turns-view n put length (λ e xs. length-set xs (neighbour_at es' w e) (quarter_at es is next prev e)) js

  -- A row that is no joining edge of this side stays as it is.
  side-other :
      (n : ℕ) (js : List Float) (k : ℕ) → ((e : ℕ) → e < n → k ≢ neighbour_at es' w e)
      → get_or (settled_side es is es' w next prev n js) k nan ≡ get_or js k nan
  unfolding settled_side
  side-other n js k h =
      turns-other put (λ xs. length xs ≡ length js) (λ e xs o. length-set xs (neighbour_at es' w e) (quarter_at es is next prev e) ∙ o)
      (λ xs i. get_or xs i nan) (λ e. neighbour_at es' w e) n
      (λ e xs i l o q. get_or-set_other xs (neighbour_at es' w e) i (quarter_at es is next prev e) nan q) js refl k h

  -- Each joining edge of this side gets its quarter.
  side-at :
      (n : ℕ) (js : List Float) → ((e : ℕ) → e < n → neighbour_at es' w e < length js)
      → ((e i : ℕ) → e < n → i < n → neighbour_at es' w e ≡ neighbour_at es' w i → e ≡ i)
      → (e : ℕ) → e < n → get_or (settled_side es is es' w next prev n js) (neighbour_at es' w e) nan ≡ quarter_at es is next prev e
  unfolding settled_side
  side-at n js there injective e l =
      turns_same put (λ xs. length xs ≡ length js) (λ e xs o. length-set xs (neighbour_at es' w e) (quarter_at es is next prev e) ∙ o)
      (λ xs i. get_or xs i nan) (λ e. neighbour_at es' w e) n (quarter_at es is next prev)
      (λ e xs k o. get_or-set_same xs (neighbour_at es' w e) (quarter_at es is next prev e) nan (omega (arith, there e k)))
      (λ e xs i k o q. get_or-set_other xs (neighbour_at es' w e) i (quarter_at es is next prev e) nan q) injective js refl e l

-- the same quarters, put into rows that are alike
module _ (es : List ℕ) (is : List Float) (es1 es2 : List ℕ) (w next prev : ℕ) where
  side-alike :
      (n : ℕ) → ((e : ℕ) → e < n → neighbour_at es1 w e ≡ neighbour_at es2 w e) → (rows : ℕ) (js1 js2 : List Float) → rows ≤ length js1
      → rows ≤ length js2 → ((k : ℕ) → k < rows → get_or js1 k nan ≡ get_or js2 k nan) → (k : ℕ) → k < rows
      → get_or (settled_side es is es1 w next prev n js1) k nan ≡ get_or (settled_side es is es2 w next prev n js2) k nan
  unfolding settled_side turns
  side-alike zero h rows js1 js2 r1 r2 same k l = same k l
  side-alike (suc n) h rows js1 js2 r1 r2 same k l =
      ap (λ i. get_or (set xs1 i q) k nan) (h n (omega arith))
      ∙ go (side-alike n (λ e l. h e (omega arith)) rows js1 js2 r1 r2 same k l) (ℕ_discrete k i2)
    where
      xs1 : List Float
      xs1 = settled_side es is es1 w next prev n js1

      xs2 : List Float
      xs2 = settled_side es is es2 w next prev n js2

      i2 : ℕ
      i2 = neighbour_at es2 w n

      q : Float
      q = quarter_at es is next prev n

      go : get_or xs1 k nan ≡ get_or xs2 k nan → Dec (k ≡ i2) → get_or (set xs1 i2 q) k nan ≡ get_or (set xs2 i2 q) k nan
      go earlier (yes e) =
          ap (λ j. get_or (set xs1 i2 q) j nan) e
          ∙ get_or-set_same xs1 i2 q nan (omega (arith, e, length-side es is es1 w next prev n js1))
          ∙ sym (get_or-set_same xs2 i2 q nan (omega (arith, e, length-side es is es2 w next prev n js2)))
          ∙ ap (λ j. get_or (set xs2 i2 q) j nan) (sym e)
      go earlier (no e) = get_or-set_other xs1 i2 k q nan e ∙ earlier ∙ sym (get_or-set_other xs2 i2 k q nan e)

-- ---- both sides

length_both : (es : List ℕ) (is : List Float) (es' : List ℕ) (n : ℕ) (js : List Float) → length (settled_intervals es is es' n js) ≡ length js
unfolding settled_intervals
length_both es is es' n js =
    length-side es is es' right_cw_word right_acw_word right_cw_word n (settled_side es is es' left_acw_word left_acw_word left_cw_word n js)
    ∙ length-side es is es' left_acw_word left_acw_word left_cw_word n js

pub length-settled : (ed : Edition) (m : Mesh) (ne : ℕ) (s : State) → length (intervals_of_edition ed m ne s) ≡ length s.intervals
length-settled First m ne s = refl
length-settled Second m ne s = length_both m.edges m.intervals s.edges ne s.intervals

-- The rows of two states are the same; so are they when both are settled.
module _
    (m : Mesh) (ne : ℕ) (s s' : State) (room : 4 * ne ≤ length s.intervals) (room' : 4 * ne ≤ length s'.intervals)
    (same : (e : ℕ) → e < 4 * ne → edge_of s' e ≡ edge_of s e)
  where
    intervals-alike : (ed : Edition) (e : ℕ) → e < 4 * ne → get_or (intervals_of_edition ed m ne s') e nan ≡ get_or (intervals_of_edition ed m ne s) e nan
    unfolding settled_intervals
    intervals-alike First e l = ap (λ (r : TnurccEdge). r.knot_interval) (same e l)
    intervals-alike Second e l =
        side-alike m.edges m.intervals s'.edges s.edges right_cw_word right_acw_word right_cw_word ne
        (λ e l. ap (λ (r : TnurccEdge). get_or r.connections 2 0) (same e (omega arith))) (4 * ne) lefts' lefts
        (omega (arith, length-side m.edges m.intervals s'.edges left_acw_word left_acw_word left_cw_word ne s'.intervals))
        (omega (arith, length-side m.edges m.intervals s.edges left_acw_word left_acw_word left_cw_word ne s.intervals))
        (side-alike m.edges m.intervals s'.edges s.edges left_acw_word left_acw_word left_cw_word ne
        (λ e l. ap (λ (r : TnurccEdge). get_or r.connections 1 0) (same e (omega arith))) (4 * ne) s'.intervals s.intervals room' room
        (λ k b. ap (λ (r : TnurccEdge). r.knot_interval) (same k b)))
        e l
      where
        lefts : List Float
        lefts = settled_side m.edges m.intervals s.edges left_acw_word left_acw_word left_cw_word ne s.intervals

        lefts' : List Float
        lefts' = settled_side m.edges m.intervals s'.edges left_acw_word left_acw_word left_cw_word ne s'.intervals

    -- an edge with another interval
    with_interval : TnurccEdge → Float → TnurccEdge
    with_interval r d =
        record {
          connections = r.connections;
          face_left = r.face_left;
          face_right = r.face_right;
          origin = r.origin;
          dest = r.dest;
          knot_interval = d;
        }

    pub settled-edges : (ed : Edition) (np nf e : ℕ) → e < 4 * ne → edge_of (settled ed m np ne nf s') e ≡ edge_of (settled ed m np ne nf s) e
    unfolding settled with_interval
    settled-edges ed np nf e l = ap₂ with_interval (same e l) (intervals-alike ed e l)

-- ---- the refinement

module _
    (m : Mesh) {np ne nf : ℕ} {t : MeshOver (Row np) (Row ne) (Row nf)} (stands : Stands m t) (c : Closed t) (order : List ℕ) (s : State) (ps : List Float)
    (r : Refines First m t c order (with_positions ps s)) (room : 4 * ne ≤ length s.intervals) (point-room : (np + ne + nf) * 3 ≤ length s.points)
  where
    row : NewEdge (Row ne) → ℕ
    row x = (r.numbering.edges.to x).0

    row_below : (x : NewEdge (Row ne)) → row x < 4 * ne
    unfolding row
    row_below x = (r.numbering.edges.to x).1

    row-injective : (x y : NewEdge (Row ne)) → row x ≡ row y → x ≡ y
    unfolding row
    row-injective x y e = to-injective r.numbering.edges x y (row-path _ _ e)

    -- the joining edges beside the row of an old edge
    left_join : (e : Row ne) → neighbour_at s.edges left_acw_word e.0 ≡ row (join (lft e))
    unfolding row
    left_join e = left-joining m stands c order s ps r e

    right-join : (e : Row ne) → neighbour_at s.edges right_cw_word e.0 ≡ row (join (rgt e))
    unfolding row
    right-join e = right-joining m stands c order s ps r e

    abbrev lefts : List Float
    lefts = settled_side m.edges m.intervals s.edges left_acw_word left_acw_word left_cw_word ne s.intervals

    abbrev both : List Float
    both = settled_intervals m.edges m.intervals s.edges ne s.intervals

    not_left : (x : NewEdge (Row ne)) → ((e : Row ne) → x ≢ join (lft e)) → (i : ℕ) → i < ne → row x ≢ neighbour_at s.edges left_acw_word i
    not_left x h i l q = h (i, l) (row-injective x (join (lft (i, l))) (q ∙ left_join (i, l)))

    not_right : (x : NewEdge (Row ne)) → ((e : Row ne) → x ≢ join (rgt e)) → (i : ℕ) → i < ne → row x ≢ neighbour_at s.edges right_cw_word i
    not_right x h i l q = h (i, l) (row-injective x (join (rgt (i, l))) (q ∙ right-join (i, l)))

    -- The halves are no joining edges.
    half-stays : (x : NewEdge (Row ne)) → ((d : Dart (Row ne)) → x ≢ join d) → get_or both (row x) nan ≡ get_or s.intervals (row x) nan
    unfolding settled_intervals
    half-stays x h =
        side-other m.edges m.intervals s.edges right_cw_word right_acw_word right_cw_word ne lefts (row x) (not_right x (λ e. h (rgt e)))
        ∙ side-other m.edges m.intervals s.edges left_acw_word left_acw_word left_cw_word ne s.intervals (row x) (not_left x (λ e. h (lft e)))

    lefts-differ :
        (e i : ℕ) → e < ne → i < ne → neighbour_at s.edges left_acw_word e ≡ neighbour_at s.edges left_acw_word i → e ≡ i
    lefts-differ e i l k q =
        let z = row-injective (join (lft (e, l))) (join (lft (i, k))) (sym (left_join (e, l)) ∙ q ∙ left_join (i, k)) in
        let y : ◌≡◌ {A = Row ne} (e, l) (i, k) = cc in
        ap (λ x. x.0) y

    rights-differ :
        (e i : ℕ) → e < ne → i < ne → neighbour_at s.edges right_cw_word e ≡ neighbour_at s.edges right_cw_word i → e ≡ i
    rights-differ e i l k q =
        let z = row-injective (join (rgt (e, l))) (join (rgt (i, k))) (sym (right-join (e, l)) ∙ q ∙ right-join (i, k)) in
        let y : ◌≡◌ {A = Row ne} (e, l) (i, k) = cc in
        ap (λ x. x.0) y

    left-quarter : (e : Row ne) → get_or both (row (join (lft e))) nan ≡ quarter_at m.edges m.intervals left_acw_word left_cw_word e.0
    unfolding settled_intervals
    left-quarter e =
        side-other m.edges m.intervals s.edges right_cw_word right_acw_word right_cw_word ne lefts (row (join (lft e)))
        (not_right (join (lft e)) (λ i q. let z : ◌≡◌ {A = ℕ} 0 1 = cc in omega arith))
        ∙ ap (λ k. get_or lefts k nan) (sym (left_join e))
        ∙ side-at m.edges m.intervals s.edges left_acw_word left_acw_word left_cw_word ne s.intervals
        (λ i l. omega (arith, left_join (i, l), row_below (join (lft (i, l))))) lefts-differ e.0 e.1

    right-quarter : (e : Row ne) → get_or both (row (join (rgt e))) nan ≡ quarter_at m.edges m.intervals right_acw_word right_cw_word e.0
    unfolding settled_intervals
    right-quarter e =
        ap (λ k. get_or both k nan) (sym (right-join e))
        ∙ side-at m.edges m.intervals s.edges right_cw_word right_acw_word right_cw_word ne lefts
        (λ i l.
        omega (
          arith,
          right-join (i, l),
          row_below (join (rgt (i, l))),
          length-side m.edges m.intervals s.edges left_acw_word left_acw_word left_cw_word ne s.intervals,
        ))
        rights-differ e.0 e.1

    -- by the darts of the old mesh
    quartered :
        (d : Dart (Row ne)) → get_or both (row (join d)) nan ≡ quarter (interval m (edge (c.next d)).0) (interval m (edge (c.prev d)).0)
    quartered (lft e) =
        left-quarter e
        ∙ ap₂ (λ a b. quarter (interval m a) (interval m b)) (stands.left_acw-stands e ∙ ap (λ x. x.0) (sym (c.edge-next (lft e))))
        (stands.left_cw-stands e ∙ ap (λ x. x.0) (sym (c.edge-prev (lft e))))
    quartered (rgt e) =
        right-quarter e
        ∙ ap₂ (λ a b. quarter (interval m a) (interval m b)) (stands.right_acw-stands e ∙ ap (λ x. x.0) (sym (c.edge-next (rgt e))))
        (stands.right_cw-stands e ∙ ap (λ x. x.0) (sym (c.edge-prev (rgt e))))

    -- The refined mesh with the start edges of the refinement on kinds.
    abbrev settled-mesh : MeshOver (Row (np + ne + nf)) (Row (4 * ne)) (Row (2 * ne))
    settled-mesh =
        record {
          valence = r.mesh.valence;
          start = λ p. r.numbering.edges.to ((refined t c).start (r.numbering.points.from p));
          origin = r.mesh.origin;
          dest = r.mesh.dest;
          left = r.mesh.left;
          right = r.mesh.right;
          left_cw = r.mesh.left_cw;
          left_acw = r.mesh.left_acw;
          right_cw = r.mesh.right_cw;
          right_acw = r.mesh.right_acw;
          face_start = r.mesh.face_start;
          corner = r.mesh.corner;
        }

    settled-numbering : Isomorphism (refined t c) settled-mesh
    settled-numbering =
        let i = r.numbering in
        record {
          points = i.points;
          edges = i.edges;
          faces = i.faces;
          valence = i.valence;
          origin = i.origin;
          dest = i.dest;
          left = i.left;
          right = i.right;
          left_cw = i.left_cw;
          left_acw = i.left_acw;
          right_cw = i.right_cw;
          right_acw = i.right_acw;
          corner = i.corner;
        }

    -- Its start edges touch, as those of the refinement on kinds do.
    settled-touching : Touching settled-mesh
    unfolding settled-numbering
    settled-touching =
        let at = touching-of-closed (stays_closed _ _ _ t c) in
        let i = settled-numbering in
        record {
          start =
              onto i.points (λ p. (d : Dart (Row (4 * ne))) × (edge d ≡ settled-mesh.start p) × (first settled-mesh d ≡ p)) λ x. (
                dart_to i (at.start x).0,
                edge-map_dart i.edges.to (at.start x).0 ∙ ap i.edges.to ((at.start x).1 ∙ ap (refined t c).start (sym (i.points.from-to x))),
                first_to i (at.start x).0 ∙ ap i.points.to (at.start x).2,
              );
          face_start = λ f. let z = r.touching.face_start f in (z.0, z.1, same-face z.0 ∙ z.2);
        }
      where
        same-face : (d : Dart (Row (4 * ne))) → face settled-mesh d ≡ face r.mesh d
        same-face (lft e) = refl
        same-face (rgt e) = refl

    -- the row of a new point, and its start edge
    start_of :
        (x : NewPoint (Row np) (Row ne) (Row nf))
        → start (with_positions ps (settled Second m np ne nf s)) (r.numbering.points.to x).0 ≡ (r.numbering.edges.to ((refined t c).start x)).0
    unfolding settled
    start_of x = starts-stand m stands c order s ps r point-room x

    -- The words of points, edges and faces stand as they stood, but for start edges.
    words-stand : Stands (with_positions ps (settled Second m np ne nf s)) settled-mesh
    unfolding settled
    words-stand =
        let w = with_positions [] s in
        record {
          valence-stands = λ p. kept_word m w np ne nf s.points (p.0 * 3) (λ i q. omega arith) ∙ r.stands.valence-stands p;
          start-stands =
              λ p.
              ap (λ (q : Row (np + ne + nf)). start (with_positions ps (settled Second m np ne nf s)) q.0) (sym (r.numbering.points.to-from p))
              ∙ start_of (r.numbering.points.from p);
          origin-stands = r.stands.origin-stands;
          dest-stands = r.stands.dest-stands;
          left_face-stands = r.stands.left_face-stands;
          right_face-stands = r.stands.right_face-stands;
          left_cw-stands = r.stands.left_cw-stands;
          left_acw-stands = r.stands.left_acw-stands;
          right_cw-stands = r.stands.right_cw-stands;
          right_acw-stands = r.stands.right_acw-stands;
          face_start-stands = r.stands.face_start-stands;
          corner-stands = r.stands.corner-stands;
        }

    mark-kept : (p : ℕ) → mark (with_positions ps (settled Second m np ne nf s)) p ≡ mark (with_positions ps s) p
    unfolding settled
    mark-kept p = kept_word m (with_positions [] s) np ne nf s.points (p * 3 + 2) (λ i q. omega arith)

    settled-second : Refines Second m t c order (with_positions ps (settled Second m np ne nf s))
    unfolding settled row settled-numbering
    settled-second =
        record {
          mesh = settled-mesh;
          stands = words-stand;
          numbering = settled-numbering;
          touching = settled-touching;
          old_row = r.old_row;
          origin-row = r.origin-row;
          first-row = r.first-row;
          mid_row = r.mid_row;
          centre-row = r.centre-row;
          old-mark = λ p. mark-kept p.0 ∙ r.old-mark p;
          mid-mark = λ e. mark-kept (r.numbering.points.to (mid e)).0 ∙ r.mid-mark e;
          centre-mark = λ f. mark-kept (r.numbering.points.to (face_point f)).0 ∙ r.centre-mark f;
          origin-interval =
              λ e.
              ap (λ k. get_or both k nan) (sym (r.origin-row e))
              ∙ half-stays (org e) (λ d q. let z : ◌≡◌ {A = ℕ} 0 1 = cc in omega arith)
              ∙ ap (λ k. get_or s.intervals k nan) (r.origin-row e)
              ∙ r.origin-interval e;
          destination-interval =
              λ e. half-stays (dst e) (λ d q. let z : ◌≡◌ {A = ℕ} 0 1 = cc in omega arith) ∙ r.destination-interval e;
          join-interval = quartered;
          old-start = λ p. ap (start (with_positions ps (settled Second m np ne nf s))) (sym (r.old_row p)) ∙ start_of (old p);
          mid_start = λ e. start_of (mid e);
          centre-start = λ f. start_of (face_point f);
          face-start = r.face-start;
        }

    pub settled-refines : (ed : Edition) → Refines ed m t c order (with_positions ps (settled ed m np ne nf s))
    unfolding settled
    settled-refines First = r
    settled-refines Second = settled-second

pub visits-refine : VisitsRefine
unfolding settled_rows
visits-refine ed m np ne nf h order once u pr er fr ps =
    settled-refines m h.stands h.closed order (refined_rows m np ne nf order u) ps (first-refines m np ne nf h order once u pr er fr ps)
    (all-taken m np ne nf h order once u pr er fr).room.intervals-room (all-taken m np ne nf h order once u pr er fr).room.points-room ed
