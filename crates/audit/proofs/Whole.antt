-- The whole audit from its parts. Assumes nothing.
--     counts-rows       counts that fit have their words in the tables
--     ends-passed       the ends of edges that pass their test are points, and differ
--     valence-passed    a point that passes its test has two edges at least
--     rows-points .., walks-valences .., audit-counts ..      the parts of the tests in turn; the audit is made of the test of the
--                       counts, of the rows and of the walks
use mathlib.Core.Path.{◌≡◌, refl, sym, ◌∙◌, ap, ap₂}
use mathlib.Core.Bool.{Bool, true, false, not, ◌&&◌, ◌||◌, cond}
use mathlib.Core.List.{List, []}
use mathlib.Core.Logic.{◌≢◌}
use Prim.Native.Nat.{ℕ, zero, suc, ◌*◌, ◌<◌, ◌≤◌}
use native.Mathlib.Omega.{arith}
use lib.Dec.{eqb, ltb, leb}
use lib.ListN.{length}
use lib.Ieee.{Float}
use lib.Ieee.Scale.{finite}
use Rattle.closed_meshes.specs.Renumbering.{sum_to}
use Rattle.tables.specs.Counted.{counts_of, rows_for}
use Rattle.tables.specs.Mesh.{Mesh, x, y, z, valence, start, mark, origin, dest, left_face, right_face, interval, mesh_of}
use Rattle.audited_meshes.specs.Folds.{every}
use Rattle.audited_meshes.specs.Walks.{Walk, back, lost, passed, acw_of_point, face_walk, point_walk}
use Rattle.audited_meshes.specs.Audit.{interval_fit, linked, audit}
use Rattle.audited_meshes.specs.Audited.{EdgeInRange}
use Rattle.audited_meshes.specs.Quick.{point_fit, edge_fit, face_fit, face_back, free, alone, alone_at, one_edge, quick}
use Rattle.audited_meshes.proofs.Tests.{and_is, not_is, eqb_is, leb-is, every-is, self-is}
use Rattle.audited_meshes.proofs.Audited.{rows_for-is, edge_in_range-is}
use Rattle.audited_meshes.proofs.Quick.{quick-is-audit}
use Rattle.tables.specs.Parts.{face_tables, point_tables, position_tables, edge_tables}
use Rattle.few_edges.specs.Rounds.{Ends}
use Rattle.audit.specs.Parts.{rows_fit, walks_fit}
use Rattle.audit_tests.specs.Parts.{walk_fits, faces_walked}
use Rattle.audit_tests.proofs.Laws.{every-cong, first-of-three, second-of-three, third-of-three, first-of-four, second-of-four, last-two-of-four}

module _ (m : Mesh) (np ne nf : ℕ) where
  pub record Rows : Type 0 where
    pub positions-fit : np * 3 ≤ length m.positions
    pub points-fit : np * 3 ≤ length m.points
    pub edges_fit : ne * 8 ≤ length m.edges
    pub intervals-fit : ne ≤ length m.intervals
    pub faces-fit : nf * 5 ≤ length m.faces

  pub counts-rows : rows_for (counts_of np ne nf) m ≡ true → Rows
  counts-rows h =
      let c = (rows_for-is m np ne nf).0 h in
      record {
        positions-fit = omega (arith, c.0.0);
        points-fit = omega (arith, c.0.0);
        edges_fit = omega (arith, c.0.1);
        intervals-fit = omega (arith, c.0.1);
        faces-fit = omega (arith, c.1);
      }

-- the tests of the quick form, in three groups
regroup : (c p e f v b s w o : Bool) → (c && p && e && f && v && b && s && w && o) ≡ (c && (p && e && f) && (v && (b && s) && w && o))
regroup false p e f v b s w o = refl
regroup true false e f v b s w o = refl
regroup true true false f v b s w o = refl
regroup true true true false v b s w o = refl
regroup true true true true false b s w o = refl
regroup true true true true true false s w o = refl
regroup true true true true true true s w o = refl

-- ---- each part looks at its own tables alone

module _ (xs : List Float) (ps es : List ℕ) (is : List Float) (fs : List ℕ) where
  abbrev whole-mesh : Mesh
  whole-mesh = mesh_of xs ps es is fs

  face_back-rows : (f : ℕ) (w : Walk) → face_back (face_tables es fs) f w ≡ face_back whole-mesh f w
  unfolding face_back
  face_back-rows f (back rs) = refl
  face_back-rows f lost = refl

  faces_walked-rows : (ne nf t : ℕ) → faces_walked (face_tables es fs) ne nf t ≡ faces_walked whole-mesh ne nf t
  unfolding face_walk
  faces_walked-rows ne nf t =
      ap (λ (b : Bool). b && eqb (sum_to nf (λ f. passed (face_walk whole-mesh ne f))) t)
      (every-cong nf _ _ (λ f l. face_back-rows f (face_walk whole-mesh ne f)))

  alone-rows : (ne e p q k : ℕ) (ok : Bool) (i : ℕ) → alone (point_tables ps es) ne e p q k ok i ≡ alone whole-mesh ne e p q k ok i
  unfolding alone
  alone-rows ne e p q zero ok i = refl
  alone-rows ne e p q (suc k) false i = refl
  alone-rows ne e p q (suc k) true i = alone-rows ne e p q k (free whole-mesh ne e q (acw_of_point whole-mesh p i)) (acw_of_point whole-mesh p i)

  alone_at-rows : (ne e p q : ℕ) → alone_at (point_tables ps es) ne e p q ≡ alone_at whole-mesh ne e p q
  unfolding alone_at
  alone_at-rows ne e p q = alone-rows ne e p q (valence whole-mesh p) (free whole-mesh ne e q (start whole-mesh p)) (start whole-mesh p)

  one_edge-rows : (ne e : ℕ) → one_edge (point_tables ps es) ne e ≡ one_edge whole-mesh ne e
  unfolding one_edge
  one_edge-rows ne e =
      ap₂ (cond (leb (valence whole-mesh (origin whole-mesh e)) (valence whole-mesh (dest whole-mesh e))))
      (alone_at-rows ne e (origin whole-mesh e) (dest whole-mesh e)) (alone_at-rows ne e (dest whole-mesh e) (origin whole-mesh e))

  rows_whole : (np ne nf : ℕ)
      → rows_fit xs ps es is fs np ne nf
      ≡ (every np (λ p. point_fit whole-mesh ne p) && every ne (λ e. edge_fit whole-mesh np ne nf e) && every nf (λ f. face_fit whole-mesh np ne f))
  unfolding rows_fit point_fit edge_fit face_fit
  rows_whole np ne nf = refl

  walks-whole : (np ne nf : ℕ)
      → walks_fit ps es fs np ne nf
      ≡ (eqb (sum_to np (λ p. valence whole-mesh p)) (2 * ne) && faces_walked whole-mesh ne nf (2 * ne) && every np (λ p. walk_fits whole-mesh ne p)
      && every ne (λ e. one_edge whole-mesh ne e))
  unfolding walks_fit point_walk
  walks-whole np ne nf = rw (faces_walked-rows ne nf (2 * ne), every-cong ne (λ e. one_edge (point_tables ps es) ne e) (λ e. one_edge whole-mesh ne e) (λ e l. one_edge-rows ne e))

  whole : (np ne nf : ℕ)
      → (rows_for (counts_of np ne nf) whole-mesh && rows_fit xs ps es is fs np ne nf && walks_fit ps es fs np ne nf) ≡ audit whole-mesh np ne nf
  unfolding quick
  whole np ne nf =
      ap₂ (λ (r w : Bool). rows_for (counts_of np ne nf) whole-mesh && r && w) (rows_whole np ne nf) (walks-whole np ne nf)
      ∙ sym
      (regroup (rows_for (counts_of np ne nf) whole-mesh) (every np (λ p. point_fit whole-mesh ne p)) (every ne (λ e. edge_fit whole-mesh np ne nf e))
      (every nf (λ f. face_fit whole-mesh np ne f)) (eqb (sum_to np (λ p. valence whole-mesh p)) (2 * ne))
      (every nf (λ f. face_back whole-mesh f (face_walk whole-mesh ne f))) (eqb (sum_to nf (λ f. passed (face_walk whole-mesh ne f))) (2 * ne))
      (every np (λ p. walk_fits whole-mesh ne p)) (every ne (λ e. one_edge whole-mesh ne e)))
      ∙ quick-is-audit whole-mesh np ne nf

  -- the tests of single rows in turn
  module _ (np ne nf : ℕ) where
    abbrev points-pass : Bool
    points-pass = every np (λ p. point_fit (position_tables xs ps) ne p)

    abbrev edges-pass : Bool
    edges-pass = every ne (λ e. edge_fit (edge_tables es is) np ne nf e)

    abbrev faces-pass : Bool
    faces-pass = every nf (λ f. face_fit (face_tables [] fs) np ne f)

    pub rows-points : points-pass ≡ false → false ≡ rows_fit xs ps es is fs np ne nf
    unfolding rows_fit
    rows-points = first-of-three points-pass edges-pass faces-pass

    pub rows-edges : edges-pass ≡ false → false ≡ rows_fit xs ps es is fs np ne nf
    unfolding rows_fit
    rows-edges = second-of-three points-pass edges-pass faces-pass

    pub rows-faces : points-pass ≡ true → edges-pass ≡ true → faces-pass ≡ rows_fit xs ps es is fs np ne nf
    unfolding rows_fit
    rows-faces = third-of-three points-pass edges-pass faces-pass

    -- the sums and the walks in turn
    abbrev valences-pass : Bool
    valences-pass = eqb (sum_to np (λ p. valence (point_tables ps []) p)) (2 * ne)

    abbrev face-walks-pass : Bool
    face-walks-pass = faces_walked (face_tables es fs) ne nf (2 * ne)

    abbrev point-walks-pass : Bool
    point-walks-pass = every np (λ p. walk_fits (point_tables ps es) ne p)

    abbrev one-edges-pass : Bool
    one-edges-pass = every ne (λ e. one_edge (point_tables ps es) ne e)

    pub walks-valences : valences-pass ≡ false → false ≡ walks_fit ps es fs np ne nf
    unfolding walks_fit
    walks-valences = first-of-four valences-pass face-walks-pass point-walks-pass one-edges-pass

    pub walks-faces : face-walks-pass ≡ false → false ≡ walks_fit ps es fs np ne nf
    unfolding walks_fit
    walks-faces = second-of-four valences-pass face-walks-pass point-walks-pass one-edges-pass

    pub walks-points : valences-pass ≡ true → face-walks-pass ≡ true → (point-walks-pass && one-edges-pass) ≡ walks_fit ps es fs np ne nf
    unfolding walks_fit
    walks-points = last-two-of-four valences-pass face-walks-pass point-walks-pass one-edges-pass

    -- the parts of the audit in turn
    pub audit-counts : rows_for (counts_of np ne nf) whole-mesh ≡ false → false ≡ audit whole-mesh np ne nf
    audit-counts h = first-of-three (rows_for (counts_of np ne nf) whole-mesh) (rows_fit xs ps es is fs np ne nf) (walks_fit ps es fs np ne nf) h ∙ whole np ne nf

    pub audit-rows : rows_fit xs ps es is fs np ne nf ≡ false → false ≡ audit whole-mesh np ne nf
    audit-rows h = second-of-three (rows_for (counts_of np ne nf) whole-mesh) (rows_fit xs ps es is fs np ne nf) (walks_fit ps es fs np ne nf) h ∙ whole np ne nf

    pub audit-walks : rows_for (counts_of np ne nf) whole-mesh ≡ true → rows_fit xs ps es is fs np ne nf ≡ true → walks_fit ps es fs np ne nf ≡ audit whole-mesh np ne nf
    audit-walks h k = third-of-three (rows_for (counts_of np ne nf) whole-mesh) (rows_fit xs ps es is fs np ne nf) (walks_fit ps es fs np ne nf) h k ∙ whole np ne nf

  -- what the tests of single rows say of one edge and of one point
  edge-passed : (np ne nf : ℕ) → rows_fit xs ps es is fs np ne nf ≡ true → (e : ℕ) → e < ne
      → EdgeInRange (edge_tables es is) np ne nf e × (origin (face_tables es []) e ≢ dest (face_tables es []) e)
  unfolding rows_fit edge_fit
  edge-passed np ne nf h e l =
      let m : Mesh = edge_tables es is in
      let edges : every ne (λ e. edge_fit m np ne nf e) ≡ true =
      ((and_is (and_is (self-is (every np (λ p. point_fit (position_tables xs ps) ne p))) (self-is (every ne (λ e. edge_fit m np ne nf e))))
      (self-is (every nf (λ f. face_fit (face_tables [] fs) np ne f)))).0 h).0.1 in
      let edge : edge_fit m np ne nf e ≡ true = (every-is ne (λ k. self-is (edge_fit m np ne nf k))).0 edges e l in
      let parts = (and_is (and_is (and_is (and_is (edge_in_range-is m np ne nf e) (self-is (interval_fit (interval m e))))
      (not_is (eqb_is (origin m e) (dest m e)))) (self-is (not (eqb (left_face m e) (right_face m e))))) (self-is (linked m e))).0 edge in
      (parts.0.0.0.0, parts.0.0.1)

  pub valence-passed : (np ne nf : ℕ) → rows_fit xs ps es is fs np ne nf ≡ true → (p : ℕ) → p < np → 2 ≤ valence (point_tables ps []) p
  unfolding rows_fit point_fit
  valence-passed np ne nf h p l =
      let m : Mesh = position_tables xs ps in
      let points : every np (λ p. point_fit m ne p) ≡ true =
      ((and_is (and_is (self-is (every np (λ p. point_fit m ne p))) (self-is (every ne (λ e. edge_fit (edge_tables es is) np ne nf e))))
      (self-is (every nf (λ f. face_fit (face_tables [] fs) np ne f)))).0 h).0.0 in
      let point : point_fit m ne p ≡ true = (every-is np (λ k. self-is (point_fit m ne k))).0 points p l in
      ((and_is (and_is (and_is (self-is (ltb (start m p) ne)) (self-is (finite (x m p) && finite (y m p) && finite (z m p))))
      (leb-is 2 (valence m p))) (self-is (eqb (mark m p) 0 || eqb (mark m p) 1))).0 point).0.1

  pub ends-passed : (np ne nf : ℕ) → rows_fit xs ps es is fs np ne nf ≡ true → Ends (face_tables es []) np ne
  ends-passed np ne nf h = record {
    origin-below = λ e l. (edge-passed np ne nf h e l).0.origin-in-range;
    dest-below = λ e l. (edge-passed np ne nf h e l).0.dest-in-range;
    differ = λ e l. (edge-passed np ne nf h e l).1;
  }
