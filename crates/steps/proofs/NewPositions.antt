-- The positions after a step, by kind of point: each is its rule's answer from the mesh alone, whatever rows the points have and in
-- either edition. Assumes nothing.
--     PointRows                  the rows of the new points, all different
--     EdgesPut, edges-put        what stands in the rows when edge points, or m, are put over a table in which the face points stand
--     AllPlaced, placed-all      what stands in the rows when all positions are put
--     all-put                    all positions are put where every one is finite
use mathlib.Core.Path.{◌≡◌, refl, sym, ◌∙◌, ap}
use mathlib.Core.Bool.{true}
use mathlib.Core.List.{List}
use mathlib.Core.Logic.{◌≢◌}
use Prim.Native.Nat.{ℕ, ◌*◌, ◌≤◌, ◌<◌}
use native.Mathlib.Omega.{arith}
use lib.ListN.{length}
use lib.Ieee.{Float}
use Rattle.positions.specs.Position.{finite_position}
use Rattle.tables.specs.Mesh.{Mesh, none}
use Rattle.tables.specs.Records.{position_at}
use Rattle.tables.specs.declared.Counts.{Counts}
use Rattle.audited_meshes.specs.Audited.{Audited}
use Rattle.refined_meshes.specs.declared.Edition.{Edition}
use Rattle.refined_meshes.specs.declared.Edition.TheVariants.{First, Second}
use Rattle.refined_meshes.specs.State.{State}
use Rattle.position_rules.specs.FacePoint.{face_point_in}
use Rattle.position_rules.specs.Rules.{edge_point_in, weighted_in, old_point_in}
use Rattle.position_rules.specs.Places.{edge_point_at, face_point_at}
use Rattle.position_rules.specs.Claims.{FacePointsStand, WeightedPointsStand}
use Rattle.position_rules.proofs.Claims.{weighted_point-stands, old_point-stands, weighted-finite}
use Rattle.steps.specs.Positions.{Placing, so_far, face_point_row, edge_point_row, placed_by, placed_over, placed_all, face_point_rule, weighted_rule, old_point_rule}
use Rattle.steps.specs.OneStep.{AllFinite}
use Rattle.steps.proofs.Placing.{PutAt, placed-begun, length-placed, placed-other, placed-at, placed-whole}

-- The rows of the points after a step are n in number, and no two of them are one.
pub record PointRows (c : Counts) (s : State) (n : ℕ) : Type 0 where
  pub face-below : (f : ℕ) → f < c.faces → face_point_row s f < n
  pub edge-below : (e : ℕ) → e < c.edges → edge_point_row s e < n
  pub old_below : (p : ℕ) → p < c.points → p < n
  pub face-face : (f g : ℕ) → f < c.faces → g < c.faces → face_point_row s f ≡ face_point_row s g → f ≡ g
  pub edge-edge : (e i : ℕ) → e < c.edges → i < c.edges → edge_point_row s e ≡ edge_point_row s i → e ≡ i
  pub face-edge : (f e : ℕ) → f < c.faces → e < c.edges → face_point_row s f ≢ edge_point_row s e
  pub face-old : (f p : ℕ) → f < c.faces → p < c.points → face_point_row s f ≢ p
  pub edge-old : (e p : ℕ) → e < c.edges → p < c.points → edge_point_row s e ≢ p

pub record AllPlaced (ed : Edition) (m : Mesh) (c : Counts) (s : State) (qs : List Float) : Type 0 where
  pub face-points : (f : ℕ) → f < c.faces → position_at qs (face_point_row s f) ≡ face_point_in m c.edges f
  pub edge-points : (e : ℕ) → e < c.edges → position_at qs (edge_point_row s e) ≡ edge_point_in m c.edges e
  pub old-points : (p : ℕ) → p < c.points → position_at qs p ≡ old_point_in ed m c.edges p
  pub finite : AllFinite ed m c

module _
    (m : Mesh) (c : Counts) (a : Audited m c.points c.edges c.faces) (h : c.faces ≤ none) (s : State) (n : ℕ)
    (r : PointRows c s n)
  where
    -- ---- the edges: edge points, or m

    record EdgesPut (ed : Edition) (base out : List Float) : Type 0 where
      stand : WeightedPointsStand ed m c.edges out s.edges
      is_finite : (e : ℕ) → e < c.edges → finite_position (weighted_in ed m c.edges e) ≡ true
      faces-kept : FacePointsStand m c.edges c.faces out s.faces
      olds-kept : (p : ℕ) → p < c.points → position_at out p ≡ position_at base p
      long : length out ≡ length base

    -- over a table in which the face points stand
    module _ (ed : Edition) (base : List Float) (room : n * 3 ≤ length base) (faces : FacePointsStand m c.edges c.faces base s.faces) where
      -- None is put over a face point, however many are put.
      faces-at :
          (k : ℕ) → k ≤ c.edges → (t : List Float) → placed_by k (edge_point_row s) (weighted_rule ed m s) (so_far base) ≡ so_far t →
          FacePointsStand m c.edges c.faces t s.faces
      faces-at k b t e f l =
          placed-other (edge_point_row s) (weighted_rule ed m s) k base t e (face_point_row s f) (λ i x. r.face-edge f i l (omega arith)) ∙ faces f l

      edge-rule :
          (e : ℕ) → e < c.edges → (t : List Float) → placed_by e (edge_point_row s) (weighted_rule ed m s) (so_far base) ≡ so_far t →
          weighted_rule ed m s e t ≡ weighted_in ed m c.edges e
      edge-rule e l t q = weighted_point-stands ed m _ _ _ t s.faces a (faces-at e (omega arith) t q) e l

      module _ (out : List Float) (e2 : placed_by c.edges (edge_point_row s) (weighted_rule ed m s) (so_far base) ≡ so_far out) where
        put-at : (e : ℕ) → e < c.edges → PutAt (edge_point_row s) (weighted_rule ed m s) e base out
        put-at =
            placed-at (edge_point_row s) (weighted_rule ed m s) c.edges base out e2 r.edge-edge
            (λ e l. let b = r.edge-below e l in omega arith)

        rule-at : (e : ℕ) (l : e < c.edges) → weighted_rule ed m s e (put-at e l).table ≡ weighted_in ed m c.edges e
        rule-at e l = let u = put-at e l in edge-rule e l u.table u.before

        edges-put : EdgesPut ed base out
        edges-put =
            record {
              stand = λ e l. (put-at e l).stands ∙ rule-at e l;
              is_finite = λ e l. ap finite_position (sym (rule-at e l)) ∙ (put-at e l).is_finite;
              faces-kept = faces-at c.edges (omega arith) out e2;
              olds-kept =
                  λ p l. placed-other (edge_point_row s) (weighted_rule ed m s) c.edges base out e2 p (λ i x q. r.edge-old i p x l (sym q));
              long = length-placed (edge_point_row s) (weighted_rule ed m s) c.edges base out e2;
            }

    -- ---- the edge points put over what weighed for the edges

    -- the table ps3 has the face points, what weighs for the edges, and the old points
    finished :
        (ed : Edition) (ps3 qs : List Float) → n * 3 ≤ length ps3 → FacePointsStand m c.edges c.faces ps3 s.faces →
        WeightedPointsStand ed m c.edges ps3 s.edges → ((e : ℕ) → e < c.edges → finite_position (weighted_in ed m c.edges e) ≡ true) →
        placed_over ed m c s (so_far ps3) ≡ so_far qs → EdgesPut First ps3 qs
    finished First ps3 qs room faces edges finite e =
        let same : ps3 ≡ qs = cc in
        record {
          stand = λ e l. ap (λ t. edge_point_at t s.edges e) (sym same) ∙ edges e l;
          is_finite = finite;
          faces-kept = λ f l. ap (λ t. face_point_at t s.faces f) (sym same) ∙ faces f l;
          olds-kept = λ p l. ap (λ t. position_at t p) (sym same);
          long = ap length (sym same);
        }
    finished Second ps3 qs room faces edges finite e = edges-put First ps3 room faces qs e

    -- ---- all kinds

    module _ (ed : Edition) (ps : List Float) (room : n * 3 ≤ length ps) where
      -- The face points are put.
      module _ (ps1 : List Float) (e1 : placed_by c.faces (face_point_row s) (face_point_rule m c) (so_far ps) ≡ so_far ps1) where
        length1 : length ps1 ≡ length ps
        length1 = length-placed (face_point_row s) (face_point_rule m c) c.faces ps ps1 e1

        faces1 : (f : ℕ) → f < c.faces → PutAt (face_point_row s) (face_point_rule m c) f ps ps1
        faces1 =
            placed-at (face_point_row s) (face_point_rule m c) c.faces ps ps1 e1 r.face-face
            (λ f l. let b = r.face-below f l in omega arith)

        faces-stand : FacePointsStand m c.edges c.faces ps1 s.faces
        faces-stand f l = (faces1 f l).stands

        room1 : n * 3 ≤ length ps1
        room1 = rw length1 room

        -- Then what weighs for the edges.
        module _ (ps2 : List Float) (e2 : placed_by c.edges (edge_point_row s) (weighted_rule ed m s) (so_far ps1) ≡ so_far ps2) where
          edges2 : EdgesPut ed ps1 ps2
          edges2 = edges-put ed ps1 room1 faces-stand ps2 e2

          length2 : length ps2 ≡ length ps
          length2 = edges2.long ∙ length1

          -- No old point is put over them.
          faces-stay :
              (k : ℕ) → k ≤ c.points → (t : List Float) → placed_by k (λ p. p) (old_point_rule m s) (so_far ps2) ≡ so_far t →
              FacePointsStand m c.edges c.faces t s.faces
          faces-stay k b t e f l =
              placed-other (λ p. p) (old_point_rule m s) k ps2 t e (face_point_row s f) (λ i x. r.face-old f i l (omega arith))
              ∙ edges2.faces-kept f l

          edges-stay :
              (k : ℕ) → k ≤ c.points → (t : List Float) → placed_by k (λ p. p) (old_point_rule m s) (so_far ps2) ≡ so_far t →
              WeightedPointsStand ed m c.edges t s.edges
          edges-stay k b t e i l =
              placed-other (λ p. p) (old_point_rule m s) k ps2 t e (edge_point_row s i) (λ j x. r.edge-old i j l (omega arith))
              ∙ edges2.stand i l

          -- The rule of an old point reads them.
          old-rule :
              (p : ℕ) → p < c.points → (t : List Float) → placed_by p (λ p. p) (old_point_rule m s) (so_far ps2) ≡ so_far t →
              old_point_rule m s p t ≡ old_point_in ed m c.edges p
          old-rule p l t q =
              old_point-stands ed m _ _ _ t s.edges s.faces a h (faces-stay p (omega arith) t q) (edges-stay p (omega arith) t q) p l

          -- Then the old points.
          module _ (ps3 : List Float) (e3 : placed_by c.points (λ p. p) (old_point_rule m s) (so_far ps2) ≡ so_far ps3) where
            olds3 : (p : ℕ) → p < c.points → PutAt (λ p. p) (old_point_rule m s) p ps2 ps3
            olds3 =
                placed-at (λ p. p) (old_point_rule m s) c.points ps2 ps3 e3 (λ i j x y z. z)
                (λ p l. let b = r.old_below p l in rw length2 (omega arith))

            rule3 : (p : ℕ) (l : p < c.points) → old_point_rule m s p (olds3 p l).table ≡ old_point_in ed m c.edges p
            rule3 p l = let u = olds3 p l in old-rule p l u.table u.before

            length3 : length ps3 ≡ length ps
            length3 = length-placed (λ p. p) (old_point_rule m s) c.points ps2 ps3 e3 ∙ length2

            -- Then the edge points over them.
            module _ (qs : List Float) (e4 : placed_over ed m c s (so_far ps3) ≡ so_far qs) where
              last : EdgesPut First ps3 qs
              last =
                  finished ed ps3 qs (rw length3 room) (faces-stay c.points (omega arith) ps3 e3)
                  (edges-stay c.points (omega arith) ps3 e3) edges2.is_finite e4

              length4 : length qs ≡ length ps
              length4 = last.long ∙ length3

              all_placed : AllPlaced ed m c s qs
              unfolding edge_point_in
              all_placed =
                  record {
                    face-points = last.faces-kept;
                    edge-points = last.stand;
                    old-points = λ p l. last.olds-kept p l ∙ (olds3 p l).stands ∙ rule3 p l;
                    finite =
                        record {
                          face-points = λ f l. (faces1 f l).is_finite;
                          edge-points = last.is_finite;
                          old-points = λ p l. ap finite_position (sym (rule3 p l)) ∙ (olds3 p l).is_finite;
                        };
                  }

      -- the tables after each kind of points
      record Stages (qs : List Float) : Type 0 where
        ps1 : List Float
        face-points-put : placed_by c.faces (face_point_row s) (face_point_rule m c) (so_far ps) ≡ so_far ps1
        ps2 : List Float
        edges-put-first : placed_by c.edges (edge_point_row s) (weighted_rule ed m s) (so_far ps1) ≡ so_far ps2
        ps3 : List Float
        old-points-put : placed_by c.points (λ p. p) (old_point_rule m s) (so_far ps2) ≡ so_far ps3
        edges-put-last : placed_over ed m c s (so_far ps3) ≡ so_far qs

      stages : (qs : List Float) → placed_all ed m c s ps ≡ so_far qs → Stages qs
      unfolding placed_all
      stages qs e =
          let r1 = placed_by c.faces (face_point_row s) (face_point_rule m c) (so_far ps) in
          let r2 = placed_by c.edges (edge_point_row s) (weighted_rule ed m s) r1 in
          let r3 = placed_by c.points (λ p. p) (old_point_rule m s) r2 in
          let b3 = over-begun ed r3 qs e in
          let b2 = placed-begun (λ p. p) (old_point_rule m s) c.points r2 b3.0 b3.1 in
          let b1 = placed-begun (edge_point_row s) (weighted_rule ed m s) c.edges r1 b2.0 b2.1 in
          record {
            ps1 = b1.0;
            face-points-put = b1.1;
            ps2 = b2.0;
            edges-put-first = ap (placed_by c.edges (edge_point_row s) (weighted_rule ed m s)) (sym b1.1) ∙ b2.1;
            ps3 = b3.0;
            old-points-put = ap (placed_by c.points (λ p. p) (old_point_rule m s)) (sym b2.1) ∙ b3.1;
            edges-put-last = ap (placed_over ed m c s) (sym b3.1) ∙ e;
          }
        where
          over-begun : (ed : Edition) (r : Placing) (qs : List Float) → placed_over ed m c s r ≡ so_far qs → (ps : List Float) × (r ≡ so_far ps)
          over-begun First r qs e = (qs, e)
          over-begun Second r qs e = placed-begun (edge_point_row s) (weighted_rule First m s) c.edges r qs e

      -- What stands in the rows when all positions are put.
      pub placed-all : (qs : List Float) → placed_all ed m c s ps ≡ so_far qs → AllPlaced ed m c s qs
      placed-all qs e =
          let t = stages qs e in
          all_placed t.ps1 t.face-points-put t.ps2 t.edges-put-first t.ps3 t.old-points-put qs t.edges-put-last

      pub length-all : (qs : List Float) → placed_all ed m c s ps ≡ so_far qs → length qs ≡ length ps
      length-all qs e =
          let t = stages qs e in
          length4 t.ps1 t.face-points-put t.ps2 t.edges-put-first t.ps3 t.old-points-put qs t.edges-put-last

      -- Where every position is finite, all are put: m is finite where the edge point is.
      pub all-put : AllFinite ed m c → (qs : List Float) × (placed_all ed m c s ps ≡ so_far qs)
      unfolding placed_all
      all-put w =
          let b1 = placed-whole (face_point_row s) (face_point_rule m c) c.faces ps (λ f l t q. w.face-points f l) in
          let b2 =
          placed-whole (edge_point_row s) (weighted_rule ed m s) c.edges b1.0
          (λ e l t q.
          ap finite_position (edge-rule ed b1.0 (room1 b1.0 b1.1) (faces-stand b1.0 b1.1) e l t q)
          ∙ weighted-finite ed m c.edges e (w.edge-points e l)) in
          let b3 =
          placed-whole (λ p. p) (old_point_rule m s) c.points b2.0
          (λ p l t q. ap finite_position (old-rule b1.0 b1.1 b2.0 b2.1 p l t q) ∙ w.old-points p l) in
          let b4 =
          over-put ed b3.0 (rw (length3 b1.0 b1.1 b2.0 b2.1 b3.0 b3.1) room)
          (faces-stay b1.0 b1.1 b2.0 b2.1 c.points (omega arith) b3.0 b3.1) in
          let put2 = ap (placed_by c.edges (edge_point_row s) (weighted_rule ed m s)) b1.1 ∙ b2.1 in
          let put3 = ap (placed_by c.points (λ p. p) (old_point_rule m s)) put2 ∙ b3.1 in
          (b4.0, ap (placed_over ed m c s) put3 ∙ b4.1)
        where
          over-put :
              (ed : Edition) (ps3 : List Float) → n * 3 ≤ length ps3 → FacePointsStand m c.edges c.faces ps3 s.faces →
              (qs : List Float) × (placed_over ed m c s (so_far ps3) ≡ so_far qs)
          over-put First ps3 room faces = (ps3, refl)
          over-put Second ps3 room faces =
              placed-whole (edge_point_row s) (weighted_rule First m s) c.edges ps3
              (λ e l t q. ap finite_position (edge-rule First ps3 room faces e l t q) ∙ (unfold edge_point_in in w.edge-points e l))
