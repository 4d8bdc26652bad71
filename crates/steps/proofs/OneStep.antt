-- An accepted step makes the refinement. The visits make it on kinds; each position is put, finite, into its row; halves and joining
-- intervals are finite with sign bit clear. Assumes nothing.
use mathlib.Core.Path.{◌≡◌, refl, sym, ◌∙◌, ap, subst}
use mathlib.Core.Bool.{Bool, true, false, cond}
use mathlib.Core.List.{List}
use mathlib.Core.Logic.{◌⊎◌, inl, inr}
use Prim.Native.Nat.{ℕ, ◌≤◌, ◌<◌}
use native.Mathlib.Omega.{arith}
use lib.Dec.{T, ltb}
use lib.Ieee.{Float, fits, binary64}
use lib.Ieee.Fits.{add-fits, mul-fits}
use lib.Ieee.Scale.{finite}
use Rattle.positions.specs.declared.Position.{Position}
use Rattle.positions.specs.Position.{finite_position}
use Rattle.tables.specs.Mesh.{Mesh, none, x, y, z, mark, interval}
use Rattle.tables.specs.Records.{position_at}
use Rattle.tables.specs.declared.Counts.{Counts}
use Rattle.closed_meshes.specs.Mesh.{Dart, edge, flip, face}
use Rattle.closed_meshes.specs.Refinement.{NewPoint, old, mid, face_point, NewEdge, org, dst, join, refined}
use Rattle.closed_meshes.specs.Renumbering.{Row}
use Rattle.closed_meshes.proofs.Counting.{row-path}
use Rattle.closed_meshes.proofs.Isomorphisms.{to-injective, onto, carries_over}
use Rattle.closed_meshes.proofs.Refinement.{stays_closed}
use Rattle.audited_meshes.specs.Audit.{interval_fit}
use Rattle.audited_meshes.specs.Audited.{Audited}
use Rattle.audited_meshes.specs.Rows.{Fit, HoldsClosed}
use Rattle.audited_meshes.proofs.Holds.{audited-of-closed}
use Rattle.refined_meshes.specs.declared.Edition.{Edition}
use Rattle.refined_meshes.specs.declared.Edition.TheVariants.{First, Second}
use Rattle.refined_meshes.specs.State.{State, with_positions}
use Rattle.refined_meshes.specs.Split.{half}
use Rattle.refined_meshes.specs.Order.{turn_in}
use Rattle.refined_meshes.specs.Settled.{settled_rows}
use Rattle.refined_meshes.specs.Refines.{found, joint, Refines}
use Rattle.refined_meshes.proofs.Settled.{visits-refine}
use Rattle.position_rules.specs.FacePoint.{face_point_in}
use Rattle.position_rules.specs.Rules.{edge_point_in, old_point_in}
use Rattle.position_rules.specs.Claims.{WholeOrHalf}
use Rattle.position_rules.proofs.Floats.{half-fit, quarter-fit, finite-parts}
use Rattle.steps.specs.Positions.{so_far, face_point_row, edge_point_row, placed_all}
use Rattle.steps.specs.Step.{refined_counts, whole, step}
use Rattle.tables.specs.Counted.{first_rows, over_rows}
use Rattle.steps.specs.OneStep.{Refinement, Binary64, OneStep}
use Rattle.steps.proofs.Rows.{points-fit, edges_fit, faces-fit, Exact, exact-first_rows}
use Rattle.steps.proofs.Rows.{room-of-exact, room-of-holds, holds_same, holds-first_rows, SameRows}
use Rattle.steps.proofs.Rows.{first_rows-over_rows, same-over_rows, room-over_rows, position-same}
use Rattle.steps.proofs.NewPositions.{PointRows, AllPlaced, placed-all}
use Rattle.steps.proofs.Lengths.{exact-made}
use Rattle.steps.proofs.Joining.{joining-fit, binary64-first_rows}
use Rattle.steps.proofs.SameRefinement.{faces-fewer, refines-same}
use Rattle.steps.proofs.Grounds.{taken, made-is}

-- the interval that is found is whole or half
halved-found : (b : Bool) (d : Float) → WholeOrHalf d (cond b (half d) d)
halved-found true d = inr refl
halved-found false d = inl refl

module _
    (ed : Edition) (m : Mesh) (c : Counts) (h : HoldsClosed m c.points c.edges c.faces) (order : List ℕ) (t : Mesh) (qs : List Float)
  where
    -- the state after the visits
    abbrev s : State
    s = settled_rows ed m c.points c.edges c.faces order t

    found-halved : (d : Dart (Row c.edges)) → WholeOrHalf (interval m (edge d).0) (found m h.mesh order d)
    found-halved d =
        halved-found (ltb (turn_in order (face h.mesh (flip d)).0) (turn_in order (face h.mesh d).0)) (interval m (edge d).0)

    module _ (visited : Refines ed m h.mesh h.closed order (with_positions qs s)) where
      -- the row of a new point
      row : NewPoint (Row c.points) (Row c.edges) (Row c.faces) → ℕ
      row x = (visited.numbering.points.to x).0

      row_below : (x : NewPoint (Row c.points) (Row c.edges) (Row c.faces)) → row x < (refined_counts c).points
      unfolding row
      row_below x = (visited.numbering.points.to x).1

      row-injective : (x y : NewPoint (Row c.points) (Row c.edges) (Row c.faces)) → row x ≡ row y → x ≡ y
      unfolding row
      row-injective x y e = to-injective visited.numbering.points x y (row-path _ _ e)

      face-row : (f : ℕ) (l : f < c.faces) → face_point_row s f ≡ row (face_point (f, l))
      unfolding row
      face-row f l = visited.centre-row (f, l)

      edge_row : (e : ℕ) (l : e < c.edges) → edge_point_row s e ≡ row (mid (e, l))
      unfolding row
      edge_row e l = visited.mid_row (e, l)

      old_row : (p : ℕ) (l : p < c.points) → row (old (p, l)) ≡ p
      unfolding row
      old_row p l = visited.old_row (p, l)

      -- The new points stand in rows that are all different.
      pub point-rows : PointRows c s (refined_counts c).points
      point-rows =
          record {
            face-below = λ f l. rw (face-row f l) (row_below (face_point (f, l)));
            edge-below = λ e l. rw (edge_row e l) (row_below (mid (e, l)));
            old_below = λ p l. omega arith;
            face-face =
                λ f g l k q.
                let z = row-injective (face_point (f, l)) (face_point (g, k)) (sym (face-row f l) ∙ q ∙ face-row g k) in
                let w : ◌≡◌ {A = Row c.faces} (f, l) (g, k) = cc in
                ap (λ r. r.0) w;
            edge-edge =
                λ e i l k q.
                let z = row-injective (mid (e, l)) (mid (i, k)) (sym (edge_row e l) ∙ q ∙ edge_row i k) in
                let w : ◌≡◌ {A = Row c.edges} (e, l) (i, k) = cc in
                ap (λ r. r.0) w;
            face-edge =
                λ f e l k q.
                let z = row-injective (face_point (f, l)) (mid (e, k)) (sym (face-row f l) ∙ q ∙ edge_row e k) in
                let w : ◌≡◌ {A = ℕ} 0 1 = cc in
                omega arith;
            face-old =
                λ f p l k q.
                let z = row-injective (face_point (f, l)) (old (p, k)) (sym (face-row f l) ∙ q ∙ sym (old_row p k)) in
                let w : ◌≡◌ {A = ℕ} 0 1 = cc in
                omega arith;
            edge-old =
                λ e p l k q.
                let z = row-injective (mid (e, l)) (old (p, k)) (sym (edge_row e l) ∙ q ∙ sym (old_row p k)) in
                let w : ◌≡◌ {A = ℕ} 0 1 = cc in
                omega arith;
          }

      module _
          (numbers : (e : ℕ) → T (fits binary64 (interval m e))) (few : c.faces ≤ none) (room : Exact (refined_counts c) t)
          (put : placed_all ed m c s t.positions ≡ so_far qs)
        where
          audited : Audited m c.points c.edges c.faces
          audited = audited-of-closed m h.mesh h.stands h.closed h.fit

          all : AllPlaced ed m c s qs
          all = placed-all m c audited few s (refined_counts c).points point-rows ed t.positions (omega (arith, room.positions)) qs put

          -- the position of each kind of point
          rule : NewPoint (Row c.points) (Row c.edges) (Row c.faces) → Position
          rule (old p) = old_point_in ed m c.edges p.0
          rule (mid e) = edge_point_in m c.edges e.0
          rule (face_point f) = face_point_in m c.edges f.0

          rule-stands : (x : NewPoint (Row c.points) (Row c.edges) (Row c.faces)) → position_at qs (row x) ≡ rule x
          unfolding rule
          rule-stands (old p) = ap (position_at qs) (old_row p.0 p.1) ∙ all.old-points p.0 p.1
          rule-stands (mid e) = ap (position_at qs) (sym (edge_row e.0 e.1)) ∙ all.edge-points e.0 e.1
          rule-stands (face_point f) = ap (position_at qs) (sym (face-row f.0 f.1)) ∙ all.face-points f.0 f.1

          rule-finite : (x : NewPoint (Row c.points) (Row c.edges) (Row c.faces)) → finite_position (rule x) ≡ true
          unfolding rule
          rule-finite (old p) = all.finite.old-points p.0 p.1
          rule-finite (mid e) = all.finite.edge-points e.0 e.1
          rule-finite (face_point f) = all.finite.face-points f.0 f.1

          position-finite : (p : Row (refined_counts c).points) → finite_position (position_at qs p.0) ≡ true
          unfolding row
          position-finite =
              onto visited.numbering.points (λ p. finite_position (position_at qs p.0) ≡ true)
              (λ x. ap finite_position (rule-stands x) ∙ rule-finite x)

          -- a joining interval: a sum of found intervals, or a quarter of a sum of whole ones
          joint-fit : (k : Edition) (d : Dart (Row c.edges)) → interval_fit (joint m h.mesh k h.closed order d) ≡ true
          joint-fit First d =
              joining-fit m h numbers d (all.finite.face-points (face h.mesh d).0 (face h.mesh d).1) _ _ (found-halved (h.closed.next d))
              (found-halved (h.closed.prev d))
          joint-fit Second d =
              (quarter-fit _
              (joining-fit m h numbers d (all.finite.face-points (face h.mesh d).0 (face h.mesh d).1) _ _ (inl refl) (inl refl))
              (add-fits binary64 _ _)
              ).is-fit

          joint-held : (k : Edition) (d : Dart (Row c.edges)) → T (fits binary64 (joint m h.mesh k h.closed order d))
          joint-held First d = add-fits binary64 _ _
          joint-held Second d = mul-fits binary64 _ _

          interval-of : (x : NewEdge (Row c.edges)) → interval_fit (interval (with_positions qs s) (visited.numbering.edges.to x).0) ≡ true
          interval-of (org e) =
              rw (visited.origin-row e, visited.origin-interval e) (half-fit _ (h.fit.interval-fit e.0 e.1) (numbers e.0)).is-fit
          interval-of (dst e) = rw (visited.destination-interval e) (half-fit _ (h.fit.interval-fit e.0 e.1) (numbers e.0)).is-fit
          interval-of (join d) = rw (visited.join-interval d) (joint-fit ed d)

          number_of : (x : NewEdge (Row c.edges)) → T (fits binary64 (interval (with_positions qs s) (visited.numbering.edges.to x).0))
          number_of (org e) = rw (visited.origin-row e, visited.origin-interval e) (mul-fits binary64 _ _)
          number_of (dst e) = rw (visited.destination-interval e) (mul-fits binary64 _ _)
          number_of (join d) = rw (visited.join-interval d) (joint-held ed d)

          mark_of :
              (x : NewPoint (Row c.points) (Row c.edges) (Row c.faces)) →
              (mark (with_positions qs s) (row x) ≡ 0) ⊎ (mark (with_positions qs s) (row x) ≡ 1)
          unfolding row
          mark_of (old p) =
              subst (λ k. (mark (with_positions qs s) k ≡ 0) ⊎ (mark (with_positions qs s) k ≡ 1)) (sym (visited.old_row p))
              (subst (λ w. (w ≡ 0) ⊎ (w ≡ 1)) (sym (visited.old-mark p)) (h.fit.mark-fit p.0 p.1))
          mark_of (mid e) = inl (visited.mid-mark e)
          mark_of (face_point f) = inl (visited.centre-mark f)

          lengths : Exact (refined_counts c) (with_positions qs s)
          lengths = exact-made ed m c (room-of-holds h) audited few (faces-fewer visited) order t room point-rows qs put

          pub fit : Fit (with_positions qs s) (refined_counts c).points (refined_counts c).edges (refined_counts c).faces
          unfolding row
          fit =
              let r = room-of-exact lengths in
              record {
                points-fit = points-fit r;
                edges_fit = edges_fit r;
                faces-fit = faces-fit r;
                x-finite = λ p l. (finite-parts (position_at qs p) (position-finite (p, l))).0.0;
                y-finite = λ p l. (finite-parts (position_at qs p) (position-finite (p, l))).0.1;
                z-finite = λ p l. (finite-parts (position_at qs p) (position-finite (p, l))).1;
                interval-fit =
                    λ e l. onto visited.numbering.edges (λ x. interval_fit (interval (with_positions qs s) x.0) ≡ true) interval-of (e, l);
                mark-fit =
                    λ p l. onto visited.numbering.points (λ x. (mark (with_positions qs s) x.0 ≡ 0) ⊎ (mark (with_positions qs s) x.0 ≡ 1)) mark_of (p, l);
              }

          -- The mesh that is made holds a closed mesh.
          unfoldable pub holds : HoldsClosed (with_positions qs s) (refined_counts c).points (refined_counts c).edges (refined_counts c).faces
          holds =
              record {
                mesh = visited.mesh;
                stands = visited.stands;
                closed =
                    carries_over _ _ _ _ _ _ (refined h.mesh h.closed) visited.mesh visited.numbering visited.touching
                    (stays_closed _ _ _ h.mesh h.closed);
                fit = fit;
              }

          -- Put over the first rows of the tables, it is the refinement there.
          module _ (m0 : Mesh) where
            there : Mesh
            there = over_rows (refined_counts c) (with_positions qs s) m0

            same : SameRows (refined_counts c) (with_positions qs s) there
            unfolding there
            same = same-over_rows (refined_counts c) (with_positions qs s) m0 lengths

            position-there :
                (x : NewPoint (Row c.points) (Row c.edges) (Row c.faces)) →
                position_at there.positions (visited.numbering.points.to x).0 ≡ rule x
            unfolding row
            position-there x = position-same same (row x) (row_below x) ∙ rule-stands x

            holds-there : HoldsClosed there (refined_counts c).points (refined_counts c).edges (refined_counts c).faces
            unfolding there
            holds-there = holds_same same (room-over_rows (refined_counts c) (with_positions qs s) m0 lengths) holds

            pub refinement-there : Refinement ed m c h.mesh h.closed order (over_rows (refined_counts c) (with_positions qs s) m0)
            unfolding there holds-there holds_same holds rule refines-same
            refinement-there =
                record {
                  holds = holds-there;
                  refines = refines-same visited same;
                  one-mesh = refl;
                  old-point = λ p. position-there (old p);
                  edge-point = λ e. position-there (mid e);
                  face-point = λ f. position-there (face_point f);
                }

            pub numbers-there : Binary64 (refined_counts c) (over_rows (refined_counts c) (with_positions qs s) m0)
            unfolding there
            numbers-there e l =
                rw (same.intervals e l)
                (onto visited.numbering.edges (λ x. T (fits binary64 (interval (with_positions qs s) x.0))) number_of (e, l))

-- An accepted step makes the refinement.
pub one-step : OneStep
unfolding holds-first_rows
one-step ed m c order t h numbers c' e =
    let k = taken ed m c order t c' e in
    let m1 = first_rows c m in
    let h1 = holds-first_rows h in
    let u = first_rows (refined_counts c) t in
    let x = exact-first_rows (refined_counts c) t k.scratch-room in
    let r = room-of-exact x in
    let b = made-is ed m1 c order u k.mesh k.is_made in
    let v = visits-refine ed m1 c.points c.edges c.faces h1 order k.once u (points-fit r) (edges_fit r) (faces-fit r) b.positions in
    let held : (e : ℕ) → T (fits binary64 (interval m1 e)) = binary64-first_rows c m numbers in
    let few : c.faces ≤ none = omega (arith, k.within.points) in
    let q : (step ed m c order t).tables ≡ over_rows (refined_counts c) (with_positions b.positions (settled_rows ed m1 c.points c.edges c.faces order u)) m =
    k.tables ∙ ap (λ n. over_rows (refined_counts c) n m) b.mesh in
    record {
      counts = k.counts;
      in_order =
          k.is_made
          ∙ ap whole
          (b.mesh
          ∙ sym (ap (first_rows (refined_counts c)) q
          ∙ first_rows-over_rows (refined_counts c) (with_positions b.positions (settled_rows ed m1 c.points c.edges c.faces order u)) m
          (lengths ed m1 c h1 order u b.positions v held few x b.put)));
      refinement =
          subst (Refinement ed m1 c h.mesh h.closed order) (sym q)
          (refinement-there ed m1 c h1 order u b.positions v held few x b.put m);
      numbers =
          subst (Binary64 (refined_counts c)) (sym q) (numbers-there ed m1 c h1 order u b.positions v held few x b.put m);
    }
