-- The loops that put positions into their rows, one after the other, in each edition. Assumes nothing.
--     stopped-at-faces, stopped-at-edges, three-placed       face points, what weighs for the edges, old points
--     first-placed                                           in the first edition that is all
--     second-stopped, second-placed                          in the second the edge points follow,
--     middles-there, point-over, over-fits                   each made from the m that stands in its row
use mathlib.Core.Path.{◌≡◌, refl, ◌∙◌, ap, sym, fun_ext}
use mathlib.Core.List.{List}
use Prim.Native.Nat.{ℕ, ◌+◌, ◌*◌, ◌≤◌, ◌<◌}
use native.Mathlib.Omega.{arith}
use lib.ListN.{length, get_or}
use lib.Ieee.{Float}
use Rattle.positions.specs.declared.Position.{Position}
use Rattle.tables.specs.Layout.{position_width, edge_width, dest_word}
use Rattle.tables.specs.Records.{position_at, edge_at}
use Rattle.tables.specs.Mesh.{Mesh}
use Rattle.tables.specs.Parts.{without_points}
use Rattle.tables.specs.declared.Counts.{Counts}
use Rattle.refined_meshes.specs.declared.Edition.{Edition}
use Rattle.refined_meshes.specs.declared.Edition.TheVariants.{First, Second}
use Rattle.refined_meshes.specs.State.{State}
use Rattle.position_rules.specs.FacePoint.{face_point_in}
use Rattle.position_rules.specs.EdgePoint.{shares, blend, edge_point, edge_middle_of}
use Rattle.position_rules.specs.Places.{face_point_at}
use Rattle.position_rules.proofs.Claims.{face_point-tables}
use Rattle.steps.specs.Positions.{Placing, so_far, not_finite, placed_by, placed_all, face_point_row, edge_point_row, face_point_rule, weighted_rule, old_point_rule}
use Rattle.steps.proofs.Placing.{placed-stopped, placed-begun, length-placed, placed-other, placed-at}
use Rattle.placing.specs.Placing.{EdgePointsFit}
use Rattle.edition_points.specs.Over.{OverFits, MiddlesThere, MidRows, placed_three}

-- ---- the loops one after the other, for the mesh m with the counts c and the refined rows s

module _ (m : Mesh) (c : Counts) (s : State) where
  faces-same :
      ◌≡◌ {A = ℕ → Position} (λ f. face_point_in (without_points m.positions m.edges m.intervals m.faces) c.edges f)
      (λ f. face_point_in m c.edges f)
  faces-same = fun_ext (λ f. face_point-tables m c.edges f)

  -- what the loop over the faces leaves, by the rule over the whole mesh
  pub faces-placed : (r : Placing) {q : Placing}
      → placed_by c.faces (face_point_row s) (λ f ps. face_point_in (without_points m.positions m.edges m.intervals m.faces) c.edges f) r ≡ q
      → placed_by c.faces (face_point_row s) (face_point_rule m c) r ≡ q
  faces-placed r h = ap (λ (g : ℕ → Position). placed_by c.faces (face_point_row s) (λ f ps. g f) r) (sym faces-same) ∙ h

  module _ (ed : Edition) (ps : List Float) where
    pub stopped-at-faces : placed_by c.faces (face_point_row s) (face_point_rule m c) (so_far ps) ≡ not_finite → placed_three ed m c s ps ≡ not_finite
    stopped-at-faces h =
        ap (λ (r : Placing). placed_by c.points (λ p. p) (old_point_rule m s) (placed_by c.edges (edge_point_row s) (weighted_rule ed m s) r)) h
        ∙ ap (λ (r : Placing). placed_by c.points (λ p. p) (old_point_rule m s) r)
        (placed-stopped (edge_point_row s) (weighted_rule ed m s) c.edges)
        ∙ placed-stopped (λ p. p) (old_point_rule m s) c.points

    module _ (ps₁ : List Float) (h : placed_by c.faces (face_point_row s) (face_point_rule m c) (so_far ps) ≡ so_far ps₁) where
      pub stopped-at-edges : placed_by c.edges (edge_point_row s) (weighted_rule ed m s) (so_far ps₁) ≡ not_finite → placed_three ed m c s ps ≡ not_finite
      stopped-at-edges k =
          ap (λ (r : Placing). placed_by c.points (λ p. p) (old_point_rule m s) (placed_by c.edges (edge_point_row s) (weighted_rule ed m s) r)) h
          ∙ ap (λ (r : Placing). placed_by c.points (λ p. p) (old_point_rule m s) r) k
          ∙ placed-stopped (λ p. p) (old_point_rule m s) c.points

      pub three-placed : (ps₂ : List Float) (r : Placing) → placed_by c.edges (edge_point_row s) (weighted_rule ed m s) (so_far ps₁) ≡ so_far ps₂
          → placed_by c.points (λ p. p) (old_point_rule m s) (so_far ps₂) ≡ r → placed_three ed m c s ps ≡ r
      three-placed ps₂ r k l =
          ap (λ (q : Placing). placed_by c.points (λ p. p) (old_point_rule m s) (placed_by c.edges (edge_point_row s) (weighted_rule ed m s) q)) h
          ∙ ap (λ (q : Placing). placed_by c.points (λ p. p) (old_point_rule m s) q) k
          ∙ l

  -- In the first edition that is all,
  pub first-placed : (ps : List Float) → placed_all First m c s ps ≡ placed_three First m c s ps
  unfolding placed_all
  first-placed ps = refl

  -- in the second the edge points follow.
  module _ (ps : List Float) where
    pub second-stopped : placed_three Second m c s ps ≡ not_finite → placed_all Second m c s ps ≡ not_finite
    unfolding placed_all
    second-stopped h =
        ap (placed_by c.edges (edge_point_row s) (weighted_rule First m s)) h
        ∙ placed-stopped (edge_point_row s) (weighted_rule First m s) c.edges

    pub second-placed : (qs : List Float) (r : Placing) → placed_three Second m c s ps ≡ so_far qs
        → placed_by c.edges (edge_point_row s) (λ e new. edge_point m.positions m.edges m.intervals (face_point_at new s.faces) e) (so_far qs) ≡ r
        → placed_all Second m c s ps ≡ r
    unfolding placed_all
    second-placed qs r h k = ap (placed_by c.edges (edge_point_row s) (weighted_rule First m s)) h ∙ k

    -- m stands in the rows of the edge points: the old points have other rows.
    pub middles-there : (qs : List Float) → MidRows c.points c.edges s.edges
        → ((e : ℕ) → e < c.edges → edge_point_row s e * position_width + position_width ≤ length ps)
        → placed_three Second m c s ps ≡ so_far qs → MiddlesThere m.positions m.edges m.intervals c.edges s.edges qs
    middles-there qs rows there h e l =
        let two = placed-begun (λ p. p) (old_point_rule m s) c.points
        (placed_by c.edges (edge_point_row s) (weighted_rule Second m s) (placed_by c.faces (face_point_row s) (face_point_rule m c) (so_far ps))) qs h in
        let one = placed-begun (edge_point_row s) (weighted_rule Second m s) c.edges
        (placed_by c.faces (face_point_row s) (face_point_rule m c) (so_far ps)) two.0 two.1 in
        let long = length-placed (face_point_row s) (face_point_rule m c) c.faces ps one.0 one.1 in
        let put : placed_by c.edges (edge_point_row s) (weighted_rule Second m s) (so_far one.0) ≡ so_far two.0 =
        ap (placed_by c.edges (edge_point_row s) (weighted_rule Second m s)) (sym one.1) ∙ two.1 in
        let over : placed_by c.points (λ p. p) (old_point_rule m s) (so_far two.0) ≡ so_far qs =
        ap (placed_by c.points (λ p. p) (old_point_rule m s)) (sym two.1) ∙ h in
        placed-other (λ p. p) (old_point_rule m s) c.points two.0 qs over (edge_point_row s e)
        (λ i below same. let behind = rows.behind e l in absurd (omega arith))
        ∙ (placed-at (edge_point_row s) (weighted_rule Second m s) c.edges one.0 two.0 put rows.apart
        (λ i below. rw long (there i below)) e l).stands

-- ---- the last loop of the second edition

abbrev pub over_row : List ℕ → ℕ → ℕ
over_row newedges e = get_or newedges (e * edge_width + dest_word) 0

abbrev pub over_rule : List Float → List ℕ → List Float → List ℕ → ℕ → List Float → Position
over_rule ps es is newfaces e new = edge_point ps es is (face_point_at new newfaces) e

-- The rule for edge e starts from the m that stands in its row, since the edges before it have rows of their own.
pub point-over : (ps : List Float) (es : List ℕ) (is : List Float) (newfaces : List ℕ) (ne : ℕ) (newedges : List ℕ) (first new : List Float)
    → ((i j : ℕ) → i < ne → j < ne → over_row newedges i ≡ over_row newedges j → i ≡ j) → MiddlesThere ps es is ne newedges first
    → (e : ℕ) → e < ne → placed_by e (over_row newedges) (over_rule ps es is newfaces) (so_far first) ≡ so_far new
    → (m : Position) → m ≡ position_at new (over_row newedges e)
    → (p : Position) → p ≡ blend m (shares is (edge_at es is e)) (face_point_at new newfaces (edge_at es is e).face_left)
    (face_point_at new newfaces (edge_at es is e).face_right)
    → over_rule ps es is newfaces e new ≡ p
unfolding edge_point
point-over ps es is newfaces ne newedges first new apart there e l h m from p made =
    let other = placed-other (over_row newedges) (over_rule ps es is newfaces) e first new h (over_row newedges e)
    (λ i below same. let q = apart e i l (omega arith) same in absurd (omega arith)) in
    ap (λ x. blend x (shares is (edge_at es is e)) (face_point_at new newfaces (edge_at es is e).face_left)
    (face_point_at new newfaces (edge_at es is e).face_right)) (sym (from ∙ other ∙ there e l)) ∙ sym made

-- What it asks, of the rules for edges.
pub over-fits : {ps is : List Float} {es newedges newfaces : List ℕ} {np ne : ℕ} {newpositions new : List Float} → length new ≡ length newpositions
    → EdgePointsFit ps es is ne newedges newfaces newpositions → MidRows np ne newedges → OverFits es is ne newedges newfaces new
over-fits same fit rows =
    record {
      sides-there = λ other long e l.
          let f = fit.rule_fits other (long ∙ same) e l in
          record {
            edge-fits = f.edge-fits;
            left-row = f.left-row;
            left-place = f.left-place;
            right-row = f.right-row;
            right-place = f.right-place;
          };
      row-there = fit.row-there;
      place-there = λ e l. rw same (fit.place-there e l);
      apart = rows.apart;
    }
