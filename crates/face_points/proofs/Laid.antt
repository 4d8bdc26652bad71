-- The border of a face in lent arrays, as the face point takes it: xs are its edges, qs its points. Assumes nothing.
--     laid-never-lost         the walk comes back
--     laid-edges-fit          its edges are there
--     laid-points-fit         its points are there, the first four again too
--     laid-four-again         the first four of its points stand again behind the last
--     laid-corners            about the point between two of its edges, a step clockwise goes to the next one, one anticlockwise back
--     face_point-of-laid       the sum over the windows of that border gives the face point
use mathlib.Core.Path.{◌≡◌, refl, sym, ◌∙◌, ap, subst, fun_ext}
use mathlib.Core.List.{List}
use Prim.Native.Nat.{ℕ, ◌+◌, ◌<◌}
use native.Mathlib.Omega.{arith}
use native.Mathlib.Decide.{dec_lt}
use native.Mathlib.Numerals.{add-one}
use lib.ListN.{get_or, length}
use lib.Ieee.{Float}
use Rattle.std.specs.Prelude.{Option, Some, None}
use Rattle.perimeters.specs.Places.{around, next_place}
use Rattle.perimeters.proofs.Laws.{around-below, next_more, next_last, next-below}
use Rattle.audited_meshes.specs.Walks.{first_point}
use Rattle.tables.specs.Parts.{face_tables, without_points}
use Rattle.tables.specs.Records.{position_at}
use Rattle.walks.specs.Border.{border_of, border, BorderLaid}
use Rattle.walks.specs.Steps.{passed_by}
use Rattle.walks.specs.declared.FaceBorder.{FaceBorder}
use Rattle.walks.proofs.Border.{laid-passed, laid-edge, laid-point}
use Rattle.walks.proofs.Laws.{get_or-padded, border-walk, border-point, border-point-again}
use Rattle.refined_meshes.proofs.Turns.{turns-cong}
use Rattle.position_rules.specs.declared.WeightedSum.{WeightedSum}
use Rattle.position_rules.specs.Sums.{with_term}
use Rattle.position_rules.specs.FacePoint.{no_windows, window_weight, window_sum, over_weight, face_point_in}
use Rattle.position_rules.specs.Fits.{BorderFits, PointsFit, CornersTurn, FacePointFits}
use Rattle.face_points.specs.Terms.{FourAgain}
use Rattle.position_rules.proofs.FacePoint.{never-lost, border-edges-fit, border-points-fit, face_point-of-border}

-- the sum over the windows looks at the first n + 4 points alone
window_sum-points : (ps : List Float) (es : List ℕ) (is : List Float) (pt pt' ed : ℕ → ℕ) (n : ℕ)
    → ((j : ℕ) → j < n + 4 → pt j ≡ pt' j) → window_sum ps es is pt ed n ≡ window_sum ps es is pt' ed n
unfolding window_sum window_weight
window_sum-points ps es is pt pt' ed n same =
    turns-cong n (λ i s. with_term s (position_at ps (pt (i + 2))) (window_weight es is pt ed i))
    (λ i s. with_term s (position_at ps (pt' (i + 2))) (window_weight es is pt' ed i))
    (λ i s l. rw (
      same i (omega arith),
      same (i + 1) (omega arith),
      same (i + 2) (omega arith),
      same (i + 3) (omega arith),
      same (i + 4) (omega arith),
    ))
    no_windows

module _ (ps : List Float) (es : List ℕ) (is : List Float) (fs : List ℕ) (ne f : ℕ) (h : FacePointFits ps es is fs ne f)
    (answer : Option ℕ) (xs qs xs₀ qs₀ : List ℕ) (laid : BorderLaid (face_tables es fs) ne f answer xs qs xs₀ qs₀) where
  abbrev B : FaceBorder
  B = border (face_tables es fs) ne f

  passed_is : answer ≡ B.passed
  passed_is = laid-passed (face_tables es fs) ne f answer xs qs xs₀ qs₀ laid

  pub laid-never-lost : answer ≡ None → ⊥
  laid-never-lost l = never-lost ps es is fs ne f h B refl (sym passed_is ∙ l)

  module _ {n : ℕ} (came : answer ≡ Some n) where
    back_is : B.passed ≡ Some n
    back_is = sym passed_is ∙ came

    edge-is : (i : ℕ) → i < n → get_or xs i 0 ≡ get_or B.edges i 0
    edge-is = laid-edge (face_tables es fs) ne f answer xs qs xs₀ qs₀ laid came

    point-is : (i : ℕ) → i < n + 4 → get_or qs i 0 ≡ get_or B.points i 0
    point-is = laid-point (face_tables es fs) ne f answer xs qs xs₀ qs₀ laid came

    fits : BorderFits es is B.edges n
    fits = border-edges-fit ps es is fs ne f h B refl back_is

    pub laid-edges-fit : BorderFits es is xs n
    laid-edges-fit = record {
      rows = fits.rows;
      fit = fits.fit;
      at-least-3 = fits.at-least-3;
      at-most-64 = fits.at-most-64;
      edges-below = λ j l. rw (edge-is j l) (fits.edges-below j l);
    }

    pub laid-points-fit : PointsFit ps qs n
    laid-points-fit = record {
      points-there = λ j l. rw (point-is j l) ((border-points-fit ps es is fs ne f h B refl back_is).points-there j l);
    }

    same_count : {k : ℕ} → Some n ≡ Some k → n ≡ k
    same_count q = cc

    count : n ≡ length h.border
    count = same_count (sym came ∙ laid.answered ∙ ap passed_by h.walked)

    -- the first four again in the border of the definition
    first-four : (j : ℕ) → j < 4 → get_or B.points (n + j) 0 ≡ get_or B.points j 0
    first-four j l =
        let stands = border-walk (face_tables es fs) ne f ∙ ap (border_of (face_tables es fs) f) h.walked in
        ap (λ (k : ℕ). get_or B.points (k + j) 0) count
        ∙ ap (λ (b : FaceBorder). get_or b.points (length h.border + j) 0) stands
        ∙ border-point-again (face_tables es fs) f h.border j (omega (arith, h.at-least-3)) l
        ∙ sym (ap (λ (b : FaceBorder). get_or b.points j 0) stands)

    pub laid-four-again : FourAgain qs n
    laid-four-again = record { again = λ j l. point-is (n + j) (omega arith) ∙ first-four j l ∙ sym (point-is j (omega arith)) }

    -- the edges and the points of the border in the arrays
    edge_at : (j : ℕ) → j < n → get_or xs j 0 ≡ get_or h.border j 0
    edge_at j l =
        edge-is j l
        ∙ ap (λ (b : FaceBorder). get_or b.edges j 0) (border-walk (face_tables es fs) ne f ∙ ap (border_of (face_tables es fs) f) h.walked)
        ∙ get_or-padded 64 h.border j

    point_at : (j : ℕ) → j < n → get_or qs j 0 ≡ first_point (face_tables es fs) f (get_or h.border j 0)
    point_at j l =
        point-is j (omega arith)
        ∙ ap (λ (b : FaceBorder). get_or b.points j 0) (border-walk (face_tables es fs) ne f ∙ ap (border_of (face_tables es fs) f) h.walked)
        ∙ border-point (face_tables es fs) f h.border j (omega (arith, count))

    -- the point after the edge at the place j
    point-after : (j : ℕ) → j < n → get_or qs (j + 1) 0 ≡ first_point (face_tables es fs) f (get_or h.border (next_place n j) 0)
    point-after j l = go (dec_lt (j + 1) n)
      where
        go : Dec (j + 1 < n) → get_or qs (j + 1) 0 ≡ first_point (face_tables es fs) f (get_or h.border (next_place n j) 0)
        go (yes b) =
            point_at (j + 1) b
            ∙ ap (λ (i : ℕ). first_point (face_tables es fs) f (get_or h.border i 0)) (add-one j ∙ sym (next_more n j (omega arith)))
        go (no b) =
            ap (λ (i : ℕ). get_or qs i 0) (omega arith) ∙ laid-four-again.again 0 (omega arith) ∙ point_at 0 (omega arith)
            ∙ ap (λ (i : ℕ). first_point (face_tables es fs) f (get_or h.border i 0)) (sym (next_last n j (omega arith)))

    pub laid-corners : CornersTurn es (λ j. get_or qs (j + 1) 0) xs n
    laid-corners =
        let turn = subst (λ k. CornersTurn es (λ j. first_point (face_tables es fs) f (get_or h.border (next_place k j) 0)) h.border k)
        (sym count) h.corners in
        record {
          goes_on = λ j l. rw (point-after j l, edge_at j l, edge_at (next_place n j) (next-below n j l)) (turn.goes_on j l);
          goes_back = λ j l. rw (point-after j l, edge_at j l, edge_at (next_place n j) (next-below n j l)) (turn.goes_back j l);
        }

    pub face_point-of-laid : (s : WeightedSum) → s ≡ window_sum ps es is (λ j. get_or qs j 0) (λ j. get_or xs (around n j) 0) n
        → over_weight s ≡ face_point_in (without_points ps es is fs) ne f
    face_point-of-laid s q =
        let some : 0 < n = omega (arith, fits.at-least-3) in
        face_point-of-border ps es is fs ne f h B s refl back_is
        (q
        ∙ ap (λ (ed : ℕ → ℕ). window_sum ps es is (λ j. get_or qs j 0) ed n) (fun_ext (λ j. edge-is (around n j) (around-below n j some)))
        ∙ window_sum-points ps es is (λ j. get_or qs j 0) (λ j. get_or B.points j 0) (λ j. get_or B.edges (around n j) 0) n point-is)
