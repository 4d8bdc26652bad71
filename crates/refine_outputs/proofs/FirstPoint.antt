-- Point 0 of a mesh that has been refined: it is there, and its coordinates are finite. Assumes nothing.
--     point-there             of a step that was accepted, of a mesh with points
--     point-ready             of a step with any answer
use Rattle.std.specs.Prelude.{Result, Ok, Err}
use mathlib.Core.Path.{◌≡◌, refl, sym, ap, ◌∙◌}
use mathlib.Core.Bool.{true}
use mathlib.Core.List.{List}
use Prim.Native.Nat.{ℕ, ◌*◌, ◌≤◌, ◌<◌}
use native.Mathlib.Omega.{arith}
use lib.ListN.{length, get_or, drop, get_or-append}
use lib.Seq.{take_all}
use lib.Ieee.{Float, nan}
use Rattle.positions.specs.Position.{finite_position}
use Rattle.tables.specs.Mesh.{Mesh}
use Rattle.tables.specs.Rows.{over}
use Rattle.tables.specs.Records.{position_at}
use Rattle.tables.specs.declared.Counts.{Counts}
use Rattle.tables.proofs.Laws.{length_over}
use Rattle.refined_meshes.specs.declared.Edition.TheVariants.{First}
use Rattle.refined_meshes.specs.State.{State}
use Rattle.steps.specs.Positions.{so_far, placed_by, placed_all, face_point_row, edge_point_row, face_point_rule, weighted_rule, old_point_rule}
use Rattle.steps.specs.Step.{refined_counts, step}
use Rattle.tables.specs.Counted.{first_rows, over_rows}
use Rattle.steps.specs.declared.StepRefusal.{StepRefusal}
use Rattle.steps.proofs.Rows.{exact-first_rows}
use Rattle.steps.proofs.Grounds.{taken, made-is}
use Rattle.steps.proofs.Placing.{placed-begun, length-placed, placed-at}
use Rattle.refine_outputs.specs.FirstPoint.{PointThere, PointReady}

-- ---- point 0 in the table of positions that the rules fill

record PlacedFirst (qs : List Float) (n : ℕ) : Type 0 where
  long : length qs ≡ n
  is_finite : finite_position (position_at qs 0) ≡ true

placed_first : (m : Mesh) (c : Counts) (s : State) (ps qs : List Float) → 0 < c.points → c.points * 3 ≤ length ps
    → placed_all First m c s ps ≡ so_far qs → PlacedFirst qs (length ps)
unfolding placed_all
placed_first m c s ps qs some room e =
    let (ps2, e2) = placed-begun (λ p. p) (old_point_rule m s) c.points _ qs e in
    let (ps1, e1) = placed-begun (edge_point_row s) (weighted_rule First m s) c.edges _ ps2 e2 in
    let l1 = length-placed (face_point_row s) (face_point_rule m c) c.faces ps ps1 e1 in
    let l2 = length-placed (edge_point_row s) (weighted_rule First m s) c.edges ps1 ps2 (sym (ap (placed_by c.edges (edge_point_row s) (weighted_rule First m s)) e1) ∙ e2) in
    let e0 : placed_by c.points (λ p. p) (old_point_rule m s) (so_far ps2) ≡ so_far qs = sym (ap (placed_by c.points (λ p. p) (old_point_rule m s)) e2) ∙ e in
    let l0 = length-placed (λ p. p) (old_point_rule m s) c.points ps2 qs e0 in
    let x = placed-at (λ p. p) (old_point_rule m s) c.points ps2 qs e0 (λ i j hi hj h. h) (λ i h. omega arith) 0 some in
    record { long = l0 ∙ l2 ∙ l1; is_finite = ap finite_position x.stands ∙ x.is_finite }

-- ---- and in the tables after the step

get_d_over : (n i : ℕ) (new xs : List Float) → length new ≡ n → i < n → get_or (over n new xs) i nan ≡ get_or new i nan
unfolding over
get_d_over n i new xs e h = rw (take_all n new (omega arith)) (get_or-append new (drop n xs) nan i (omega arith))

position-over : (n : ℕ) (new xs : List Float) → length new ≡ n → 3 ≤ n → position_at (over n new xs) 0 ≡ position_at new 0
position-over n new xs e h =
    rw (get_d_over n 0 new xs e (omega arith), get_d_over n 1 new xs e (omega arith), get_d_over n 2 new xs e (omega arith))

module _ (m : Mesh) (c : Counts) (order : List ℕ) (t : Mesh) where
  pub point-there : (c' : Counts) → (step First m c order t).answer ≡ Ok c' → 0 < c.points → PointThere (step First m c order t).tables.positions
  unfolding over_rows first_rows
  point-there c' e some =
      let k = taken First m c order t c' e in
      let n = (refined_counts c).points * 3 in
      let t1 = first_rows (refined_counts c) t in
      let b = made-is First (first_rows c m) c order t1 k.mesh k.is_made in
      let l : length t1.positions ≡ n = (exact-first_rows (refined_counts c) t k.scratch-room).positions in
      let x = placed_first (first_rows c m) c _ t1.positions b.positions some (omega arith) b.put in
      let lq : length b.positions ≡ n = x.long ∙ l in
      let room = k.room.positions in
      let is : (step First m c order t).tables.positions ≡ over n b.positions m.positions =
      ap (λ (u : Mesh). u.positions) k.tables ∙ ap (λ (u : Mesh). over n u.positions m.positions) b.mesh in
      let lo : length (over n b.positions m.positions) ≡ length m.positions = length_over n b.positions m.positions (omega arith) (omega arith) in
      rw is (record {
        row = omega arith;
        is_finite = ap finite_position (position-over n b.positions m.positions lq (omega arith)) ∙ x.is_finite;
      })

  pub point-ready : PointReady c (step First m c order t).answer (step First m c order t).tables.positions
  point-ready = go (step First m c order t).answer refl
    where
      go : (a : Result Counts StepRefusal) → (step First m c order t).answer ≡ a → PointReady c a (step First m c order t).tables.positions
      go (Ok c') e = point-there c' e
      go (Err g) e = tt
