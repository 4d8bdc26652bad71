-- The lines of a step, written one after the other. Assumes nothing.
--     written-counts          the line of the counts after a step, where no point is told
--     written-point           both lines
--     point-room              room for the line of point 0
--     point-of-ready          point 0 is there where its line is written
use Rattle.std.specs.Prelude.{Result, Ok}
use mathlib.Core.Path.{◌≡◌, refl}
use mathlib.Core.Bool.{true}
use mathlib.Core.List.{List, append-nil}
use Prim.Native.Nat.{ℕ, zero, suc, ◌+◌, ◌≤◌}
use native.Mathlib.Omega.{arith}
use lib.ListN.{length}
use lib.Ieee.{Float}
use lib.Ieee.Scale.{finite}
use Rattle.positions.specs.declared.Position.{Position}
use Rattle.positions.specs.Position.{finite_position}
use Rattle.tables.specs.declared.Counts.{Counts}
use Rattle.steps.specs.declared.StepRefusal.{StepRefusal}
use Rattle.text_numbers.specs.Form.{bytes}
use Rattle.text_numbers.proofs.Laws.{and_both}
use Rattle.mesh_answers.specs.Lines.{step_line}
use Rattle.mesh_answers.specs.Writing.{Written}
use Rattle.mesh_answers.proofs.Laws.{written-append, length-counts}
use Rattle.refine_outputs.specs.Output.{place_line, point_lines, step_lines}
use Rattle.refine_outputs.specs.FirstPoint.{PointThere, PointReady}

-- finite coordinates of a position that is finite
pub finite-coordinates : (p : Position) → finite_position p ≡ true → (finite p.x ≡ true) × (finite p.y ≡ true) × (finite p.z ≡ true)
finite-coordinates p h =
    let (hx, h') = and_both (finite p.x) _ h in
    let (hy, hz) = and_both (finite p.y) _ h' in
    (hx, hy, hz)

point-lines : (n : ℕ) (ps : List Float) → (n ≡ 0 → ⊥) → point_lines n ps ≡ place_line ps
point-lines zero ps h = absurd (h refl)
point-lines (suc n) ps h = refl

module _ (c : Counts) (a : Result Counts StepRefusal) (ps : List Float) (c' : Counts) (e : a ≡ Ok c') {out : List ℕ} {at i : ℕ} {o1 : List ℕ}
    (w : Written out at (step_line c'.points c'.edges c'.faces) i o1) where
  pub written-counts : c.points ≡ 0 → Written out at (step_lines c a ps) i o1
  written-counts z = rw (e, z, append-nil (step_line c'.points c'.edges c'.faces)) w

  pub written-point : (c.points ≡ 0 → ⊥) → {j : ℕ} {o2 : List ℕ} → Written o1 i (place_line ps) j o2 → Written out at (step_lines c a ps) j o2
  written-point z x = rw (e, point-lines c.points ps z) (written-append w x)

  pub point-room : at + 128 ≤ length out → length o1 ≡ length out → i + 58 ≤ length o1
  point-room h l =
      let p = w.place in
      let k = length-counts (bytes "[step") c'.points c'.edges c'.faces refl in
      omega arith

  pub point-of-ready : PointReady c a ps → (c.points ≡ 0 → ⊥) → PointThere ps
  point-of-ready h z = let h' = rw e at h in h' (omega arith)
