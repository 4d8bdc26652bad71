-- One step of a walk, and what a walk answers.
--     point_across m p e           the other end of edge e, which touches point p
--     step_to p e               the step to edge e that shows point p
--     to_if b p e               that step, if the test b holds
--     face_step es ne f e       one step about face f from edge e, if e is below ne and borders f
--     point_step es ne p e      one step about point p from edge e, if e is below ne and touches p
--     passed_by w               the number of edges that a walk passed, if it is not lost
--     radial_over w xs          the words xs with the edges that a walk passed in the first of them
use Rattle.std.specs.Prelude.{Bool, true, false, ◌&&◌, cond, List, ℕ, ltb, eqb, length, Option, Some, None}
use Rattle.tables.specs.Mesh.{Mesh, edge_table, origin, dest}
use Rattle.tables.specs.Rows.{over}
use Rattle.audited_meshes.specs.Walks.{Walk, back, lost, edges_of, passed, borders, touches, acw_of_face, acw_of_point, first_point}
use Rattle.walks.specs.declared.Step.{Step}

abbrev pub point_across : Mesh → ℕ → ℕ → ℕ
point_across m p e = cond (eqb (origin m e) p) (dest m e) (origin m e)

abbrev pub step_to : ℕ → ℕ → Step
step_to p e = record { point = p; next = e }

abbrev pub to_if : Bool → ℕ → ℕ → Option Step
to_if true p e = Some (step_to p e)
to_if false p e = None

abbrev pub face_step : List ℕ → ℕ → ℕ → ℕ → Option Step
face_step es ne f e =
    let m : Mesh = edge_table es in
    to_if (ltb e ne && borders m f e) (first_point m f e) (acw_of_face m f e)

abbrev pub point_step : List ℕ → ℕ → ℕ → ℕ → Option Step
point_step es ne p e =
    let m : Mesh = edge_table es in
    to_if (ltb e ne && touches m p e) (point_across m p e) (acw_of_point m p e)

abbrev pub passed_by : Walk → Option ℕ
passed_by (back es) = Some (length es)
passed_by lost = None

abbrev pub radial_over : Walk → List ℕ → List ℕ
radial_over w xs = over (passed w) (edges_of w) xs
