-- The output computed: document 01's cube, the cube with all intervals 0, whose step is refused, the empty mesh, no text at all,
-- and a point that is not finite. Assumes nothing.
--     cube                   document 01's example: its text, and its whole output
use mathlib.Core.Path.{◌≡◌, refl}
use mathlib.Core.List.{[], ◌∷◌, ◌++◌, map}
use lib.Ieee.{add, div, le, lt, mul, neg, of_bits, of_int, sub, to_bits}
use Rattle.text_numbers.specs.Form.{bytes, literal, many, stands, times}
use Rattle.text_numbers.specs.Numbers.{bits, decimal, decimal_from, digit, digit_value, digits_from, value}
use Rattle.mesh_lines.specs.Grammar.{coordinate_form, face_form, listed_form, point_form, side_form, flat}
use Rattle.mesh_text.specs.Text.{head_form, ends, mesh, text}
use Rattle.mesh_answers.specs.Lines.{decimal_digits, hex_byte, hex_bytes}
use Rattle.refine_outputs.specs.Output.{output}
use Rattle.tables.specs.Rows.{over, zeroed}
use Rattle.audited_meshes.specs.Walks.{face_walk}
use Rattle.audited_meshes.specs.Folds.{again}
use Rattle.refined_meshes.specs.Turns.{filled, turns}
use Rattle.refined_meshes.specs.State.{copied, put_edge, put_face, put_point, put_start}
use Rattle.refined_meshes.specs.Split.{split_edge, split_whole}
use Rattle.refined_meshes.specs.Ring.{put_face_point, put_first, put_join, put_new_face, put_second}
use Rattle.refined_meshes.specs.Visits.{put_ring, refined_rows, ring_of, split_all, visit, visit_along, visits}
use Rattle.refined_meshes.specs.Settled.{settled, settled_rows}
use Rattle.position_rules.specs.Intervals.{acw_about, cw_about, three_terms}
use Rattle.position_rules.specs.FacePoint.{face_point_over, face_point_about, face_point_in, six_terms, window_sum, window_weight}
use Rattle.position_rules.specs.EdgePoint.{edge_middle, edge_point, shares}
use Rattle.position_rules.specs.OldPoint.{edge_weight, face_weight, old_point, radial_edge, radial_sum, radial_terms}
use Rattle.edge_links.specs.Connect.{links_of}
use Rattle.built_meshes.specs.Building.{build}
use Rattle.steps.specs.Step.{step}
use Rattle.runs.specs.Runs.{numbered}

pub cube : output (bytes "[mesh 1]\n" ++
    bytes "[point bff0000000000000 bff0000000000000 bff0000000000000]\n" ++
    bytes "[point 3ff0000000000000 bff0000000000000 bff0000000000000]\n" ++
    bytes "[point bff0000000000000 3ff0000000000000 bff0000000000000]\n" ++
    bytes "[point 3ff0000000000000 3ff0000000000000 bff0000000000000]\n" ++
    bytes "[point bff0000000000000 bff0000000000000 3ff0000000000000]\n" ++
    bytes "[point 3ff0000000000000 bff0000000000000 3ff0000000000000]\n" ++
    bytes "[point bff0000000000000 3ff0000000000000 3ff0000000000000]\n" ++
    bytes "[point 3ff0000000000000 3ff0000000000000 3ff0000000000000]\n" ++
    bytes "[face [0 [2 3ff0000000000000]] [2 [3 3ff0000000000000]] [3 [1 3ff0000000000000]] [1 [0 3ff0000000000000]]]\n" ++
    bytes "[face [4 [5 3ff0000000000000]] [5 [7 3ff0000000000000]] [7 [6 3ff0000000000000]] [6 [4 3ff0000000000000]]]\n" ++
    bytes "[face [0 [1 3ff0000000000000]] [1 [5 3ff0000000000000]] [5 [4 3ff0000000000000]] [4 [0 3ff0000000000000]]]\n" ++
    bytes "[face [2 [6 3ff0000000000000]] [6 [7 3ff0000000000000]] [7 [3 3ff0000000000000]] [3 [2 3ff0000000000000]]]\n" ++
    bytes "[face [0 [4 3ff0000000000000]] [4 [6 3ff0000000000000]] [6 [2 3ff0000000000000]] [2 [0 3ff0000000000000]]]\n" ++
    bytes "[face [1 [3 3ff0000000000000]] [3 [7 3ff0000000000000]] [7 [5 3ff0000000000000]] [5 [1 3ff0000000000000]]]\n" ++
    bytes "[end]\n")
    ≡ bytes "[mesh 8 12 6]\n[step 26 48 24]\n[at 0 bfdc71c71c71c71c bfdc71c71c71c71c bfdc71c71c71c71c]\n"
unfolding output digit_value value stands literal digit bits digits_from decimal_from decimal many coordinate_form point_form listed_form side_form
    face_form head_form ends mesh text times flat to_bits decimal_digits hex_byte hex_bytes build step numbered links_of lt over zeroed
    settled_rows settled refined_rows copied visits visit face_walk turns filled visit_along split_all split_whole split_edge ring_of put_ring put_join
    put_first put_second put_new_face put_face_point put_edge put_point put_start put_face face_point_in face_point_about face_point_over
    window_sum window_weight six_terms three_terms acw_about cw_about again edge_point edge_middle shares old_point radial_sum
    radial_terms radial_edge edge_weight face_weight add sub mul div neg le of_bits of_int
cube = refl

-- the cube with all intervals 0
zero-cube : output (bytes "[mesh 1]\n" ++
    bytes "[point bff0000000000000 bff0000000000000 bff0000000000000]\n" ++
    bytes "[point 3ff0000000000000 bff0000000000000 bff0000000000000]\n" ++
    bytes "[point bff0000000000000 3ff0000000000000 bff0000000000000]\n" ++
    bytes "[point 3ff0000000000000 3ff0000000000000 bff0000000000000]\n" ++
    bytes "[point bff0000000000000 bff0000000000000 3ff0000000000000]\n" ++
    bytes "[point 3ff0000000000000 bff0000000000000 3ff0000000000000]\n" ++
    bytes "[point bff0000000000000 3ff0000000000000 3ff0000000000000]\n" ++
    bytes "[point 3ff0000000000000 3ff0000000000000 3ff0000000000000]\n" ++
    bytes "[face [0 [2 0000000000000000]] [2 [3 0000000000000000]] [3 [1 0000000000000000]] [1 [0 0000000000000000]]]\n" ++
    bytes "[face [4 [5 0000000000000000]] [5 [7 0000000000000000]] [7 [6 0000000000000000]] [6 [4 0000000000000000]]]\n" ++
    bytes "[face [0 [1 0000000000000000]] [1 [5 0000000000000000]] [5 [4 0000000000000000]] [4 [0 0000000000000000]]]\n" ++
    bytes "[face [2 [6 0000000000000000]] [6 [7 0000000000000000]] [7 [3 0000000000000000]] [3 [2 0000000000000000]]]\n" ++
    bytes "[face [0 [4 0000000000000000]] [4 [6 0000000000000000]] [6 [2 0000000000000000]] [2 [0 0000000000000000]]]\n" ++
    bytes "[face [1 [3 0000000000000000]] [3 [7 0000000000000000]] [7 [5 0000000000000000]] [5 [1 0000000000000000]]]\n" ++
    bytes "[end]\n")
    ≡ bytes "[mesh 8 12 6]\n[refused 33]\n"
unfolding output digit_value value stands literal digit bits digits_from decimal_from decimal many coordinate_form point_form listed_form side_form
    face_form head_form ends mesh text times flat to_bits decimal_digits hex_byte hex_bytes build step numbered links_of lt over zeroed
    settled_rows settled refined_rows copied visits visit face_walk turns filled visit_along split_all split_whole split_edge ring_of put_ring put_join
    put_first put_second put_new_face put_face_point put_edge put_point put_start put_face face_point_in face_point_about face_point_over
    window_sum window_weight six_terms three_terms acw_about cw_about again edge_point edge_middle shares old_point radial_sum
    radial_terms radial_edge edge_weight face_weight add sub mul div neg le of_bits of_int
zero-cube = refl

texts : map (λ t. output (bytes t)) (
    "[mesh 1]\n[end]\n" ∷
    "" ∷
    "[mesh 1]\n[point 7ff0000000000000 0000000000000000 0000000000000000]\n[end]\n" ∷ [])
    ≡ bytes "[mesh 0 0 0]\n[step 0 0 0]\n" ∷ bytes "[refused 1]\n" ∷ bytes "[refused 3]\n" ∷ []
unfolding output digit_value value stands literal digit bits digits_from decimal_from decimal many coordinate_form point_form
    listed_form side_form face_form head_form ends mesh text times flat of_bits to_bits decimal_digits
texts = refl
