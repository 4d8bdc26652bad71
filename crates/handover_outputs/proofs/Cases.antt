-- The output computed: two triangles back to back, as the oracle lists them after one step, the same with too few bytes lent, and
-- with all intervals 0; the empty mesh, no text at all, a point that is not finite. Assumes nothing.
use mathlib.Core.Path.{◌≡◌, refl}
use mathlib.Core.List.{[], ◌∷◌, ◌++◌, map}
use lib.ListN.{replicate}
use lib.Ieee.{add, div, le, lt, mul, neg, of_bits, of_int, sub, to_bits}
use Rattle.tables.specs.Rows.{over, zeroed}
use Rattle.text_numbers.specs.Form.{bytes, literal, many, stands, times}
use Rattle.text_numbers.specs.Numbers.{bits, decimal, decimal_from, digit, digit_value, digits_from, value}
use Rattle.mesh_lines.specs.Grammar.{coordinate_form, face_form, listed_form, point_form, side_form, flat}
use Rattle.mesh_text.specs.Text.{head_form, ends, mesh, text}
use Rattle.mesh_answers.specs.Lines.{decimal_digits, hex_byte, hex_bytes}
use Rattle.listings.specs.Handing.{up_to}
use Rattle.audited_meshes.specs.Walks.{face_walk}
use Rattle.audited_meshes.specs.Folds.{again}
use Rattle.refined_meshes.specs.Turns.{filled, turns}
use Rattle.refined_meshes.specs.State.{copied, put_edge, put_face, put_point, put_start}
use Rattle.refined_meshes.specs.Split.{split_edge, split_whole}
use Rattle.refined_meshes.specs.Ring.{put_face_point, put_first, put_join, put_new_face, put_second}
use Rattle.refined_meshes.specs.Visits.{put_ring, refined_rows, ring_of, split_all, visit, visit_along, visits}
use Rattle.refined_meshes.specs.Settled.{settled, settled_rows}
use Rattle.position_rules.specs.Intervals.{acw_about, cw_about, three_terms}
use Rattle.position_rules.specs.FacePoint.{face_point_over, face_point_about, face_point_in, six_terms, window_sum, window_weight}
use Rattle.position_rules.specs.EdgePoint.{edge_middle, edge_point, shares}
use Rattle.position_rules.specs.OldPoint.{edge_weight, face_weight, old_point, radial_edge, radial_sum, radial_terms}
use Rattle.edge_links.specs.Connect.{links_of}
use Rattle.built_meshes.specs.Building.{build}
use Rattle.steps.specs.Step.{step}
use Rattle.runs.specs.Runs.{numbered}
use Rattle.handover_outputs.specs.Output.{handover_output}

texts : map (λ t. handover_output (bytes t) (replicate 256 0)) (
    "[mesh 1]\n[end]\n" ∷
    "" ∷
    "[mesh 1]\n[point 7ff0000000000000 0000000000000000 0000000000000000]\n[end]\n" ∷ [])
    ≡ bytes "[mesh 3]\n[end]\n" ∷ bytes "[refused 1]\n" ∷ bytes "[refused 3]\n" ∷ []
unfolding handover_output digit_value value stands literal digit bits digits_from decimal_from decimal many coordinate_form point_form
    listed_form side_form face_form head_form ends mesh text times flat of_bits decimal_digits up_to over zeroed
texts = refl

two-triangles : handover_output (
    bytes "[mesh 1]\n" ++
    bytes "[point 0000000000000000 0000000000000000 0000000000000000]\n" ++
    bytes "[point 3ff0000000000000 0000000000000000 0000000000000000]\n" ++
    bytes "[point 0000000000000000 3ff0000000000000 0000000000000000]\n" ++
    bytes "[face [0 [1 3ff0000000000000]] [1 [2 3ff0000000000000]] [2 [0 4000000000000000]] [0]]\n" ++
    bytes "[face [0 [2 3ff0000000000000]] [2 [1 3ff0000000000000]] [1 [0 4000000000000000]] [0]]\n" ++
    bytes "[end]\n") (replicate 2048 0)
    ≡
    bytes "[mesh 3]\n" ++
    bytes "[point 3fda492492492490 3fe1b6db6db6db6d 0000000000000000 2 4 1]\n" ++
    bytes "[point 3fa2492492492480 3fe1b6db6db6db6d 0000000000000000 2 5 1]\n" ++
    bytes "[point 3fda492492492493 3fc6db6db6db6db4 0000000000000000 2 3 1]\n" ++
    bytes "[point 3fd2492492492492 3fdb6db6db6db6db 0000000000000000 3 8 0]\n" ++
    bytes "[point 3fd9249249249248 3fddb6db6db6db6e 0000000000000000 4 0 0]\n" ++
    bytes "[point 3fc2492492492492 3fddb6db6db6db6e 0000000000000000 4 1 0]\n" ++
    bytes "[point 3fd9249249249248 3fcb6db6db6db6db 0000000000000000 4 2 0]\n" ++
    bytes "[point 3fd2492492492492 3fdb6db6db6db6db 0000000000000000 3 11 0]\n" ++
    bytes "[edge 1 4 0 4 5 6 9 5 3fe0000000000000]\n" ++
    bytes "[edge 2 5 2 1 3 7 11 3 3fe0000000000000]\n" ++
    bytes "[edge 0 6 3 5 4 8 10 4 3ff0000000000000]\n" ++
    bytes "[edge 4 2 2 1 6 1 1 9 3fe0000000000000]\n" ++
    bytes "[edge 5 0 3 5 7 2 2 11 3fe0000000000000]\n" ++
    bytes "[edge 6 1 0 4 8 0 0 10 3ff0000000000000]\n" ++
    bytes "[edge 3 4 2 0 7 3 0 8 4008000000000000]\n" ++
    bytes "[edge 3 5 3 2 8 4 1 6 4008000000000000]\n" ++
    bytes "[edge 3 6 0 3 6 5 2 7 4000000000000000]\n" ++
    bytes "[edge 7 4 4 1 10 0 3 11 3ff8000000000000]\n" ++
    bytes "[edge 7 6 5 4 11 2 5 9 3ff0000000000000]\n" ++
    bytes "[edge 7 5 1 5 9 1 4 10 3ff8000000000000]\n" ++
    bytes "[face 0 3 6 1 4]\n" ++
    bytes "[face 3 7 5 2 4]\n" ++
    bytes "[face 1 3 4 2 5]\n" ++
    bytes "[face 2 3 5 0 6]\n" ++
    bytes "[face 5 7 4 1 6]\n" ++
    bytes "[face 4 7 6 0 5]\n" ++
    bytes "[end]\n"
unfolding handover_output digit_value value stands literal digit bits digits_from decimal_from decimal many coordinate_form point_form listed_form side_form
    face_form head_form ends mesh text times flat to_bits decimal_digits hex_byte hex_bytes build step numbered links_of lt over zeroed
    settled_rows settled refined_rows copied visits visit face_walk turns filled visit_along split_all split_whole split_edge ring_of put_ring put_join
    put_first put_second put_new_face put_face_point put_edge put_point put_start put_face face_point_in face_point_about face_point_over
    window_sum window_weight six_terms three_terms acw_about cw_about again edge_point edge_middle shares old_point radial_sum
    radial_terms radial_edge edge_weight face_weight add sub mul div neg le of_bits of_int up_to
two-triangles = refl

-- the listing has more bytes than are lent
too-few-bytes : handover_output (
    bytes "[mesh 1]\n" ++
    bytes "[point 0000000000000000 0000000000000000 0000000000000000]\n" ++
    bytes "[point 3ff0000000000000 0000000000000000 0000000000000000]\n" ++
    bytes "[point 0000000000000000 3ff0000000000000 0000000000000000]\n" ++
    bytes "[face [0 [1 3ff0000000000000]] [1 [2 3ff0000000000000]] [2 [0 4000000000000000]] [0]]\n" ++
    bytes "[face [0 [2 3ff0000000000000]] [2 [1 3ff0000000000000]] [1 [0 4000000000000000]] [0]]\n" ++
    bytes "[end]\n") (replicate 256 0)
    ≡ bytes "[refused 4]\n"
unfolding handover_output digit_value value stands literal digit bits digits_from decimal_from decimal many coordinate_form point_form listed_form side_form
    face_form head_form ends mesh text times flat to_bits decimal_digits hex_byte hex_bytes build step numbered links_of lt over zeroed
    settled_rows settled refined_rows copied visits visit face_walk turns filled visit_along split_all split_whole split_edge ring_of put_ring put_join
    put_first put_second put_new_face put_face_point put_edge put_point put_start put_face face_point_in face_point_about face_point_over
    window_sum window_weight six_terms three_terms acw_about cw_about again edge_point edge_middle shares old_point radial_sum
    radial_terms radial_edge edge_weight face_weight add sub mul div neg le of_bits of_int up_to
too-few-bytes = refl

-- the same mesh with all intervals 0: the step is refused
zero-intervals : handover_output (
    bytes "[mesh 1]\n" ++
    bytes "[point 0000000000000000 0000000000000000 0000000000000000]\n" ++
    bytes "[point 3ff0000000000000 0000000000000000 0000000000000000]\n" ++
    bytes "[point 0000000000000000 3ff0000000000000 0000000000000000]\n" ++
    bytes "[face [0 [1 0000000000000000]] [1 [2 0000000000000000]] [2 [0 0000000000000000]] [0]]\n" ++
    bytes "[face [0 [2 0000000000000000]] [2 [1 0000000000000000]] [1 [0 0000000000000000]] [0]]\n" ++
    bytes "[end]\n") (replicate 2048 0)
    ≡ bytes "[refused 33]\n"
unfolding handover_output digit_value value stands literal digit bits digits_from decimal_from decimal many coordinate_form point_form listed_form side_form
    face_form head_form ends mesh text times flat to_bits decimal_digits hex_byte hex_bytes build step numbered links_of lt over zeroed
    settled_rows settled refined_rows copied visits visit face_walk turns filled visit_along split_all split_whole split_edge ring_of put_ring put_join
    put_first put_second put_new_face put_face_point put_edge put_point put_start put_face face_point_in face_point_about face_point_over
    window_sum window_weight six_terms three_terms acw_about cw_about again edge_point edge_middle shares old_point radial_sum
    radial_terms radial_edge edge_weight face_weight add sub mul div neg le of_bits of_int up_to
zero-intervals = refl
