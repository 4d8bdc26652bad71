-- Document 01's starred pieces, computed. Assumes nothing.
use mathlib.Core.Path.{refl}
use lib.Ieee.{add, sub, mul, div, neg, le, lt, of_bits, of_int}
use Rattle.tables.specs.Rows.{over, zeroed}
use Rattle.audited_meshes.specs.Walks.{face_walk}
use Rattle.audited_meshes.specs.Folds.{again}
use Rattle.refined_meshes.specs.Turns.{turns, filled}
use Rattle.refined_meshes.specs.State.{put_edge, put_point, put_start, put_face, copied}
use Rattle.refined_meshes.specs.Split.{split_edge, split_whole}
use Rattle.refined_meshes.specs.Ring.{put_join, put_first, put_second, put_new_face, put_face_point}
use Rattle.refined_meshes.specs.Visits.{split_all, ring_of, put_ring, visit_along, visit, visits, refined_rows}
use Rattle.refined_meshes.specs.Settled.{settled, settled_rows}
use Rattle.position_rules.specs.Intervals.{acw_about, cw_about, three_terms}
use Rattle.position_rules.specs.FacePoint.{six_terms, window_weight, window_sum, face_point_over, face_point_about, face_point_in}
use Rattle.position_rules.specs.EdgePoint.{shares, edge_middle, edge_point}
use Rattle.position_rules.specs.OldPoint.{radial_edge, edge_weight, face_weight, radial_terms, radial_sum, old_point}
use Rattle.edge_links.specs.Connect.{links_of}
use Rattle.built_meshes.specs.Building.{build}
use Rattle.steps.specs.Step.{step}
use Rattle.runs.specs.Runs.{numbered}
use Rattle.filed_pieces.specs.Pieces.{answers_to, pieces, AsFiled}

pub theorem : AsFiled
unfolding pieces answers_to build step numbered links_of lt over zeroed settled_rows settled refined_rows copied visits visit face_walk turns
    filled visit_along split_all split_whole split_edge ring_of put_ring put_join put_first put_second put_new_face put_face_point
    put_edge put_point put_start put_face face_point_in face_point_about face_point_over window_sum window_weight six_terms three_terms
    acw_about cw_about again edge_point edge_middle shares old_point radial_sum radial_terms radial_edge edge_weight face_weight
    add sub mul div neg le of_bits of_int
theorem = refl
