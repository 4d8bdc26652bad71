-- face_point meets its contract: the border is the one of the definition, and so is the sum over its windows. The walk is never lost.
use Rattle.face_points.proofs.Laid.{laid-never-lost, laid-edges-fit, laid-points-fit, laid-four-again, laid-corners, face_point-of-laid}
use Rattle.positions.specs.Position.{placed_at}
use mathlib.Core.Path.{◌∙◌, ap}
use Rattle.face_points.proofs.face_point.Goals as goal

pub lay_border-requires : goal.lay_border-requires
lay_border-requires c = record {
  edge_width_in_bounds = c.requires.face_point_fits.fit.words;
  face_width_in_bounds = c.requires.face_point_fits.face-there;
  perimeter_len = c.requires.perimeter_len;
  points_len = c.requires.points_len;
}

pub returns-in_default : goal.returns-in_default
returns-in_default c =
    absurd
    (laid-never-lost _ _ _ _ _ _ c.requires.face_point_fits _ _ _ _ _ c.lay_border.ensures c.in_default.is)

pub window_sum-s-requires : goal.window_sum-s-requires
window_sum-s-requires c = record {
  border_fits = laid-edges-fit _ _ _ _ _ _ c.requires.face_point_fits _ _ _ _ _
      c.lay_border.ensures c.in-Some.is;
  points_fit = laid-points-fit _ _ _ _ _ _ c.requires.face_point_fits _ _ _ _ _ c.lay_border.ensures c.in-Some.is;
  four_again = laid-four-again _ _ _ _ _ _ c.requires.face_point_fits _ _ _ _ _ c.lay_border.ensures c.in-Some.is;
  corners_turn = laid-corners _ _ _ _ _ _ c.requires.face_point_fits _ _ _ _ _ c.lay_border.ensures c.in-Some.is;
}

pub returns : goal.returns
returns c =
    record {
      value = rw (c.placed.ensures, c.over.ensures)
          (ap placed_at (face_point-of-laid _ _ _ _ _ _ c.requires.face_point_fits _ _ _ _ _ c.lay_border.ensures
          c.in-Some.is _ c.window_sum-s.ensures));
      perimeter_len_2 = c.lay_border.ensures.edges-long ∙ c.requires.perimeter_len;
      points_len_2 = c.lay_border.ensures.points-long ∙ c.requires.points_len;
    }
