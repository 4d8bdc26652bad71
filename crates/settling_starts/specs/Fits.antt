-- What the settling of start edges asks of the tables: ps, es and fs are those of points, edges and faces before the step.
--     HalfFits newedges e              the row e and the joining edge on its left are there
--     OldFits .. p, CentreFits .. f    the start edge of the point p, of the face f is there, with its rows before and after the visits
--     OldsFit, MidsFit, CentresFit     so it is of all old points, of all midpoints, of all face points, and their rows are there
--     StartsFit ..                     all of it
use Rattle.std.specs.Prelude.{List, ℕ, ◌+◌, ◌*◌, ◌≤◌, ◌<◌, length, get_or}
use Rattle.tables.specs.Layout.{point_width, start_word, edge_width, dest_word, left_acw_word, face_width, first_corner_word}
use Rattle.tables.specs.declared.Counts.{Counts}

pub record HalfFits (newedges : List ℕ) (e : ℕ) : Type 0 where
  pub row : e * edge_width + edge_width ≤ length newedges
  pub join : get_or newedges (e * edge_width + left_acw_word) 0 * edge_width + edge_width ≤ length newedges

pub record OldFits (ps es newedges : List ℕ) (p : ℕ) : Type 0 where
  pub point-row : p * point_width + point_width ≤ length ps
  pub edge_row : get_or ps (p * point_width + start_word) 0 * edge_width + edge_width ≤ length es
  pub half : HalfFits newedges (get_or ps (p * point_width + start_word) 0)

pub record CentreFits (es fs newedges : List ℕ) (f : ℕ) : Type 0 where
  pub face-row : f * face_width + face_width ≤ length fs
  pub edge_row : get_or fs (f * face_width) 0 * edge_width + edge_width ≤ length es
  pub new_row : get_or fs (f * face_width) 0 * edge_width + edge_width ≤ length newedges

pub record OldsFit (ps es : List ℕ) (np : ℕ) (newedges newpoints : List ℕ) : Type 0 where
  pub rows : np * point_width ≤ length newpoints
  pub olds : (p : ℕ) → p < np → OldFits ps es newedges p

pub record MidsFit (ne : ℕ) (newedges newpoints : List ℕ) : Type 0 where
  pub halves : (e : ℕ) → e < ne → HalfFits newedges e
  pub rows : (e : ℕ) → e < ne → get_or newedges (e * edge_width + dest_word) 0 * point_width + point_width ≤ length newpoints

pub record CentresFit (es fs : List ℕ) (nf : ℕ) (newedges newfaces newpoints : List ℕ) : Type 0 where
  pub centres : (f : ℕ) → f < nf → CentreFits es fs newedges f
  pub new-faces : nf * face_width ≤ length newfaces
  pub rows : (f : ℕ) → f < nf → get_or newfaces (f * face_width + first_corner_word) 0 * point_width + point_width ≤ length newpoints

pub record StartsFit (ps es fs : List ℕ) (c : Counts) (newedges newfaces newpoints : List ℕ) : Type 0 where
  pub olds : OldsFit ps es c.points newedges newpoints
  pub mids : MidsFit c.edges newedges newpoints
  pub centres : CentresFit es fs c.faces newedges newfaces newpoints
