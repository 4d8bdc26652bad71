-- What the loops that put positions into their rows answer and ask.
--     came r ps          the loop has put all positions, and left the table ps; or has met one that is not finite
--     refined_tables      the refined mesh with its tables of edges and faces alone
--     FacePointsFit      what the loop over the faces asks of the tables; EdgePointsFit, OldPointsFit likewise
-- The rows are there whatever numbers stand in the table of new positions: only its length counts.
use Rattle.std.specs.Prelude.{◌≡◌, Bool, true, false, List, [], ℕ, ◌+◌, ◌*◌, ◌≤◌, ◌<◌, get_or, length, Float}
use Rattle.tables.specs.Layout.{position_width, edge_width, dest_word, face_width, first_corner_word}
use Rattle.position_rules.specs.Fits.{FacePointFits, EdgePointFits, OldPointFits}
use Rattle.refined_meshes.specs.State.{State}
use Rattle.steps.specs.Positions.{Placing, so_far, not_finite}

abbrev pub came : Bool → List Float → Placing
came true ps = so_far ps
came false ps = not_finite

-- the rows of the refined mesh: newfaces are its faces, newedges its edges, newpositions its positions
pub record FacePointsFit (ps : List Float) (es : List ℕ) (is : List Float) (fs : List ℕ) (ne nf : ℕ) (newfaces : List ℕ) (newpositions : List Float) : Type 0 where
  pub rule_fits : (f : ℕ) → f < nf → FacePointFits ps es is fs ne f
  pub row-there : (f : ℕ) → f < nf → f * face_width + face_width ≤ length newfaces
  pub place-there : (f : ℕ) → f < nf →
      get_or newfaces (f * face_width + first_corner_word) 0 * position_width + position_width ≤ length newpositions

pub record EdgePointsFit (ps : List Float) (es : List ℕ) (is : List Float) (ne : ℕ) (newedges newfaces : List ℕ) (newpositions : List Float) : Type 0 where
  pub rule_fits : (new : List Float) → length new ≡ length newpositions → (e : ℕ) → e < ne → EdgePointFits ps es is new newfaces e
  pub row-there : (e : ℕ) → e < ne → e * edge_width + edge_width ≤ length newedges
  pub place-there : (e : ℕ) → e < ne →
      get_or newedges (e * edge_width + dest_word) 0 * position_width + position_width ≤ length newpositions

pub record OldPointsFit (ps : List Float) (ws es : List ℕ) (is : List Float) (np : ℕ) (newedges newfaces : List ℕ) (newpositions : List Float) : Type 0 where
  pub rule_fits : (new : List Float) → length new ≡ length newpositions → (p : ℕ) → p < np → OldPointFits ps ws es is new newedges newfaces p
  pub place-there : (p : ℕ) → p < np → p * position_width + position_width ≤ length newpositions

-- the rows of the refined mesh that the rules look at
abbrev pub refined_tables : List ℕ → List ℕ → State
refined_tables newedges newfaces =
    record {
      points = [];
      edges = newedges;
      intervals = [];
      faces = newfaces;
      points_taken = 0;
      edges_taken = 0;
      faces_taken = 0;
    }
