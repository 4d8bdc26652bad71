-- What settling asks of the tables.
--     edge_rows_of es is       the refined mesh with its tables of edges and intervals alone
--     SideFits ..            the words w, next and prev of the first ne rows are there, and what they name
--     SidesFit ..            so it is on both sides
use Rattle.std.specs.Prelude.{List, [], ℕ, ◌*◌, ◌≤◌, ◌<◌, length, Float}
use Rattle.tables.specs.Layout.{edge_width, left_cw_word, left_acw_word, right_cw_word, right_acw_word}
use Rattle.refined_meshes.specs.State.{State, state_of}
use Rattle.refined_meshes.specs.Settled.{neighbour_at}

abbrev pub edge_rows_of : List ℕ → List Float → State
edge_rows_of es is = state_of [] es is [] 0 0 0

pub record SideFits (es : List ℕ) (is : List Float) (ne : ℕ) (newedges : List ℕ) (newintervals : List Float) (w next prev : ℕ) : Type 0 where
  pub join-word : w < edge_width
  pub next_word : next < edge_width
  pub prev-word : prev < edge_width
  pub rows : ne * edge_width ≤ length es
  pub new-rows : ne * edge_width ≤ length newedges
  pub next-there : (e : ℕ) → e < ne → neighbour_at es next e < length is
  pub prev-there : (e : ℕ) → e < ne → neighbour_at es prev e < length is
  pub join-there : (e : ℕ) → e < ne → neighbour_at newedges w e < length newintervals

pub record SidesFit (es : List ℕ) (is : List Float) (ne : ℕ) (newedges : List ℕ) (newintervals : List Float) : Type 0 where
  pub left : SideFits es is ne newedges newintervals left_acw_word left_acw_word left_cw_word
  pub right : SideFits es is ne newedges newintervals right_cw_word right_acw_word right_cw_word
