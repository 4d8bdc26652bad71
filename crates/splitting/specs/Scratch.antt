-- The scratch tables as a state, and what must hold so that all stores fit.
--     tables_of ps es is fs c     the state with the four tables and the rows c taken
--     scratch ps es is c         the same with no faces: the tables that a splitting looks at
--     InRows es is e             the edge e is a row of the tables of edges and intervals
--     SplitRoom ps es is p e     p points and e edges fit the tables and the ceilings
use Rattle.std.specs.Prelude.{List, [], ℕ, ◌+◌, ◌*◌, ◌≤◌, ◌<◌, length, Float}
use Rattle.tables.specs.Layout.{point_width, edge_width, point_ceiling, edge_ceiling}
use Rattle.tables.specs.declared.Counts.{Counts}
use Rattle.refined_meshes.specs.State.{State, state_of}

abbrev pub tables_of : List ℕ → List ℕ → List Float → List ℕ → Counts → State
tables_of ps es is fs c = state_of ps es is fs c.points c.edges c.faces

abbrev pub scratch : List ℕ → List ℕ → List Float → Counts → State
scratch ps es is c = tables_of ps es is [] c

pub record InRows (es : List ℕ) (is : List Float) (e : ℕ) : Type 0 where
  pub words : e * edge_width + edge_width ≤ length es
  pub number : e < length is

pub record SplitRoom (ps es : List ℕ) (is : List Float) (p e : ℕ) : Type 0 where
  pub points : p * point_width ≤ length ps
  pub edges : e * edge_width ≤ length es
  pub intervals : e ≤ length is
  pub few-points : p ≤ point_ceiling
  pub few-edges : e ≤ edge_ceiling
