-- search meets its contract: what the definition finds among the edges that are left is what it finds among all.
use mathlib.Core.Bool.{Bool}
use mathlib.Core.List.{List}
use Prim.Native.Nat.{ℕ, ◌-◌}
use mathlib.Core.Path.{◌≡◌}
use lib.Ieee.{Float}
use Rattle.crossings.specs.Crossings.{crosses, first_from}
use Rattle.depth_finder.specs.Ends.{end_tables}
use Rattle.depth_finder.proofs.search.Given as goal

-- whether an edge crosses, by the two tables that the search is lent
abbrev pub test : List Float → List ℕ → Float → ℕ → Bool
test positions edges depth e = crosses (end_tables positions edges) depth e

abbrev pub invariant-loop-e : goal.invariant-loop-e
invariant-loop-e l =
    first_from (λ k. test l.positions l.edges l.depth k) (l.ne - l.e) l.e ≡ first_from (λ k. test l.positions l.edges l.depth k) l.ne 0
