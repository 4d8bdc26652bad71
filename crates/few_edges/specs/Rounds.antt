-- Walks about points that are at their start again after their valence, along edges that are the only ones between their two points.
--     new_end ends n q     q stands at none of the first n places of ends
--     Ends m np ne        the ends of edges are points, and differ
--     walk_after step n e  where n steps from e lead
--     edge_about m p n     the edge to which n steps about point p from its start edge lead
--     Round m ne p        these are edges below ne that touch p, up to the valence of p, and it is the first number of steps that leads
--                         back to the start edge
--     EndsApart m p       of these edges, two with the same other end are one edge
--     Sole m ne p         each edge of p is the only one between its two points
--     RoundApart, Good    a Round with edges that are apart; a Round, and all edges of the point are sole
use Rattle.std.specs.Prelude.{◌≡◌, Bool, not, List, ◌≢◌, ℕ, zero, suc, ◌<◌, eqb, get_or}
use Rattle.tables.specs.Mesh.{Mesh, valence, start, origin, dest}
use Rattle.audited_meshes.specs.Folds.{every}
use Rattle.audited_meshes.specs.Walks.{acw_of_point, Touches}
use Rattle.audited_meshes.specs.Audited.{SameEnds}
use Rattle.walks.specs.Steps.{point_across}

abbrev pub new_end : List ℕ → ℕ → ℕ → Bool
new_end ends n q = every n (λ a. not (eqb (get_or ends a 0) q))

pub record Ends (m : Mesh) (np ne : ℕ) : Type 0 where
  pub origin-below : (e : ℕ) → e < ne → origin m e < np
  pub dest-below : (e : ℕ) → e < ne → dest m e < np
  pub differ : (e : ℕ) → e < ne → origin m e ≢ dest m e

unfoldable pub walk_after : (ℕ → ℕ) → ℕ → ℕ → ℕ
walk_after step zero e = e
walk_after step (suc n) e = step (walk_after step n e)

abbrev pub edge_about : Mesh → ℕ → ℕ → ℕ
edge_about m p n = walk_after (acw_of_point m p) n (start m p)

pub record Round (m : Mesh) (ne p : ℕ) : Type 0 where
  pub on : (a : ℕ) → a < valence m p → (edge_about m p a < ne) × Touches m p (edge_about m p a)
  pub home : edge_about m p (valence m p) ≡ start m p
  pub away : (a : ℕ) → 0 < a → a < valence m p → edge_about m p a ≢ start m p

abbrev pub EndsApart : Mesh → ℕ → Type 0
EndsApart m p =
    (a b : ℕ) → a < valence m p → b < valence m p → point_across m p (edge_about m p a) ≡ point_across m p (edge_about m p b)
    → edge_about m p a ≡ edge_about m p b

abbrev pub Sole : Mesh → ℕ → ℕ → Type 0
Sole m ne p = (i j : ℕ) → i < ne → j < ne → Touches m p i → SameEnds m i j → i ≡ j

abbrev pub RoundApart : Mesh → ℕ → ℕ → Type 0
RoundApart m ne p = Round m ne p × EndsApart m p

abbrev pub Good : Mesh → ℕ → ℕ → Type 0
Good m ne p = Round m ne p × Sole m ne p
