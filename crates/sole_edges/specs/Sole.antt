-- Walks about points that are at their start again after their valence, along edges that are the only ones between their two points: in a
-- window of points, and about all points; and what a walk notes.
--     few                     a point with more edges than this has many
--     ends_window              how many points one walk looks at
--     second m ne p q i s     edge s is below ne, another than i, and joins the points p and q
--     unseen m ne base p seen q i    q is not among the points base, base + 1, .. of the window, or no second edge is noted there
--     edge_noted base seen q i        the notes with edge i at the place of q, if q is in the window
--     ApartIn m p base        of the edges that a walk about p passes, two with the same other end in the window are one edge
--     SoleIn m ne p base      each edge of p to a point of the window is the only one between its two points
--     SoleFrom m np ne from   all edges of all points from the given one on are sole
--     RoundIn, RoundsFrom     a Round with edges that are apart in the window; apart everywhere, about all points from the given one on
--     GoodIn, GoodFrom        a Round, and all edges of the point are sole in the window; everywhere, at all points from the given one on
use Rattle.std.specs.Prelude.{◌≡◌, Bool, true, not, ◌&&◌, cond, List, ℕ, ◌+◌, ◌-◌, ◌≤◌, ◌<◌, eqb, ltb, get_or, set}
use Rattle.tables.specs.Mesh.{Mesh, valence}
use Rattle.audited_meshes.specs.Walks.{touches, Touches}
use Rattle.audited_meshes.specs.Audited.{SameEnds}
use Rattle.walks.specs.Steps.{point_across}
use Rattle.few_edges.specs.Rounds.{edge_about, Round, Sole, RoundApart, Good}

abbrev pub few : ℕ
few = 32

abbrev pub ends_window : ℕ
ends_window = 32768

abbrev pub second : Mesh → ℕ → ℕ → ℕ → ℕ → ℕ → Bool
second m ne p q i s = ltb s ne && not (eqb s i) && touches m p s && touches m q s

abbrev pub unseen : Mesh → ℕ → ℕ → ℕ → List ℕ → ℕ → ℕ → Bool
unseen m ne base p seen q i =
    cond (ltb q base) true (cond (ltb (q - base) ends_window) (not (second m ne p q i (get_or seen (q - base) 0))) true)

abbrev pub edge_noted : ℕ → List ℕ → ℕ → ℕ → List ℕ
edge_noted base seen q i = cond (ltb q base) seen (cond (ltb (q - base) ends_window) (set seen (q - base) i) seen)

abbrev pub ApartIn : Mesh → ℕ → ℕ → Type 0
ApartIn m p base =
    (a b : ℕ) → a < valence m p → b < valence m p → point_across m p (edge_about m p a) ≡ point_across m p (edge_about m p b)
    → base ≤ point_across m p (edge_about m p a) → point_across m p (edge_about m p a) < base + ends_window → edge_about m p a ≡ edge_about m p b

abbrev pub SoleIn : Mesh → ℕ → ℕ → ℕ → Type 0
SoleIn m ne p base =
    (i j : ℕ) → i < ne → j < ne → Touches m p i → SameEnds m i j → base ≤ point_across m p i → point_across m p i < base + ends_window
    → i ≡ j

abbrev pub SoleFrom : Mesh → ℕ → ℕ → ℕ → Type 0
SoleFrom m np ne from = (p : ℕ) → from ≤ p → p < np → Sole m ne p

abbrev pub RoundIn : Mesh → ℕ → ℕ → ℕ → Type 0
RoundIn m ne p base = Round m ne p × ApartIn m p base

abbrev pub RoundsFrom : Mesh → ℕ → ℕ → ℕ → Type 0
RoundsFrom m np ne from = (p : ℕ) → from ≤ p → p < np → RoundApart m ne p

abbrev pub GoodIn : Mesh → ℕ → ℕ → ℕ → Type 0
GoodIn m ne p base = Round m ne p × SoleIn m ne p base

abbrev pub GoodFrom : Mesh → ℕ → ℕ → ℕ → Type 0
GoodFrom m np ne from = (p : ℕ) → from ≤ p → p < np → Good m ne p
