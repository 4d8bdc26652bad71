-- What the content of lent tables cannot do: it shows neither in the answer of building nor in any row that it counts.
--     SameNumbers m m'         the tables have as many rows of each kind
--     SameCounted l t t'       every word of the rows that ground 4 counts is the same
--     LentContent              the claim: with as many rows the answers are the same, and unless it is 2, 3 or 4, which leave the
--                               tables as they are, so are the counted rows afterwards
use Rattle.std.specs.Prelude.{◌≡◌, ◌≢◌, ℕ, ◌*◌, ◌<◌, ◌≤◌, length, get_or, Err}
use Rattle.std.specs.Float.{nan}
use Rattle.tables.specs.declared.Sizes.{Sizes}
use Rattle.tables.specs.Mesh.{Mesh, none, point_rows, edge_rows, face_rows}
use Rattle.built_meshes.specs.Lists.{Lists, points_of, faces_of}
use Rattle.built_meshes.specs.Building.{build}
use Rattle.built_meshes.specs.declared.Ground.TheVariants.{OverCounts, UnfitNumber, FewRows}

pub record SameNumbers (m m' : Mesh) : Type 0 where
  pub points : point_rows m' ≡ point_rows m
  pub edges : edge_rows m' ≡ edge_rows m
  pub faces : face_rows m' ≡ face_rows m

pub record SameCounted (l : Lists) (t t' : Mesh) : Type 0 where
  pub positions : (i : ℕ) → i < points_of l * 3 → get_or t'.positions i nan ≡ get_or t.positions i nan
  pub points : (i : ℕ) → i < points_of l * 3 → get_or t'.points i 0 ≡ get_or t.points i 0
  pub edges : (i : ℕ) → i < length l.listed * 8 → get_or t'.edges i 0 ≡ get_or t.edges i 0
  pub intervals : (i : ℕ) → i < length l.listed → get_or t'.intervals i nan ≡ get_or t.intervals i nan
  pub faces : (i : ℕ) → i < faces_of l * 5 → get_or t'.faces i 0 ≡ get_or t.faces i 0

pub record ShowsNothing (c : Sizes) (l : Lists) (m m' : Mesh) : Type 0 where
  pub answer : (build c l m').answer ≡ (build c l m).answer
  pub rows :
      (build c l m).answer ≢ Err OverCounts → (build c l m).answer ≢ Err UnfitNumber → (build c l m).answer ≢ Err FewRows →
      SameCounted l (build c l m).tables (build c l m').tables

abbrev pub LentContent : Type 0
LentContent = (c : Sizes) (l : Lists) (m m' : Mesh) → c.faces ≤ none → SameNumbers m m' → ShowsNothing c l m m'
