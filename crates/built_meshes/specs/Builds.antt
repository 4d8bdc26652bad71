-- What an accepted build leaves, said of the lists alone (document 01, "Building").
--     First l f i             at place i of face f its two points stand together for the first time
--     EdgeOf l t ne f i e    e is the edge of place i of face f: the face is on its left and the place runs from its origin to its
--                             destination, or the face is on its right and the place runs back
--     Beside l t ne f i a c   the edges a and c are those of the next and of the previous place
--     Builds l t ne           the tables t with ne edges are what document 01 makes of the lists l
--     AcceptedBuilds         the claim: so is every build that is accepted
use Rattle.std.specs.Prelude.{◌≡◌, ◌⊎◌, ◌≢◌, ℕ, ◌<◌, ◌≤◌, length, get_or, Ok}
use Rattle.std.specs.Float.{nan}
use Rattle.perimeters.specs.Places.{next_place, prev_place}
use Rattle.tables.specs.declared.Sizes.{Sizes}
use Rattle.tables.specs.Mesh.{Mesh, none, valence, start, mark, origin, dest, left_face, right_face, left_cw, left_acw, right_cw, right_acw, interval, face_start, corner}
use Rattle.tables.specs.declared.Counts.{Counts}
use Rattle.closed_meshes.specs.Renumbering.{sum_to}
use Rattle.audited_meshes.specs.Folds.{one_if}
use Rattle.audited_meshes.specs.Walks.{touches, Touches}
use Rattle.built_meshes.specs.Lists.{Lists, points_of, faces_of, size}
use Rattle.built_meshes.specs.Places.{point_of, next_of, beside_of, IsPlace, Runs, Between, Earlier}
use Rattle.built_meshes.specs.Building.{build}
use Rattle.built_meshes.specs.declared.Version.TheVariants.{One, Two}

pub record First (l : Lists) (f i : ℕ) : Type 0 where
  pub is-place : IsPlace l f i
  pub none-earlier : (g j : ℕ) → Earlier g j f i → ¬ Between l g j (point_of l f i) (next_of l f i)

abbrev pub EdgeOf : Lists → Mesh → ℕ → ℕ → ℕ → ℕ → Type 0
EdgeOf l t ne f i e =
    (e < ne) × (((left_face t e ≡ f) × Runs l f i (origin t e) (dest t e)) ⊎ ((right_face t e ≡ f) × Runs l f i (dest t e) (origin t e)))

abbrev pub Beside : Lists → Mesh → ℕ → ℕ → ℕ → ℕ → ℕ → Type 0
Beside l t ne f i a c = EdgeOf l t ne f (next_place (size l f) i) a × EdgeOf l t ne f (prev_place (size l f) i) c

pub record Builds (l : Lists) (t : Mesh) (ne : ℕ) : Type 0 where
  -- Positions are the coordinates.
  pub position : (k : ℕ) → k < length l.coordinates → get_or t.positions k nan ≡ get_or l.coordinates k nan
  -- A point's valence is the number of edges that touch it, and its start edge the highest-numbered of them.
  pub valence-is : (p : ℕ) → p < points_of l → valence t p ≡ sum_to ne (λ e. one_if (touches t p e))
  pub start-touches : (p : ℕ) → p < points_of l → (start t p < ne) × Touches t p (start t p)
  pub start-highest : (p e : ℕ) → p < points_of l → e < ne → Touches t p e → e ≤ start t p
  -- The mark is 0 exactly at valence 4, else 1.
  pub ordinary : (p : ℕ) → p < points_of l → valence t p ≡ 4 → mark t p ≡ 0
  pub extraordinary : (p : ℕ) → p < points_of l → valence t p ≢ 4 → mark t p ≡ 1
  -- Edges are numbered by the first place where their two points stand together; that is a place of the left face.
  pub place : ℕ → ℕ
  pub first : (e : ℕ) → e < ne → First l (left_face t e) (place e)
  pub all_first : (f i : ℕ) → First l f i → (e : ℕ) × (e < ne) × (left_face t e ≡ f) × (place e ≡ i)
  pub in_order : (e o : ℕ) → e < o → o < ne → Earlier (left_face t e) (place e) (left_face t o) (place o)
  -- It gives origin, destination and interval, and the links on the left.
  pub runs : (e : ℕ) → e < ne → Runs l (left_face t e) (place e) (origin t e) (dest t e)
  -- Its interval is written beside the point that it leaves, in version 2 beside the point at which it arrives.
  pub interval-1 : l.version ≡ One → (e : ℕ) → e < ne → interval t e ≡ beside_of l (left_face t e) (place e)
  pub interval-2 : l.version ≡ Two → (e : ℕ) → e < ne → interval t e ≡ beside_of l (left_face t e) (next_place (size l (left_face t e)) (place e))
  pub left-links : (e : ℕ) → e < ne → Beside l t ne (left_face t e) (place e) (left_acw t e) (left_cw t e)
  -- The other place of the two points, which runs back, gives the right face and the links on the right.
  pub second :
      (e : ℕ) → e < ne →
      (j : ℕ) × Runs l (right_face t e) j (dest t e) (origin t e) × Beside l t ne (right_face t e) j (right_acw t e) (right_cw t e)
  -- A face starts at the edge of its place 0 and has no corners.
  pub face-start : (f : ℕ) → f < faces_of l → EdgeOf l t ne f 0 (face_start t f)
  pub no-corners : (f c : ℕ) → f < faces_of l → c < 4 → corner t f c ≡ none

abbrev pub AcceptedBuilds : Type 0
AcceptedBuilds =
    (c : Sizes) (l : Lists) (m : Mesh) → c.faces ≤ none → (k : Counts) → (build c l m).answer ≡ Ok k →
    Builds l (build c l m).tables k.edges
