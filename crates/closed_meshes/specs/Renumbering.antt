-- Two meshes that are one but for the numbering of their rows and their start edges.
--     Injective g           no two values of g are the same
--     Bijection A B         a one-to-one correspondence of A and B
--     Isomorphism m m'      points, edges and faces correspond, and each field of a row but its start edge with them
--     KeepsStarts i         the isomorphism i keeps start edges too, of points and of faces
--     Touching m            the start edge of each point touches it, and the start edge of each face borders it
--     CarriesOver           the claim: closed carries over any isomorphism, with any start edges that touch
--     Row n                 the rows of a table of n rows: the numbers below n
--     sum_to n g             the sum of g k over the numbers k below n
use Rattle.std.specs.Prelude.{◌≡◌, ℕ, zero, suc, ◌+◌, ◌<◌}
use Rattle.std.proofs.Math.Option.{map}
use Rattle.closed_meshes.specs.Mesh.{MeshOver, Place, Dart, edge, first, face}
use Rattle.closed_meshes.specs.Closed.{Closed}

abbrev pub Injective : {A B : Type 0} → (A → B) → Type 0
Injective {A} g = (x y : A) → g x ≡ g y → x ≡ y

pub record Bijection (A B : Type 0) : Type 0 where
  pub to : A → B
  pub from : B → A
  pub from-to : (a : A) → from (to a) ≡ a
  pub to-from : (b : B) → to (from b) ≡ b

pub record Isomorphism {P E F P' E' F' : Type 0} (m : MeshOver P E F) (m' : MeshOver P' E' F') : Type 0 where
  pub points : Bijection P P'
  pub edges : Bijection E E'
  pub faces : Bijection F F'
  pub valence : (p : P) → m'.valence (points.to p) ≡ m.valence p
  pub origin : (e : E) → m'.origin (edges.to e) ≡ points.to (m.origin e)
  pub dest : (e : E) → m'.dest (edges.to e) ≡ points.to (m.dest e)
  pub left : (e : E) → m'.left (edges.to e) ≡ faces.to (m.left e)
  pub right : (e : E) → m'.right (edges.to e) ≡ faces.to (m.right e)
  pub left_cw : (e : E) → m'.left_cw (edges.to e) ≡ edges.to (m.left_cw e)
  pub left_acw : (e : E) → m'.left_acw (edges.to e) ≡ edges.to (m.left_acw e)
  pub right_cw : (e : E) → m'.right_cw (edges.to e) ≡ edges.to (m.right_cw e)
  pub right_acw : (e : E) → m'.right_acw (edges.to e) ≡ edges.to (m.right_acw e)
  pub corner : (f : F) (k : Place) → m'.corner (faces.to f) k ≡ map points.to (m.corner f k)

pub record KeepsStarts {P E F P' E' F' : Type 0} {m : MeshOver P E F} {m' : MeshOver P' E' F'} (i : Isomorphism m m') : Type 0 where
  pub start : (p : P) → m'.start (i.points.to p) ≡ i.edges.to (m.start p)
  pub face_start : (f : F) → m'.face_start (i.faces.to f) ≡ i.edges.to (m.face_start f)

pub record Touching {P E F : Type 0} (m : MeshOver P E F) : Type 0 where
  pub start : (p : P) → (d : Dart E) × (edge d ≡ m.start p) × (first m d ≡ p)
  pub face_start : (f : F) → (d : Dart E) × (edge d ≡ m.face_start f) × (face m d ≡ f)

abbrev pub CarriesOver : Type 1
CarriesOver =
    (P E F P' E' F' : Type 0) (m : MeshOver P E F) (m' : MeshOver P' E' F') → Isomorphism m m' → Touching m' → Closed m → Closed m'

abbrev pub Row : ℕ → Type 0
Row n = (k : ℕ) × (k < n)

-- the sum of g k over the numbers k below n
unfoldable pub sum_to : ℕ → (ℕ → ℕ) → ℕ
sum_to zero g = 0
sum_to (suc n) g = sum_to n g + g n
