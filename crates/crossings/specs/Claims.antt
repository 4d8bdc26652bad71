-- What is claimed of the finder's answers.
--     Grounds m c d r     the number of the answer r, and when exactly each number is given
--     Exactly             the claim: whatever answers a depth as `Finds` asks, gives each number exactly on its ground
--     FindFinds          the claim: the finder's answer is one that `Finds` allows, so that its numbers are those of `Exactly`
--     Lowest m c d e      e is the lowest-numbered edge that crosses
--     LowestExactly      the claim: the finder names an edge exactly if it is the lowest-numbered
--     Joins m e p q       the edge e joins the points p and q, in either direction
--     EdgeChain m ne q p  a chain of edges joins the points p and q
--     AllJoined m c       the points of the mesh are all joined through edges
--     JoinedFound        the claim: in such a mesh every finite depth at or above some point and at or below some point, as are
--                         those from the lowest point to the highest, is answered with an edge: 41 cannot occur
use Rattle.std.specs.Prelude.{Result, Ok, ◌≡◌, true, false, ◌↔◌, ◌⊎◌, ℕ, ◌<◌, Float}
use Rattle.std.specs.Float.Ieee.{le}
use Rattle.std.specs.Float.Ieee.Scale.{finite}
use Rattle.crossings.specs.declared.NoCrossing.{NoCrossing}
use Rattle.tables.specs.Mesh.{Mesh, z, origin, dest}
use Rattle.tables.specs.declared.Counts.{Counts}
use Rattle.audited_meshes.specs.Audit.{audit}
use Rattle.crossings.specs.Crossings.{crosses, number_of, Searchable, Finds, find}

pub record Grounds (m : Mesh) (c : Counts) (d : Float) (r : Result ℕ NoCrossing) : Type 0 where
  pub not_finite : (number_of r ≡ 42) ↔ (finite d ≡ false)
  pub not-closed : (number_of r ≡ 30) ↔ ((finite d ≡ true) × (audit m c.points c.edges c.faces ≡ false))
  pub nowhere : (number_of r ≡ 41) ↔ (Searchable m c d × ((e : ℕ) → e < c.edges → crosses m d e ≡ false))
  pub somewhere : (number_of r ≡ 0) ↔ (Searchable m c d × ((e : ℕ) × (e < c.edges) × (crosses m d e ≡ true)))

abbrev pub Exactly : Type 0
Exactly = (m : Mesh) (c : Counts) (d : Float) (r : Result ℕ NoCrossing) → Finds m c d r → Grounds m c d r

abbrev pub FindFinds : Type 0
FindFinds = (m : Mesh) (c : Counts) (d : Float) → Finds m c d (find m c d)

pub record Lowest (m : Mesh) (c : Counts) (d : Float) (e : ℕ) : Type 0 where
  pub ready : Searchable m c d
  pub in-range : e < c.edges
  pub crossing : crosses m d e ≡ true
  pub none-lower : (i : ℕ) → i < e → crosses m d i ≡ false

abbrev pub LowestExactly : Type 0
LowestExactly = (m : Mesh) (c : Counts) (d : Float) (e : ℕ) → (find m c d ≡ Ok e) ↔ Lowest m c d e

abbrev pub Joins : Mesh → ℕ → ℕ → ℕ → Type 0
Joins m e p q = ((origin m e ≡ p) × (dest m e ≡ q)) ⊎ ((origin m e ≡ q) × (dest m e ≡ p))

pub data EdgeChain (m : Mesh) (ne q : ℕ) : ℕ → Type 0 where
  there : EdgeChain m ne q q
  along : {p : ℕ} (r e : ℕ) → e < ne → Joins m e p r → EdgeChain m ne q r → EdgeChain m ne q p

abbrev pub AllJoined : Mesh → Counts → Type 0
AllJoined m c = (p q : ℕ) → p < c.points → q < c.points → EdgeChain m c.edges q p

abbrev pub JoinedFound : Type 0
JoinedFound =
    (m : Mesh) (c : Counts) (d : Float) → Searchable m c d → AllJoined m c → (low high : ℕ) → low < c.points → high < c.points
    → le (z m low) d ≡ true → le d (z m high) ≡ true → (e : ℕ) × (find m c d ≡ Ok e)
