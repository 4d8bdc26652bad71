-- Depths that edges cross. Depth is the z coordinate; numbers are compared, so that -0 is 0.
--     between a b d            the number d is at or above a and at or below b
--     spans a b d              of the numbers a and b one is at or above d, the other at or below; both at d will do
--     crosses m d e            edge e of the mesh m crosses the depth d: its ends span it
--     number_of r               the number that is answered: 0 for an edge, else that of the ground
--     Searchable m c d              neither 42 nor 30 holds: the depth is finite, and the tables are a closed mesh
--     Finds m c d r            r answers the depth d on the mesh m with the counts c; which of several edges it names is free
--     first_from test k e       the first of the k numbers from e on that pass the test
--     find m c d               the answer of the finder: as `Finds` says, with the lowest-numbered of the edges that cross
use Rattle.std.specs.Prelude.{Result, Ok, Err, ◌≡◌, Bool, true, false, cond, ◌&&◌, ◌||◌, ℕ, zero, suc, ◌<◌, Float}
use Rattle.std.specs.Float.Ieee.{le}
use Rattle.std.specs.Float.Ieee.Scale.{finite}
use Rattle.crossings.specs.declared.NoCrossing.{NoCrossing}
use Rattle.crossings.specs.declared.NoCrossing.TheVariants.{NotFiniteDepth, NotClosed, Nowhere}
use Rattle.tables.specs.Mesh.{Mesh, z, origin, dest}
use Rattle.tables.specs.declared.Counts.{Counts}
use Rattle.audited_meshes.specs.Audit.{audit}

abbrev pub between : Float → Float → Float → Bool
between a b d = le a d && le d b

abbrev pub spans : Float → Float → Float → Bool
spans a b d = between a b d || between b a d

abbrev pub crosses : Mesh → Float → ℕ → Bool
crosses m d e = spans (z m (origin m e)) (z m (dest m e)) d

abbrev pub number_of : Result ℕ NoCrossing → ℕ
number_of (Ok e) = 0
number_of (Err NotFiniteDepth) = 42
number_of (Err NotClosed) = 30
number_of (Err Nowhere) = 41

abbrev pub Searchable : Mesh → Counts → Float → Type 0
Searchable m c d = (finite d ≡ true) × (audit m c.points c.edges c.faces ≡ true)

-- 42 first, then 30, then 41 or an edge
abbrev pub Finds : Mesh → Counts → Float → Result ℕ NoCrossing → Type 0
Finds m c d (Err NotFiniteDepth) = finite d ≡ false
Finds m c d (Err NotClosed) = (finite d ≡ true) × (audit m c.points c.edges c.faces ≡ false)
Finds m c d (Err Nowhere) = Searchable m c d × ((e : ℕ) → e < c.edges → crosses m d e ≡ false)
Finds m c d (Ok e) = Searchable m c d × (e < c.edges) × (crosses m d e ≡ true)

unfoldable pub first_from : (ℕ → Bool) → ℕ → ℕ → Result ℕ NoCrossing
first_from test zero e = Err Nowhere
first_from test (suc k) e = cond (test e) (Ok e) (first_from test k (suc e))

abbrev pub find : Mesh → Counts → Float → Result ℕ NoCrossing
find m c d =
    cond (finite d)
    (cond (audit m c.points c.edges c.faces) (first_from (λ e. crosses m d e) c.edges 0) (Err NotClosed))
    (Err NotFiniteDepth)
