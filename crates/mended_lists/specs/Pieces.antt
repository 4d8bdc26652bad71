-- Small lists that are computed.
--     square a b c d        a face of four points, with an interval beside each: `[3 [0 a]] [0 [1 b]] [1 [2 c]] [2 [3 d]]`
--     square_turned a b c d  the face turned: `[3 [2 d]] [2 [1 c]] [1 [0 b]] [0 [3 a]]`
--     tetrahedron           four triangles, of which the second and the fourth are listed the other way round
--     cross_cap              three squares on four points: no choice works
--     SquareTurned, TetrahedronTurned, CrossCapTwisted   what is computed of them
use Rattle.std.specs.Prelude.{◌≡◌, true, false, List, [], ◌∷◌, ℕ, Float}
use Rattle.built_meshes.specs.Lists.{Lists}
use Rattle.built_meshes.specs.declared.Version.TheVariants.{Two}
use Rattle.mended_lists.specs.Reversal.{reversed}
use Rattle.mended_lists.specs.Parts.{faces_turned, twisted}

abbrev pub piece : List ℕ → List ℕ → List ℕ → List Float → Lists
piece ss fs ls is = record { version = Two; coordinates = []; sides = ss; firsts = fs; listed = ls; intervals = is }

abbrev pub square : Float → Float → Float → Float → Lists
square a b c d = piece (1 ∷ 1 ∷ 1 ∷ 1 ∷ []) (3 ∷ 0 ∷ 1 ∷ 2 ∷ []) (0 ∷ 1 ∷ 2 ∷ 3 ∷ []) (a ∷ b ∷ c ∷ d ∷ [])

abbrev pub square_turned : Float → Float → Float → Float → Lists
square_turned a b c d = piece (1 ∷ 1 ∷ 1 ∷ 1 ∷ []) (3 ∷ 2 ∷ 1 ∷ 0 ∷ []) (2 ∷ 1 ∷ 0 ∷ 3 ∷ []) (d ∷ c ∷ b ∷ a ∷ [])

abbrev pub tetrahedron : Lists
tetrahedron =
    piece (1 ∷ 1 ∷ 1 ∷ 0 ∷ 1 ∷ 1 ∷ 1 ∷ 0 ∷ 1 ∷ 1 ∷ 1 ∷ 0 ∷ 1 ∷ 1 ∷ 1 ∷ 0 ∷ []) []
    (0 ∷ 1 ∷ 2 ∷ 1 ∷ 3 ∷ 0 ∷ 1 ∷ 3 ∷ 2 ∷ 0 ∷ 3 ∷ 2 ∷ []) []

abbrev pub cross_cap : Lists
cross_cap =
    piece (1 ∷ 1 ∷ 1 ∷ 1 ∷ 1 ∷ 1 ∷ 1 ∷ 1 ∷ 1 ∷ 1 ∷ 1 ∷ 1 ∷ []) [] (0 ∷ 1 ∷ 2 ∷ 3 ∷ 0 ∷ 1 ∷ 3 ∷ 2 ∷ 0 ∷ 2 ∷ 1 ∷ 3 ∷ []) []

abbrev pub SquareTurned : Type 0
SquareTurned = (a b c d : Float) → reversed (λ f. true) (square a b c d) ≡ square_turned a b c d

abbrev pub TetrahedronTurned : Type 0
TetrahedronTurned =
    (twisted tetrahedron ≡ false) × (faces_turned tetrahedron 0 ≡ false) × (faces_turned tetrahedron 1 ≡ true) × (faces_turned tetrahedron 2 ≡ false)
    × (faces_turned tetrahedron 3 ≡ true)

abbrev pub CrossCapTwisted : Type 0
CrossCapTwisted = twisted cross_cap ≡ true
