-- The answers of building in the documents' numbers.
--     ground_number g          the number of a ground
--     built_numbers a          the numbers of an answer: points, edges and faces, or that of the ground
use Rattle.std.specs.Prelude.{List, [], ◌∷◌, ℕ, Result, Ok, Err}
use Rattle.tables.specs.declared.Counts.{Counts}
use Rattle.built_meshes.specs.declared.Ground.{Ground}
use Rattle.built_meshes.specs.declared.Ground.TheVariants.{OverCounts, UnfitNumber, FewRows, FaceSize, OutOfRange, PointTwice}
use Rattle.built_meshes.specs.declared.Ground.TheVariants.{FirstPoint, NonRectangularFace, EdgeTripleFace, SameWay, MissingFace, NoEdge, MissedEdge}

abbrev pub ground_number : Ground → ℕ
ground_number OverCounts = 2
ground_number UnfitNumber = 3
ground_number FewRows = 4
ground_number FaceSize = 10
ground_number OutOfRange = 11
ground_number PointTwice = 12
ground_number FirstPoint = 43
ground_number NonRectangularFace = 13
ground_number EdgeTripleFace = 14
ground_number SameWay = 15
ground_number MissingFace = 20
ground_number NoEdge = 21
ground_number MissedEdge = 22

abbrev pub built_numbers : Result Counts Ground → List ℕ
built_numbers (Ok k) = k.points ∷ k.edges ∷ k.faces ∷ []
built_numbers (Err g) = ground_number g ∷ []
