-- The mark for no row, and the same face on two sides.
--     none                     the mark for no row
--     same_face f g             both are faces, and the same one: the none mark is no face
use Rattle.std.specs.Prelude.{Bool, false, cond, ℕ, eqb}

abbrev pub none : ℕ
none = 4294967295

abbrev pub same_face : ℕ → ℕ → Bool
same_face f g = cond (eqb f none) false (eqb f g)
