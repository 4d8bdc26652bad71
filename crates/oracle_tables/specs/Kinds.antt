-- kind_numbered n    the kind of a record of which n is the first number
use Rattle.std.specs.Prelude.{ℕ, cond, eqb}
use Rattle.oracle_tables.specs.declared.kinds.Kind.{Kind}
use Rattle.oracle_tables.specs.declared.kinds.Kind.TheVariants.{Whole, Changed, CutShort, OtherByte, Zeros, Listed, Spoilt}

abbrev pub kind_numbered : ℕ → Kind
kind_numbered n =
    cond (eqb n 1) Changed (
    cond (eqb n 2) CutShort (
    cond (eqb n 3) OtherByte (
    cond (eqb n 4) Zeros (
    cond (eqb n 5) Listed (
    cond (eqb n 6) Spoilt Whole)))))
