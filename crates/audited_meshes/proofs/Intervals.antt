-- Numbers that can be intervals, computed: finite ones with their sign bit clear. Of the two zeros only the one without a sign can.
use mathlib.Core.Path.{◌≡◌, refl}
use mathlib.Core.Bool.{true, false}
use lib.IntN.{pos}
use lib.Ieee.{fin, inf}
use Rattle.audited_meshes.specs.Audit.{interval_fit}

zero-fits : interval_fit (fin false 0 (pos 0)) ≡ true
zero-fits = refl

minus-zero-unfit : interval_fit (fin true 0 (pos 0)) ≡ false
minus-zero-unfit = refl

infinite-unfit : interval_fit (inf false) ≡ false
infinite-unfit = refl
