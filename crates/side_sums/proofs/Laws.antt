-- Whether the side sums agree, by version. Assumes nothing.
--     sums-one                of version 1
--     sums-both, sums_first   of version 2, where the first two opposite sides agree and where they do not
use mathlib.Core.Path.{◌≡◌, sym, ◌∙◌}
use mathlib.Core.Bool.{Bool, true, false}
use lib.Ieee.{Float, add, sub, binary64}
use Rattle.positions.specs.Position.{small}
use Rattle.built_meshes.specs.Faces.{sums_agree}
use Rattle.built_meshes.specs.declared.Version.{Version}
use Rattle.built_meshes.specs.declared.Version.TheVariants.{One, Two}

pub sums-one : (v : Version) (s0 s1 s2 s3 : Float) {r : Bool} → v ≡ One → r ≡ small (sub binary64 (add binary64 (sub binary64 s0 s2) s1) s3) → r ≡ sums_agree v s0 s1 s2 s3
sums-one v s0 s1 s2 s3 ev er = rw ev er

pub sums-both : (v : Version) (s0 s1 s2 s3 : Float) {q r : Bool} → v ≡ Two → q ≡ small (sub binary64 s0 s2) → q ≡ true → r ≡ small (sub binary64 s1 s3) →
    r ≡ sums_agree v s0 s1 s2 s3
sums-both v s0 s1 s2 s3 ev eq t er = rw (ev, sym eq ∙ t) er

pub sums_first : (v : Version) (s0 s1 s2 s3 : Float) {q : Bool} → v ≡ Two → q ≡ small (sub binary64 s0 s2) → q ≡ false → false ≡ sums_agree v s0 s1 s2 s3
sums_first v s0 s1 s2 s3 ev eq t = rw (ev, sym eq ∙ t)
