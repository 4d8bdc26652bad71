-- The laws of points noted by stamps. Assumes nothing.
--     stamp_place-below          the place of a point is one of the places
--     stamped-none              before the first point
--     stamped-next              one point more, which is noted with the stamp
--     new-unstamped             a point at whose place the stamp does not stand is new
use mathlib.Core.Path.{◌≡◌, sym, ◌∙◌, ap}
use mathlib.Core.Bool.{true}
use mathlib.Core.List.{List}
use mathlib.Core.Logic.{◌≢◌}
use Prim.Native.Nat.{ℕ, ◌+◌, ◌≤◌, ◌<◌}
use native.Mathlib.Nat.{mod-lt}
use native.Mathlib.Omega.{arith}
use native.Mathlib.Decide.{ℕ_discrete}
use lib.ListN.{length, get_or, set}
use lib.Seq.{get_or-set_same, get_or-set_other}
use Rattle.audited_meshes.proofs.Tests.{every-is, not_is, eqb_is}
use Rattle.audit_steps.specs.Noted.{new_among, stamp_places, stamp_place, Stamped}

pub stamp_place-below : (q : ℕ) → stamp_place q < stamp_places
stamp_place-below q = mod-lt q (omega arith)

pub stamped-none : (stamps : List ℕ) (s : ℕ) (ps : List ℕ) → Stamped stamps s ps 0
stamped-none stamps s ps a l = absurd (omega arith)

module _ (stamps : List ℕ) (s : ℕ) (ps : List ℕ) (n : ℕ) (h : Stamped stamps s ps n) where
  -- where the stamp stands it stands still when another place is stamped
  kept : (b c : ℕ) → b < length stamps → get_or stamps c 0 ≡ s → get_or (set stamps b s) c 0 ≡ s
  kept b c l k = go (ℕ_discrete b c)
    where
      go : Dec (b ≡ c) → get_or (set stamps b s) c 0 ≡ s
      go (yes q) = ap (λ (i : ℕ). get_or (set stamps b s) i 0) (sym q) ∙ get_or-set_same stamps b s 0 l
      go (no d) = get_or-set_other stamps b c s 0 (λ q. d (sym q)) ∙ k

  pub stamped-next : (q : ℕ) (after : List ℕ) → after ≡ set stamps (stamp_place q) s → stamp_places ≤ length stamps → n < length ps
      → Stamped after s (set ps n q) (n + 1)
  stamped-next q after e long room a l = ap (λ (t : List ℕ). get_or t (stamp_place (get_or (set ps n q) a 0)) 0) e ∙ go (ℕ_discrete n a)
    where
      there : stamp_place q < length stamps
      there = omega (arith, stamp_place-below q)

      go : Dec (n ≡ a) → get_or (set stamps (stamp_place q) s) (stamp_place (get_or (set ps n q) a 0)) 0 ≡ s
      go (yes e) =
          ap (λ (i : ℕ). get_or (set stamps (stamp_place q) s) (stamp_place i) 0)
          (ap (λ (i : ℕ). get_or (set ps n q) i 0) (sym e) ∙ get_or-set_same ps n q 0 room)
          ∙ get_or-set_same stamps (stamp_place q) s 0 there
      go (no d) =
          ap (λ (i : ℕ). get_or (set stamps (stamp_place q) s) (stamp_place i) 0) (get_or-set_other ps n a q 0 (λ e. d (sym e)))
          ∙ kept (stamp_place q) (stamp_place (get_or ps a 0)) there (h a (omega (arith, d)))

  pub new-unstamped : (q : ℕ) → get_or stamps (stamp_place q) 0 ≢ s → new_among ps n q ≡ true
  new-unstamped q d =
      (every-is n (λ (a : ℕ). not_is (eqb_is (get_or ps a 0) q))).1
      (λ a l e. d (ap (λ (i : ℕ). get_or stamps (stamp_place i) 0) (sym e) ∙ h a l))
