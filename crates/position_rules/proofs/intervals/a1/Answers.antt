-- a1 meets its contract: one step, and the interval there.
use Rattle.position_rules.proofs.Fits.{interval-there, acw-fits}
use native.Mathlib.Omega.{arith}
use Rattle.position_rules.proofs.intervals.a1.Goals as goal

pub offset_bounds-intervals-r : goal.offset_bounds-intervals-r
offset_bounds-intervals-r c =
    rw c.acw_about-r.ensures (omega
    (arith, interval-there _ _ _ (acw-fits _ _ c.args.p _ c.requires)))

pub bounds-intervals-r : goal.bounds-intervals-r
bounds-intervals-r c =
    rw c.acw_about-r.ensures (interval-there _ _ _
    (acw-fits _ _ c.args.p _ c.requires))

pub returns : goal.returns
returns c =
    rw c.acw_about-r.ensures
