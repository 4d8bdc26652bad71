-- number_faces meets its contract: the first i entries are 0, 1, ..
use Rattle.std.proofs.Common.{◌≡◌, take}
use Rattle.runs.specs.Runs.{numbered}
use Rattle.refine_parts.proofs.number_faces.Given as goal

abbrev pub invariant-loop-i : goal.invariant-loop-i
invariant-loop-i l = take l.i l.order ≡ numbered l.i
