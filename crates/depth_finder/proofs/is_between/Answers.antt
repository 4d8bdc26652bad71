-- is_between meets its contract: each of the two tests decides its half of `between`.
use Rattle.depth_finder.proofs.is_between.Goals as goal

pub returns-then-low-depth : goal.returns-then-low-depth
returns-then-low-depth c =
    rw c.if-low-depth.true

pub returns : goal.returns
returns c =
    rw c.if-low-depth.false
