-- fan_about meets its contract: the four numbers are those of the definition.
use Rattle.old_points.proofs.fan_about.Goals as goal

pub returns : goal.returns
returns c =
    rw (c.c2-far.ensures, c.c1-before.ensures, c.a1-next.ensures)
