-- split_whole meets its contract: the test of the destination is the definition's.
use Rattle.splitting.proofs.Splitting.{whole_room}
use Rattle.splitting.proofs.Laws.{split_whole-split, split_whole-kept}
use Rattle.splitting.specs.Scratch.{scratch}
use native.Mathlib.Omega.{arith}
use mathlib.Core.Path.{sym, ◌∙◌}
use Rattle.splitting.proofs.split_whole.Goals as goal

pub split_edge-requires : goal.split_edge-requires
split_edge-requires c =
    let r = whole_room c.args.points.now c.args.edges.now c.args.intervals.now c.args.np c.args.e c.args.taken
    (omega arith) c.requires.split_room in record { in_rows = c.requires.in_rows; split_room = r; point_width_in_bounds = omega (arith, r.points) }

pub returns-then-index-np : goal.returns-then-index-np
returns-then-index-np c =
    c.split_edge.ensures
    ∙ sym (split_whole-split c.args.np c.args.e (scratch c.args.points.now c.args.edges.now c.args.intervals.now c.args.taken)
    (omega arith))

pub returns : goal.returns
returns c =
    sym (split_whole-kept c.args.np c.args.e (scratch c.args.points.now c.args.edges.now c.args.intervals.now c.args.taken) (omega arith))
