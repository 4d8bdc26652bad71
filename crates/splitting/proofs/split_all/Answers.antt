-- split_all meets its contract. The invariant: the first i edges are split.
use Rattle.splitting.proofs.Splitting.{splitting-start, splitting-rows, splitting-old, splitting-room, splitting-turn}
use Rattle.splitting.proofs.split_all.Goals as goal

pub loop-i-init : goal.loop-i-init
loop-i-init c =
    splitting-start _ _ _ _ _ _ _

pub split_whole-counts-requires : goal.split_whole-counts-requires
split_whole-counts-requires c = record {
  in_rows = splitting-rows _ _ _ _ _ _ _ _ _ _ _ _ c.loop-i.invariant
      c.requires.by_index c.loop-i-test.true;
  point_width_in_bounds = splitting-old _ _ _ _ _ _ _ _ _ _ _ _ c.loop-i.invariant c.requires.point_width_in_bounds;
  split_room = splitting-room _ _ _ _ _ _ _ _ _ _ _ _ c.loop-i.invariant c.loop-i-test.true c.requires.split_room;
}

pub loop-i-preserved : goal.loop-i-preserved
loop-i-preserved c =
    splitting-turn _ _ _ _ _ _ _ _ _ _ _ _ c.loop-i.invariant _ _ _ _ c.loop-i-test.true c.split_whole-counts.auto.points
    c.split_whole-counts.auto.edges c.split_whole-counts.auto.intervals c.split_whole-counts.ensures
