-- old_point meets its contract.
use Rattle.position_rules.specs.OldPoint.{old_point}
use Rattle.old_points.proofs.old_point.Goals as goal

pub radial_sum-s-requires : goal.radial_sum-s-requires
radial_sum-s-requires c =
    rw (c.index-start.ensures, c.load_point-point.ensures) (record { radial_fits = c.requires.radial-fits; turns_back = c.requires.turns-back })

pub returns : goal.returns
unfolding old_point
returns c =
    rw (
      c.placed.ensures,
      c.moved.ensures,
      c.from.ensures,
      c.radial_sum-s.ensures,
      c.index-start.ensures,
      c.index.ensures,
      c.load_point-point.ensures,
    )
