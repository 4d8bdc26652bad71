-- store_points meets its contract: the lines are of the form, so that what `points` promises then, holds.
use lib.ListN.{length}
use Rattle.mesh_lines.proofs.Answers.{after_run, after_none, at-run}
use Rattle.point_lines.proofs.store_points.Goals as goal

pub returns-in-Some : goal.returns-in-Some
returns-in-Some c =
    record { place = after_run length _ c.requires.parses _ c.points.ensures.run c.in-Some.is; list = at-run length _ c.requires.parses _ c.points.ensures.run _ c.points.ensures.list }

pub returns-in-None : goal.returns-in-None
returns-in-None c =
    record { place = after_none length _ c.requires.parses _ c.points.ensures.run c.in-None.is; list = at-run length _ c.requires.parses _ c.points.ensures.run _ c.points.ensures.list }
