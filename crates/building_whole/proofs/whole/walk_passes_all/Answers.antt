-- walk_passes_all meets its contract.
use mathlib.Core.Path.{◌∙◌, sym}
use Rattle.tables.specs.Parts.{point_tables}
use Rattle.building_whole.proofs.Laws.{passes-back, passes-lost}
use Rattle.building_whole.proofs.whole.walk_passes_all.Goals as goal

pub returns-in-Some : goal.returns-in-Some
returns-in-Some c =
    passes-back (point_tables c.args.points.now c.args.edges.now) c.args.ne c.index-v.result _ c.args.p
    c.index-v.ensures c.in-Some.n
    (sym c.point_walk.ensures ∙ c.in-Some.is)

pub returns-in-None : goal.returns-in-None
returns-in-None c =
    passes-lost (point_tables c.args.points.now c.args.edges.now) c.args.ne
    c.index-v.result _ c.args.p c.index-v.ensures
    (sym c.point_walk.ensures ∙ c.in-None.is)
