-- settle_starts meets its contract: old points, midpoints and face points are settled one after the other.
use mathlib.Core.Path.{◌∙◌}
use Rattle.settling_starts.proofs.Laws.{mids-length, centres-length, all_settled}
use Rattle.settling_starts.proofs.settle_starts.Goals as goal

pub settle_mids-requires : goal.settle_mids-requires
settle_mids-requires c =
    mids-length c.settle_olds.auto.newpoints c.requires.mids

pub settle_centres-requires : goal.settle_centres-requires
settle_centres-requires c =
    centres-length (c.settle_mids.auto.newpoints
    ∙ c.settle_olds.auto.newpoints) c.requires.centres

pub returns : goal.returns
returns c =
    all_settled c.args.points.now c.args.edges.now c.args.faces.now c.args.counts c.args.newedges.now c.args.newfaces.now
    c.args.newpoints.now _ _ _ c.settle_olds.ensures
    c.settle_mids.ensures
    c.settle_centres.ensures
