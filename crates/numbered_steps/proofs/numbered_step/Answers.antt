-- numbered_step meets its contract: the first entries of 0, 1, .. are the numbered order.
use mathlib.Core.Path.{◌≡◌, sym, ap, ◌∙◌}
use native.Mathlib.Omega.{arith}
use lib.ListN.{length}
use lib.Seq.{length-take-le}
use Rattle.tables.specs.Mesh.{mesh_of}
use Rattle.refine_outputs.proofs.Orders.{length-numbered}
use Rattle.numbered_steps.proofs.Steps.{in-numbered-order}
use Rattle.numbered_steps.proofs.numbered_step.Goals as goal

pub slice_bounds-step_by_zeros-end : goal.slice_bounds-step_by_zeros-end
slice_bounds-step_by_zeros-end c =
    sym (length-take-le c.args.counts.faces c.number_faces.new.order
    (let e : length c.number_faces.new.order ≡ 64 = ap length c.number_faces.ensures ∙ length-numbered 64 in
    omega (arith, c.requires)))

pub returns : goal.returns
returns c =
    in-numbered-order
    (mesh_of c.args.positions.now c.args.points.now c.args.edges.now c.args.intervals.now c.args.faces.now)
    c.args.counts c.number_faces.new.order c.requires c.number_faces.ensures
    c.step_by_zeros.ensures
