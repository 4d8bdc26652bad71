-- make meets its contract, edition by edition.
use mathlib.Core.Path.{◌∙◌, ap}
use Rattle.steps.specs.Step.{made}
use Rattle.tables.specs.Mesh.{Mesh, mesh_of}
use Rattle.making.proofs.make.Goals as goal

pub returns-in-First : goal.returns-in-First
returns-in-First c =
    let m : Mesh = mesh_of c.args.positions.now c.args.points.now c.args.edges.now c.args.intervals.now c.args.faces.now in
    let t : Mesh = mesh_of c.args.newpositions.now c.args.newpoints.now c.args.newedges.now c.args.newintervals.now
    c.args.newfaces.now in
    ap (λ k. made k m c.args.counts c.args.order.now t) c.in-First.is
    ∙ c.make_first.ensures

pub returns-in-Second : goal.returns-in-Second
returns-in-Second c =
    let m : Mesh = mesh_of c.args.positions.now c.args.points.now c.args.edges.now c.args.intervals.now c.args.faces.now in
    let t : Mesh = mesh_of c.args.newpositions.now c.args.newpoints.now c.args.newedges.now c.args.newintervals.now
    c.args.newfaces.now in
    ap (λ k. made k m c.args.counts c.args.order.now t) c.in-Second.is
    ∙ c.make_second.ensures
