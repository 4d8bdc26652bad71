-- refined_rows meets its contract: the rows are copied, then the faces are visited.
use Rattle.visiting.proofs.Laws.{refined_rows-bare}
use Rattle.visiting.specs.Visiting.{EachVisitFits}
use Rattle.tables.specs.Mesh.{mesh_of}
use Rattle.tables.specs.Parts.{face_tables}
use Rattle.refined_meshes.specs.State.{State, copied}
use mathlib.Core.Path.{sym, ◌∙◌, subst}
use Rattle.visiting.proofs.refined_rows.Goals as goal

pub copy_rows-requires : goal.copy_rows-requires
copy_rows-requires c =
    record { rows_there = c.requires.rows_there; rows_there_2 = c.requires.rows_there_2 }

pub visits-requires : goal.visits-requires
visits-requires c =
    subst (λ (s : State). EachVisitFits (face_tables c.args.edges.now c.args.faces.now) c.args.old.points c.args.old.edges
    c.args.old.faces c.args.order.now s) (sym c.copy_rows.ensures) c.requires.each_visit_fits

pub returns : goal.returns
unfolding copied
returns c =
    λ qs ps. c.visits.ensures
    ∙ refined_rows-bare (mesh_of qs c.args.points.now c.args.edges.now c.args.intervals.now c.args.faces.now)
    (mesh_of ps c.args.newpoints.now c.args.newedges.now c.args.newintervals.now c.args.newfaces.now) c.args.old.points c.args.old.edges
    c.args.old.faces c.args.order.now _ c.copy_rows.ensures
