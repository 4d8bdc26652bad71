-- radial_edges meets its contract. The invariant: the first i edges of the walk stand in the words, and e is the next.
use mathlib.Core.Path.{sym, ◌∙◌, ap}
use native.Mathlib.Omega.{arith}
use lib.ListN.{length}
use borrow.Author.Rules.{rules}
use Rattle.audited_meshes.specs.Walks.{acw_of_point, point_walk}
use Rattle.tables.specs.Parts.{point_tables}
use Rattle.walks.proofs.Radial.{radial-lost, radial-start, radial-edge, radial-place, radial-more}
use Rattle.t_nurcc_control_point.proofs.radial_edges.Goals as goal

pub returns-in_err-n : goal.returns-in_err-n
returns-in_err-n c =
    let w = sym c.in_err-n.was ∙ c.point_walk.ensures in
    record {
      value = c.from_residual.ensures ∙ w;
      radial_after = radial-lost
          (point_walk (point_tables c.args.points.now c.args.edges.now) c.args.ne (length c.args.radial.now) c.args.p) _ w;
    }

pub loop-i-init : goal.loop-i-init
loop-i-init c =
    radial-start _ _ _ _ _
    (sym c.in_ok-n.was ∙ c.point_walk.ensures)

pub offset_bounds-radial-i : goal.offset_bounds-radial-i
offset_bounds-radial-i c =
    let l = radial-place _ _ _ _ _ _ _ _ c.loop-i.invariant c.loop-i-test.true in search rules

pub bounds-radial-i : goal.bounds-radial-i
bounds-radial-i c =
    radial-place _ _ _ _ _ _ _ _ c.loop-i.invariant c.loop-i-test.true

pub acw_of_point-e-requires : goal.acw_of_point-e-requires
acw_of_point-e-requires c =
    let l = radial-edge _ _ _ _ _ _ _ _ c.loop-i.invariant c.loop-i-test.true in
    omega (arith, c.index.ensures)

pub loop-i-preserved : goal.loop-i-preserved
loop-i-preserved c =
    radial-more _ _ _ _ _ _ _ _ c.loop-i.invariant c.loop-i-test.true _
    (c.acw_of_point-e.ensures
    ∙ ap (acw_of_point (point_tables c.args.points.now c.args.edges.now) c.args.p) c.index.ensures)
