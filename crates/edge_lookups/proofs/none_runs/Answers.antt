-- none_runs meets its contract. The invariant: no place before j runs so.
use mathlib.Core.Path.{sym, ap, ◌∙◌}
use mathlib.Core.Bool.{true, not, ◌&&◌}
use Prim.Native.Nat.{◌-◌, ◌+◌}
use native.Mathlib.Omega.{arith}
use lib.Dec.{eqb}
use lib.ListN.{get_or}
use Rattle.perimeters.specs.Places.{next_place}
use Rattle.audited_meshes.proofs.Folds.{every-none, every_more, every-stop}
use Rattle.listed_points.proofs.Laws.{whole}
use Rattle.edge_lookups.proofs.none_runs.Goals as goal

pub loop-j-init : goal.loop-j-init
loop-j-init c =
    every-none (λ k. not (eqb (get_or c.args.listed.now (c.args.a + k) 0) c.args.p && eqb
    (get_or c.args.listed.now (c.args.a + next_place c.args.n k) 0) c.args.q))

pub returns-then-runs : goal.returns-then-runs
returns-then-runs c =
    sym (every-stop c.args.n c.loop-j.j (λ k. not
    (eqb (get_or c.args.listed.now (c.args.a + k) 0) c.args.p && eqb
    (get_or c.args.listed.now (c.args.a + next_place c.args.n k) 0) c.args.q)) c.loop-j-test.true
    (ap not (sym c.runs.ensures ∙ c.if-runs.true)))

pub loop-j-preserved : goal.loop-j-preserved
loop-j-preserved c =
    every_more c.loop-j.j (λ k. not (eqb (get_or c.args.listed.now (c.args.a + k) 0) c.args.p && eqb
    (get_or c.args.listed.now (c.args.a + next_place c.args.n k) 0) c.args.q)) c.loop-j.invariant
    (ap not (sym c.runs.ensures ∙ c.if-runs.false))

pub returns : goal.returns
returns c =
    sym (rw
    (whole c.loop-j.j c.args.n c.loop-j.auto.j-end c.loop-j-test.false) at
    c.loop-j.invariant)
