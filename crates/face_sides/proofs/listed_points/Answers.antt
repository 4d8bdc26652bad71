-- `listed_points` meets its contract. The invariant is `ListedSoFar`; the measure is what is left of the text.
pub mod Turn
use native.Mathlib.Omega.{arith}
use mathlib.Core.Path.{sym, ◌∙◌}
use Prim.Native.Nat.{◌-◌}
use Rattle.mesh_lines.proofs.Answers.{listing-is, listing_none}
use Rattle.face_sides.proofs.listed_points.Answers.Turn.{start, turn, stop, end, head-inside, listed-longer}
use Rattle.face_sides.proofs.listed_points.Goals as goal

pub loop-i-init : goal.loop-i-init
loop-i-init c =
    start _ _ _ _ _ c.requires.0 c.requires.1

pub stands-requires : goal.stands-requires
stands-requires c =
    c.loop-i.invariant.inside

pub listed-requires : goal.listed-requires
listed-requires c =
    head-inside _ _ _ _ _ _ _ _ _ c.loop-i.invariant
    (sym c.stands.ensures ∙ c.loop-i-test.true)

pub returns-in_err-read-clause-run : goal.returns-in_err-read-clause-run
returns-in_err-read-clause-run c =
    c.from_residual.ensures ∙ stop _ _ _ _ _ _ _ _ _ c.loop-i.invariant
    (sym c.stands.ensures ∙ c.loop-i-test.true)
    (listing_none _ (sym c.listed.ensures ∙ c.in_err-read.was))

pub loop-i-smaller : goal.loop-i-smaller
loop-i-smaller c =
    let h = listed-longer _ _ _ _ _ _ _ _ _ c.loop-i.invariant (sym c.stands.ensures ∙ c.loop-i-test.true)
    (listing-is _ (sym c.listed.ensures ∙ c.in_ok-read.was)) in
    omega arith

pub loop-i-preserved : goal.loop-i-preserved
loop-i-preserved c =
    turn _ _ _ _ _ _ _ _ _ c.loop-i.invariant (sym c.stands.ensures ∙ c.loop-i-test.true)
    (listing-is _ (sym c.listed.ensures ∙ c.in_ok-read.was))
    c.put.ensures
    c.float.ensures c.put-in-loop-i.ensures

pub returns : goal.returns
returns c =
    let whole = end _ _ _ _ _ _ _ _ _ c.loop-i.invariant (sym c.stands.ensures ∙ c.loop-i-test.false) in record { run = whole.0; points = whole.1.0; intervals = whole.1.1 }
