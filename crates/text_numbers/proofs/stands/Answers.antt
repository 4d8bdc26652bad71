-- `stands` meets its contract. Its loop leaves what is still to be compared.
pub mod Turn
use native.Mathlib.Omega.{arith}
use Rattle.text_numbers.proofs.stands.Answers.Turn.{stands-turn, stands-stop, stands-end, stands-start}
use Rattle.text_numbers.proofs.stands.Goals as goal

pub loop-i-init : goal.loop-i-init
loop-i-init c =
    stands-start _ _ _

pub returns-then-byte-t : goal.returns-then-byte-t
returns-then-byte-t c =
    stands-stop _ _ _ _ c.loop-i.invariant c.loop-i-test.true
    c.byte.ensures c.if-byte-t.true

pub loop-i-preserved : goal.loop-i-preserved
loop-i-preserved c =
    stands-turn _ _ _ _ c.loop-i.invariant c.loop-i-test.true
    c.byte.ensures c.if-byte-t.false

pub returns : goal.returns
returns c =
    stands-end _ _ _ _ c.loop-i.invariant (omega arith)
