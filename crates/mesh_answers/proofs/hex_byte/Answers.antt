-- `hex_byte` meets its contract.
use borrow.Author.Tests.{lt-ltb, le-ltb}
use Rattle.mesh_answers.specs.Lines.{hex_byte}
use Rattle.mesh_answers.proofs.hex_byte.Goals as goal

-- src/lib.rt:39:9
pub returns-then-d-lt10 : goal.returns-then-d-lt10
unfolding hex_byte
returns-then-d-lt10 c =
    rw (lt-ltb _ 10 c.if-d-lt10.true) c.byte_of.ensures

-- src/lib.rt:34:1
pub returns : goal.returns
unfolding hex_byte
returns c =
    rw (le-ltb _ 10 c.if-d-lt10.false) c.byte_of-2.ensures
