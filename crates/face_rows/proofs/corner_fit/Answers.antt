-- corner_fit meets its contract: its tests are the definition's.
use native.Mathlib.Omega.{arith}
use borrow.Author.Tests.{lt-ltb, le-ltb}
use Rattle.face_rows.proofs.corner_fit.Goals as goal

pub returns-then-index-np : goal.returns-then-index-np
returns-then-index-np c =
    rw (lt-ltb c.args.word c.args.np (omega (arith, c.index.ensures)))

pub returns : goal.returns
returns c =
    rw (le-ltb c.args.word c.args.np (omega (arith, c.index.ensures, c.if-index-np.false)))
