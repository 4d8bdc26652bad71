-- size_fits meets its contract.
use borrow.Author.Tests.{lt-leb, le-leb}
use Rattle.building_tests.proofs.faces.size_fits.Goals as goal

pub returns-then-n-lt3 : goal.returns-then-n-lt3
returns-then-n-lt3 c =
    simp (lt-leb _ _ c.if-n-lt3.true)

pub returns : goal.returns
returns c =
    simp (le-leb _ _ c.if-n-lt3.false)
