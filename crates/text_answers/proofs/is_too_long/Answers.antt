-- is_too_long meets its contract.
use Rattle.text_answers.proofs.is_too_long.Goals as goal

pub returns-in-Refine : goal.returns-in-Refine
returns-in-Refine c =
    rw c.in-Refine.is
