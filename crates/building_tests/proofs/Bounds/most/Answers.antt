-- most meets its contract.
use Rattle.building_tests.proofs.Bounds.most.Goals as goal

pub returns-in-General : goal.returns-in-General
returns-in-General c =
    rw c.in-General.is

pub returns-in-Refine : goal.returns-in-Refine
returns-in-Refine c =
    rw c.in-Refine.is
