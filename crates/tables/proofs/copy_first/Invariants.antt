-- copy_first meets its contract. The invariant: the first i elements are copied.
use mathlib.Core.Path.{◌≡◌}
use lib.ListN.{length}
use Rattle.tables.specs.Rows.{over}
use Rattle.tables.proofs.copy_first.Given as goal

abbrev pub invariant-loop-i : goal.invariant-loop-i
invariant-loop-i g l = (length l.elements ≡ length l.initial.elements) × (l.elements ≡ over l.i l.new l.initial.elements)
