-- The rows before this turn are copied.
use Rattle.std.proofs.Common.{◌≡◌, take}
use Rattle.check_scopes.proofs.Marking.{lists}
use Rattle.check_scopes.proofs.marks.Marks.copy.Given as goal

abbrev pub invariant-loop-row : goal.invariant-loop-row
invariant-loop-row l = lists l.rows.items ≡ lists (take l.row-index l.row-items)
