-- Those before this turn are at the end.
use Rattle.std.proofs.Common.{◌≡◌, ◌++◌, take}
use Rattle.check_state.proofs.growing.put_copies.Given as goal

abbrev pub invariant-loop-field : goal.invariant-loop-field
invariant-loop-field l = l.list ≡ l.fn.list ++ take l.field-index l.fields
