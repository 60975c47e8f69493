-- What is put so far, and then the rest, is all.
use Rattle.std.proofs.Common.{◌≡◌, ◌++◌, drop}
use Rattle.load_checks.specs.Wanting.{entries_shown}
use Rattle.load_checks.proofs.wanting.put_copies.Given as goal

abbrev pub invariant-loop-entry : goal.invariant-loop-entry
invariant-loop-entry l = l.wanteds ++ drop l.entry-index (entries_shown l.entries) ≡ l.initial.wanteds ++ entries_shown l.entries
