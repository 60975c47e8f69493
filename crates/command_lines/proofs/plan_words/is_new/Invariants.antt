use Rattle.std.proofs.Common.{◌≢◌, ℕ, ◌≤◌, ◌<◌, Some, slice_get}
use Rattle.command_lines.proofs.plan_words.is_new.Given as goal

abbrev pub invariant-loop-before : goal.invariant-loop-before
invariant-loop-before l = (k : ℕ) → 1 ≤ k → k < l.before → slice_get l.words k ≢ Some l.base
