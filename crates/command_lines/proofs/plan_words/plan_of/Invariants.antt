use Rattle.std.proofs.Common.{ℕ, ◌≤◌, ◌<◌}
use Rattle.command_lines.specs.Words.{IsFit}
use Rattle.command_lines.proofs.plan_words.plan_of.Given as goal

abbrev pub invariant-loop-at : goal.invariant-loop-at
invariant-loop-at l = (k : ℕ) → 1 ≤ k → k < l.at → IsFit l.words k
