use Rattle.std.proofs.Common.{ℕ, ◌≤◌, ◌<◌}
use Rattle.command_lines.specs.Words.{IsBaseAt}
use Rattle.command_lines.proofs.run_words.run_of.Given as goal

abbrev pub invariant-loop-at : goal.invariant-loop-at
invariant-loop-at l = (k : ℕ) → 1 ≤ k → k < l.at → IsBaseAt l.words k
