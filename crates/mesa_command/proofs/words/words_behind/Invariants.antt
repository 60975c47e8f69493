use Rattle.std.proofs.Common.{◌≡◌, ◌-◌, take}
use Rattle.command_lines.specs.Words.{behind_first}
use Rattle.mesa_command.proofs.words.words_behind.Given as goal

abbrev pub invariant-loop-at : goal.invariant-loop-at
invariant-loop-at l = l.bases ≡ take (l.at - 1) (behind_first l.words)
