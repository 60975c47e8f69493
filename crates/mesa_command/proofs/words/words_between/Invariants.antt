use Rattle.std.proofs.Common.{◌≡◌, ◌-◌, take}
use Rattle.command_lines.specs.Words.{between}
use Rattle.mesa_command.proofs.words.words_between.Given as goal

abbrev pub invariant-loop-next : goal.invariant-loop-next
invariant-loop-next l = l.bases ≡ take (l.next - 2) (between l.words)
