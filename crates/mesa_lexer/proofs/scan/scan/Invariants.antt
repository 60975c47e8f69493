use Rattle.std.proofs.Common.{◌-◌, length}
use Rattle.mesa_lexer.proofs.Scanning.{Scanned}
use Rattle.mesa_lexer.proofs.scan.scan.Given as goal

abbrev pub invariant-loop-at : goal.invariant-loop-at
invariant-loop-at l = Scanned l.text l.at l.items l.position

abbrev pub decreases-loop-at : goal.decreases-loop-at
decreases-loop-at l = length l.text - l.at
