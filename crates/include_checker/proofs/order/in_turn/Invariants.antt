use Rattle.std.proofs.Common.{length}
use Rattle.include_rules.specs.Order.{Takes}
use Rattle.include_checker.proofs.Taking.{count_left}
use Rattle.include_checker.proofs.order.in_turn.Given as goal

abbrev pub invariant-turns : goal.invariant-turns
invariant-turns l = Takes l.names l.taken

abbrev pub decreases-turns : goal.decreases-turns
decreases-turns l = count_left l.taken (length l.names)
