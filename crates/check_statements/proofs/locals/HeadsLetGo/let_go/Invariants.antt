use Rattle.std.proofs.Common.{deque_len}
use Rattle.check_statements.proofs.locals.HeadsLetGo.let_go.Given as goal

abbrev pub decreases-loop-one : goal.decreases-loop-one
decreases-loop-one l = deque_len l.items
