use Rattle.std.proofs.Common.{deque_len}
use Rattle.code_trees.proofs.held_parts.HeldLetGo.let_go.Given as goal

abbrev pub decreases-loop-part : goal.decreases-loop-part
decreases-loop-part l = deque_len l.parts
