-- The parts are together what they were.
use Rattle.std.proofs.Common.{◌≡◌, length}
use Rattle.check_state.specs.Growing.{together}
use Rattle.check_state.proofs.growing.merge.Given as goal

abbrev pub invariant-loop-newer : goal.invariant-loop-newer
invariant-loop-newer l = together l.parts.items ≡ together l.fn.parts.items

abbrev pub decreases-loop-newer : goal.decreases-loop-newer
decreases-loop-newer l = length l.parts.items
