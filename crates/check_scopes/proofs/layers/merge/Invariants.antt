-- They say together what they said.
use Rattle.std.proofs.Common.{◌≡◌, length}
use Rattle.check_scopes.specs.Shows.{layered}
use Rattle.check_scopes.proofs.layers.merge.Given as goal

abbrev pub invariant-loop-newer : goal.invariant-loop-newer
invariant-loop-newer g l = layered l.layers.items ≡ layered l.fn.layers.items

abbrev pub decreases-loop-newer : goal.decreases-loop-newer
decreases-loop-newer g l = length l.layers.items
