-- What is sought in the older ones is what was sought.
use Rattle.std.proofs.Common.{◌≡◌, length}
use Rattle.check_scopes.specs.Shows.{layered}
use Rattle.check_scopes.proofs.layers.found.Given as goal

abbrev pub invariant-loop-layer : goal.invariant-loop-layer
invariant-loop-layer g l = layered l.fn.layers l.name ≡ layered l.layers l.name

abbrev pub decreases-loop-layer : goal.decreases-loop-layer
decreases-loop-layer g l = length l.layers
