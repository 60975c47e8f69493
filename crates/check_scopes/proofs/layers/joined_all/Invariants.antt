-- What is in one index, over those that are not yet, says what all say.
use Rattle.std.proofs.Common.{◌≡◌, length}
use Rattle.check_scopes.specs.Scopes.{over}
use Rattle.check_scopes.specs.Shows.{layered, valued}
use Rattle.check_scopes.proofs.layers.joined_all.Given as goal

abbrev pub invariant-loop-layer : goal.invariant-loop-layer
invariant-loop-layer g l = over (valued l.all) (layered l.layers) ≡ over (valued l.fn.newest) (layered l.fn.layers)

abbrev pub decreases-loop-layer : goal.decreases-loop-layer
decreases-loop-layer g l = length l.layers
