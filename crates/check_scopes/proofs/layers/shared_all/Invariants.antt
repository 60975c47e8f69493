-- Those before this turn are shared.
use Rattle.std.proofs.Common.{◌≡◌, take}
use Rattle.check_scopes.proofs.layers.shared_all.Given as goal

abbrev pub invariant-loop-part : goal.invariant-loop-part
invariant-loop-part g l = l.shared.items ≡ take l.part-index l.parts
