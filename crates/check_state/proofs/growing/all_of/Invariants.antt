-- All of the parts before this turn is there.
use Rattle.std.proofs.Common.{◌≡◌, take}
use Rattle.check_state.specs.Growing.{together}
use Rattle.check_state.proofs.growing.all_of.Given as goal

abbrev pub invariant-loop-part : goal.invariant-loop-part
invariant-loop-part l = l.all ≡ together (take l.part-index l.parts)
