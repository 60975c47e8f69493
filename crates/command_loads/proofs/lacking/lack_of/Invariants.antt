-- The host has what the images so far want of it.
use Rattle.std.proofs.Common.{All, take}
use Rattle.command_loads.specs.Lacking.{HasFor}
use Rattle.command_loads.proofs.lacking.lack_of.Given as goal

abbrev pub invariant-loop-number : goal.invariant-loop-number
invariant-loop-number l = All HasFor (take l.number l.images)
