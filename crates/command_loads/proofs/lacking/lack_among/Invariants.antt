-- The host has those so far.
use Rattle.std.proofs.Common.{All, take}
use Rattle.interface_records.specs.Hosts.{IsHostItem}
use Rattle.command_loads.specs.Lacking.{built_in_of}
use Rattle.command_loads.proofs.lacking.lack_among.Given as goal

abbrev pub invariant-loop-wanted : goal.invariant-loop-wanted
invariant-loop-wanted l = All IsHostItem (built_in_of (take l.wanted-index l.wanteds))
