use Rattle.std.proofs.Common.{take, All}
use Rattle.machine_ready.specs.Hosts.{IsHostItem}
use Rattle.machine_ready.proofs.hosts.all_offered.Given as goal

abbrev pub invariant-loop-wanted : goal.invariant-loop-wanted
invariant-loop-wanted l = All IsHostItem (take l.wanted-index l.wanteds)
