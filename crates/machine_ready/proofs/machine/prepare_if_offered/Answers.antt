use Rattle.std.proofs.Common.{All, subst}
use Rattle.machine_ready.specs.Hosts.{IsHostItem}
use Rattle.machine_ready.proofs.machine.prepare_if_offered.Goals as goal

pub prepare-requires-clause-host : goal.prepare-requires-clause-host
prepare-requires-clause-host c = subst (All IsHostItem) c.as_slice.ensures c.in_ok-all_from_host.ensures.ok
