use Rattle.std.proofs.Common.{◌≡◌, take}
use Rattle.machine_rules.specs.LookUps.{signals_bound}
use Rattle.machine_ready.proofs.links.signals_bound.Given as goal

abbrev pub invariant-loop-number : goal.invariant-loop-number
invariant-loop-number l = l.signals ≡ signals_bound (take l.number l.links) l.table
