use Rattle.std.proofs.Common.{◌≡◌, map, take}
use Rattle.link_tables.specs.Modules.{numbered}
use Rattle.link_tables.proofs.modules.instances_of.Given as goal

abbrev pub invariant-loop-instance : goal.invariant-loop-instance
invariant-loop-instance l = l.made ≡ map (numbered l.numbers) (take l.instance-index l.instances)
