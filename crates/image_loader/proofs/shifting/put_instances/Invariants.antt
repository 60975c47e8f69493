use Rattle.std.proofs.Common.{◌≡◌, ◌++◌, map, take}
use Rattle.image_loader.specs.Standing.{instance_by}
use Rattle.image_loader.proofs.shifting.put_instances.Given as goal

abbrev pub invariant-loop-instance : goal.invariant-loop-instance
invariant-loop-instance l = l.all ≡ l.initial.all ++ map (instance_by l.standing) (take l.instance-index l.instances)
