use Rattle.std.proofs.Common.{◌≡◌, ◌++◌, take}
use Rattle.listing_rules.specs.Images.{instances_from}
use Rattle.listing_writers.proofs.images.put_instances.Given as goal

abbrev pub invariant-instances : goal.invariant-instances
invariant-instances l = l.out ≡ l.fn.out ++ instances_from l.instances l.tables 0 (take l.i l.all)
