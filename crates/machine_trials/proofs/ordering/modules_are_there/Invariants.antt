use Rattle.std.proofs.Common.{◌<◌}
use Rattle.std.specs.List.{AllWithin}
use Rattle.object_files.specs.declared.image.Instance.{Instance}
use Rattle.machine_trials.proofs.ordering.modules_are_there.Given as goal

abbrev pub invariant-loop-number : goal.invariant-loop-number
invariant-loop-number l = AllWithin (λ (i : Instance). i.module < l.modules) l.instances 0 l.number
