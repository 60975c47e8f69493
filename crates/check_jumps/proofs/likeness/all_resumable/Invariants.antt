use Rattle.std.proofs.Common.{◌≡◌, drop, map}
use Rattle.check_rules.specs.Around.{all_resumable}
use Rattle.check_state.specs.Views.{arm_label}
use Rattle.check_jumps.proofs.likeness.all_resumable.Given as goal

abbrev pub invariant-loop-one : goal.invariant-loop-one
invariant-loop-one l = all_resumable (map arm_label l.labels) ≡ all_resumable (map arm_label (drop l.one-index l.labels))
