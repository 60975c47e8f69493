use Rattle.std.proofs.Common.{◌≡◌, drop, map}
use Rattle.check_rules.specs.Around.{all_like}
use Rattle.interface_records.specs.PlainTypes.{plain_item}
use Rattle.check_state.specs.Views.{arm_label}
use Rattle.check_jumps.proofs.likeness.all_like.Given as goal

abbrev pub invariant-loop-one : goal.invariant-loop-one
invariant-loop-one l = all_like (plain_item l.head) (map arm_label l.labels) ≡ all_like (plain_item l.head) (map arm_label (drop l.one-index l.labels))
