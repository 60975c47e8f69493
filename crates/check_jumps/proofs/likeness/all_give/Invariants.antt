use Rattle.std.proofs.Common.{◌≡◌, drop, map}
use Rattle.check_rules.specs.Around.{all_give}
use Rattle.check_state.specs.Views.{arm_label, fields}
use Rattle.check_jumps.proofs.likeness.all_give.Given as goal

abbrev pub invariant-loop-one : goal.invariant-loop-one
invariant-loop-one l = all_give (fields l.fields) (map arm_label l.labels) ≡ all_give (fields l.fields) (map arm_label (drop l.one-index l.labels))
