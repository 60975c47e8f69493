use Rattle.std.proofs.Common.{◌≡◌, take, map}
use Rattle.check_rules.specs.Around.{label_of}
use Rattle.check_state.specs.Views.{arm_label}
use Rattle.check_jumps.proofs.naming.labels_of.Given as goal

abbrev pub invariant-loop-one : goal.invariant-loop-one
invariant-loop-one l = l.made ≡ map label_of (map arm_label (take l.one-index l.labels))
