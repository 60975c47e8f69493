use Rattle.std.proofs.Common.{◌≡◌, drop}
use Rattle.config_tree.specs.Started.{added}
use Rattle.config_tree.proofs.control.add_all.Given as goal

abbrev pub invariant-loop-number : goal.invariant-loop-number
invariant-loop-number l = added l.started.keys (drop l.number-index l.numbers) ≡ added l.initial.started.keys l.numbers
