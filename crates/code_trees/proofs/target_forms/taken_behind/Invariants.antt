use Rattle.std.proofs.Common.{◌≡◌, ◌+◌, drop}
use Rattle.code_rules.specs.CodeFor.{taken_behind}
use Rattle.code_trees.proofs.target_forms.taken_behind.Given as goal

abbrev pub invariant-loop-other : goal.invariant-loop-other
invariant-loop-other l = l.words + taken_behind l.part (drop l.other-index l.taken) ≡ taken_behind l.part l.taken
