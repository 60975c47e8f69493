use Rattle.std.proofs.Common.{◌≡◌, ◌+◌, drop}
use Rattle.code_rules.specs.CodeFor.{words_before_last}
use Rattle.code_trees.proofs.sums.words_before.Given as goal

abbrev pub invariant-loop-part : goal.invariant-loop-part
invariant-loop-part l = l.words + words_before_last (drop l.part-index l.parts) ≡ words_before_last l.parts
