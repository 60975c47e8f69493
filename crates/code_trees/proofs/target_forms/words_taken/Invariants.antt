use Rattle.std.proofs.Common.{◌≡◌, ◌+◌, drop}
use Rattle.code_rules.specs.CodeFor.{words_taken}
use Rattle.code_trees.proofs.target_forms.words_taken.Given as goal

abbrev pub invariant-loop-part : goal.invariant-loop-part
invariant-loop-part l = l.words + words_taken (drop l.part-index l.taken) ≡ words_taken l.taken
