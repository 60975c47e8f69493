use Rattle.std.proofs.Common.{◌≡◌, ◌+◌, map, drop}
use Rattle.mesa_types.specs.Counts.{words_given}
use Rattle.mesa_types.specs.Plain.{expr, exprs}
use Rattle.code_counts.proofs.values.+values.Given as goal

abbrev pub invariant-words_together-loop-e : goal.invariant-words_together-loop-e
invariant-words_together-loop-e l = l.words + words_given (exprs (map expr (drop l.e-index l.es))) ≡ words_given (exprs (map expr l.es))
