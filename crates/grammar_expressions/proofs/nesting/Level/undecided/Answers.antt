use Rattle.std.proofs.Common.{arith}
use Rattle.std.proofs.lemmas.Grind.{common_steps}
use Rattle.grammar_expressions.proofs.FieldLoops.{behind_less, behind_no_more}
use Rattle.grammar_expressions.proofs.nesting.Level.undecided.Goals as goal

pub names-smaller : goal.names-smaller
names-smaller g c = grind (arith, common_steps, behind_less, behind_no_more)
