use Rattle.grammar_rules.proofs.Whole.{one_answer}
use Rattle.grammar_rules.proofs.laws.exactly_one_answer.Goals as goal

pub returns : goal.returns
returns c = one_answer _
