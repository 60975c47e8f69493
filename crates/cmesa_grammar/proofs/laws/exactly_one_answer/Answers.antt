use Rattle.cmesa_grammar.proofs.Whole.{one_answer}
use Rattle.cmesa_grammar.proofs.laws.exactly_one_answer.Goals as goal

pub returns : goal.returns
returns c = one_answer _
