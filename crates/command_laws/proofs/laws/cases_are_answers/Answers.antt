use Rattle.command_laws.proofs.Answering.{is_answered}
use Rattle.command_laws.proofs.laws.cases_are_answers.Goals as goal

pub returns : goal.returns
returns c = is_answered c.passes_are_exact.ensures c.depths_do_not_matter.ensures c.loads_are_alike.ensures
