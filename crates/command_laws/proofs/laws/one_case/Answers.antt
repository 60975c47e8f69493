use Rattle.command_laws.proofs.OneCase.{one_case}
use Rattle.command_laws.proofs.laws.one_case.Goals as goal

pub returns : goal.returns
returns c = one_case c.passes_are_exact.ensures c.depths_do_not_matter.ensures c.loads_are_alike.ensures
