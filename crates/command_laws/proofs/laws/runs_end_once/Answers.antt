use Rattle.command_laws.proofs.OneEnd.{one_run}
use Rattle.command_laws.proofs.laws.runs_end_once.Goals as goal

pub returns : goal.returns
returns c = one_run
