use Rattle.command_laws.proofs.RunsMeant.{linked_runs_meant}
use Rattle.command_laws.proofs.laws.runs_are_meant.Goals as goal

pub returns : goal.returns
returns c = linked_runs_meant
