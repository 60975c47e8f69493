use Rattle.code_forms.proofs.RunsRight.{runs_in_range}
use Rattle.code_forms.proofs.law.runs_in_range.Goals as goal

pub returns : goal.returns
returns c = runs_in_range
