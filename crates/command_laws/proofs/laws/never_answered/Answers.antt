use Rattle.command_rules.proofs.Never.{never_answered}
use Rattle.command_laws.proofs.laws.never_answered.Goals as goal

pub returns : goal.returns
returns c = never_answered
