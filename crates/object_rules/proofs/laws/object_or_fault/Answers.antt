use Rattle.object_rules.proofs.ObjectLaws.{object_or_fault}
use Rattle.object_rules.proofs.laws.object_or_fault.Goals as goal

pub returns : goal.returns
returns c = object_or_fault
