use Rattle.object_rules.proofs.ObjectLaws.{one_object}
use Rattle.object_rules.proofs.laws.one_object.Goals as goal

pub returns : goal.returns
returns c = one_object
