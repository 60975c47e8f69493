use Rattle.object_rules.proofs.ObjectLaws.{one_object_spelling}
use Rattle.object_rules.proofs.laws.one_object_spelling.Goals as goal

pub returns : goal.returns
returns c = one_object_spelling
