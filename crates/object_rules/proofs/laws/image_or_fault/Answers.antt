use Rattle.object_rules.proofs.ImageFileLaws.{image_or_fault}
use Rattle.object_rules.proofs.laws.image_or_fault.Goals as goal

pub returns : goal.returns
returns c = image_or_fault
