use Rattle.object_rules.proofs.ImageFileLaws.{one_image_fault}
use Rattle.object_rules.proofs.laws.one_image_fault.Goals as goal

pub returns : goal.returns
returns c = one_image_fault
