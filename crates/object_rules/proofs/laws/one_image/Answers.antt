use Rattle.object_rules.proofs.ImageFileLaws.{one_image}
use Rattle.object_rules.proofs.laws.one_image.Goals as goal

pub returns : goal.returns
returns c = one_image
