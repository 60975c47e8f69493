use Rattle.object_rules.proofs.ImageFileLaws.{one_image_spelling}
use Rattle.object_rules.proofs.laws.one_image_spelling.Goals as goal

pub returns : goal.returns
returns c = one_image_spelling
