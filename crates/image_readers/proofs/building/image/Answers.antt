use Rattle.image_readers.proofs.Made.{image_made}
use Rattle.image_readers.proofs.building.image.Goals as goal

pub returns-clause-made : goal.returns-clause-made
returns-clause-made c = (image_made c.args.rows c.in-Ok.modules c.in-Ok.ensures.made.0, c.in-Ok.ensures.made.1)
