use Rattle.image_readers.proofs.Made.{only_one, first_one}
use Rattle.image_readers.proofs.reading.read_image.Goals as goal

pub returns-clause-only : goal.returns-clause-only
returns-clause-only c = only_one c.args.bytes.now c.found.result c.found.ensures.found c.found.ensures.fault

pub returns-clause-first : goal.returns-clause-first
returns-clause-first c = first_one c.args.bytes.now c.found.result c.found.ensures.found c.found.ensures.fault
