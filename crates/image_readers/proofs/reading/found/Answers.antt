use Rattle.std.proofs.Common.{refl}
use Rattle.image_readers.proofs.Made.{all_in_range, few_modules, image_found, code_fault_found, file_fault_found}
use Rattle.object_rules.proofs.ImageFileLaws.{modules_fit}
use Rattle.image_readers.specs.Rows.{image_part}
use Rattle.image_readers.proofs.reading.found.Goals as goal

pub image-requires-clause-few : goal.image-requires-clause-few
image-requires-clause-few c = few_modules c.in-Ok.ensures.found.0 (image_part c.in-Ok.rows) c.in-Ok.rows.head.modules refl c.in-Ok.ensures.found.1.spells.fits.1

pub image-requires-clause-ranges : goal.image-requires-clause-ranges
image-requires-clause-ranges c =
    all_in_range c.in-Ok.ensures.found.0 c.in-Ok.rows.head.modules c.in-Ok.ensures.whole
    (modules_fit c.in-Ok.ensures.found.0 (image_part c.in-Ok.rows) c.in-Ok.ensures.found.1.spells.fits.1)

pub returns-in-Ok-clause-found : goal.returns-in-Ok-clause-found
returns-in-Ok-clause-found c = image_found c.args.bytes.now c.in-Ok.ensures.found.0 c.in-Ok.rows c.image.result c.in-Ok.ensures.found.1 c.image.ensures.made

pub returns-in-Ok-clause-fault : goal.returns-in-Ok-clause-fault
returns-in-Ok-clause-fault c = code_fault_found c.args.bytes.now c.in-Ok.ensures.found.0 c.in-Ok.rows c.image.result c.in-Ok.ensures.found.1 c.image.ensures.fault

pub returns-in-Err-clause-fault : goal.returns-in-Err-clause-fault
returns-in-Err-clause-fault c = λ other. file_fault_found c.args.bytes.now c.in-Err.fault c.file_fault.result c.file_fault.ensures c.in-Err.ensures.fault other
