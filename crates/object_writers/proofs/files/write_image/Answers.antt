use Rattle.object_writers.proofs.ImageLaws.{image_fits}
use Rattle.object_writers.proofs.WholeLaws.{image_written}
use Rattle.object_writers.proofs.files.write_image.Goals as goal

pub put_image_file-requires : goal.put_image_file-requires
put_image_file-requires c = image_fits c.args.image.now c.requires.fits

pub returns-in-Ok-clause-ok : goal.returns-in-Ok-clause-ok
returns-in-Ok-clause-ok c =
    (image_written c.args.image.now c.new-out.result c.put_image_file.new.out c.into_bytes.result c.requires.fits c.requires.whole c.new-out.ensures c.in-Ok.ensures c.into_bytes.ensures).0

pub returns-in-Ok-clause-too_large : goal.returns-in-Ok-clause-too_large
returns-in-Ok-clause-too_large c =
    (image_written c.args.image.now c.new-out.result c.put_image_file.new.out c.into_bytes.result c.requires.fits c.requires.whole c.new-out.ensures c.in-Ok.ensures c.into_bytes.ensures).1
