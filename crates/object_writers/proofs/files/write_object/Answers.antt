use Rattle.object_writers.proofs.ModuleLaws.{module_fits}
use Rattle.object_writers.proofs.WholeLaws.{object_written}
use Rattle.object_writers.proofs.files.write_object.Goals as goal

pub put_object_file-requires : goal.put_object_file-requires
put_object_file-requires c = module_fits c.args.object.now c.requires.fits

pub returns-in-Ok-clause-ok : goal.returns-in-Ok-clause-ok
returns-in-Ok-clause-ok c =
    (object_written c.args.object.now c.new-out.result c.put_object_file.new.out c.into_bytes.result c.requires.fits c.requires.whole c.new-out.ensures c.in-Ok.ensures c.into_bytes.ensures).0

pub returns-in-Ok-clause-too_large : goal.returns-in-Ok-clause-too_large
returns-in-Ok-clause-too_large c =
    (object_written c.args.object.now c.new-out.result c.put_object_file.new.out c.into_bytes.result c.requires.fits c.requires.whole c.new-out.ensures c.in-Ok.ensures c.into_bytes.ensures).1
