use Rattle.interface_writers.proofs.WholeLaws.{written_whole}
use Rattle.interface_writers.proofs.files.write_interface.Goals as goal

pub returns-in-Ok-clause-ok : goal.returns-in-Ok-clause-ok
returns-in-Ok-clause-ok c = (written_whole c.args.interface.now c.new-out.result c.put_file.new.out c.into_bytes.result c.requires c.new-out.ensures c.in-Ok.ensures c.into_bytes.ensures).0

pub returns-in-Ok-clause-too_large : goal.returns-in-Ok-clause-too_large
returns-in-Ok-clause-too_large c = (written_whole c.args.interface.now c.new-out.result c.put_file.new.out c.into_bytes.result c.requires c.new-out.ensures c.in-Ok.ensures c.into_bytes.ensures).1
