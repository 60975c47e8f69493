use Rattle.std.proofs.Common.{length}
use Rattle.program_files.proofs.Files.{no_more, put_fails, put_more}
use Rattle.program_files.proofs.objects.put_file.Goals as goal

pub returns-in-Ok-clause-ok : goal.returns-in-Ok-clause-ok
returns-in-Ok-clause-ok c =
    put_more c.args.object.now c.in-Ok.file c.args.files.now c.put.new.files c.put.result c.put.ensures.ok c.in-Ok.ensures.ok c.in-Ok.ensures.too_large

pub returns-in-Ok-clause-fault : goal.returns-in-Ok-clause-fault
returns-in-Ok-clause-fault c = put_fails c.args.object.now (length c.args.files.now) c.put.result c.put.ensures.fault

pub returns-in-Err-clause-fault : goal.returns-in-Err-clause-fault
returns-in-Err-clause-fault c =
    no_more c.args.object.now (length c.args.files.now) c.len.result c.in-Err.fault c.fault_of.result c.len.ensures c.fault_of.ensures c.in-Err.ensures.too_large
