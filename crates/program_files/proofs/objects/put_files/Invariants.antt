use Rattle.std.proofs.Common.{take}
use Rattle.std.specs.List.{AllZip}
use Rattle.program_files.specs.Objects.{HasFile}
use Rattle.program_files.proofs.objects.put_files.Given as goal

abbrev pub invariant-loop-object : goal.invariant-loop-object
invariant-loop-object l = AllZip HasFile (take l.object-index l.objects) l.files
