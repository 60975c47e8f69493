use Rattle.std.proofs.Common.{[]}
use Rattle.std.proofs.lemmas.Result.{err_from_is_err_and}
use Rattle.command_writes.proofs.Behind.{asked_nothing}
use Rattle.command_writes.proofs.OneFile.{not_named}
use Rattle.command_writes.proofs.files.named_written.Goals as goal

pub returns-in_err-file-clause-stored : goal.returns-in_err-file-clause-stored
returns-in_err-file-clause-stored g c = λ value is.
    let p = err_from_is_err_and c.from_residual.result c.from_residual.ensures.1 in
    rw p.1 (not_named _ value _ p.0 p.2)

pub returns-clause-stored : goal.returns-clause-stored
returns-clause-stored g c = λ value is.
    rw (← c.in_ok-file.ensures) (c.file_written.ensures.stored value [] _ is (asked_nothing _))
