use Rattle.std.proofs.Common.{Err, Ok, [], ◌∷◌, ap}
use Rattle.command_passes.specs.Stops.{stop_case}
use Rattle.command_passes.specs.command_rules.specs.Writing.{holding}
use Rattle.command_writes.proofs.Behind.{ends_asked}
use Rattle.command_writes.proofs.OneFile.{file_not_stored, file_stored}
use Rattle.command_writes.proofs.files.file_written.Goals as goal

pub returns-in-Ok-clause-stored : goal.returns-in-Ok-clause-stored
returns-in-Ok-clause-stored g c = λ value trail before is asked.
    let wrote = rw c.as_str.ensures at c.in-Ok.ensures in
    ends_asked (holding c.args.file value ∷ []) trail before _ _ (Ok (tt {0})) asked
    (file_stored c.args.file value c.args.bytes.now _ _ is wrote.called wrote.written)

pub returns-in-Err-clause-stored : goal.returns-in-Err-clause-stored
returns-in-Err-clause-stored g c = λ value trail before is asked.
    let wrote = rw c.as_str.ensures at c.in-Err.ensures in
    ends_asked (holding c.args.file value ∷ []) trail before _ _ (Err c.unread.result) asked
    (file_not_stored c.args.file value _ _ c.in-Err.why (stop_case c.unread.result) c.unread.ensures (λ absent. wrote.never_absent (ap Err absent))
    wrote.called wrote.others (λ fault. wrote.fault (ap Err fault)))
