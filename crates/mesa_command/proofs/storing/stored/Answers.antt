use Rattle.command_lines.specs.command_passes.specs.Stops.{stop_case}
use Rattle.mesa_command.proofs.Filing.{not_made, was_stored}
use Rattle.mesa_command.proofs.storing.stored.Goals as goal

pub returns-in-Ok : goal.returns-in-Ok
returns-in-Ok g c = λ value trail before are asked.
    let is = rw c.in-Ok.is at are in
    was_stored c.args.file value trail before _ c.in-Ok.bytes c.file_written.result is
    (c.file_written.ensures.stored value trail before (rw c.as_slice.ensures is) asked)

pub returns-in-Err : goal.returns-in-Err
returns-in-Err g c = λ value trail before are asked.
    not_made c.args.file value trail before _ c.in-Err.why (stop_case c.unmade.result) (rw c.in-Err.is at are) c.unmade.ensures asked
