use Rattle.mesa_command.specs.Printing.{not_printed, printed}
use Rattle.mesa_command.proofs.printing.printed.Goals as goal

pub returns-in-Ok : goal.returns-in-Ok
returns-in-Ok g c = printed c.in-Ok.ensures.appended

pub returns-in-Err : goal.returns-in-Err
returns-in-Err g c = not_printed c.in-Err.ensures.fault c.in-Err.ensures.partly
