use Rattle.std.proofs.lemmas.Result.{err_from_is_err_and}
use Rattle.command_lines.specs.Words.{between}
use Rattle.mesa_command.proofs.Calls.{no_room_loaded}
use Rattle.mesa_command.proofs.loading.loaded.Goals as goal

pub returns-in_err-bases-clause-loads : goal.returns-in_err-bases-clause-loads
returns-in_err-bases-clause-loads g c =
    let p = err_from_is_err_and c.from_residual.result c.from_residual.ensures.1 in
    rw p.1 (no_room_loaded (between c.args.words.now) _ p.0 p.2)
