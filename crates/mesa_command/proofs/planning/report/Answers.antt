use Rattle.std.proofs.lemmas.Result.{err_from_is_err_and}
use Rattle.command_lines.specs.Words.{behind_first}
use Rattle.command_rules.specs.Planning.{plan_in}
use Rattle.mesa_command.proofs.Printed.{no_room}
use Rattle.mesa_command.proofs.planning.report.Goals as goal

pub returns-in_err-bases-clause-passes : goal.returns-in_err-bases-clause-passes
returns-in_err-bases-clause-passes g c =
    let p = err_from_is_err_and c.from_residual.result c.from_residual.ensures.1 in
    rw p.1 (no_room (plan_in (behind_first c.args.words.now)) _ p.0 p.2)
