use Rattle.std.proofs.Common.{rules, ◌<◌, ◌^◌}
use Rattle.command_lines.proofs.Forming.{has_exercise}
use Rattle.command_lines.proofs.form.exercise_of.Goals as goal

pub returns-clause-form : goal.returns-clause-form
returns-clause-form c =
    let bounded : c.in_ok-turns.turns < 2 ^ 64 = search rules in
    has_exercise c.args.number.now c.args.count.now c.in_ok-links.links c.in_ok-turns.turns c.in_ok-links.ensures.0 c.in_ok-links.ensures.1 bounded
    c.in_ok-links.ensures.2 c.in_ok-turns.ensures.reads_nothing_else
