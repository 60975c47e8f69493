use Rattle.std.proofs.Common.{rules, ◌<◌, ◌^◌}
use Rattle.command_lines.specs.Words.{source_in}
use Rattle.command_lines.proofs.Forming.{has_go}
use Rattle.command_lines.proofs.form.go_of.Goals as goal

pub returns-clause-form : goal.returns-clause-form
returns-clause-form c =
    let bounded : c.in_ok-turns.turns < 2 ^ 64 = search rules in
    has_go c.args.name.now c.args.count.now (source_in c.in_ok-named.named.source) c.in_ok-named.named.base.now c.in_ok-turns.turns
    c.in_ok-named.ensures.0 bounded c.in_ok-named.ensures.1 c.in_ok-turns.ensures.reads_nothing_else
