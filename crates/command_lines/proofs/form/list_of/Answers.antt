use Rattle.command_passes.specs.Kinds.{kind_in}
use Rattle.command_lines.proofs.Forming.{has_list}
use Rattle.command_lines.proofs.form.list_of.Goals as goal

pub returns-clause-form : goal.returns-clause-form
returns-clause-form c =
    has_list c.args.name.now (kind_in c.in_ok-named.named.kind) c.in_ok-named.named.base.now c.in_ok-named.ensures.0 c.in_ok-named.ensures.1
