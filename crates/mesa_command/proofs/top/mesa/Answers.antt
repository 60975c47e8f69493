use Rattle.std.proofs.Common.{subst}
use Rattle.command_rules.specs.Case.{IsBeforeWrite}
use Rattle.mesa_command.proofs.top.mesa.Goals as goal

pub returns-clause-answered : goal.returns-clause-answered
returns-clause-answered g c = c.cases_are_answers.ensures _ _ _ _ c.answer.ensures.comes

pub returns-clause-before_write_files : goal.returns-clause-before_write_files
returns-clause-before_write_files g c = λ before.
    let it = c.answer.ensures.comes in
    c.order_is_kept.ensures.written c.args.words.now _ _ _ _ it.0 it.1 (subst IsBeforeWrite it.2.status_is before)

pub returns-clause-usage_folder : goal.returns-clause-usage_folder
returns-clause-usage_folder g c = λ used.
    let answered = c.cases_are_answers.ensures _ _ _ _ c.answer.ensures.comes in
    c.answer.ensures.formless_folder (answered.usage.0 used)
