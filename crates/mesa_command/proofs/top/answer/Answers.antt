use Rattle.std.proofs.Common.{refl}
use Rattle.command_lines.specs.Words.{form_in}
use Rattle.command_rules.specs.Case.{Usage}
use Rattle.command_rules.specs.Comes.{usage}
use Rattle.command_rules.specs.Forms.{WritesAlone, KeepsFiles, KeepsFolder, KeepsInput, KeepsSteps}
use Rattle.mesa_command.proofs.Forming.{comes_of, kept, well_formed}
use Rattle.mesa_command.proofs.top.answer.Goals as goal

pub to_form-requires : goal.to_form-requires
to_form-requires g c = well_formed c.args.words.now (form_in c.in-Some.form) c.in-Some.ensures.form

pub returns-in-Some-clause-comes : goal.returns-in-Some-clause-comes
returns-in-Some-clause-comes g c =
    let it = c.to_form.ensures.comes in
    (it.0, comes_of c.args.words.now (form_in c.in-Some.form) _ _ _ _ it.0 c.in-Some.ensures.form it.1, it.2)

pub returns-in-None-clause-comes : goal.returns-in-None-clause-comes
returns-in-None-clause-comes g c = (Usage, usage c.in-None.ensures.formless refl refl, c.told_usage.ensures)

pub returns-in-Some-clause-kept_input : goal.returns-in-Some-clause-kept_input
returns-in-Some-clause-kept_input g c = λ form has is.
    c.to_form.ensures.kept_input (kept c.words_have_one_form.ensures KeepsInput c.args.words.now (form_in c.in-Some.form) form c.in-Some.ensures.form has is)

pub returns-in-Some-clause-kept_output : goal.returns-in-Some-clause-kept_output
returns-in-Some-clause-kept_output g c = λ form has is.
    c.to_form.ensures.kept_output (kept c.words_have_one_form.ensures WritesAlone c.args.words.now (form_in c.in-Some.form) form c.in-Some.ensures.form has is)

pub returns-in-Some-clause-kept_steps : goal.returns-in-Some-clause-kept_steps
returns-in-Some-clause-kept_steps g c = λ form has is.
    c.to_form.ensures.kept_steps (kept c.words_have_one_form.ensures KeepsSteps c.args.words.now (form_in c.in-Some.form) form c.in-Some.ensures.form has is)

pub returns-in-Some-clause-kept_files : goal.returns-in-Some-clause-kept_files
returns-in-Some-clause-kept_files g c = λ form has is.
    c.to_form.ensures.kept_files (kept c.words_have_one_form.ensures KeepsFiles c.args.words.now (form_in c.in-Some.form) form c.in-Some.ensures.form has is)

pub returns-in-Some-clause-kept_folder : goal.returns-in-Some-clause-kept_folder
returns-in-Some-clause-kept_folder g c = λ form has is.
    c.to_form.ensures.kept_folder (kept c.words_have_one_form.ensures KeepsFolder c.args.words.now (form_in c.in-Some.form) form c.in-Some.ensures.form has is)

pub returns-in-Some-clause-formless_folder : goal.returns-in-Some-clause-formless_folder
returns-in-Some-clause-formless_folder g c = λ none. absurd (none (form_in c.in-Some.form) c.in-Some.ensures.form)
