use Rattle.std.proofs.Common.{◌≡◌, true, sym, ◌∙◌}
use Rattle.config_rules.specs.Components.{is_file_base}
use Rattle.command_passes.specs.command_rules.specs.Forms.{compile}
use Rattle.command_lines.proofs.form.compile_of.Goals as goal

pub returns-then-is_file_base-clause-form : goal.returns-then-is_file_base-clause-form
returns-then-is_file_base-clause-form c =
    let named : is_file_base c.args.base.now ≡ true = sym c.is_file_base.ensures ∙ c.if-is_file_base.true in compile c.args.base.now named
