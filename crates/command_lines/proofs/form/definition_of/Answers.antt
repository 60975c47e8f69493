use Rattle.std.proofs.Common.{rules, ◌≡◌, true, Some, sym, ◌∙◌}
use Rattle.mesa_base.specs.Stamp.{stamp_of}
use Rattle.config_rules.specs.Components.{is_file_base}
use Rattle.command_passes.specs.command_rules.specs.Forms.{define}
use Rattle.command_lines.proofs.form.definition_of.Goals as goal

pub returns-clause-form : goal.returns-clause-form
returns-clause-form c =
    let named : is_file_base c.args.base.now ≡ true = search rules in
    let stamped : stamp_of c.args.word.now ≡ Some c.in_ok-stamp.stamp = sym c.parse.ensures ∙ c.in_ok-stamp.was in
    define c.args.base.now c.args.word.now c.in_ok-stamp.stamp named stamped
