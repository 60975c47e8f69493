use Rattle.std.proofs.Common.{map, sym, subst}
use Rattle.mesa_types.specs.Plain.{plain as plain_module}
use Rattle.syntax_trees.specs.PlainSyntax as plain
use Rattle.interface_records.specs.PlainTypes.{plain_interface}
use Rattle.check_rules.specs.Steps.{Checked}
use Rattle.check_rules.specs.Typed as t
use Rattle.check_programs.specs.Views as parts
use Rattle.check_state.specs.Gives.{GivesOnly}
use Rattle.module_checker.proofs.ModuleLaws.{program_is}
use Rattle.module_checker.proofs.modules.program.Goals as goal

pub returns : goal.returns
returns c =
    subst (λ (r : Checked t.Module). GivesOnly plain_module r c.module_of.result)
    (sym (program_is (plain.syntax c.args.module.now) (map plain_interface c.args.interfaces.now) c.args.imports.now c.args.exports.now c.args.opens.now
    (plain.inner c.args.inner.now) (parts.whole c.in_ok-whole.whole) c.in_ok-whole.strings c.in_ok-all_listed.ensures c.in_ok-whole.ensures))
    c.module_of.ensures
