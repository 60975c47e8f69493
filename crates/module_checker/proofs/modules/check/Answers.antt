use Rattle.std.proofs.Common.{sym, subst}
use Rattle.mesa_types.specs.Plain.{plain as plain_module}
use Rattle.check_rules.specs.Steps.{Checked}
use Rattle.check_rules.specs.Typed as t
use Rattle.check_state.specs.Gives.{GivesOnly}
use Rattle.module_checker.proofs.ModuleLaws.{checked_program}
use Rattle.module_checker.proofs.modules.check.Goals as goal

pub returns-in-Program : goal.returns-in-Program
returns-in-Program c =
    subst (λ (r : Checked t.Module). GivesOnly plain_module r c.program.result)
    (sym (checked_program c.args.module.now c.args.interfaces.now c.in-Program.place c.as_slice.result.now c.as_slice-in-Program.result.now
    c.as_slice-in-Program-2.result.now c.in-Program.inner (cc)))
    c.program.ensures
