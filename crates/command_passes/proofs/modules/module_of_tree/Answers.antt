use Rattle.std.proofs.Common.{Err, Ok}
use Rattle.std.proofs.lemmas.Result.{err_from_is_err_and}
use Rattle.syntax_trees.specs.PlainSyntax.{syntax}
use Rattle.mesa_types.specs.Plain.{plain}
use Rattle.command_rules.specs.checked_texts.specs.Asked.{asks}
use Rattle.command_rules.specs.checked_texts.specs.Texts.{HasCheckFault}
use Rattle.command_rules.specs.checked_texts.specs.declared.purpose.Purpose.TheVariants.{Program}
use Rattle.command_rules.specs.Modules.{Checks, checked, interface_for, wrong}
use Rattle.command_passes.specs.Stops.{stop_case}
use Rattle.command_passes.proofs.Faults.{fault_told}
use Rattle.command_passes.proofs.OneProgram.{no_interfaces, program_checked}
use Rattle.command_passes.proofs.Steps.{one_for_each}
use Rattle.command_passes.proofs.modules.module_of_tree.Goals as goal

pub returns-in_err-interfaces-clause-passes : goal.returns-in_err-interfaces-clause-passes
returns-in_err-interfaces-clause-passes g c = λ bytes h.
    let p = err_from_is_err_and c.from_residual.result c.from_residual.ensures.1 in
    rw (p.1, p.2) (no_interfaces c.args.file bytes c.args.tree.now _ _ (stop_case c.in_err-interfaces.field-0.0) c.in_err-interfaces.ensures.passes)

pub checked_program-requires : goal.checked_program-requires
checked_program-requires g c =
    rw c.as_slice.ensures.value
    (one_for_each interface_for (asks (syntax c.args.tree.now)) _ _ c.in_ok-interfaces.interfaces.items c.in_ok-interfaces.ensures.passes)

pub returns-in-Ok-clause-passes : goal.returns-in-Ok-clause-passes
returns-in-Ok-clause-passes g c = λ bytes h.
    program_checked c.args.file bytes c.args.tree.now _ _ c.in_ok-interfaces.interfaces.items (Ok c.in-Ok.typed) c.in_ok-interfaces.ensures.passes
    (checked (plain c.in-Ok.typed) (rw c.as_slice.ensures.value at (c.in-Ok.ensures.reads bytes h)))

pub returns-in-Err-clause-passes : goal.returns-in-Err-clause-passes
returns-in-Err-clause-passes g c = λ bytes h.
    let all = c.in_ok-interfaces.interfaces.items in
    program_checked c.args.file bytes c.args.tree.now _ _ all (Err c.faulty.result) c.in_ok-interfaces.ensures.passes
    (fault_told (Checks c.args.file bytes all) (HasCheckFault bytes Program all) c.args.file c.in-Err.fault (stop_case c.faulty.result) wrong
    (rw c.as_slice.ensures.value at (c.in-Err.ensures.fault bytes h)) c.faulty.ensures)
