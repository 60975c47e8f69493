use Rattle.std.proofs.Common.{Err, Ok}
use Rattle.std.proofs.lemmas.Result.{err_from_is_err_and}
use Rattle.syntax_trees.specs.PlainSyntax.{syntax}
use Rattle.command_passes.specs.checked_texts.specs.Asked.{asks}
use Rattle.command_passes.specs.checked_texts.specs.Texts.{HasCheckFault}
use Rattle.command_passes.specs.checked_texts.specs.declared.purpose.Purpose.TheVariants.{Interface}
use Rattle.command_passes.specs.command_rules.specs.Modules.{Defines, defined, interface_for, wrong}
use Rattle.command_passes.specs.Stops.{stop_case}
use Rattle.command_passes.proofs.Faults.{fault_told}
use Rattle.command_passes.proofs.Steps.{one_for_each}
use Rattle.command_sources.proofs.Defining.{interface_checked, no_interfaces}
use Rattle.command_sources.proofs.definitions.interface_of_tree.Goals as goal

pub returns-in_err-interfaces-clause-passes : goal.returns-in_err-interfaces-clause-passes
returns-in_err-interfaces-clause-passes g c = λ bytes h.
    let p = err_from_is_err_and c.from_residual.result c.from_residual.ensures.1 in
    rw (p.1, p.2) (no_interfaces c.args.file c.args.stamp bytes c.args.tree.now _ _ (stop_case c.in_err-interfaces.field-0.0) c.in_err-interfaces.ensures.passes)

pub checked_interface-requires : goal.checked_interface-requires
checked_interface-requires g c =
    rw c.as_slice.ensures.value
    (one_for_each interface_for (asks (syntax c.args.tree.now)) _ _ c.in_ok-interfaces.interfaces.items c.in_ok-interfaces.ensures.passes)

pub returns-in-Ok-clause-passes : goal.returns-in-Ok-clause-passes
returns-in-Ok-clause-passes g c = λ bytes h.
    interface_checked c.args.file c.args.stamp bytes c.args.tree.now _ _ c.in_ok-interfaces.interfaces.items (Ok c.in-Ok.interface) c.in_ok-interfaces.ensures.passes
    (defined c.in-Ok.interface (rw c.as_slice.ensures.value at (c.in-Ok.ensures.defines bytes h)))

pub returns-in-Err-clause-passes : goal.returns-in-Err-clause-passes
returns-in-Err-clause-passes g c = λ bytes h.
    let all = c.in_ok-interfaces.interfaces.items in
    interface_checked c.args.file c.args.stamp bytes c.args.tree.now _ _ all (Err c.faulty.result) c.in_ok-interfaces.ensures.passes
    (fault_told (Defines c.args.file c.args.stamp bytes all) (HasCheckFault bytes (Interface c.args.stamp) all) c.args.file c.in-Err.fault (stop_case c.faulty.result) wrong
    (rw c.as_slice.ensures.value at (c.in-Err.ensures.fault bytes h)) c.faulty.ensures)
