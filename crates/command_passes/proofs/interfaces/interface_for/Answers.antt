use Rattle.std.proofs.Common.{None, Ok}
use Rattle.std.proofs.lemmas.Result.{err_from_is_err_and}
use Rattle.syntax_trees.specs.PlainSyntax.{syntax}
use Rattle.command_rules.specs.checked_texts.specs.Asked.{asks}
use Rattle.command_passes.proofs.Bases.{asked_plain}
use Rattle.command_passes.proofs.OneInterface.{asked_once, interface_built_in}
use Rattle.command_passes.proofs.Passed.{memory_ends}
use Rattle.command_passes.proofs.interfaces.interface_for.Goals as goal

pub interface_of_file-requires : goal.interface_of_file-requires
interface_of_file-requires g c = asked_plain (syntax c.args.tree.now) c.args.number _ c.requires.plain c.in-Some.ensures

pub returns-in-Some-clause-passes : goal.returns-in-Some-clause-passes
returns-in-Some-clause-passes g c = λ asked is.
    asked_once (asks (syntax c.args.tree.now)) c.args.number _ asked _ _ _ c.in-Some.ensures is c.interface_of_file.ensures.passes

pub returns-in_err-iodefs-in-None-clause-passes : goal.returns-in_err-iodefs-in-None-clause-passes
returns-in_err-iodefs-in-None-clause-passes g c = λ asked is.
    let p = err_from_is_err_and c.from_residual.result c.from_residual.ensures.1 in
    rw p.1 (memory_ends _ _ _ p.0 p.2)

pub returns-in_ok-iodefs-in-None-clause-passes : goal.returns-in_ok-iodefs-in-None-clause-passes
returns-in_ok-iodefs-in-None-clause-passes g c = λ asked is.
    asked_once (asks (syntax c.args.tree.now)) c.args.number None asked _ _ (Ok c.in_ok-iodefs-in-None.field-0) c.in-None.ensures is
    (interface_built_in _ c.in_ok-iodefs-in-None.field-0 c.in_ok-iodefs-in-None.ensures)
