use Rattle.syntax_trees.specs.PlainSyntax.{syntax}
use Rattle.command_passes.specs.checked_texts.specs.declared.purpose.Purpose.TheVariants.{Interface}
use Rattle.command_passes.proofs.Bases.{asks_plainly}
use Rattle.command_sources.proofs.Defining.{definitions_begun, not_begun}
use Rattle.command_sources.proofs.definitions.interface_of_text.Goals as goal

pub interface_of_tree-interface-requires : goal.interface_of_tree-interface-requires
interface_of_tree-interface-requires g c = asks_plainly (Interface c.args.stamp) (syntax c.in-Ok.tree) c.in-Ok.ensures.begins.is_well

pub returns-in-Ok-clause-passes : goal.returns-in-Ok-clause-passes
returns-in-Ok-clause-passes g c =
    definitions_begun c.args.file c.args.stamp c.args.text.now c.in-Ok.tree _ _ c.interface_of_tree-interface.result c.in-Ok.ensures.begins
    (c.interface_of_tree-interface.ensures.passes c.args.text.now c.in-Ok.ensures.begins)

pub returns-in-Err-clause-passes : goal.returns-in-Err-clause-passes
returns-in-Err-clause-passes g c =
    not_begun c.args.file c.args.stamp c.args.text.now _ c.in-Err.fault c.faulty.result c.in-Err.ensures.fault c.faulty.ensures
