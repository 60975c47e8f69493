use Rattle.syntax_trees.specs.PlainSyntax.{syntax}
use Rattle.command_rules.specs.checked_texts.specs.declared.purpose.Purpose.TheVariants.{Program}
use Rattle.command_passes.proofs.Bases.{asks_plainly}
use Rattle.command_passes.proofs.OneProgram.{not_begun, program_begun}
use Rattle.command_passes.proofs.modules.module_of_text.Goals as goal

pub module_of_tree-typed-requires : goal.module_of_tree-typed-requires
module_of_tree-typed-requires g c = asks_plainly Program (syntax c.in-Ok.tree) c.in-Ok.ensures.begins.is_well

pub returns-in-Ok-clause-passes : goal.returns-in-Ok-clause-passes
returns-in-Ok-clause-passes g c =
    program_begun c.args.file c.args.text.now c.in-Ok.tree _ _ c.module_of_tree-typed.result c.in-Ok.ensures.begins
    (c.module_of_tree-typed.ensures.passes c.args.text.now c.in-Ok.ensures.begins)

pub returns-in-Err-clause-passes : goal.returns-in-Err-clause-passes
returns-in-Err-clause-passes g c =
    not_begun c.args.file c.args.text.now _ c.in-Err.fault c.faulty.result c.in-Err.ensures.fault c.faulty.ensures
