use Rattle.std.proofs.Common.{map}
use Rattle.mesa_types.specs.Plain.{plain}
use Rattle.cmesa_grammar.specs.Plain as grammar
use Rattle.config_rules.specs.Components.{components}
use Rattle.config_rules.specs.Tree.{IsTree}
use Rattle.linked_objects.specs.linked_programs.specs.Modules.{shapes_of}
use Rattle.program_files.proofs.Kept.{all_linkable}
use Rattle.command_sources.proofs.Binding.{all_bound, bound_passes, ungrown_passes}
use Rattle.command_sources.proofs.Sourcing.{as_many_bases, as_many_modules, plain_bases}
use Rattle.command_sources.proofs.sources.config_bound.Goals as goal

pub config_tree_of-requires : goal.config_tree_of-requires
config_tree_of-requires c = record {
  one_each = as_many_modules c.args.modules (components (grammar.plain c.args.plan.now.config)) c.requires.modules;
  linkable = all_linkable (map plain c.args.modules) c.requires.modules.kept;
}

pub bound_tree-requires : goal.bound_tree-requires
bound_tree-requires c =
    let config = grammar.plain c.args.plan.now.config in
    record {
      shapes = c.in-Ok.ensures.of_shapes;
      kept = c.requires.modules.kept;
      named = c.trees_can_be_spelled.ensures config (shapes_of (map plain c.args.modules)) c.in-Ok.tree c.requires.plan.named (c.in-Ok.ensures.tree (λ no. cc));
      plain_bases = plain_bases config c.args.plan.now.components c.requires.plan.components_are c.args.bases c.requires.bases c.requires.plan.files;
      as_many = as_many_bases c.args.modules config c.args.bases c.requires.bases c.requires.modules;
    }

pub returns-in-Ok-clause-bound : goal.returns-in-Ok-clause-bound
returns-in-Ok-clause-bound c =
    all_bound c.args.file c.in-Ok.tree c.args.bases (map plain c.args.modules) c.bound_tree.result c.bound_tree.ensures

pub returns-in-Ok-clause-passes : goal.returns-in-Ok-clause-passes
returns-in-Ok-clause-passes c = λ s.
    let modules = map plain c.args.modules in
    bound_passes c.args.file (IsTree (grammar.plain c.args.plan.now.config) (shapes_of modules)) c.args.bases modules s c.in-Ok.tree c.bound_tree.result
    (c.in-Ok.ensures.tree (λ no. cc)) c.bound_tree.ensures

pub returns-in-Err-clause-passes : goal.returns-in-Err-clause-passes
returns-in-Err-clause-passes c = λ s.
    let modules = map plain c.args.modules in
    ungrown_passes c.args.file (IsTree (grammar.plain c.args.plan.now.config) (shapes_of modules)) c.args.bases modules s c.in-Err.fault c.ungrown.result
    c.ungrown.ensures c.in-Err.ensures.tree
