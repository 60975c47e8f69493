use Rattle.std.proofs.Common.{◌∙◌, ap, length}
use Rattle.cmesa_grammar.specs.Plain as grammar
use Rattle.link_tables.specs.Parts.{shapes_of}
use Rattle.command_sources.proofs.OfObjects.{all_bound, bound_passes, ungrown_passes}
use Rattle.command_sources.proofs.objects.objects_bound.Goals as goal

pub object_tree_of-requires : goal.object_tree_of-requires
object_tree_of-requires c = record { one_each = ap length c.as_slice.ensures.value ∙ c.requires.as_many; filed = rw c.as_slice.ensures.value c.requires.filed }

pub bound_tree-requires : goal.bound_tree-requires
bound_tree-requires c = record {
  shapes = rw c.as_slice.ensures.value at c.in-Ok.ensures.of_shapes;
  filed = c.requires.filed;
  named =
      c.trees_can_be_spelled.ensures (grammar.plain c.args.plan.now.config) (shapes_of c.as_slice.result.now) c.in-Ok.tree c.requires.plan.named
      (c.in-Ok.ensures.tree (λ no. cc));
}

pub returns-in-Ok-clause-bound : goal.returns-in-Ok-clause-bound
returns-in-Ok-clause-bound c = all_bound c.args.file c.in-Ok.tree c.args.objects.items c.bound_tree.result c.bound_tree.ensures

pub returns-in-Ok-clause-passes : goal.returns-in-Ok-clause-passes
returns-in-Ok-clause-passes c = λ s.
    bound_passes c.args.file (grammar.plain c.args.plan.now.config) c.as_slice.result.now c.args.objects.items c.as_slice.ensures.value s c.in-Ok.tree
    c.bound_tree.result (c.in-Ok.ensures.tree (λ no. cc)) c.bound_tree.ensures

pub returns-in-Err-clause-passes : goal.returns-in-Err-clause-passes
returns-in-Err-clause-passes c = λ s.
    ungrown_passes c.args.file (grammar.plain c.args.plan.now.config) c.as_slice.result.now c.args.objects.items c.as_slice.ensures.value s c.in-Err.fault
    c.ungrown.result c.ungrown.ensures c.in-Err.ensures.tree
