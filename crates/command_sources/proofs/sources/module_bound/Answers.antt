use Rattle.std.proofs.Common.{sym, ◌∙◌}
use Rattle.command_sources.proofs.Binding.{all_bound, no_room}
use Rattle.command_sources.proofs.Sourcing.{first_linkable, first_named, first_shapes, one_kept, one_module, single_passes, single_ungrown}
use Rattle.command_sources.proofs.sources.module_bound.Goals as goal

pub returns-in_err-modules-clause-passes : goal.returns-in_err-modules-clause-passes
returns-in_err-modules-clause-passes c = λ s. no_room _ _ _ _ c.from_residual.result c.from_residual.ensures.1

pub module_tree_of-requires : goal.module_tree_of-requires
module_tree_of-requires c =
    first_linkable c.args.«module» c.index-as_slice-0.result c.new.result c.in_ok-modules.modules c.new.ensures c.in_ok-modules.ensures
    (rw c.as_slice.ensures at c.index-as_slice-0.is) c.requires.kept

pub bound_tree-requires : goal.bound_tree-requires
bound_tree-requires c = record {
  shapes =
      first_shapes c.args.«module» c.index-as_slice-0.result c.new.result c.in_ok-modules.modules c.new.ensures c.in_ok-modules.ensures
      (rw c.as_slice.ensures at c.index-as_slice-0.is) c.in-Ok.tree c.in-Ok.ensures.of_shapes;
  kept = one_kept c.args.«module» c.index-as_slice-0.result c.new.result c.in_ok-modules.modules c.new.ensures c.in_ok-modules.ensures c.requires.kept;
  named =
      first_named c.args.«module» c.index-as_slice-0.result c.new.result c.in_ok-modules.modules c.new.ensures c.in_ok-modules.ensures
      (rw c.as_slice.ensures at c.index-as_slice-0.is) c.singles_can_be_spelled.ensures c.in-Ok.tree c.requires.kept (c.in-Ok.ensures.tree (λ no. cc));
  plain_bases = c.requires.plain_bases;
  as_many =
      c.requires.one
      ∙ sym (one_module c.args.«module» c.index-as_slice-0.result c.new.result c.in_ok-modules.modules c.new.ensures c.in_ok-modules.ensures);
}

pub returns-in-Ok-clause-bound : goal.returns-in-Ok-clause-bound
returns-in-Ok-clause-bound c = all_bound c.args.file c.in-Ok.tree c.args.bases _ c.bound_tree.result c.bound_tree.ensures

pub returns-in-Ok-clause-passes : goal.returns-in-Ok-clause-passes
returns-in-Ok-clause-passes c = λ s.
    single_passes c.args.«module» c.index-as_slice-0.result c.new.result c.in_ok-modules.modules c.new.ensures c.in_ok-modules.ensures
    (rw c.as_slice.ensures at c.index-as_slice-0.is) c.args.file c.args.bases s c.in-Ok.tree c.bound_tree.result (c.in-Ok.ensures.tree (λ no. cc)) c.bound_tree.ensures

pub returns-in-Err-clause-passes : goal.returns-in-Err-clause-passes
returns-in-Err-clause-passes c = λ s.
    single_ungrown c.args.«module» c.index-as_slice-0.result c.new.result c.in_ok-modules.modules c.new.ensures c.in_ok-modules.ensures
    (rw c.as_slice.ensures at c.index-as_slice-0.is) c.args.file c.args.bases s c.in-Err.fault c.ungrown.result c.ungrown.ensures c.in-Err.ensures.tree
