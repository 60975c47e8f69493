-- A tree of modules that can be linked is one that can be bound; what the binder refuses is refused by its first bad item.
use Rattle.std.proofs.Common.{map}
use Rattle.mesa_types.specs.Plain.{plain}
use Rattle.linked_programs.proofs.Making.{all_refused, can_be_bound}
use Rattle.linked_programs.proofs.binding.bound.Goals as goal

pub bind-requires : goal.bind-requires
bind-requires c = can_be_bound (map plain c.args.modules.now) c.args.tree.now c.requires.linkable c.requires.of_shapes.tree

pub returns-clause-err : goal.returns-clause-err
returns-clause-err c = all_refused c.args.tree.now c.bind.result c.bind.ensures.err
