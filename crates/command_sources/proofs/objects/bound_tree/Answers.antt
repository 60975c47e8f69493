use Rattle.std.proofs.Common.{refl}
use Rattle.linked_objects.specs.linked_programs.proofs.Making.{refused}
use Rattle.command_sources.proofs.Binding.{bad_stops}
use Rattle.command_sources.proofs.objects.bound_tree.Goals as goal

pub bind-requires : goal.bind-requires
bind-requires c = c.filed_trees_are_in_order.ensures c.args.tree c.args.objects.items c.requires.shapes c.requires.filed

pub returns-in-Ok : goal.returns-in-Ok
returns-in-Ok c = (
  refl,
  record { of_shapes = c.requires.shapes; filed = c.requires.filed; named = c.requires.named; its = c.in-Ok.ensures.ok },
)

pub returns-in-Err : goal.returns-in-Err
returns-in-Err c =
    bad_stops c.args.file c.args.tree c.in-Err.fault c.unbound.result c.unbound.ensures (refused c.args.tree c.in-Err.fault c.in-Err.ensures.err)
