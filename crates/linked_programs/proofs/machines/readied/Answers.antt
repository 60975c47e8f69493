-- A linked image is in order, and wants what its tree leaves to the loader.
use Rattle.std.proofs.Common.{map}
use Rattle.mesa_types.specs.Plain.{plain}
use Rattle.linked_programs.proofs.Making.{all_from, image_in_order, unready}
use Rattle.linked_programs.proofs.machines.readied.Goals as goal

pub ready-requires : goal.ready-requires
ready-requires c = image_in_order c.args.tree.now (map plain c.args.modules.now) c.args.image c.requires

pub returns-clause-ok : goal.returns-clause-ok
returns-clause-ok c = all_from c.args.tree.now (map plain c.args.modules.now) c.args.image c.ready.result c.requires c.ready.ensures.ok c.ready.ensures.host

pub returns-clause-err : goal.returns-clause-err
returns-clause-err c = unready c.args.tree.now (map plain c.args.modules.now) c.args.image c.ready.result c.requires c.ready.ensures.err
