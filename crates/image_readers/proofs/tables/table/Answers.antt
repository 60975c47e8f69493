use Rattle.std.proofs.Common.{map}
use Rattle.object_readers.specs.Rows.{module_part}
use Rattle.image_readers.proofs.Linking.{no_links}
use Rattle.image_readers.proofs.tables.table.Goals as goal

pub returns-in-None : goal.returns-in-None
returns-in-None c = rw c.in-None.is (no_links (map module_part c.args.head.now.modules) c.args.head.now.wanted c.args.instances.now c.new.result c.args.input.now.rest.now c.new.ensures)
