use Rattle.std.proofs.Common.{map}
use Rattle.std.specs.Option.{option_copied}
use Rattle.std.specs.Prelude.{option_map}
use Rattle.object_readers.specs.Rows.{module_part}
use Rattle.image_readers.proofs.Linking.{next_needs}
use Rattle.image_readers.proofs.tables.OneTableElement.read.Goals as goal

pub returns : goal.returns
returns c =
    next_needs (map module_part c.args.self.now.head.now.modules) c.args.self.now.head.now.wanted c.args.self.now.instances.now c.args.before.now c.len.result
    (option_map module_part (option_copied c.module_of-rows.result)) c.args.input.now.rest.now c.table.new.input.rest.now c.table.result
    c.len.ensures c.module_of-rows.ensures c.table.ensures
