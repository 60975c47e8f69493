use Rattle.std.proofs.Common.{rules, map}
use Rattle.check_rules.specs.Directory.{constant_entry, entries, in_constants, in_items, in_types, items_from, type_entry}
use Rattle.interface_records.specs.PlainTypes.{plain_interface}
use Rattle.check_state.specs.Views.{names}
use Rattle.check_directory.proofs.EntryLaws.{no_names, six_together}
use Rattle.check_directory.proofs.entries.entries.Goals as goal

pub returns : goal.returns
unfolding entries
returns c =
    let i = plain_interface c.args.interface.now in
    six_together (names c.new-names.result) (names c.items.new.names) (names c.constants.new.names) (names c.types.new.names)
    (names c.in_items.new.names) (names c.in_constants.new.names) (names c.in_types.new.names)
    (items_from c.args.import 0 i.items) (map constant_entry i.constants) (map type_entry i.types)
    (in_items i i.items) (in_constants i i.constants) (in_types i i.types)
    (no_names c.new-names.result (search rules)) (search rules) (search rules) (search rules) (search rules) (search rules) (search rules)
