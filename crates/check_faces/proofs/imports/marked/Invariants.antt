use Rattle.std.proofs.Common.{◌≡◌, ◌++◌, drop, map}
use Rattle.interface_records.specs.PlainTypes.{plain_item}
use Rattle.check_rules.specs.Programs.{marked_from}
use Rattle.check_faces.proofs.imports.marked.Given as goal

abbrev pub invariant-loop-item : goal.invariant-loop-item
invariant-loop-item l = marked_from 0 (map plain_item l.items) l.marks ≡ l.numbers ++ marked_from l.number (map plain_item (drop l._item-index l.items)) l.rest
