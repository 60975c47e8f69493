use Rattle.std.proofs.Common.{◌≡◌, drop, map}
use Rattle.check_rules.specs.Parts.{found}
use Rattle.interface_records.specs.PlainTypes.{plain_field}
use Rattle.check_selectors.proofs.fields.field_named.Given as goal

abbrev pub invariant-loop-field : goal.invariant-loop-field
invariant-loop-field l = found l.name.name 0 0 (map plain_field l.fields) ≡ found l.name.name l.number l.offset (map plain_field (drop l.field-index l.fields))
