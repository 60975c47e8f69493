use Rattle.std.proofs.Common.{◌≡◌, drop, map}
use Rattle.check_scopes.specs.Scopes.{over}
use Rattle.check_scopes.specs.Shows.{means}
use Rattle.interface_records.specs.PlainTypes.{plain_field}
use Rattle.check_selectors.specs.Keys.{numbered}
use Rattle.check_selectors.proofs.keys.numbers.Given as goal

abbrev pub invariant-loop-field : goal.invariant-loop-field
invariant-loop-field l = numbered 0 (map plain_field l.fields) ≡ over (means l.names) (numbered l.number (map plain_field (drop l.field-index l.fields)))
