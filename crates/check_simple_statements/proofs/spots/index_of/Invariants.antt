use Rattle.std.proofs.Common.{◌≡◌, ℕ, List, drop, map}
use Rattle.check_scopes.specs.Shows.{means}
use Rattle.check_rules.specs.Parts.{found}
use Rattle.interface_records.specs.PlainTypes.{plain_field}
use Rattle.check_simple_statements.proofs.SpotLaws.{or_behind}
use Rattle.check_simple_statements.proofs.spots.index_of.Given as goal

abbrev pub invariant-loop-field : goal.invariant-loop-field
invariant-loop-field l =
    (x : List ℕ) → found x 0 0 (map plain_field l.fields) ≡ or_behind (means l.index) l.number l.offset (map plain_field (drop l.field-index l.fields)) x
