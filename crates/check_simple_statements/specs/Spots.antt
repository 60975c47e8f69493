-- Fields by name, over an index of them.
use Rattle.std.specs.Prelude.{◌≡◌, ℕ, List, Option, Some, None, option_map}
use Rattle.check_scopes.specs.Scopes.{Scope, nothing, with_name}
use Rattle.check_rules.specs.Parts as parts
use Rattle.interface_records.specs.PlainTypes.{plain}
use Rattle.check_scopes.specs.Shows.{means}
use Rattle.check_state.specs.Views.{fields}
use Rattle.check_simple_statements.specs.declared.spots.Spot.{Spot}
use Rattle.check_simple_statements.specs.declared.spots.Spots.{Spots}

abbrev pub spot : Spot → parts.Found
spot x = record { number = x.number; offset = x.offset; kind = plain x.kind.now }

abbrev pub named_spot : Option (List ℕ) → Spot → Scope Spot
named_spot (Some y) x = with_name y x nothing
named_spot None x = nothing

-- the index has the first field of each name
abbrev pub Finds : Spots → Type 0
Finds spots = (x : List ℕ) → option_map spot (means spots.index x) ≡ parts.found x 0 0 (fields spots.fields.now)
