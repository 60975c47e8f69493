-- Variables that a declaration declares, and names among others.
use Rattle.std.specs.Prelude.{◌≡◌, ℕ, List, map, is_some}
use Rattle.mesa_base.specs.declared.identifier.Identifier.{Identifier}
use Rattle.check_scopes.specs.Scopes.{has}
use Rattle.check_scopes.specs.Shows.{means}
use Rattle.check_scopes.specs.declared.names.Names.{Names}
use Rattle.check_rules.specs.Around.{Around}
use Rattle.check_rules.specs.Names.{settle}
use Rattle.check_rules.specs.Parts.{first_name}
use Rattle.interface_records.specs.PlainTypes.{PlainType}
use Rattle.check_rules.specs.Statements.{variables, few_globals, meaning_of}
use Rattle.check_rules.specs.Steps.{Check, ◌>>=◌, pure}
use Rattle.check_rules.specs.Typed.{Home}

-- variables of a type, visible from here on
abbrev pub declared : Around → List Identifier → PlainType → Check (List Home)
declared a xs k = do
  hs ← variables a k xs
  _ ← few_globals (first_name xs)
  _ ← settle xs (map (meaning_of k) hs)
  pure hs

-- the index has these names and no others
abbrev pub HasNames : {T : Type 0} → Names T → List (List ℕ) → Type 0
HasNames index names = (x : List ℕ) → is_some (means index x) ≡ has x names
