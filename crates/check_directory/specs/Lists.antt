-- Names that are known, and names that came before.
use Rattle.std.specs.Prelude.{◌≡◌, ℕ, List, is_some}
use Rattle.check_scopes.specs.Scopes.{has}
use Rattle.check_scopes.specs.Shows.{means}
use Rattle.check_scopes.specs.declared.names.Names.{Names}

-- the index has these names and no others
abbrev pub HasNames : {T : Type 0} → Names T → List (List ℕ) → Type 0
HasNames index names = (x : List ℕ) → is_some (means index x) ≡ has x names
