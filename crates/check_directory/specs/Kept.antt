-- What a list of names leaves of what an interface offers.
use Rattle.std.specs.Prelude.{ℕ, List, [], ◌∷◌, Option, Some, None}
use Rattle.check_scopes.specs.Scopes.{Scope}
use Rattle.check_rules.specs.Directory.{Entry, entry}
use Rattle.check_rules.specs.Meanings.{Meaning}

abbrev pub entry_if : List ℕ → Option Meaning → List Entry
entry_if x None = []
entry_if x (Some m) = entry x m ∷ []

-- the entry of a name that means something
abbrev pub kept : Scope Meaning → List ℕ → List Entry
kept scope x = entry_if x (scope x)
