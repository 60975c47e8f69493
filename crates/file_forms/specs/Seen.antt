-- What an index of names has seen.
use Rattle.std.specs.Prelude.{◌≡◌, ℕ, List, is_some}
use Rattle.check_scopes.specs.Shows.{listed}
use Rattle.file_forms.specs.Names.{is_among}
use Rattle.file_forms.specs.declared.seen.Seen.{Seen}

-- the index has these names, and no others
pub record Shows (seen : Seen) (names : List (List ℕ)) : Type 0 where
  pub each : (x : List ℕ) → is_some (listed seen.names x) ≡ is_among names x
