-- What a CONTROL list starts, name by name.
use Rattle.std.specs.Prelude.{◌≡◌, ℕ, true, List, [], ◌∷◌, nat_eq, unwrap_or, is_some}
use Rattle.std.specs.List.{list_any}
use Rattle.indexmap.specs.IndexSet.{insert_key}
use Rattle.check_scopes.specs.Shows.{listed}
use Rattle.check_scopes.specs.declared.index.Index.{Index}

-- each behind the others unless it is among them
abbrev pub added : (started : List ℕ) → List ℕ → List ℕ
added started [] = started
added started (n ∷ ns) = added (insert_key nat_eq started n) ns

-- what the name starts; a name that is not there starts nothing
abbrev pub started_at : Index (List ℕ) → List ℕ → List ℕ
started_at starts name = unwrap_or (listed starts name) []

abbrev pub AllAmong : (started : List ℕ) → List ℕ → Type 0
AllAmong started [] = Unit {0}
AllAmong started (n ∷ ns) = (list_any (nat_eq n) started ≡ true) × AllAmong started ns

-- the names that are done have started all that they start
abbrev pub AreStarted : {T : Type 0} → Index (List ℕ) → (done : Index T) → (started : List ℕ) → Type 0
AreStarted starts done started = (name : List ℕ) → is_some (listed done name) ≡ true → AllAmong started (started_at starts name)
