-- How many names there are, and names without one of them.
use Rattle.std.specs.Prelude.{ℕ, List, None, bytes_eq}
use Rattle.std.specs.BTreeMap.{btree_map_len}
use Rattle.std.specs.Map.{update}
use Rattle.check_scopes.specs.Scopes.{Scope}
use Rattle.check_scopes.specs.declared.index.Index.{Index}

unfoldable pub how_many : {T : Type 0} → Index T → ℕ
how_many names = btree_map_len names.index

abbrev pub without : {T : Type 0} → List ℕ → Scope T → Scope T
without x scope = update bytes_eq scope x None
