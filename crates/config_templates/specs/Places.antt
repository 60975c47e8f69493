-- Where a name stands first in a list.
use Rattle.std.specs.Prelude.{ℕ, suc, List, [], ◌∷◌, map, bytes_eq, Some, None, option_map, if◌then◌else◌}
use Rattle.check_scopes.specs.Scopes.{Scope}
use Rattle.cmesa_grammar.specs.declared.syntax.ComponentFile.{ComponentFile}
use Rattle.config_rules.specs.declared.tree.Component.{Component}

-- counted from 0, if it stands there
unfoldable pub place_in : List (List ℕ) → Scope ℕ
place_in [] x = None
place_in (y ∷ ys) x = if bytes_eq y x then Some 0 else option_map suc (place_in ys x)

abbrev pub names_of_files : List ComponentFile → List (List ℕ)
names_of_files fs = map (λ (f : ComponentFile). f.name.name) fs

abbrev pub names_of_components : List Component → List (List ℕ)
names_of_components cs = map (λ (c : Component). c.name) cs
