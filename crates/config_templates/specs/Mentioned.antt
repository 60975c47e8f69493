-- The modules that are mentioned, as a walk through the configuration finds them: the first of each name so far, and then the rest.
use Rattle.std.specs.Prelude.{◌≡◌, ℕ, Bool, ◌||◌, List, [], ◌∷◌, ◌++◌, map, reverse, bytes_eq, is_some, Ok, if◌then◌else◌}
use Rattle.check_scopes.specs.Scopes.{Scope, find, outer}
use denote.Bor.{Bor}
use Rattle.cmesa_grammar.specs.Syntax.{Identifier, Config, Configuration, Configured, Statements, NoStatements, AndDeclare, AndInstance}
use Rattle.cmesa_grammar.specs.declared.syntax.ComponentFile.{ComponentFile}
use Rattle.config_rules.specs.Components.{names_of, own_name, first_mentions, file_of, no_file_base, components}
use Rattle.config_rules.specs.Through.{Answer, ◌>>=◌}
use Rattle.config_rules.specs.Tree.{unless_there}
use Rattle.config_rules.specs.declared.fault.TreeCause.TheVariants.{UnknownComponent}
use Rattle.config_rules.specs.declared.tree.Component.{Component}
use Rattle.config_templates.specs.Known.{Knows}
use Rattle.config_templates.specs.declared.mentioned.Mentioned.{Mentioned}

-- each mention of a module, in text order, where the names of the nested configurations that stand before pass a test
unfoldable mutual
  pub mentions_by : (is_nested : List ℕ → Bool) → Configuration → List Identifier
  mentions_by is_nested (Configured h ss) = mentions_in_by is_nested ss

  pub mentions_in_by : (is_nested : List ℕ → Bool) → Statements → List Identifier
  mentions_in_by is_nested NoStatements = []
  mentions_in_by is_nested (AndDeclare c ss) = mentions_by is_nested c ++ mentions_in_by (λ x. bytes_eq x (own_name c).name || is_nested x) ss
  mentions_in_by is_nested (AndInstance i ss) = if is_nested i.component.name then mentions_in_by is_nested ss else i.component ∷ mentions_in_by is_nested ss

-- the test of the code
abbrev pub in_scopes : List (Scope (Unit {0})) → List ℕ → Bool
in_scopes scopes x = is_some (find x scopes)

abbrev pub now : List (Bor Identifier) → List Identifier
now is = map (λ i. i.now) is

abbrev pub so_far : Mentioned → List Identifier
so_far m = now m.first.items

-- their names, the newest first
abbrev pub names_before : List Identifier → List (List ℕ)
names_before is = reverse (names_of is)

-- the first of each name, where these are had already
unfoldable pub finished : List Identifier → List Identifier → List Identifier
finished first rest = first ++ first_mentions (names_before first) rest

-- from one to the other the walk went through these mentions
pub record Went (old new : Mentioned) (mentions : List Identifier) : Type 0 where
  pub known : Knows new.known (names_before (so_far new))
  pub all : (rest : List Identifier) → finished (so_far old) (mentions ++ rest) ≡ finished (so_far new) rest

-- likewise, from these statements in scopes to those that are left, in the scopes as they are then
pub record Passed (scopes : List (Scope (Unit {0}))) (statements : Statements) (old : Mentioned) (inner : List (Scope (Unit {0}))) (left : Statements) (new : Mentioned) : Type 0 where
  pub known : Knows new.known (names_before (so_far new))
  pub all : (rest : List Identifier) → finished (so_far old) (mentions_in_by (in_scopes scopes) statements ++ rest) ≡ finished (so_far new) (mentions_in_by (in_scopes inner) left ++ rest)
  pub around : outer inner ≡ outer scopes

abbrev pub component_of : List ComponentFile → Identifier → Component
component_of directory i = record { name = i.name; file = file_of directory i.name; place = i.place }

-- the components, unless a FROM text is no file base
abbrev pub exact_components : Config → Answer (List Component)
exact_components c = unless_there (no_file_base c.directory) UnknownComponent >>= (λ _. Ok (components c))
