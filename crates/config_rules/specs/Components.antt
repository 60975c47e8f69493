-- The components of a configuration: the modules that it mentions, in the order in which they are mentioned first. A name is a nested
-- configuration's where one of that name stands before, in this scope or one around it; else it is a module's (Language Manual, chapter 7).
use Rattle.std.specs.Prelude.{ℕ, Bool, ◌&&◌, ◌||◌, List, [], ◌∷◌, ◌++◌, map, length, nat_le, nat_eq, bytes_eq, Option, Some, None, if◌then◌else◌}
use Rattle.std.specs.List.{list_all}
use Rattle.mesa_base.specs.Name.{begins_with_letter, is_letter_or_digit}
use Rattle.interface_records.specs.check_scopes.specs.Scopes.{has}
use Rattle.cmesa_grammar.specs.Syntax.{Place, Identifier, Config, Configuration, Configured, Statements, NoStatements, AndDeclare, AndInstance}
use Rattle.cmesa_grammar.specs.declared.syntax.Heading.{Heading}
use Rattle.cmesa_grammar.specs.declared.syntax.ComponentFile.{ComponentFile}
use Rattle.config_rules.specs.declared.tree.Component.{Component}

abbrev pub names_of : List Identifier → List (List ℕ)
names_of is = map (λ (i : Identifier). i.name) is

unfoldable pub heading_of : Configuration → Heading
heading_of (Configured h ss) = h

-- the name that it declares
abbrev pub own_name : Configuration → Identifier
own_name c = (heading_of c).name

-- each mention of a module, in text order, where these nested configurations stand before
unfoldable mutual
  pub mentions : (nested : List (List ℕ)) → Configuration → List Identifier
  mentions nested (Configured h ss) = mentions_in nested ss

  pub mentions_in : (nested : List (List ℕ)) → Statements → List Identifier
  mentions_in nested NoStatements = []
  mentions_in nested (AndDeclare c ss) = mentions nested c ++ mentions_in ((own_name c).name ∷ nested) ss
  mentions_in nested (AndInstance i ss) = if has i.component.name nested then mentions_in nested ss else i.component ∷ mentions_in nested ss

-- the first of each name
unfoldable pub first_mentions : (before : List (List ℕ)) → List Identifier → List Identifier
first_mentions before [] = []
first_mentions before (i ∷ is) = if has i.name before then first_mentions before is else i ∷ first_mentions (i.name ∷ before) is

-- the file of a component: the first that DIRECTORY says for it, else its own name
unfoldable pub file_of : List ComponentFile → List ℕ → List ℕ
file_of [] name = name
file_of (f ∷ fs) name = if bytes_eq f.name.name name then f.file else file_of fs name

abbrev pub components : Config → List Component
components c = map (λ (i : Identifier). record { name = i.name; file = file_of c.directory i.name; place = i.place }) (first_mentions [] (mentions [] c.outermost))

-- a letter, then letters, digits, - and _, 64 bytes at most (rule of this project)
abbrev pub is_file_byte : ℕ → Bool
is_file_byte b = is_letter_or_digit b || (nat_eq b 45 || nat_eq b 95)

abbrev pub is_file_base : List ℕ → Bool
is_file_base bytes = begins_with_letter bytes && (list_all is_file_byte bytes && nat_le (length bytes) 64)

-- where the first file text stands that is no file base
unfoldable pub no_file_base : List ComponentFile → Option Place
no_file_base [] = None
no_file_base (f ∷ fs) = if is_file_base f.file then no_file_base fs else Some f.file_place
