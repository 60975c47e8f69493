-- What names mean before their declaration, one declaration at a time.
use Rattle.std.specs.Prelude.{List}
use Rattle.mesa_base.specs.declared.identifier.Identifier.{Identifier}
use Rattle.syntax_trees.specs.Syntax as s
use Rattle.check_scopes.specs.Scopes.{Scope, nothing}
use Rattle.check_rules.specs.Definitions as interface
use Rattle.check_rules.specs.Meanings.{Meaning, Later}
use Rattle.check_rules.specs.Programs as program

-- each of these names means this
abbrev pub all : Meaning → List Identifier → Scope Meaning
all m xs = program.also m xs nothing

abbrev pub later : List Identifier → Scope Meaning
later = all Later

abbrev pub declared : s.Declaration → Scope Meaning
declared d = program.one_ahead d.names d.declared nothing

abbrev pub defined : s.Definition → Scope Meaning
defined d = interface.one_ahead d.names d.defined nothing
