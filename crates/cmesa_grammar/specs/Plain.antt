-- The syntax tree of the code as the plain one.
use Rattle.std.specs.Prelude.{List, [], ◌∷◌, map}
use Rattle.cmesa_grammar.specs.Syntax as s
use Rattle.cmesa_grammar.specs.declared.syntax.Config.{Config}
use Rattle.cmesa_grammar.specs.declared.syntax.Configuration.{Configuration}
use Rattle.cmesa_grammar.specs.declared.syntax.ConfigStatement.{ConfigStatement}
use Rattle.cmesa_grammar.specs.declared.syntax.ConfigStatement.TheOpen.{Configuration-F, ConfigStatement-F}
use Rattle.cmesa_grammar.specs.declared.syntax.ConfigStatement.TheFolds.{fold-Configuration, fold-ConfigStatement}

-- what the statements put before one another
abbrev pub chain : List (s.Statements → s.Statements) → s.Statements
chain [] = s.NoStatements
chain (f ∷ fs) = f (chain fs)

-- the plain trees of the parts: a configuration, and what a statement puts before the rest
abbrev pub Layer : (Type 0 → Type 0 → Type 0) → Type 0
Layer F = F (s.Statements → s.Statements) s.Configuration

abbrev pub configuration_step : Layer Configuration-F → s.Configuration
configuration_step c = s.Configured c.heading (chain c.statements)

abbrev pub statement_step : Layer ConfigStatement-F → s.Statements → s.Statements
statement_step (ConfigStatement-F.Declare c) = s.AndDeclare c
statement_step (ConfigStatement-F.Instantiate i) = s.AndInstance i

unfoldable pub configuration : Configuration → s.Configuration
configuration = fold-Configuration (s.Statements → s.Statements) s.Configuration statement_step configuration_step

unfoldable pub statement : ConfigStatement → s.Statements → s.Statements
statement = fold-ConfigStatement (s.Statements → s.Statements) s.Configuration statement_step configuration_step

abbrev pub statements : List ConfigStatement → s.Statements
statements xs = chain (map statement xs)

abbrev pub plain : Config → s.Config
plain x = record { directory = x.directory; outermost = configuration x.outermost }
