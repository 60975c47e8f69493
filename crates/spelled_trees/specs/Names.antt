-- Configurations whose identifiers are names (Language Manual, chapter 2: identifiers, with this project's limit).
use Rattle.std.specs.Prelude.{All, Option, Some, None}
use Rattle.mesa_base.specs.Name.{IsName}
use Rattle.cmesa_grammar.specs.Syntax.{Identifier, Config, Configuration, Configured, Statements, NoStatements, AndDeclare, AndInstance}
use Rattle.cmesa_grammar.specs.declared.syntax.ComponentFile.{ComponentFile}
use Rattle.cmesa_grammar.specs.declared.syntax.Heading.{Heading}
use Rattle.cmesa_grammar.specs.declared.syntax.Instantiation.{Instantiation}

abbrev pub Named : Identifier → Type 0
Named i = IsName i.name

abbrev pub MaybeNamed : Option Identifier → Type 0
MaybeNamed None = Unit {0}
MaybeNamed (Some i) = Named i

-- the configuration, and the records and instances of its lists
pub record HeadingNamed (h : Heading) : Type 0 where
  pub name : Named h.name
  pub imports : All Named h.imports
  pub exports : All Named h.exports
  pub control : All Named h.control

-- the instance, its component, and the records of its lists
pub record InstanceNamed (i : Instantiation) : Type 0 where
  pub records : All Named i.records
  pub name : MaybeNamed i.name
  pub component : Named i.component
  pub arguments : All Named i.arguments

unfoldable mutual
  pub ConfigurationNamed : Configuration → Type 0
  ConfigurationNamed (Configured h ss) = HeadingNamed h × StatementsNamed ss

  pub StatementsNamed : Statements → Type 0
  StatementsNamed NoStatements = Unit {0}
  StatementsNamed (AndDeclare c ss) = ConfigurationNamed c × StatementsNamed ss
  StatementsNamed (AndInstance i ss) = InstanceNamed i × StatementsNamed ss

-- a whole text: the components of its DIRECTORY too
pub record HasNames (c : Config) : Type 0 where
  pub directory : All (λ (f : ComponentFile). Named f.name) c.directory
  pub outermost : ConfigurationNamed c.outermost
