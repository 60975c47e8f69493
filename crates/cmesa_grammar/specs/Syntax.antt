-- A configuration as a person reads it: its heading, and its statements in order, each of which declares a nested configuration or makes an
-- instance of a component (Language Manual, chapter 7).
use Rattle.std.specs.Prelude.{List}
pub use Rattle.mesa_base.specs.declared.place.Place.{Place}
-- names, headings and instances are those of the code, plain data already
pub use Rattle.mesa_base.specs.declared.identifier.Identifier.{Identifier}
pub use Rattle.cmesa_grammar.specs.declared.syntax.ComponentFile.{ComponentFile}
pub use Rattle.cmesa_grammar.specs.declared.syntax.Heading.{Heading}
pub use Rattle.cmesa_grammar.specs.declared.syntax.Instantiation.{Instantiation}

mutual
  pub data Configuration : Type 0 where
    Configured : Heading → Statements → Configuration

  pub data Statements : Type 0 where
    NoStatements : Statements
    AndDeclare : Configuration → Statements → Statements
    AndInstance : Instantiation → Statements → Statements

-- a whole text: the files of components, and the configuration that stands in no other
pub record Config : Type 0 where
  pub directory : List ComponentFile
  pub outermost : Configuration
