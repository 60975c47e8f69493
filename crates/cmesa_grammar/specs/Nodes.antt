-- How many nodes a configuration's tree has: each file of a component, each configuration and instance, and each name that a heading lists or an
-- instance gives itself, its records or its arguments (a rule of this project).
use Rattle.std.specs.Prelude.{ℕ, ◌+◌, length, Option, Some, None}
use Rattle.cmesa_grammar.specs.Syntax.{Identifier, Heading, Instantiation, Configuration, Configured, Statements, NoStatements, AndDeclare, AndInstance}
use Rattle.cmesa_grammar.specs.Plain as p
use Rattle.cmesa_grammar.specs.declared.syntax.Config.{Config}

abbrev pub name_nodes : Option Identifier → ℕ
name_nodes (Some i) = 1
name_nodes None = 0

abbrev pub heading_nodes : Heading → ℕ
heading_nodes h = length h.imports + length h.exports + length h.control

abbrev pub instance_nodes : Instantiation → ℕ
instance_nodes i = 1 + length i.records + name_nodes i.name + length i.arguments

abbrev mutual
  pub configuration_nodes : Configuration → ℕ
  configuration_nodes (Configured h ss) = 1 + heading_nodes h + statements_nodes ss

  pub statements_nodes : Statements → ℕ
  statements_nodes NoStatements = 0
  statements_nodes (AndDeclare c ss) = configuration_nodes c + statements_nodes ss
  statements_nodes (AndInstance i ss) = instance_nodes i + statements_nodes ss

abbrev pub nodes : Config → ℕ
nodes x = length x.directory + configuration_nodes (p.configuration x.outermost)
