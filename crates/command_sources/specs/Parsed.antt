-- What a configuration's text comes to before its components are named, and the components beside it.
use Rattle.std.specs.Prelude.{◌≡◌, ℕ, List, All, None, Some}
use Rattle.std.specs.Str.{IsAscii}
use Rattle.mesa_base.specs.declared.place.Place.{Place}
use Rattle.mesa_lexer.specs.Tokens.{HasTokens, HasLexFault}
use Rattle.mesa_lexer.specs.declared.token.Tokens.{Tokens}
use Rattle.mesa_lexer.specs.declared.fault.LexFault.{LexFault}
use Rattle.mesa_lexer.specs.declared.fault.SyntaxFault.{SyntaxFault}
use Rattle.cmesa_grammar.specs.Answer.{ParsesConfiguration, HasSyntaxFault}
use Rattle.cmesa_grammar.specs.Plain.{plain}
use Rattle.cmesa_grammar.specs.declared.syntax.Config.{Config}
use Rattle.config_rules.specs.Components.{components, no_file_base}
use Rattle.config_rules.specs.declared.fault.TreeCause.TheVariants.{UnknownComponent}
use Rattle.config_rules.specs.declared.tree.Component.{Component}
use Rattle.spelled_trees.specs.Names.{HasNames}
use Rattle.command_passes.specs.checked_texts.specs.declared.text_fault.TextFault.{TextFault}
use Rattle.command_passes.specs.checked_texts.specs.declared.text_fault.TextFault.TheVariants.{Lexical, Syntactic}
use Rattle.command_passes.specs.command_rules.specs.Case.{Case, Refused}
use Rattle.command_passes.specs.command_rules.specs.declared.trouble.Trouble.TheVariants.{Tree}
use Rattle.command_passes.specs.command_rules.specs.Passes.{Outcome, Has, Stops}
use Rattle.command_sources.specs.declared.configurations.Planned.{Planned}

-- the text has this tree
pub record IsConfigOf (text : List ℕ) (c : Config) : Type 0 where
  pub tokens : Tokens
  pub has_tokens : HasTokens text tokens
  pub parses : ParsesConfiguration tokens.items c

-- it has none, and this is why
pub data HasNoConfig (text : List ℕ) : TextFault → Type 0 where
  lexical : (fault : LexFault) → HasLexFault text fault → HasNoConfig text (Lexical fault)
  syntactic : (tokens : Tokens) (fault : SyntaxFault) → HasTokens text tokens → HasSyntaxFault tokens.items tokens.end fault → HasNoConfig text (Syntactic fault)

-- the components are those of the configuration, whose FROM texts are bases of files
pub record HasComponents (p : Planned) : Type 0 where
  pub components_are : p.components ≡ components (plain p.config)
  pub bases : no_file_base (plain p.config).directory ≡ None

-- and each has a file that is named by plain bytes; and the identifiers of the configuration are names
pub record IsPlanned (p : Planned) : Type 0 where
  pub components_are : p.components ≡ components (plain p.config)
  pub files : All (λ (c : Component). IsAscii c.file) p.components
  pub named : HasNames (plain p.config)

-- what comes of its FROM texts
pub data Plans (file : List ℕ) (c : Config) : Outcome Case Planned → Type 0 where
  plans : (p : Planned) → p.config ≡ c → HasComponents p → Plans file c (Has p)
  no_base : (place : Place) → no_file_base (plain c).directory ≡ Some place → Plans file c (Stops (Refused file (Tree UnknownComponent place)))
