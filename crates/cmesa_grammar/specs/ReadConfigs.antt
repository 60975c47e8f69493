-- What the parser functions of configurations compute.
use Rattle.std.specs.Prelude.{ℕ, zero, suc, Bool, ◌||◌, List, [], ◌∷◌, ◌++◌, Option, Some, None}
use Rattle.mesa_base.specs.declared.place.Place.{Place}
use Rattle.mesa_base.specs.declared.identifier.Identifier.{Identifier}
use Rattle.mesa_lexer.specs.declared.token.Kind.{Kind}
use Rattle.mesa_lexer.specs.declared.token.Kind.TheVariants as k
use Rattle.mesa_lexer.specs.declared.word.Word.{Word}
use Rattle.mesa_lexer.specs.declared.word.Word.TheVariants.{BeginWord, ConfigurationWord, ControlWord, DirectoryWord, EndWord, ExportsWord, FromWord, ImportsWord}
use Rattle.mesa_lexer.specs.declared.mark.Mark.TheVariants.{Arrow, Semicolon, Colon, Dot, LeftBracket, RightBracket, LeftBrace, RightBrace, Equal}
use Rattle.token_cursor.specs.Parsing.{Parser, Got, Stop, Unexpected, ◌>>=◌, ◌>>◌, pure, refuse, only, finds, a_name, a_text, choose, option, need, when, many, ended, too_deep}
pub use Rattle.token_cursor.specs.ReadNames.{identifier, comma}
unfoldable pub use Rattle.token_cursor.specs.ReadNames.{named, names}
use Rattle.cmesa_grammar.specs.declared.syntax.ComponentFile.{ComponentFile}
use Rattle.cmesa_grammar.specs.declared.syntax.Configuration.{Configuration}
use Rattle.cmesa_grammar.specs.declared.syntax.ConfigStatement.{ConfigStatement}
use Rattle.cmesa_grammar.specs.declared.syntax.ConfigStatement.TheVariants.{Declare, Instantiate}
use Rattle.cmesa_grammar.specs.declared.syntax.Config.{Config}
use Rattle.cmesa_grammar.specs.Grammar as g
unfoldable pub use Rattle.cmesa_grammar.specs.Grammar.{limit}

abbrev pub semicolon : Kind
semicolon = k.Mark Semicolon

-- the word of configurations
abbrev pub begins_configuration : Kind → Bool
begins_configuration = only (k.Word ConfigurationWord)

abbrev pub begins_statement : Kind → Bool
begins_statement kind = finds a_name kind || only (k.Mark LeftBracket) kind

-- ---- lists of names

-- the names behind this word, where it comes
unfoldable pub listed : Word → Parser (List Identifier)
listed w = option (k.Word w) (λ _. names) (pure [])

-- behind the bracket
unfoldable pub in_arguments : Parser (List Identifier)
in_arguments = option (k.Mark RightBracket) (λ _. pure []) (do ns ← names; need (k.Mark RightBracket); pure ns)

unfoldable pub arguments : Parser (List Identifier)
arguments = option (k.Mark LeftBracket) (λ _. in_arguments) (pure [])

-- ---- instances

-- behind the component
unfoldable pub instance : Place → List Identifier → Option Identifier → Identifier → Parser ConfigStatement
instance p records i component = do
  ns ← arguments
  pure (Instantiate (g.instantiation p records i component ns))

-- behind the instance's name and colon
unfoldable pub named_instance : Place → List Identifier → Identifier → Parser ConfigStatement
named_instance p records i = do
  component ← named
  instance p records (Some i) component

-- behind the arrow
unfoldable pub made : Place → List Identifier → Parser ConfigStatement
made p records = do
  i ← named
  option (k.Mark Colon) (λ _. named_instance p records i) (instance p records None i)

-- behind the bracket of the records
unfoldable pub recorded : Place → Parser ConfigStatement
recorded p = do
  ns ← names
  need (k.Mark RightBracket)
  need (k.Mark Arrow)
  made p ns

-- ---- statements, over the parser of the configurations that stand in them, from their word on

module _ (inner : Identifier → Parser Configuration) where
  -- behind a name and colon
  unfoldable pub declared : Identifier → Parser ConfigStatement
  declared i = when begins_configuration (do x ← inner i; pure (Declare x)) (named_instance i.place [] i)

  -- behind the first name
  unfoldable pub from_name : Identifier → Parser ConfigStatement
  from_name i = option (k.Mark Arrow) (λ _. made i.place (i ∷ [])) (option (k.Mark Colon) (λ _. declared i) (instance i.place [] None i))

  unfoldable pub statement : Parser ConfigStatement
  statement = option (k.Mark LeftBracket) recorded (choose a_name (λ n p. from_name (identifier n p)) refuse)

  abbrev pub statements_step : List ConfigStatement → Parser (List ConfigStatement)
  statements_step all = do
    x ← statement
    pure (all ++ x ∷ [])

  unfoldable pub statements : Parser (List ConfigStatement)
  statements = do
    x ← statement
    ended semicolon begins_statement statements_step (x ∷ [])

  unfoldable pub body : Parser (List ConfigStatement)
  body = when begins_statement statements (pure [])

  -- behind the word or mark that begins it, up to the one that ends it
  unfoldable pub closed : Kind → Parser (List ConfigStatement)
  closed end = do
    ss ← body
    need end
    pure ss

  unfoldable pub block : Parser (List ConfigStatement)
  block = option (k.Word BeginWord) (λ _. closed (k.Word EndWord)) (option (k.Mark LeftBrace) (λ _. closed (k.Mark RightBrace)) refuse)

  -- a configuration of this name, from its word on
  unfoldable pub configured : Identifier → Parser Configuration
  configured i = do
    need (k.Word ConfigurationWord)
    imports ← listed ImportsWord
    exports ← listed ExportsWord
    control ← listed ControlWord
    need (k.Mark Equal)
    ss ← block
    pure (g.configuration (g.heading i imports exports control) ss)

-- so many may stand inside one another from here on
unfoldable pub nested : ℕ → Identifier → Parser Configuration
nested zero i = too_deep begins_configuration
nested (suc n) i = configured (nested n) i

-- ---- whole texts

unfoldable pub item : Parser ComponentFile
item = do
  i ← named
  need (k.Mark Colon)
  need (k.Word FromWord)
  choose a_text (λ bytes p. pure (g.component_file i p bytes)) refuse

abbrev pub items_step : List ComponentFile → Unit {0} → Place → Parser (List ComponentFile)
items_step all _ _ = do
  x ← item
  pure (all ++ x ∷ [])

unfoldable pub items : Parser (List ComponentFile)
items = do
  x ← item
  all ← many comma items_step (x ∷ [])
  need semicolon
  pure all

unfoldable pub directory : Parser (List ComponentFile)
directory = option (k.Word DirectoryWord) (λ _. items) (pure [])

unfoldable pub config : Parser Config
config = do
  all ← directory
  i ← named
  need (k.Mark Colon)
  x ← nested limit i
  need (k.Mark Dot)
  pure (g.config_of all x)

abbrev pub at_end : Config → Parser Config
at_end x [] = Got x []
at_end x (t ∷ ts) = Stop Unexpected (t ∷ ts)

unfoldable pub text : Parser Config
text = do
  x ← config
  at_end x
