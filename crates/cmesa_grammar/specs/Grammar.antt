-- The grammar of configurations: a relation for each production and each optional or repeated part, with a constructor for each
-- alternative. `IsStatement ts x rest` says that the tokens ts begin with the statement x, after which rest remains (Language Manual,
-- chapter 7, as far as this project takes it).
use Rattle.std.specs.Prelude.{ℕ, zero, suc, List, [], ◌∷◌, ◌++◌, Option, Some, None}
use Rattle.mesa_base.specs.declared.place.Place.{Place}
use Rattle.mesa_base.specs.declared.identifier.Identifier.{Identifier}
use Rattle.mesa_base.specs.declared.limits.TheConstants.{NESTING}
use Rattle.mesa_lexer.specs.declared.token.Token.{Token}
use Rattle.mesa_lexer.specs.declared.token.Kind.TheVariants as k
use Rattle.mesa_lexer.specs.declared.word.Word.{Word}
use Rattle.mesa_lexer.specs.declared.word.Word.TheVariants.{BeginWord, ConfigurationWord, ControlWord, DirectoryWord, EndWord, ExportsWord, FromWord, ImportsWord}
use Rattle.mesa_lexer.specs.declared.mark.Mark.TheVariants.{Arrow, Semicolon, Colon, Comma, Dot, LeftBracket, RightBracket, LeftBrace, RightBrace, Equal}
use Rattle.token_cursor.specs.Grammars.{token, word, mark, spelled, first}
pub use Rattle.token_cursor.specs.Names.{IsNames, name, names}
use Rattle.cmesa_grammar.specs.declared.syntax.ComponentFile.{ComponentFile}
use Rattle.cmesa_grammar.specs.declared.syntax.Heading.{Heading}
use Rattle.cmesa_grammar.specs.declared.syntax.Instantiation.{Instantiation}
use Rattle.cmesa_grammar.specs.declared.syntax.Configuration.{Configuration, roll-Configuration}
use Rattle.cmesa_grammar.specs.declared.syntax.ConfigStatement.{ConfigStatement}
use Rattle.cmesa_grammar.specs.declared.syntax.ConfigStatement.TheVariants.{Declare, Instantiate}
use Rattle.cmesa_grammar.specs.declared.syntax.Config.{Config}

-- ---- trees by their parts

abbrev pub component_file : Identifier → Place → List ℕ → ComponentFile
component_file i p file = record { name = i; file_place = p; file = file }

abbrev pub heading : Identifier → (imports exports control : List Identifier) → Heading
heading i imports exports control = record { name = i; imports = imports; exports = exports; control = control }

abbrev pub instantiation : Place → (records : List Identifier) → Option Identifier → Identifier → (arguments : List Identifier) → Instantiation
instantiation p records i component arguments = record { place = p; records = records; name = i; component = component; arguments = arguments }

abbrev pub configuration : Heading → List ConfigStatement → Configuration
configuration h ss = roll-Configuration (record { heading = h; statements = ss })

abbrev pub config_of : List ComponentFile → Configuration → Config
config_of items x = record { directory = items; outermost = x }

-- ---- lists of names

-- [IMPORTS Names], [EXPORTS Names], [CONTROL Names]
pub data IsListed (w : Word) : List Token → List Identifier → List Token → Type 0 where
  unlisted : {rest : List Token} → IsListed w rest [] rest
  listed : {ts rest : List Token} {ns : List Identifier} {p : Place} → IsNames ts ns rest → IsListed w (word w p ∷ ts) ns rest

-- Records = "[" Names "]" | Name
pub data IsRecords : List Token → List Identifier → List Token → Type 0 where
  record_list : {ts rest : List Token} {ns : List Identifier} {p q : Place} → IsNames ts ns (mark RightBracket q ∷ rest)
      → IsRecords (mark LeftBracket p ∷ ts) ns rest
  one_record : {rest : List Token} {i : Identifier} → IsRecords (spelled i ∷ rest) (i ∷ []) rest

-- [Records "←"]
pub data IsTarget : List Token → List Identifier → List Token → Type 0 where
  no_target : {rest : List Token} → IsTarget rest [] rest
  target : {ts rest : List Token} {ns : List Identifier} {p : Place} → IsRecords ts ns (mark Arrow p ∷ rest) → IsTarget ts ns rest

-- [Name ":"]
pub data IsNamed : List Token → Option Identifier → List Token → Type 0 where
  unnamed : {rest : List Token} → IsNamed rest None rest
  named : {rest : List Token} {i : Identifier} {p : Place} → IsNamed (spelled i ∷ mark Colon p ∷ rest) (Some i) rest

-- ["[" [Names] "]"]
pub data IsArguments : List Token → List Identifier → List Token → Type 0 where
  no_arguments : {rest : List Token} → IsArguments rest [] rest
  empty_arguments : {rest : List Token} {p q : Place} → IsArguments (mark LeftBracket p ∷ mark RightBracket q ∷ rest) [] rest
  arguments : {ts rest : List Token} {ns : List Identifier} {p q : Place} → IsNames ts ns (mark RightBracket q ∷ rest)
      → IsArguments (mark LeftBracket p ∷ ts) ns rest

-- ---- configurations

mutual
  -- Config = Name ":" CONFIGURATION [IMPORTS Names] [EXPORTS Names] [CONTROL Names] "=" (BEGIN Body END | "{" Body "}")
  pub data IsConfiguration : List Token → Configuration → List Token → Type 0 where
    configured : {ts us vs ws rest : List Token} {i : Identifier} {imports exports control : List Identifier} {ss : List ConfigStatement} {p q r : Place}
        → IsListed ImportsWord ts imports us → IsListed ExportsWord us exports vs → IsListed ControlWord vs control (mark Equal r ∷ ws)
        → IsBlock ws ss rest
        → IsConfiguration (spelled i ∷ mark Colon p ∷ word ConfigurationWord q ∷ ts) (configuration (heading i imports exports control) ss) rest

  pub data IsBlock : List Token → List ConfigStatement → List Token → Type 0 where
    begin_end : {ts rest : List Token} {ss : List ConfigStatement} {p q : Place} → IsBody ts ss (word EndWord q ∷ rest)
        → IsBlock (word BeginWord p ∷ ts) ss rest
    braces : {ts rest : List Token} {ss : List ConfigStatement} {p q : Place} → IsBody ts ss (mark RightBrace q ∷ rest)
        → IsBlock (mark LeftBrace p ∷ ts) ss rest

  -- Body = [CStmt {";" CStmt} [";"]]
  pub data IsBody : List Token → List ConfigStatement → List Token → Type 0 where
    no_statements : {rest : List Token} → IsBody rest [] rest
    open_statements : {ts rest : List Token} {ss : List ConfigStatement} → IsStatements ts ss rest → IsBody ts ss rest
    closed_statements : {ts rest : List Token} {ss : List ConfigStatement} {p : Place} → IsStatements ts ss (mark Semicolon p ∷ rest) → IsBody ts ss rest

  -- CStmt {";" CStmt}
  pub data IsStatements : List Token → List ConfigStatement → List Token → Type 0 where
    a_statement : {ts rest : List Token} {x : ConfigStatement} → IsStatement ts x rest → IsStatements ts (x ∷ []) rest
    statements : {ts us rest : List Token} {all : List ConfigStatement} {x : ConfigStatement} {p : Place} → IsStatements ts all (mark Semicolon p ∷ us)
        → IsStatement us x rest → IsStatements ts (all ++ x ∷ []) rest

  -- CStmt = Config | [Records "←"] [Name ":"] Name ["[" [Names] "]"]; an instance stands at its first token
  pub data IsStatement : List Token → ConfigStatement → List Token → Type 0 where
    declared : {ts rest : List Token} {x : Configuration} → IsConfiguration ts x rest → IsStatement ts (Declare x) rest
    instance : {ts us vs rest : List Token} {t : Token} {records arguments : List Identifier} {i : Option Identifier} {component : Identifier}
        → IsTarget (t ∷ ts) records us → IsNamed us i (spelled component ∷ vs) → IsArguments vs arguments rest
        → IsStatement (t ∷ ts) (Instantiate (instantiation t.place records i component arguments)) rest

-- ---- whole texts

-- Name ":" FROM String
pub data IsItem : List Token → ComponentFile → List Token → Type 0 where
  item : {rest : List Token} {i : Identifier} {file : List ℕ} {p q r : Place}
      → IsItem (spelled i ∷ mark Colon p ∷ word FromWord q ∷ token (k.Text file) r ∷ rest) (component_file i r file) rest

pub data IsItems : List Token → List ComponentFile → List Token → Type 0 where
  an_item : {ts rest : List Token} {x : ComponentFile} → IsItem ts x rest → IsItems ts (x ∷ []) rest
  items : {ts us rest : List Token} {all : List ComponentFile} {x : ComponentFile} {p : Place} → IsItems ts all (mark Comma p ∷ us) → IsItem us x rest
      → IsItems ts (all ++ x ∷ []) rest

-- [CDir], where CDir = DIRECTORY Name ":" FROM String {"," Name ":" FROM String} ";"
pub data IsDirectory : List Token → List ComponentFile → List Token → Type 0 where
  no_directory : {rest : List Token} → IsDirectory rest [] rest
  directory : {ts rest : List Token} {all : List ComponentFile} {p q : Place} → IsItems ts all (mark Semicolon q ∷ rest)
      → IsDirectory (word DirectoryWord p ∷ ts) all rest

-- File = [CDir] Config "."
pub data IsConfig : List Token → Config → List Token → Type 0 where
  a_config : {ts us rest : List Token} {all : List ComponentFile} {x : Configuration} {p : Place} → IsDirectory ts all us
      → IsConfiguration us x (mark Dot p ∷ rest) → IsConfig ts (config_of all x) rest

-- ---- nesting

-- inside so many configurations another may stand
unfoldable pub limit : ℕ
limit = NESTING

-- the tokens from the word CONFIGURATION on of the first one that stands inside so many others
abbrev mutual
  pub deep_configuration : ℕ → {ts : List Token} {x : Configuration} {rest : List Token} → IsConfiguration ts x rest → Option (List Token)
  deep_configuration zero (configured {ts = ts} {q = q} _ _ _ _) = Some (word ConfigurationWord q ∷ ts)
  deep_configuration (suc n) (configured _ _ _ d) = first (deep_block n d) None

  pub deep_block : ℕ → {ts : List Token} {x : List ConfigStatement} {rest : List Token} → IsBlock ts x rest → Option (List Token)
  deep_block n (begin_end d) = first (deep_body n d) None
  deep_block n (braces d) = first (deep_body n d) None

  pub deep_body : ℕ → {ts : List Token} {x : List ConfigStatement} {rest : List Token} → IsBody ts x rest → Option (List Token)
  deep_body n no_statements = None
  deep_body n (open_statements d) = first (deep_statements n d) None
  deep_body n (closed_statements d) = first (deep_statements n d) None

  pub deep_statements : ℕ → {ts : List Token} {x : List ConfigStatement} {rest : List Token} → IsStatements ts x rest → Option (List Token)
  deep_statements n (a_statement d) = first (deep_statement n d) None
  deep_statements n (statements d f) = first (deep_statements n d) (first (deep_statement n f) None)

  pub deep_statement : ℕ → {ts : List Token} {x : ConfigStatement} {rest : List Token} → IsStatement ts x rest → Option (List Token)
  deep_statement n (declared d) = first (deep_configuration n d) None
  deep_statement n (instance _ _ _) = None

abbrev pub deep_config : ℕ → {ts : List Token} {x : Config} {rest : List Token} → IsConfig ts x rest → Option (List Token)
deep_config n (a_config _ d) = first (deep_configuration n d) None
