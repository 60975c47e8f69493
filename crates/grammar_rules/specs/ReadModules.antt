-- What the parser functions of modules compute, around their statements.
use Rattle.std.specs.Prelude.{ℕ, if◌then◌else◌, List, [], ◌∷◌, ◌++◌, Option, Some, None}
use Rattle.mesa_base.specs.declared.place.Place.{Place}
use Rattle.mesa_lexer.specs.declared.token.Kind.TheVariants as k
use Rattle.mesa_lexer.specs.declared.word.Word.{Word}
use Rattle.mesa_lexer.specs.declared.word.Word.TheVariants.{BeginWord, CodeWord, DefinitionsWord, DirectoryWord, EndWord, ErrorWord, ExportsWord, FromWord}
use Rattle.mesa_lexer.specs.declared.word.Word.TheVariants.{ImportsWord, OpenWord, ProgramWord, ReturnsWord, SignalWord, TypeWord, UsingWord}
use Rattle.mesa_lexer.specs.declared.mark.Mark.TheVariants.{Colon, Dot, LeftBracket, RightBracket, LeftBrace, RightBrace, Equal}
use Rattle.token_cursor.specs.Parsing.{Parser, Got, Stop, Unexpected, ◌>>=◌, ◌>>◌, pure, refuse, a_name, choose, option, need, when, Turned, Again, Done, repeat}
use Rattle.token_cursor.specs.Parsing.{many}
use Rattle.mesa_base.specs.declared.identifier.Identifier.{Identifier}
use Rattle.syntax_trees.specs.declared.syntax.Labeled.{Labeled}
use Rattle.syntax_trees.specs.declared.syntax.FieldList.{FieldList}
use Rattle.syntax_trees.specs.declared.syntax.Statement.{Statement}
use Rattle.syntax_trees.specs.declared.syntax.Block.{Block}
use Rattle.syntax_trees.specs.declared.syntax.Access.{Access}
use Rattle.syntax_trees.specs.declared.syntax.Head.{Head}
use Rattle.syntax_trees.specs.declared.syntax.Declared.{Declared}
use Rattle.syntax_trees.specs.declared.syntax.Declared.TheVariants.{Procedure, Signal, Error, Data}
use Rattle.syntax_trees.specs.declared.syntax.Declaration.{Declaration}
use Rattle.syntax_trees.specs.declared.syntax.Inner.{Inner}
use Rattle.syntax_trees.specs.declared.syntax.Defined.{Defined}
use Rattle.syntax_trees.specs.declared.syntax.Defined.TheVariants.{ProcedureItem, SignalItem, ErrorItem, TypeItem, ConstantItem}
use Rattle.syntax_trees.specs.declared.syntax.ModuleKind.{ModuleKind}
use Rattle.syntax_trees.specs.declared.syntax.ModuleKind.TheVariants.{Program, Interface}
use Rattle.syntax_trees.specs.declared.syntax.DirectoryItem.{DirectoryItem}
use Rattle.syntax_trees.specs.declared.syntax.Module.{Module}
use Rattle.grammar_rules.specs.WordsAndMarks.{procedure_word, accessing}
unfoldable pub use Rattle.grammar_rules.specs.Depth.{limit}
use Rattle.grammar_rules.specs.Grammar.{labeled}
use Rattle.grammar_rules.specs.Modules as m
use Rattle.grammar_rules.specs.ReadNested.{Fresh, Nested, a_text, identifier, comma, named, names, names_from}
use Rattle.grammar_rules.specs.ReadExpressions as x
use Rattle.grammar_rules.specs.ReadStatements as s
use Rattle.grammar_rules.specs.ReadStatements.{semicolon, nested}

-- declarations of the module and the statements behind them
abbrev pub Front : Type 0
Front = List Declaration × List Statement

-- ---- lists of names

unfoldable pub opened : Parser (List Identifier)
opened = option (k.Word OpenWord) (λ _. do ns ← names; need semicolon; pure ns) (pure [])

unfoldable pub listed : Word → Parser (List Identifier)
listed w = option (k.Word w) (λ _. names) (pure [])

unfoldable pub using_names : Parser (Option (List Identifier))
using_names = option (k.Mark RightBracket) (λ _. pure (Some [])) (do ns ← names; need (k.Mark RightBracket); pure (Some ns))

unfoldable pub using : Parser (Option (List Identifier))
using = option (k.Word UsingWord) (λ _. do need (k.Mark LeftBracket); using_names) (pure None)

unfoldable pub file : Identifier → List ℕ → Place → Parser DirectoryItem
file i bytes p = do
  used ← using
  pure (m.directory_item i p bytes used)

unfoldable pub item : Parser DirectoryItem
item = do
  i ← named
  need (k.Mark Colon)
  need (k.Word FromWord)
  choose a_text (file i) refuse

abbrev pub items_step : List DirectoryItem → Unit {0} → Place → Parser (List DirectoryItem)
items_step all _ _ = do
  x ← item
  pure (all ++ x ∷ [])

unfoldable pub items : Parser (List DirectoryItem)
items = do
  x ← item
  all ← many comma items_step (x ∷ [])
  need semicolon
  pure all

unfoldable pub directory : Parser (List DirectoryItem)
directory = option (k.Word DirectoryWord) (λ _. items) (pure [])

unfoldable pub access : Parser (Option Access)
access = choose accessing (λ a _. pure (Some a)) (pure None)

module _ (q : Nested) where
  -- ---- heads

  -- behind the bracket
  unfoldable pub in_params : Parser (Option FieldList)
  in_params = option (k.Mark RightBracket) (λ _. pure None) (do x ← x.field_list q; need (k.Mark RightBracket); pure (Some x))

  unfoldable pub params : Parser (Option FieldList)
  params = option (k.Mark LeftBracket) (λ _. in_params) (pure None)

  unfoldable pub returns : Parser (Option FieldList)
  returns = option (k.Word ReturnsWord) (λ _. do need (k.Mark LeftBracket); in_params) (pure None)

  unfoldable pub head : Parser Head
  head = do
    a ← params
    b ← returns
    pure (m.head a b)

  unfoldable pub block : Parser Block
  block = option (k.Word BeginWord) (s.block q (k.Word EndWord)) (option (k.Mark LeftBrace) (s.block q (k.Mark RightBrace)) refuse)

  unfoldable pub procedure : Parser Declared
  procedure = do
    h ← head
    need (k.Mark Equal)
    b ← block
    pure (Procedure h b)

  unfoldable pub signal : Parser Declared
  signal = do
    h ← head
    need (k.Mark Equal)
    need (k.Word CodeWord)
    pure (Signal h)

  unfoldable pub error : Parser Declared
  error = do
    a ← params
    need (k.Mark Equal)
    need (k.Word CodeWord)
    pure (Error a)

  unfoldable pub declared : Parser Declared
  declared = choose procedure_word (λ _ _. procedure)
      (option (k.Word SignalWord) (λ _. signal) (option (k.Word ErrorWord) (λ _. error) (do x ← s.plain q; pure (Data x))))

  -- a declaration, whose first name was taken
  unfoldable pub declaration : Identifier → Parser Declaration
  declaration i = do
    ns ← names_from i
    need (k.Mark Colon)
    a ← access
    x ← declared
    need semicolon
    pure (m.declaration ns a x)

  unfoldable pub front_end : List Declaration → Parser (Turned (List Declaration) Front)
  front_end ds = do
    ss ← s.body q
    pure (Done (ds, ss))

  unfoldable pub front_from : List Declaration → Identifier → Parser (Turned (List Declaration) Front)
  front_from ds i = when (s.declares q) (do x ← declaration i; pure (Again (ds ++ x ∷ []))) (do ss ← s.stmts q (Some i); pure (Done (ds, ss)))

  unfoldable pub front_turn : List Declaration → Parser (Turned (List Declaration) Front)
  front_turn ds = if q.can then choose a_name (λ n p. front_from ds (identifier n p)) (front_end ds) else front_end ds

  unfoldable pub inner : Parser Inner
  inner = do
    e ← s.enabling q
    h ← repeat front_turn []
    xs ← s.exit_part q
    pure (m.inner e h.0 h.1 xs)

  -- ---- interfaces

  unfoldable pub constant : Parser Defined
  constant = do
    x ← q.type None
    need (k.Mark Equal)
    y ← q.expr Fresh
    pure (ConstantItem x y)

  unfoldable pub type_item : Parser Defined
  type_item = do
    need (k.Mark Equal)
    x ← q.type None
    pure (TypeItem x)

  unfoldable pub defined : Parser Defined
  defined = choose procedure_word (λ _ _. do h ← head; pure (ProcedureItem h))
      (option (k.Word SignalWord) (λ _. do h ← head; pure (SignalItem h))
      (option (k.Word ErrorWord) (λ _. do a ← params; pure (ErrorItem a)) (option (k.Word TypeWord) (λ _. type_item) constant)))

  unfoldable pub definitions_step : List (Labeled (List Identifier) Defined) → List ℕ → Place → Parser (List (Labeled (List Identifier) Defined))
  definitions_step all n p = do
    ns ← names_from (identifier n p)
    need (k.Mark Colon)
    x ← defined
    need semicolon
    pure (all ++ labeled ns x ∷ [])

  unfoldable pub definitions : Parser (List (Labeled (List Identifier) Defined))
  definitions = many a_name definitions_step []

  -- ---- modules

  unfoldable pub program : Place → Parser ModuleKind
  program p = do
    imports ← listed ImportsWord
    exports ← listed ExportsWord
    need (k.Mark Equal)
    need (k.Word BeginWord)
    opens ← opened
    x ← inner
    need (k.Word EndWord)
    pure (Program p imports exports opens x)

  unfoldable pub interface : Place → Parser ModuleKind
  interface p = do
    need (k.Mark Equal)
    need (k.Word BeginWord)
    opens ← opened
    all ← definitions
    need (k.Word EndWord)
    pure (Interface p opens all)

  unfoldable pub kind : Parser ModuleKind
  kind = option (k.Word ProgramWord) program (option (k.Word DefinitionsWord) interface refuse)

  unfoldable pub module_text : Parser Module
  module_text = do
    all ← directory
    i ← named
    need (k.Mark Colon)
    x ← kind
    need (k.Mark Dot)
    pure (m.module_of all i x)

abbrev pub at_end : Module → Parser Module
at_end x [] = Got x []
at_end x (t ∷ ts) = Stop Unexpected (t ∷ ts)

unfoldable pub text : Parser Module
text = do
  x ← module_text (nested limit)
  at_end x
