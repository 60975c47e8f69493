-- What the parser functions take from the level below, how texts begin, and names.
use Rattle.std.specs.Prelude.{ℕ, Bool, ◌||◌, List, [], ◌∷◌, ◌++◌, Option, Some, None}
use Rattle.mesa_base.specs.declared.place.Place.{Place}
use Rattle.mesa_lexer.specs.declared.token.Kind.{Kind}
use Rattle.mesa_lexer.specs.declared.token.Kind.TheVariants as k
use Rattle.mesa_lexer.specs.declared.word.Word.TheVariants.{AnyWord, ArrayWord, BeginWord, BooleanWord, CardinalWord, CharacterWord, ContinueWord, DoWord}
use Rattle.mesa_lexer.specs.declared.word.Word.TheVariants.{ErrorWord, ExitWord, FalseWord, FinishedWord, ForWord, GoWord, GotoWord, IfWord, InWord}
use Rattle.mesa_lexer.specs.declared.word.Word.TheVariants.{IntegerWord, LongWord, LoopWord, NotWord, NullWord, RecordWord, RejectWord, ResumeWord, RetryWord}
use Rattle.mesa_lexer.specs.declared.word.Word.TheVariants.{ReturnWord, SelectWord, SignalWord, StringWord, ThroughWord, TrueWord, UntilWord, UnwindWord}
use Rattle.mesa_lexer.specs.declared.word.Word.TheVariants.{WhileWord}
use Rattle.mesa_lexer.specs.declared.mark.Mark.TheVariants.{Dot, LeftBracket, LeftParenthesis, LeftBrace, Plus, Minus, Tilde}
use Rattle.token_cursor.specs.Parsing.{Parser, ◌>>=◌, pure, only, among, finds, a_name, option, many}
pub use Rattle.token_cursor.specs.Parsing.{a_number, a_char, a_text}
pub use Rattle.token_cursor.specs.ReadNames.{identifier, comma, names_step}
unfoldable pub use Rattle.token_cursor.specs.ReadNames.{named, names_from, names}
use Rattle.mesa_base.specs.declared.identifier.Identifier.{Identifier}
use Rattle.syntax_trees.specs.declared.syntax.QualifiedName.{QualifiedName}
use Rattle.syntax_trees.specs.declared.syntax.Labels.{Labels}
use Rattle.syntax_trees.specs.declared.syntax.Labels.TheVariants.{Any, Unwind, Signals}
use Rattle.syntax_trees.specs.declared.syntax.RepeatLabels.{RepeatLabels}
use Rattle.syntax_trees.specs.declared.syntax.RepeatLabels.TheVariants.{Named, Finished}
use Rattle.syntax_trees.specs.declared.syntax.TypeExp.{TypeExp}
use Rattle.syntax_trees.specs.declared.syntax.Expr.{Expr}
use Rattle.syntax_trees.specs.declared.syntax.Statement.{Statement}
pub use Rattle.grammar_rules.specs.declared.begun.Begun.{Begun}
pub use Rattle.grammar_rules.specs.declared.begun.Begun.TheVariants.{Fresh, AtName, AtNot}
use Rattle.grammar_rules.specs.WordsAndMarks.{relating}
use Rattle.grammar_rules.specs.Grammar.{qualified}

-- the parsers one level below; `can` tells whether something may begin there, before anything of it is taken
pub record Nested : Type 0 where
  pub can : Bool
  pub stmt : Option Identifier → Parser Statement
  pub expr : Begun → Parser Expr
  pub type : Option Identifier → Parser TypeExp

-- ---- how texts begin

abbrev pub type_starts : List Kind
type_starts = k.Word IntegerWord ∷ k.Word CardinalWord ∷ k.Word LongWord ∷ k.Word CharacterWord ∷ k.Word BooleanWord ∷ k.Word StringWord ∷ k.Mark LeftBrace ∷
    k.Word ArrayWord ∷ k.Word RecordWord ∷ k.Mark LeftBracket ∷ k.Mark LeftParenthesis ∷ []

abbrev pub begins_type : Kind → Bool
begins_type kind = finds a_name kind || among type_starts kind

abbrev pub raise_starts : List Kind
raise_starts = k.Word SignalWord ∷ k.Word ErrorWord ∷ []

abbrev pub expr_starts : List Kind
expr_starts = k.Word TrueWord ∷ k.Word FalseWord ∷ k.Mark LeftParenthesis ∷ k.Mark LeftBracket ∷ k.Word SignalWord ∷ k.Word ErrorWord ∷ k.Mark Plus ∷
    k.Mark Minus ∷ k.Mark Tilde ∷ k.Word NotWord ∷ []

abbrev pub begins_expr : Kind → Bool
begins_expr kind = finds a_name kind || (finds a_number kind || (finds a_char kind || (finds a_text kind || among expr_starts kind)))

abbrev pub loop_starts : List Kind
loop_starts = k.Word ForWord ∷ k.Word ThroughWord ∷ k.Word WhileWord ∷ k.Word UntilWord ∷ k.Word DoWord ∷ []

abbrev pub stmt_starts : List Kind
stmt_starts = k.Word NullWord ∷ k.Word BeginWord ∷ k.Mark LeftBrace ∷ k.Mark LeftBracket ∷ k.Word SignalWord ∷ k.Word ErrorWord ∷ k.Word IfWord ∷
    k.Word SelectWord ∷ k.Word ForWord ∷ k.Word ThroughWord ∷ k.Word WhileWord ∷ k.Word UntilWord ∷ k.Word DoWord ∷ k.Word ExitWord ∷ k.Word LoopWord ∷
    k.Word GotoWord ∷ k.Word GoWord ∷ k.Word ReturnWord ∷ k.Word ResumeWord ∷ k.Word RejectWord ∷ k.Word RetryWord ∷ k.Word ContinueWord ∷ []

abbrev pub begins_stmt : Kind → Bool
begins_stmt kind = finds a_name kind || among stmt_starts kind

abbrev pub begins_arm : Kind → Bool
begins_arm kind = finds a_name kind || among (k.Word AnyWord ∷ k.Word UnwindWord ∷ []) kind

abbrev pub begins_test : Kind → Bool
begins_test kind = finds relating kind || (only (k.Word InWord) kind || begins_expr kind)

abbrev pub begins_repeat : Kind → Bool
begins_repeat kind = finds a_name kind || only (k.Word FinishedWord) kind

-- ---- names

unfoldable pub qname_from : Identifier → Parser QualifiedName
qname_from i = option (k.Mark Dot) (λ _. do j ← named; pure (qualified i (Some j))) (pure (qualified i None))

unfoldable pub qname : Parser QualifiedName
qname = do
  i ← named
  qname_from i

abbrev pub qnames_step : List QualifiedName → Unit {0} → Place → Parser (List QualifiedName)
qnames_step all _ _ = do
  x ← qname
  pure (all ++ x ∷ [])

unfoldable pub qnames : Parser (List QualifiedName)
qnames = do
  x ← qname
  many comma qnames_step (x ∷ [])

unfoldable pub labels : Parser Labels
labels = option (k.Word AnyWord) (λ p. pure (Any p)) (option (k.Word UnwindWord) (λ p. pure (Unwind p)) (do all ← qnames; pure (Signals all)))

unfoldable pub repeat_labels : Parser RepeatLabels
repeat_labels = option (k.Word FinishedWord) (λ p. pure (Finished p)) (do all ← names; pure (Named all))
