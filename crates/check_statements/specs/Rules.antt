-- Parts of the rules of statements, as the code takes them one by one.
use Rattle.std.specs.Prelude.{ℕ, Bool, true, false, []}
use Rattle.syntax_trees.specs.Syntax as s
use Rattle.check_rules.specs.Typed as t
use Rattle.check_rules.specs.Around.{Around, in_round, in_statement, inside, with_labels}
use Rattle.check_rules.specs.Checking as spec
use Rattle.check_rules.specs.Scopes.{nothing}
use Rattle.check_rules.specs.Parts.{first}
use Rattle.check_rules.specs.Statements.{Held, held_words, labels_of_exits, labels_of_repeats, looped, selected}
use Rattle.check_rules.specs.Steps.{Check, ◌>>=◌, pure, hide, in_scope}
use Rattle.check_simple_statements.specs.check_operands.specs.Runs.{freely}
use Rattle.check_simple_statements.specs.Rules.{truth_of}
use Rattle.check_statement_lists.specs.Turns.{statements_behind}

-- what stands around the parts of a statement, and the statement, where it has a number or none
abbrev pub within : Bool → Around → Around
within true a = in_statement a
within false a = a

abbrev pub marked_if : Bool → Around → t.Stmt → t.Stmt
marked_if true a x = t.Marked a.marked x
marked_if false a x = x

unfoldable pub if_inside : Around → s.Expr → s.Statement → s.MaybeStatement → Check t.Stmt
if_inside a e body other = do
  x ← truth_of a e
  b ← spec.statement a body
  o ← spec.otherwise a other
  pure (t.If x b o)

unfoldable pub select_inside : Around → s.Expr → s.Cases → s.MaybeStatement → Check t.Stmt
select_inside a e cs other = do
  x ← freely a e
  _ ← hide (held_words x)
  cs ← spec.cases a (first e) x cs
  o ← spec.otherwise a other
  pure (selected x (cs (t.Otherwise o)))

-- the body of a loop, which has this number, in the loop's ENABLE
unfoldable pub round_in : Around → ℕ → s.Phrase → s.Statements → Check t.Stmt
round_in a n ph ss = do
  w ← spec.phrase a ph
  bs ← spec.statements a ss
  pure (t.Marked n (t.Block w bs t.NoExits))

-- the same with the loop's labels
unfoldable pub round : Around → s.Phrase → s.Statements → s.Repeats → Check t.Stmt
round a ph ss rs = round_in (in_round (labels_of_repeats rs) a) a.marked ph ss

unfoldable pub loop_inside : Around → s.Control → s.Phrase → s.Statements → s.Repeats → Check t.Stmt
loop_inside a c ph ss rs = do
  x ← spec.control a c
  body ← round a ph ss rs
  l ← spec.repeats a a.labelled [] false rs
  pure (looped x.count (t.LoopOf x.condition body l.exits l.finished))

abbrev pub exits_of : s.Block → s.Exits
exits_of (s.BlockOf _ _ _ _ es) = es

abbrev pub enable_of : s.Block → s.Phrase
enable_of (s.BlockOf _ ph _ _ _) = ph

-- a block's declarations, ENABLE and statements
unfoldable pub block_inside : Around → s.Block → Check Held
block_inside a (s.BlockOf p ph locals ss es) = do
  hs ← spec.heads a locals
  w ← spec.phrase a ph
  ds ← spec.initials a locals hs
  bs ← statements_behind a ds ss
  pure (record { phrase = w; statements = bs })

-- the same in the block's scope and with its labels
unfoldable pub block_scope : Around → s.Block → Check Held
block_scope a b = in_scope nothing (block_inside (with_labels (labels_of_exits (exits_of b)) (inside a)) b)

-- a block with its EXITS
unfoldable pub block_numbered : Around → s.Block → Check t.Stmt
block_numbered a (s.BlockOf p ph locals ss es) = do
  x ← block_scope a (s.BlockOf p ph locals ss es)
  es ← spec.exits a a.labelled [] es
  pure (t.Block x.phrase x.statements es)
