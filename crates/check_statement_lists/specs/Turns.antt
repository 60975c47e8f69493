-- The rules of lists, one part of a list at a time.
use Rattle.std.specs.Prelude.{ℕ, Bool, List, map}
use Rattle.mesa_base.specs.declared.identifier.Identifier.{Identifier}
use Rattle.syntax_trees.specs.PlainSyntax as plain
use Rattle.syntax_trees.specs.Syntax as s
use Rattle.syntax_trees.specs.declared.syntax.Arm.{Arm, out-Arm}
use Rattle.syntax_trees.specs.declared.syntax.Labeled.{Labeled}
use Rattle.syntax_trees.specs.declared.syntax.RepeatLabels.{RepeatLabels}
use Rattle.syntax_trees.specs.declared.syntax.Statement.{Statement}
use Rattle.check_rules.specs.Typed as t
use Rattle.check_rules.specs.Around.{Around, in_arm, label_of}
use Rattle.check_rules.specs.Checking as spec
use Rattle.check_rules.specs.Names.{arm_labels}
use Rattle.check_rules.specs.Parts.{distinct, join_stmts}
use Rattle.check_rules.specs.Statements.{Left, also_left, enter_arm, new_labels, numbers_from}
use Rattle.check_rules.specs.Steps.{Check, ◌>>=◌, pure, lift, in_scope}

-- statements behind others that are checked
unfoldable pub statements_behind : Around → t.Stmts → s.Statements → Check t.Stmts
statements_behind a before ss = spec.statements a ss >>= (λ bs. pure (join_stmts before bs))

unfoldable pub one_arm : Around → Arm → Check (t.Arms → t.Arms)
one_arm a x = do
  ls ← arm_labels a (out-Arm x).labels
  p ← enter_arm a ls
  b ← in_scope p.scope (spec.statement (in_arm ls a) (plain.statement (out-Arm x).body))
  pure (t.AndArm (map label_of ls) p.first p.count b)

-- the statement of some labels of an EXITS, whose first has this number, behind labels with these names
unfoldable pub one_exit : Around → ℕ → List (List ℕ) → Labeled (List Identifier) Statement → Check (t.Exits → t.Exits)
one_exit a n taken x = do
  _ ← lift (distinct taken x.labels)
  b ← spec.statement a (plain.statement x.item)
  pure (t.AndExit (numbers_from n x.labels) b)

-- the same of a REPEAT
unfoldable pub one_repeat : Around → ℕ → List (List ℕ) → Bool → Labeled RepeatLabels Statement → Check (Left → Left)
one_repeat a n taken finished x = do
  _ ← lift (new_labels taken finished x.labels)
  b ← spec.statement a (plain.statement x.item)
  pure (also_left x.labels n b)

-- the same behind what is left so far
unfoldable pub repeat_behind : Around → ℕ → List (List ℕ) → Bool → Labeled RepeatLabels Statement → (Left → Left) → Check (Left → Left)
repeat_behind a n taken finished x before = one_repeat a n taken finished x >>= (λ put. pure (λ later. before (put later)))
