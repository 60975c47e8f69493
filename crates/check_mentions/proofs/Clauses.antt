-- What each form mentions, before what stands behind it.
use Rattle.std.proofs.Common.{◌≡◌, ℕ, List, [], ◌∷◌, ◌++◌, Bool, Some, None, length, refl, ap, ◌∙◌, arith, append_assoc}
use Rattle.mesa_base.specs.declared.identifier.Identifier.{Identifier}
use Rattle.mesa_base.specs.declared.place.Place.{Place}
use Rattle.mesa_base.specs.declared.placed.Placed.{Placed}
use Rattle.syntax_trees.specs.Syntax as s
use Rattle.syntax_trees.specs.PlainSyntax as plain
use Rattle.mesa_base.specs.declared.relation.Relation.{Relation}
use Rattle.syntax_trees.specs.declared.syntax.Arm.{Arm, out-Arm}
use Rattle.syntax_trees.specs.declared.syntax.Block.{Block, out-Block}
use Rattle.syntax_trees.specs.declared.syntax.Brackets.{Brackets, out-Brackets}
use Rattle.syntax_trees.specs.declared.syntax.Case.{Case, out-Case}
use Rattle.syntax_trees.specs.declared.syntax.Condition.{Condition}
use Rattle.syntax_trees.specs.declared.syntax.Control.{Control, out-Control}
use Rattle.syntax_trees.specs.declared.syntax.Count.{Count}
use Rattle.syntax_trees.specs.declared.syntax.Entries.{Entries}
use Rattle.syntax_trees.specs.declared.syntax.Expr.{Expr}
use Rattle.syntax_trees.specs.declared.syntax.Interval.{Interval, out-Interval}
use Rattle.syntax_trees.specs.declared.syntax.Keyed.{Keyed}
use Rattle.syntax_trees.specs.declared.syntax.Labeled.{Labeled}
use Rattle.syntax_trees.specs.declared.syntax.Left.{Left, out-Left}
use Rattle.syntax_trees.specs.declared.syntax.Operation.{Operation, out-Operation}
use Rattle.syntax_trees.specs.declared.syntax.PlainItem.{PlainItem}
use Rattle.syntax_trees.specs.declared.syntax.QualifiedName.{QualifiedName}
use Rattle.syntax_trees.specs.declared.syntax.RepeatLabels.{RepeatLabels}
use Rattle.syntax_trees.specs.declared.syntax.Sign.{Sign}
use Rattle.syntax_trees.specs.declared.syntax.Statement.{Statement}
use Rattle.syntax_trees.specs.declared.syntax.Suffix.{Suffix}
use Rattle.syntax_trees.specs.declared.syntax.Test.{Test}
use Rattle.syntax_trees.specs.declared.syntax.TypeBase.{TypeBase}
use Rattle.syntax_trees.specs.declared.syntax.TypeExp.{TypeExp}
use Rattle.syntax_trees.specs.declared.syntax.Test.TheVariants as tv
use Rattle.syntax_trees.proofs.PlainForms.{of_value, of_compared, of_inside, parts_of_arm, parts_of_block, parts_of_brackets, parts_of_case, parts_of_control, parts_of_interval, parts_of_left, parts_of_operation}
use Rattle.check_rules.specs.Mentions.{Mention, Text, Made, of_type, of_fields, of_named, of_types, of_interval, of_expr, of_steps, of_left, of_suffixes, of_brackets, of_items, of_exprs, of_keyed, of_raise, of_maybe, of_phrase, of_arms, of_stmt, of_other, of_values, of_targets, of_lefts, of_keyed_lefts, of_stmts, of_control, of_count, of_condition, of_cases, of_tests, of_block, of_locals, of_plain, of_exits, of_repeats}

module _ (rest : List Mention) where
  pub of_run_form : (e : s.Expr) (ss : s.Operations) → of_expr (s.Run e ss) ++ rest ≡ of_expr e ++ (of_steps ss ++ rest)
  unfolding of_expr
  of_run_form e ss = append_assoc (of_expr e) (of_steps ss) rest

  pub of_not_form : (p : Place) (e : s.Expr) → of_expr (s.Not p e) ++ rest ≡ of_expr e ++ rest
  unfolding of_expr
  of_not_form p e = refl

  pub of_compare_form : (d : s.Expr) (b : Bool) (o : Relation) (p : Place) (e : s.Expr) → of_expr (s.Compare d b o p e) ++ rest ≡ of_expr d ++ (of_expr e ++ rest)
  unfolding of_expr
  of_compare_form d b o p e = append_assoc (of_expr d) (of_expr e) rest

  pub of_within_form : (e : s.Expr) (b : Bool) (p : Place) (i : s.Interval) → of_expr (s.Within e b p i) ++ rest ≡ of_expr e ++ (of_interval i ++ rest)
  unfolding of_expr
  of_within_form e b p i = append_assoc (of_expr e) (of_interval i) rest

  pub of_signed_form : (x : Sign) (p : Place) (e : s.Expr) → of_expr (s.Signed x p e) ++ rest ≡ of_expr e ++ rest
  unfolding of_expr
  of_signed_form x p e = refl

  pub of_number_literal_form : (p : Place) (n : ℕ) → of_expr (s.NumberLiteral p n) ++ rest ≡ rest
  unfolding of_expr
  of_number_literal_form p n = refl

  pub of_character_literal_form : (p : Place) (n : ℕ) → of_expr (s.CharacterLiteral p n) ++ rest ≡ rest
  unfolding of_expr
  of_character_literal_form p n = refl

  pub of_string_literal_form : (p : Place) (x : List ℕ) → of_expr (s.StringLiteral p x) ++ rest ≡ Text x ∷ rest
  unfolding of_expr
  of_string_literal_form p x = refl

  pub of_truth_form : (p : Place) (b : Bool) → of_expr (s.Truth p b) ++ rest ≡ rest
  unfolding of_expr
  of_truth_form p b = refl

  pub of_parenthesis_form : (p : Place) (e : s.Expr) → of_expr (s.Parenthesis p e) ++ rest ≡ of_expr e ++ rest
  unfolding of_expr
  of_parenthesis_form p e = refl

  pub of_reference_form : (l : s.Left) → of_expr (s.Reference l) ++ rest ≡ of_left l ++ rest
  unfolding of_expr
  of_reference_form l = refl

  pub of_constructor_form : (p : Place) (xs : s.Items) → of_expr (s.Constructor p xs) ++ rest ≡ of_items xs ++ rest
  unfolding of_expr
  of_constructor_form p xs = refl

  pub of_raised_form : (r : s.Raise) → of_expr (s.Raised r) ++ rest ≡ of_raise r ++ rest
  unfolding of_expr
  of_raised_form r = refl

  pub of_interval_form : (i : Interval) → of_interval (plain.interval i) ++ rest ≡ of_expr (plain.expr (out-Interval i).low) ++ (of_expr (plain.expr (out-Interval i).high) ++ rest)
  unfolding of_interval
  of_interval_form i = ap (λ x. of_interval x ++ rest) (parts_of_interval i) ∙ append_assoc (of_expr (plain.expr (out-Interval i).low)) (of_expr (plain.expr (out-Interval i).high)) rest

  pub of_no_operation_form : (xs : List Operation) → length xs ≡ 0 → of_steps (plain.operations xs) ++ rest ≡ rest
  unfolding of_steps
  of_no_operation_form [] e = refl
  of_no_operation_form (x ∷ xs) e = absurd (omega arith)

  pub of_operation_form : (x : Operation) (xs : List Operation) → of_steps (plain.operations (x ∷ xs)) ++ rest ≡ of_expr (plain.expr (out-Operation x).right) ++ (of_steps (plain.operations xs) ++ rest)
  unfolding of_steps
  of_operation_form x xs = ap (λ (f : s.Operations → s.Operations). of_steps (f (plain.operations xs)) ++ rest) (parts_of_operation x) ∙ append_assoc (of_expr (plain.expr (out-Operation x).right)) (of_steps (plain.operations xs)) rest

  pub of_left_form : (l : Left) → of_left (plain.left l) ++ rest ≡ of_suffixes (plain.suffixes (out-Left l).suffixes) ++ rest
  unfolding of_left
  of_left_form l = ap (λ x. of_left x ++ rest) (parts_of_left l)

  pub of_no_suffix_form : (xs : List Suffix) → length xs ≡ 0 → of_suffixes (plain.suffixes xs) ++ rest ≡ rest
  unfolding of_suffixes
  of_no_suffix_form [] e = refl
  of_no_suffix_form (x ∷ xs) e = absurd (omega arith)

  pub of_suffix_form : (x : Suffix) (xs : List Suffix) → of_suffixes (plain.suffixes (x ∷ xs)) ++ rest ≡ of_suffixes (plain.suffix x (plain.suffixes xs)) ++ rest
  of_suffix_form x xs = refl

  pub of_field_form : (x : Identifier) (ss : s.Suffixes) → of_suffixes (s.Field x ss) ++ rest ≡ of_suffixes ss ++ rest
  unfolding of_suffixes
  of_field_form x ss = refl

  pub of_applied_form : (b : s.Brackets) (ss : s.Suffixes) → of_suffixes (s.Applied b ss) ++ rest ≡ of_brackets b ++ (of_suffixes ss ++ rest)
  unfolding of_suffixes
  of_applied_form b ss = append_assoc (of_brackets b) (of_suffixes ss) rest

  pub of_brackets_form : (b : Brackets) → of_brackets (plain.brackets b) ++ rest ≡ of_items (plain.items (out-Brackets b).items) ++ (of_phrase (plain.phrase (out-Brackets b).catch) ++ rest)
  unfolding of_brackets
  of_brackets_form b = ap (λ x. of_brackets x ++ rest) (parts_of_brackets b) ∙ append_assoc (of_items (plain.items (out-Brackets b).items)) (of_phrase (plain.phrase (out-Brackets b).catch)) rest

  pub of_no_items_form : of_items s.Nothing ++ rest ≡ rest
  unfolding of_items
  of_no_items_form = refl

  pub of_items_in_order_form : (es : s.Exprs) → of_items (s.InOrder es) ++ rest ≡ of_exprs es ++ rest
  unfolding of_items
  of_items_in_order_form es = refl

  pub of_items_by_key_form : (es : s.KeyedExprs) → of_items (s.ByKey es) ++ rest ≡ of_keyed es ++ rest
  unfolding of_items
  of_items_by_key_form es = refl

  pub of_no_exprs_form : (xs : List Expr) → length xs ≡ 0 → of_exprs (plain.exprs xs) ++ rest ≡ rest
  unfolding of_exprs
  of_no_exprs_form [] e = refl
  of_no_exprs_form (x ∷ xs) e = absurd (omega arith)

  pub of_more_exprs_form : (x : Expr) (xs : List Expr) → of_exprs (plain.exprs (x ∷ xs)) ++ rest ≡ of_expr (plain.expr x) ++ (of_exprs (plain.exprs xs) ++ rest)
  unfolding of_exprs
  of_more_exprs_form x xs = append_assoc (of_expr (plain.expr x)) (of_exprs (plain.exprs xs)) rest

  pub of_no_keyed_form : (xs : List (Keyed Expr)) → length xs ≡ 0 → of_keyed (plain.keyed_exprs xs) ++ rest ≡ rest
  unfolding of_keyed
  of_no_keyed_form [] e = refl
  of_no_keyed_form (x ∷ xs) e = absurd (omega arith)

  pub of_more_keyed_form : (x : Keyed Expr) (xs : List (Keyed Expr)) → of_keyed (plain.keyed_exprs (x ∷ xs)) ++ rest ≡ of_expr (plain.expr x.item) ++ (of_keyed (plain.keyed_exprs xs) ++ rest)
  unfolding of_keyed
  of_more_keyed_form x xs = append_assoc (of_expr (plain.expr x.item)) (of_keyed (plain.keyed_exprs xs)) rest

  pub of_signal_raise_form : (p : Place) (q : QualifiedName) (b : s.MaybeBrackets) → of_raise (s.SignalRaise p q b) ++ rest ≡ of_maybe b ++ rest
  unfolding of_raise
  of_signal_raise_form p q b = refl

  pub of_error_raise_form : (p : Place) (q : QualifiedName) (b : s.MaybeBrackets) → of_raise (s.ErrorRaise p q b) ++ rest ≡ of_maybe b ++ rest
  unfolding of_raise
  of_error_raise_form p q b = refl

  pub of_no_brackets_form : of_maybe s.NoBrackets ++ rest ≡ rest
  unfolding of_maybe
  of_no_brackets_form = refl

  pub of_with_brackets_form : (b : s.Brackets) → of_maybe (s.WithBrackets b) ++ rest ≡ of_brackets b ++ rest
  unfolding of_maybe
  of_with_brackets_form b = refl

  pub of_unnamed_error_form : (p : Place) → of_raise (s.UnnamedError p) ++ rest ≡ rest
  unfolding of_raise
  of_unnamed_error_form p = refl

  pub of_no_phrase_form : of_phrase (plain.phrase None) ++ rest ≡ rest
  unfolding of_phrase
  of_no_phrase_form = refl

  pub of_catch_form : (x : Placed (List Arm)) → of_phrase (plain.phrase (Some x)) ++ rest ≡ of_arms (plain.arms x.item) ++ rest
  unfolding of_phrase
  of_catch_form x = refl

  pub of_no_arms_form : (xs : List Arm) → length xs ≡ 0 → of_arms (plain.arms xs) ++ rest ≡ rest
  unfolding of_arms
  of_no_arms_form [] e = refl
  of_no_arms_form (x ∷ xs) e = absurd (omega arith)

  pub of_more_arms_form : (x : Arm) (xs : List Arm) → of_arms (plain.arms (x ∷ xs)) ++ rest ≡ of_stmt (plain.statement (out-Arm x).body) ++ (of_arms (plain.arms xs) ++ rest)
  unfolding of_arms
  of_more_arms_form x xs = ap (λ (f : s.Arms → s.Arms). of_arms (f (plain.arms xs)) ++ rest) (parts_of_arm x) ∙ append_assoc (of_stmt (plain.statement (out-Arm x).body)) (of_arms (plain.arms xs)) rest

  pub of_integer_form : (p : Place) → of_type (s.Integer p) ++ rest ≡ rest
  unfolding of_type
  of_integer_form p = refl

  pub of_cardinal_form : (p : Place) → of_type (s.Cardinal p) ++ rest ≡ rest
  unfolding of_type
  of_cardinal_form p = refl

  pub of_long_integer_form : (p : Place) → of_type (s.LongInteger p) ++ rest ≡ rest
  unfolding of_type
  of_long_integer_form p = refl

  pub of_long_cardinal_form : (p : Place) → of_type (s.LongCardinal p) ++ rest ≡ rest
  unfolding of_type
  of_long_cardinal_form p = refl

  pub of_boolean_form : (p : Place) → of_type (s.Boolean p) ++ rest ≡ rest
  unfolding of_type
  of_boolean_form p = refl

  pub of_character_form : (p : Place) → of_type (s.Character p) ++ rest ≡ rest
  unfolding of_type
  of_character_form p = refl

  pub of_string_form : (p : Place) → of_type (s.String p) ++ rest ≡ rest
  unfolding of_type
  of_string_form p = refl

  pub of_called_form : (q : QualifiedName) → of_type (s.Called q) ++ rest ≡ rest
  unfolding of_type
  of_called_form q = refl

  pub of_enumeration_form : (p : Place) (xs : List Identifier) → of_type (s.Enumeration p xs) ++ rest ≡ Made p.token ∷ rest
  unfolding of_type
  of_enumeration_form p xs = refl

  pub of_subrange_form : (b : TypeBase) (i : s.Interval) → of_type (s.Subrange b i) ++ rest ≡ of_interval i ++ rest
  unfolding of_type
  of_subrange_form b i = refl

  pub of_array_form : (p : Place) (i e : s.TypeExp) → of_type (s.Array p i e) ++ rest ≡ of_type i ++ (of_type e ++ rest)
  unfolding of_type
  of_array_form p i e = append_assoc (of_type i) (of_type e) rest

  pub of_record_form : (p : Place) (fs : s.FieldList) → of_type (s.Record p fs) ++ rest ≡ Made p.token ∷ (of_fields fs ++ rest)
  unfolding of_type
  of_record_form p fs = refl

  pub of_with_names_form : (fs : s.NamedFields) → of_fields (s.WithNames fs) ++ rest ≡ of_named fs ++ rest
  unfolding of_fields
  of_with_names_form fs = refl

  pub of_unnamed_form : (ts : s.TypeExps) → of_fields (s.Unnamed ts) ++ rest ≡ of_types ts ++ rest
  unfolding of_fields
  of_unnamed_form ts = refl

  pub of_no_fields_form : (xs : List (Labeled (List Identifier) TypeExp)) → length xs ≡ 0 → of_named (plain.named_fields xs) ++ rest ≡ rest
  unfolding of_named
  of_no_fields_form [] e = refl
  of_no_fields_form (x ∷ xs) e = absurd (omega arith)

  pub of_more_fields_form : (x : Labeled (List Identifier) TypeExp) (xs : List (Labeled (List Identifier) TypeExp)) → of_named (plain.named_fields (x ∷ xs)) ++ rest ≡ of_type (plain.type_exp x.item) ++ (of_named (plain.named_fields xs) ++ rest)
  unfolding of_named
  of_more_fields_form x xs = append_assoc (of_type (plain.type_exp x.item)) (of_named (plain.named_fields xs)) rest

  pub of_no_types_form : (xs : List TypeExp) → length xs ≡ 0 → of_types (plain.types xs) ++ rest ≡ rest
  unfolding of_types
  of_no_types_form [] e = refl
  of_no_types_form (x ∷ xs) e = absurd (omega arith)

  pub of_more_types_form : (x : TypeExp) (xs : List TypeExp) → of_types (plain.types (x ∷ xs)) ++ rest ≡ of_type (plain.type_exp x) ++ (of_types (plain.types xs) ++ rest)
  unfolding of_types
  of_more_types_form x xs = append_assoc (of_type (plain.type_exp x)) (of_types (plain.types xs)) rest

  pub of_type_is_form : (e : s.TypeExp) → of_plain (s.TypeIs e) ++ rest ≡ of_type e ++ rest
  unfolding of_plain
  of_type_is_form e = refl

  pub of_variable_form : (e : s.TypeExp) → of_plain (s.Variable e) ++ rest ≡ of_type e ++ rest
  unfolding of_plain
  of_variable_form e = refl

  pub of_initial_form : (e : s.TypeExp) (x : s.Expr) → of_plain (s.Initial e x) ++ rest ≡ of_type e ++ (of_expr x ++ rest)
  unfolding of_plain
  of_initial_form e x = append_assoc (of_type e) (of_expr x) rest

  pub of_constant_form : (e : s.TypeExp) (x : s.Expr) → of_plain (s.Constant e x) ++ rest ≡ of_type e ++ (of_expr x ++ rest)
  unfolding of_plain
  of_constant_form e x = append_assoc (of_type e) (of_expr x) rest

  pub of_nested_form : (b : s.Block) → of_stmt (s.Nested b) ++ rest ≡ of_block b ++ rest
  unfolding of_stmt
  of_nested_form b = refl

  pub of_assign_form : (l : s.Left) (e : s.Expr) → of_stmt (s.Assign l e) ++ rest ≡ of_left l ++ (of_expr e ++ rest)
  unfolding of_stmt
  of_assign_form l e = append_assoc (of_left l) (of_expr e) rest

  pub of_extract_form : (p : Place) (ts : s.Targets) (e : s.Expr) → of_stmt (s.Extract p ts e) ++ rest ≡ of_targets ts ++ (of_expr e ++ rest)
  unfolding of_stmt
  of_extract_form p ts e = append_assoc (of_targets ts) (of_expr e) rest

  pub of_call_form : (l : s.Left) → of_stmt (s.Call l) ++ rest ≡ of_left l ++ rest
  unfolding of_stmt
  of_call_form l = refl

  pub of_raise_statement_form : (r : s.Raise) → of_stmt (s.RaiseStatement r) ++ rest ≡ of_raise r ++ rest
  unfolding of_stmt
  of_raise_statement_form r = refl

  pub of_if_form : (p : Place) (e : s.Expr) (x : s.Statement) (y : s.MaybeStatement) → of_stmt (s.If p e x y) ++ rest ≡ of_expr e ++ (of_stmt x ++ (of_other y ++ rest))
  unfolding of_stmt
  of_if_form p e x y = append_assoc (of_expr e) (of_stmt x ++ of_other y) rest ∙ ap (λ xs. of_expr e ++ xs) (append_assoc (of_stmt x) (of_other y) rest)

  pub of_select_form : (p : Place) (e : s.Expr) (cs : s.Cases) (y : s.MaybeStatement) → of_stmt (s.Select p e cs y) ++ rest ≡ of_expr e ++ (of_cases cs ++ (of_other y ++ rest))
  unfolding of_stmt
  of_select_form p e cs y = append_assoc (of_expr e) (of_cases cs ++ of_other y) rest ∙ ap (λ xs. of_expr e ++ xs) (append_assoc (of_cases cs) (of_other y) rest)

  pub of_loop_form : (c : s.Control) (p : Place) (ph : s.Phrase) (xs : s.Statements) (rs : s.Repeats) → of_stmt (s.Loop c p ph xs rs) ++ rest ≡ of_control c ++ (of_phrase ph ++ (of_stmts xs ++ (of_repeats rs ++ rest)))
  unfolding of_stmt
  of_loop_form c p ph xs rs = append_assoc (of_control c) (of_phrase ph ++ (of_stmts xs ++ of_repeats rs)) rest ∙ ap (λ ms. of_control c ++ ms) (append_assoc (of_phrase ph) (of_stmts xs ++ of_repeats rs) rest ∙ ap (λ ms. of_phrase ph ++ ms) (append_assoc (of_stmts xs) (of_repeats rs) rest))

  pub of_return_form : (p : Place) (xs : s.MaybeItems) → of_stmt (s.Return p xs) ++ rest ≡ of_values xs ++ rest
  unfolding of_stmt
  of_return_form p xs = refl

  pub of_resume_form : (p : Place) (xs : s.MaybeItems) → of_stmt (s.Resume p xs) ++ rest ≡ of_values xs ++ rest
  unfolding of_stmt
  of_resume_form p xs = refl

  pub of_null_form : (p : Place) → of_stmt (s.Null p) ++ rest ≡ rest
  unfolding of_stmt
  of_null_form p = refl

  pub of_exit_loop_form : (p : Place) → of_stmt (s.ExitLoop p) ++ rest ≡ rest
  unfolding of_stmt
  of_exit_loop_form p = refl

  pub of_next_turn_form : (p : Place) → of_stmt (s.NextTurn p) ++ rest ≡ rest
  unfolding of_stmt
  of_next_turn_form p = refl

  pub of_reject_form : (p : Place) → of_stmt (s.Reject p) ++ rest ≡ rest
  unfolding of_stmt
  of_reject_form p = refl

  pub of_retry_form : (p : Place) → of_stmt (s.Retry p) ++ rest ≡ rest
  unfolding of_stmt
  of_retry_form p = refl

  pub of_continue_form : (p : Place) → of_stmt (s.Continue p) ++ rest ≡ rest
  unfolding of_stmt
  of_continue_form p = refl

  pub of_goto_form : (p : Place) (x : Identifier) → of_stmt (s.Goto p x) ++ rest ≡ rest
  unfolding of_stmt
  of_goto_form p x = refl

  pub of_no_statement_form : of_other (plain.maybe_statement None) ++ rest ≡ rest
  unfolding of_other
  of_no_statement_form = refl

  pub of_one_statement_form : (x : Statement) → of_other (plain.maybe_statement (Some x)) ++ rest ≡ of_stmt (plain.statement x) ++ rest
  unfolding of_other
  of_one_statement_form x = refl

  pub of_no_values_form : of_values (plain.maybe_items None) ++ rest ≡ rest
  unfolding of_values
  of_no_values_form = refl

  pub of_with_values_form : (x : Placed (Entries Expr)) → of_values (plain.maybe_items (Some x)) ++ rest ≡ of_items (plain.items x.item) ++ rest
  unfolding of_values
  of_with_values_form x = refl

  pub of_no_target_form : of_targets s.NoTarget ++ rest ≡ rest
  unfolding of_targets
  of_no_target_form = refl

  pub of_targets_in_order_form : (ls : s.Lefts) → of_targets (s.TargetsInOrder ls) ++ rest ≡ of_lefts ls ++ rest
  unfolding of_targets
  of_targets_in_order_form ls = refl

  pub of_targets_by_key_form : (ls : s.KeyedLefts) → of_targets (s.TargetsByKey ls) ++ rest ≡ of_keyed_lefts ls ++ rest
  unfolding of_targets
  of_targets_by_key_form ls = refl

  pub of_no_lefts_form : (xs : List Left) → length xs ≡ 0 → of_lefts (plain.lefts xs) ++ rest ≡ rest
  unfolding of_lefts
  of_no_lefts_form [] e = refl
  of_no_lefts_form (x ∷ xs) e = absurd (omega arith)

  pub of_more_lefts_form : (x : Left) (xs : List Left) → of_lefts (plain.lefts (x ∷ xs)) ++ rest ≡ of_left (plain.left x) ++ (of_lefts (plain.lefts xs) ++ rest)
  unfolding of_lefts
  of_more_lefts_form x xs = append_assoc (of_left (plain.left x)) (of_lefts (plain.lefts xs)) rest

  pub of_no_keyed_lefts_form : (xs : List (Keyed Left)) → length xs ≡ 0 → of_keyed_lefts (plain.keyed_lefts xs) ++ rest ≡ rest
  unfolding of_keyed_lefts
  of_no_keyed_lefts_form [] e = refl
  of_no_keyed_lefts_form (x ∷ xs) e = absurd (omega arith)

  pub of_more_keyed_lefts_form : (x : Keyed Left) (xs : List (Keyed Left)) → of_keyed_lefts (plain.keyed_lefts (x ∷ xs)) ++ rest ≡ of_left (plain.left x.item) ++ (of_keyed_lefts (plain.keyed_lefts xs) ++ rest)
  unfolding of_keyed_lefts
  of_more_keyed_lefts_form x xs = append_assoc (of_left (plain.left x.item)) (of_keyed_lefts (plain.keyed_lefts xs)) rest

  pub of_no_statements_form : (xs : List Statement) → length xs ≡ 0 → of_stmts (plain.statements xs) ++ rest ≡ rest
  unfolding of_stmts
  of_no_statements_form [] e = refl
  of_no_statements_form (x ∷ xs) e = absurd (omega arith)

  pub of_more_statements_form : (x : Statement) (xs : List Statement) → of_stmts (plain.statements (x ∷ xs)) ++ rest ≡ of_stmt (plain.statement x) ++ (of_stmts (plain.statements xs) ++ rest)
  unfolding of_stmts
  of_more_statements_form x xs = append_assoc (of_stmt (plain.statement x)) (of_stmts (plain.statements xs)) rest

  pub of_control_form : (c : Control) → of_control (plain.control c) ++ rest ≡ of_count (plain.maybe_count (out-Control c).count) ++ (of_condition (plain.maybe_condition (out-Control c).condition) ++ rest)
  unfolding of_control
  of_control_form c = ap (λ x. of_control x ++ rest) (parts_of_control c) ∙ append_assoc (of_count (plain.maybe_count (out-Control c).count)) (of_condition (plain.maybe_condition (out-Control c).condition)) rest

  pub of_no_count_form : of_count (plain.maybe_count None) ++ rest ≡ rest
  unfolding of_count
  of_no_count_form = refl

  pub of_some_count_form : (c : Count) → of_count (plain.maybe_count (Some c)) ++ rest ≡ of_count (plain.count c) ++ rest
  of_some_count_form c = refl

  pub of_for_form : (p : Place) (x : Identifier) (b : Bool) (i : s.Interval) → of_count (s.For p x b i) ++ rest ≡ of_interval i ++ rest
  unfolding of_count
  of_for_form p x b i = refl

  pub of_through_form : (p : Place) (i : s.Interval) → of_count (s.Through p i) ++ rest ≡ of_interval i ++ rest
  unfolding of_count
  of_through_form p i = refl

  pub of_no_condition_form : of_condition (plain.maybe_condition None) ++ rest ≡ rest
  unfolding of_condition
  of_no_condition_form = refl

  pub of_some_condition_form : (c : Condition) → of_condition (plain.maybe_condition (Some c)) ++ rest ≡ of_condition (plain.condition c) ++ rest
  of_some_condition_form c = refl

  pub of_while_form : (p : Place) (e : s.Expr) → of_condition (s.While p e) ++ rest ≡ of_expr e ++ rest
  unfolding of_condition
  of_while_form p e = refl

  pub of_until_form : (p : Place) (e : s.Expr) → of_condition (s.Until p e) ++ rest ≡ of_expr e ++ rest
  unfolding of_condition
  of_until_form p e = refl

  pub of_no_cases_form : (xs : List Case) → length xs ≡ 0 → of_cases (plain.cases xs) ++ rest ≡ rest
  unfolding of_cases
  of_no_cases_form [] e = refl
  of_no_cases_form (x ∷ xs) e = absurd (omega arith)

  pub of_more_cases_form : (x : Case) (xs : List Case) → of_cases (plain.cases (x ∷ xs)) ++ rest ≡ of_tests (plain.tests (out-Case x).tests) ++ (of_stmt (plain.statement (out-Case x).body) ++ (of_cases (plain.cases xs) ++ rest))
  unfolding of_cases
  of_more_cases_form x xs = ap (λ (f : s.Cases → s.Cases). of_cases (f (plain.cases xs)) ++ rest) (parts_of_case x) ∙ append_assoc (of_tests (plain.tests (out-Case x).tests)) (of_stmt (plain.statement (out-Case x).body) ++ of_cases (plain.cases xs)) rest ∙ ap (λ ms. of_tests (plain.tests (out-Case x).tests) ++ ms) (append_assoc (of_stmt (plain.statement (out-Case x).body)) (of_cases (plain.cases xs)) rest)

  pub of_no_tests_form : (xs : List Test) → length xs ≡ 0 → of_tests (plain.tests xs) ++ rest ≡ rest
  unfolding of_tests
  of_no_tests_form [] e = refl
  of_no_tests_form (x ∷ xs) e = absurd (omega arith)

  pub of_value_form : (e : Expr) (ts : s.Tests) → of_tests (plain.test (tv.Value e) ts) ++ rest ≡ of_expr (plain.expr e) ++ (of_tests ts ++ rest)
  unfolding of_tests
  of_value_form e ts = ap (λ (f : s.Tests → s.Tests). of_tests (f ts) ++ rest) (of_value e) ∙ append_assoc (of_expr (plain.expr e)) (of_tests ts) rest

  pub of_compared_form : (b : Bool) (o : Relation) (p : Place) (e : Expr) (ts : s.Tests)
      → of_tests (plain.test (tv.Compared b o p e) ts) ++ rest ≡ of_expr (plain.expr e) ++ (of_tests ts ++ rest)
  unfolding of_tests
  of_compared_form b o p e ts = ap (λ (f : s.Tests → s.Tests). of_tests (f ts) ++ rest) (of_compared b o p e) ∙ append_assoc (of_expr (plain.expr e)) (of_tests ts) rest

  pub of_inside_form : (b : Bool) (p : Place) (i : Interval) (ts : s.Tests)
      → of_tests (plain.test (tv.Inside b p i) ts) ++ rest ≡ of_interval (plain.interval i) ++ (of_tests ts ++ rest)
  unfolding of_tests
  of_inside_form b p i ts =
      ap (λ (f : s.Tests → s.Tests). of_tests (f ts) ++ rest) (of_inside b p i) ∙ append_assoc (of_interval (plain.interval i)) (of_tests ts) rest

  pub of_block_form : (b : Block) → of_block (plain.block b) ++ rest ≡ of_phrase (plain.phrase (out-Block b).enable) ++ (of_locals (plain.locals (out-Block b).locals) ++ (of_stmts (plain.statements (out-Block b).statements) ++ (of_exits (plain.exits (out-Block b).exits) ++ rest)))
  unfolding of_block
  of_block_form b = ap (λ x. of_block x ++ rest) (parts_of_block b) ∙ append_assoc (of_phrase (plain.phrase (out-Block b).enable)) (of_locals (plain.locals (out-Block b).locals) ++ (of_stmts (plain.statements (out-Block b).statements) ++ of_exits (plain.exits (out-Block b).exits))) rest ∙ ap (λ ms. of_phrase (plain.phrase (out-Block b).enable) ++ ms) (append_assoc (of_locals (plain.locals (out-Block b).locals)) (of_stmts (plain.statements (out-Block b).statements) ++ of_exits (plain.exits (out-Block b).exits)) rest ∙ ap (λ ms. of_locals (plain.locals (out-Block b).locals) ++ ms) (append_assoc (of_stmts (plain.statements (out-Block b).statements)) (of_exits (plain.exits (out-Block b).exits)) rest))

  pub of_no_locals_form : (xs : List (Labeled (List Identifier) PlainItem)) → length xs ≡ 0 → of_locals (plain.locals xs) ++ rest ≡ rest
  unfolding of_locals
  of_no_locals_form [] e = refl
  of_no_locals_form (x ∷ xs) e = absurd (omega arith)

  pub of_more_locals_form : (x : Labeled (List Identifier) PlainItem) (xs : List (Labeled (List Identifier) PlainItem)) → of_locals (plain.locals (x ∷ xs)) ++ rest ≡ of_plain (plain.plain_item x.item) ++ (of_locals (plain.locals xs) ++ rest)
  unfolding of_locals
  of_more_locals_form x xs = append_assoc (of_plain (plain.plain_item x.item)) (of_locals (plain.locals xs)) rest

  pub of_no_exits_form : (xs : List (Labeled (List Identifier) Statement)) → length xs ≡ 0 → of_exits (plain.exits xs) ++ rest ≡ rest
  unfolding of_exits
  of_no_exits_form [] e = refl
  of_no_exits_form (x ∷ xs) e = absurd (omega arith)

  pub of_more_exits_form : (x : Labeled (List Identifier) Statement) (xs : List (Labeled (List Identifier) Statement)) → of_exits (plain.exits (x ∷ xs)) ++ rest ≡ of_stmt (plain.statement x.item) ++ (of_exits (plain.exits xs) ++ rest)
  unfolding of_exits
  of_more_exits_form x xs = append_assoc (of_stmt (plain.statement x.item)) (of_exits (plain.exits xs)) rest

  pub of_no_repeats_form : (xs : List (Labeled RepeatLabels Statement)) → length xs ≡ 0 → of_repeats (plain.repeats xs) ++ rest ≡ rest
  unfolding of_repeats
  of_no_repeats_form [] e = refl
  of_no_repeats_form (x ∷ xs) e = absurd (omega arith)

  pub of_more_repeats_form : (x : Labeled RepeatLabels Statement) (xs : List (Labeled RepeatLabels Statement)) → of_repeats (plain.repeats (x ∷ xs)) ++ rest ≡ of_stmt (plain.statement x.item) ++ (of_repeats (plain.repeats xs) ++ rest)
  unfolding of_repeats
  of_more_repeats_form x xs = append_assoc (of_stmt (plain.statement x.item)) (of_repeats (plain.repeats xs)) rest

-- ---- the forms of each type

pub ruleset expressions = (of_run_form, of_not_form, of_compare_form, of_within_form, of_signed_form, of_number_literal_form, of_character_literal_form, of_string_literal_form, of_truth_form, of_parenthesis_form, of_reference_form, of_constructor_form, of_raised_form)

pub ruleset intervals = (of_interval_form)

pub ruleset operations = (of_no_operation_form, of_operation_form)

pub ruleset lefts = (of_left_form)

pub ruleset suffixes = (of_no_suffix_form, of_suffix_form, of_field_form, of_applied_form)

pub ruleset pairs_of_brackets = (of_brackets_form)

pub ruleset items = (of_no_items_form, of_items_in_order_form, of_items_by_key_form)

pub ruleset values = (of_no_exprs_form, of_more_exprs_form)

pub ruleset keyed_values = (of_no_keyed_form, of_more_keyed_form)

pub ruleset raises = (of_signal_raise_form, of_error_raise_form, of_unnamed_error_form)

pub ruleset maybe_brackets = (of_no_brackets_form, of_with_brackets_form)

pub ruleset phrases = (of_no_phrase_form, of_catch_form)

pub ruleset arms = (of_no_arms_form, of_more_arms_form)

pub ruleset written_types = (of_integer_form, of_cardinal_form, of_long_integer_form, of_long_cardinal_form, of_boolean_form, of_character_form, of_string_form, of_called_form, of_enumeration_form, of_subrange_form, of_array_form, of_record_form)

pub ruleset field_lists = (of_with_names_form, of_unnamed_form)

pub ruleset named_fields = (of_no_fields_form, of_more_fields_form)

pub ruleset types = (of_no_types_form, of_more_types_form)

pub ruleset plain_items = (of_type_is_form, of_variable_form, of_initial_form, of_constant_form)

pub ruleset forms_of_statements = (of_nested_form, of_assign_form, of_extract_form, of_call_form, of_raise_statement_form, of_if_form, of_select_form, of_loop_form, of_return_form, of_resume_form, of_null_form, of_exit_loop_form, of_next_turn_form, of_reject_form, of_retry_form, of_continue_form, of_goto_form)

pub ruleset maybe_statements = (of_no_statement_form, of_one_statement_form)

pub ruleset maybe_values = (of_no_values_form, of_with_values_form)

pub ruleset targets = (of_no_target_form, of_targets_in_order_form, of_targets_by_key_form)

pub ruleset lists_of_lefts = (of_no_lefts_form, of_more_lefts_form)

pub ruleset keyed_lefts = (of_no_keyed_lefts_form, of_more_keyed_lefts_form)

pub ruleset statements = (of_no_statements_form, of_more_statements_form)

pub ruleset controls = (of_control_form)

pub ruleset counts = (of_no_count_form, of_some_count_form, of_for_form, of_through_form)

pub ruleset conditions = (of_no_condition_form, of_some_condition_form, of_while_form, of_until_form)

pub ruleset cases = (of_no_cases_form, of_more_cases_form)

pub ruleset tests = (of_no_tests_form, of_value_form, of_compared_form, of_inside_form)

pub ruleset blocks = (of_block_form)

pub ruleset locals = (of_no_locals_form, of_more_locals_form)

pub ruleset exits = (of_no_exits_form, of_more_exits_form)

pub ruleset repeats = (of_no_repeats_form, of_more_repeats_form)
