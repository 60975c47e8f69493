-- Nesting: where in a reading the first statement, expression or type begins that stands inside n others, as the tokens from
-- there on. The three sorts share one count (rule of this project).
use Rattle.std.specs.Prelude.{ℕ, zero, suc, List, Option, Some, None}
use Rattle.mesa_lexer.specs.declared.token.Token.{Token}
use Rattle.token_cursor.specs.Grammars.{first}
use Rattle.mesa_base.specs.declared.limits.TheConstants.{NESTING}
use Rattle.mesa_base.specs.declared.identifier.Identifier.{Identifier}
use Rattle.mesa_base.specs.declared.placed.Placed.{Placed}
use Rattle.syntax_trees.specs.declared.syntax.Keyed.{Keyed}
use Rattle.syntax_trees.specs.declared.syntax.Labeled.{Labeled}
use Rattle.syntax_trees.specs.declared.syntax.Entries.{Entries}
use Rattle.syntax_trees.specs.declared.syntax.TypeExp.{TypeExp}
use Rattle.syntax_trees.specs.declared.syntax.FieldList.{FieldList}
use Rattle.syntax_trees.specs.declared.syntax.Interval.{Interval}
use Rattle.syntax_trees.specs.declared.syntax.Expr.{Expr}
use Rattle.syntax_trees.specs.declared.syntax.Operation.{Operation}
use Rattle.syntax_trees.specs.declared.syntax.Left.{Left}
use Rattle.syntax_trees.specs.declared.syntax.Suffix.{Suffix}
use Rattle.syntax_trees.specs.declared.syntax.Brackets.{Brackets}
use Rattle.syntax_trees.specs.declared.syntax.Raise.{Raise}
use Rattle.syntax_trees.specs.declared.syntax.Arm.{Arm}
use Rattle.syntax_trees.specs.declared.syntax.Statement.{Statement}
use Rattle.syntax_trees.specs.declared.syntax.Control.{Control}
use Rattle.syntax_trees.specs.declared.syntax.Count.{Count}
use Rattle.syntax_trees.specs.declared.syntax.Condition.{Condition}
use Rattle.syntax_trees.specs.declared.syntax.Case.{Case}
use Rattle.syntax_trees.specs.declared.syntax.Test.{Test}
use Rattle.syntax_trees.specs.declared.syntax.Block.{Block}
use Rattle.syntax_trees.specs.declared.syntax.PlainItem.{PlainItem}
use Rattle.syntax_trees.specs.declared.syntax.RepeatLabels.{RepeatLabels}
use Rattle.grammar_rules.specs.Grammar.{IsType, IsFields, IsTypes, IsGroups, IsInterval, IsExpr, IsOrs, IsConj, IsAnds, IsNeg, IsRel, IsSum, IsSums}
use Rattle.grammar_rules.specs.Grammar.{IsProduct, IsProducts, IsFactor, IsPrimary, IsList, IsListOption, IsLeft, IsBrackets, IsBracketsOption, IsArgs}
use Rattle.grammar_rules.specs.Grammar.{IsExprs, IsKeys, IsCatch, IsArmList, IsArms, IsArm, IsRaise, IsStmt, IsTargets, IsLefts, IsKeyLefts, IsOtherwise}
use Rattle.grammar_rules.specs.Grammar.{IsCaseList, IsCases, IsCase, IsTests, IsTest, IsControl, IsCount, IsCondition, IsBody, IsStmts, IsRepeatPart}
use Rattle.grammar_rules.specs.Grammar.{IsRepeats, IsRepeat, IsExitPart, IsExits, IsExit, IsEnabling, IsBlock, IsLocals, IsLocal, IsPlain}
use Rattle.grammar_rules.specs.Grammar as g

-- inside so many others another may stand
unfoldable pub limit : ℕ
limit = NESTING

abbrev mutual
  pub deep_type : ℕ → {ts : List Token} {x : TypeExp} {rest : List Token} → IsType ts x rest → Option (List Token)
  deep_type zero {ts} d = Some ts
  deep_type (suc n) g.integer = None
  deep_type (suc n) g.cardinal = None
  deep_type (suc n) g.long_integer = None
  deep_type (suc n) g.long_cardinal = None
  deep_type (suc n) g.boolean = None
  deep_type (suc n) g.character = None
  deep_type (suc n) g.string = None
  deep_type (suc n) (g.called _) = None
  deep_type (suc n) (g.enumeration _) = None
  deep_type (suc n) (g.subrange _ f) = first (deep_interval n f) None
  deep_type (suc n) (g.array d f) = first (deep_type n d) (first (deep_type n f) None)
  deep_type (suc n) (g.a_record d) = first (deep_fields n d) None

  pub deep_fields : ℕ → {ts : List Token} {x : FieldList} {rest : List Token} → IsFields ts x rest → Option (List Token)
  deep_fields n (g.with_names d) = first (deep_groups n d) None
  deep_fields n (g.unnamed d) = first (deep_types n d) None

  pub deep_types : ℕ → {ts : List Token} {x : List TypeExp} {rest : List Token} → IsTypes ts x rest → Option (List Token)
  deep_types n (g.a_type d) = first (deep_type n d) None
  deep_types n (g.types d f) = first (deep_types n d) (first (deep_type n f) None)

  pub deep_groups : ℕ → {ts : List Token} {x : List (Labeled (List Identifier) TypeExp)} {rest : List Token} → IsGroups ts x rest → Option (List Token)
  deep_groups n (g.group _ f) = first (deep_type n f) None
  deep_groups n (g.groups d _ h) = first (deep_groups n d) (first (deep_type n h) None)

  pub deep_interval : ℕ → {ts : List Token} {x : Interval} {rest : List Token} → IsInterval ts x rest → Option (List Token)
  deep_interval n (g.bounds _ f h _) = first (deep_expr n f) (first (deep_expr n h) None)

  pub deep_expr : ℕ → {ts : List Token} {x : Expr} {rest : List Token} → IsExpr ts x rest → Option (List Token)
  deep_expr zero {ts} d = Some ts
  deep_expr (suc n) (g.expr d) = first (deep_ors n d) None

  pub deep_ors : ℕ → {ts : List Token} {x : Expr} {y : List Operation} {rest : List Token} → IsOrs ts x y rest → Option (List Token)
  deep_ors n (g.disjunct d) = first (deep_conj n d) None
  deep_ors n (g.ors d _ h) = first (deep_ors n d) (first (deep_conj n h) None)

  pub deep_conj : ℕ → {ts : List Token} {x : Expr} {rest : List Token} → IsConj ts x rest → Option (List Token)
  deep_conj n (g.conj d) = first (deep_ands n d) None

  pub deep_ands : ℕ → {ts : List Token} {x : Expr} {y : List Operation} {rest : List Token} → IsAnds ts x y rest → Option (List Token)
  deep_ands n (g.conjunct d) = first (deep_neg n d) None
  deep_ands n (g.ands d _ h) = first (deep_ands n d) (first (deep_neg n h) None)

  pub deep_neg : ℕ → {ts : List Token} {x : Expr} {rest : List Token} → IsNeg ts x rest → Option (List Token)
  deep_neg n (g.rel d) = first (deep_rel n d) None
  deep_neg n (g.not _ f) = first (deep_rel n f) None

  pub deep_rel : ℕ → {ts : List Token} {x : Expr} {rest : List Token} → IsRel ts x rest → Option (List Token)
  deep_rel n (g.alone d) = first (deep_sum n d) None
  deep_rel n (g.compare d _ _ i) = first (deep_sum n d) (first (deep_sum n i) None)
  deep_rel n (g.within d _ h) = first (deep_sum n d) (first (deep_interval n h) None)

  pub deep_sum : ℕ → {ts : List Token} {x : Expr} {rest : List Token} → IsSum ts x rest → Option (List Token)
  deep_sum n (g.sum d) = first (deep_sums n d) None

  pub deep_sums : ℕ → {ts : List Token} {x : Expr} {y : List Operation} {rest : List Token} → IsSums ts x y rest → Option (List Token)
  deep_sums n (g.summand d) = first (deep_product n d) None
  deep_sums n (g.sums d _ h) = first (deep_sums n d) (first (deep_product n h) None)

  pub deep_product : ℕ → {ts : List Token} {x : Expr} {rest : List Token} → IsProduct ts x rest → Option (List Token)
  deep_product n (g.product d) = first (deep_products n d) None

  pub deep_products : ℕ → {ts : List Token} {x : Expr} {y : List Operation} {rest : List Token} → IsProducts ts x y rest → Option (List Token)
  deep_products n (g.factor d) = first (deep_factor n d) None
  deep_products n (g.products d _ h) = first (deep_products n d) (first (deep_factor n h) None)

  pub deep_factor : ℕ → {ts : List Token} {x : Expr} {rest : List Token} → IsFactor ts x rest → Option (List Token)
  deep_factor n (g.primary d) = first (deep_primary n d) None
  deep_factor n (g.signed _ f) = first (deep_primary n f) None

  pub deep_primary : ℕ → {ts : List Token} {x : Expr} {rest : List Token} → IsPrimary ts x rest → Option (List Token)
  deep_primary n g.number = None
  deep_primary n g.char = None
  deep_primary n g.text = None
  deep_primary n g.true_word = None
  deep_primary n g.false_word = None
  deep_primary n (g.parens d) = first (deep_expr n d) None
  deep_primary n (g.reference d) = first (deep_left n d) None
  deep_primary n (g.constructor d) = first (deep_list n d) None
  deep_primary n (g.raised d) = first (deep_raise n d) None

  pub deep_list : ℕ → {ts : List Token} {x : Placed (Entries Expr)} {rest : List Token} → IsList ts x rest → Option (List Token)
  deep_list n (g.list d) = first (deep_args n d) None

  pub deep_list_option : ℕ → {ts : List Token} {x : Option (Placed (Entries Expr))} {rest : List Token} → IsListOption ts x rest → Option (List Token)
  deep_list_option n g.no_list = None
  deep_list_option n (g.a_list d) = first (deep_list n d) None

  pub deep_left : ℕ → {ts : List Token} {x : Identifier} {y : List Suffix} {rest : List Token} → IsLeft ts x y rest → Option (List Token)
  deep_left n g.named = None
  deep_left n (g.field d) = first (deep_left n d) None
  deep_left n (g.applied d f) = first (deep_left n d) (first (deep_brackets n f) None)

  pub deep_brackets : ℕ → {ts : List Token} {x : Brackets} {rest : List Token} → IsBrackets ts x rest → Option (List Token)
  deep_brackets n (g.bracketed d f) = first (deep_args n d) (first (deep_catch n f) None)

  pub deep_brackets_option : ℕ → {ts : List Token} {x : Option Brackets} {rest : List Token} → IsBracketsOption ts x rest → Option (List Token)
  deep_brackets_option n g.no_brackets = None
  deep_brackets_option n (g.some_brackets d) = first (deep_brackets n d) None

  pub deep_args : ℕ → {ts : List Token} {x : Entries Expr} {rest : List Token} → IsArgs ts x rest → Option (List Token)
  deep_args n g.no_args = None
  deep_args n (g.in_order d) = first (deep_exprs n d) None
  deep_args n (g.by_key d) = first (deep_keys n d) None

  pub deep_exprs : ℕ → {ts : List Token} {x : List Expr} {rest : List Token} → IsExprs ts x rest → Option (List Token)
  deep_exprs n (g.an_expr d) = first (deep_expr n d) None
  deep_exprs n (g.exprs d f) = first (deep_exprs n d) (first (deep_expr n f) None)

  pub deep_keys : ℕ → {ts : List Token} {x : List (Keyed Expr)} {rest : List Token} → IsKeys ts x rest → Option (List Token)
  deep_keys n (g.key d) = first (deep_expr n d) None
  deep_keys n (g.keys d f) = first (deep_keys n d) (first (deep_expr n f) None)

  pub deep_catch : ℕ → {ts : List Token} {x : Option (Placed (List Arm))} {rest : List Token} → IsCatch ts x rest → Option (List Token)
  deep_catch n g.no_catch = None
  deep_catch n (g.catch d) = first (deep_arm_list n d) None

  pub deep_arm_list : ℕ → {ts : List Token} {x : List Arm} {rest : List Token} → IsArmList ts x rest → Option (List Token)
  deep_arm_list n (g.open_arms d) = first (deep_arms n d) None
  deep_arm_list n (g.closed_arms d) = first (deep_arms n d) None

  pub deep_arms : ℕ → {ts : List Token} {x : List Arm} {rest : List Token} → IsArms ts x rest → Option (List Token)
  deep_arms n (g.an_arm d) = first (deep_arm n d) None
  deep_arms n (g.arms d f) = first (deep_arms n d) (first (deep_arm n f) None)

  pub deep_arm : ℕ → {ts : List Token} {x : Arm} {rest : List Token} → IsArm ts x rest → Option (List Token)
  deep_arm n (g.an_arm_of _ f) = first (deep_stmt n f) None

  pub deep_raise : ℕ → {ts : List Token} {x : Raise} {rest : List Token} → IsRaise ts x rest → Option (List Token)
  deep_raise n (g.signal _ f) = first (deep_brackets_option n f) None
  deep_raise n (g.error _ f) = first (deep_brackets_option n f) None
  deep_raise n g.unnamed_error = None

  pub deep_stmt : ℕ → {ts : List Token} {x : Statement} {rest : List Token} → IsStmt ts x rest → Option (List Token)
  deep_stmt zero {ts} d = Some ts
  deep_stmt (suc n) g.null = None
  deep_stmt (suc n) (g.nested d) = first (deep_block n d) None
  deep_stmt (suc n) (g.assign d f) = first (deep_left n d) (first (deep_expr n f) None)
  deep_stmt (suc n) (g.extract d f) = first (deep_targets n d) (first (deep_expr n f) None)
  deep_stmt (suc n) (g.call d) = first (deep_left n d) None
  deep_stmt (suc n) (g.raise d) = first (deep_raise n d) None
  deep_stmt (suc n) (g.if_then d f _) = first (deep_expr n d) (first (deep_stmt n f) None)
  deep_stmt (suc n) (g.if_else d f h) = first (deep_expr n d) (first (deep_stmt n f) (first (deep_stmt n h) None))
  deep_stmt (suc n) (g.select d f h) = first (deep_expr n d) (first (deep_case_list n f) (first (deep_otherwise n h) None))
  deep_stmt (suc n) (g.loop d f h i) = first (deep_control n d) (first (deep_enabling n f) (first (deep_body n h) (first (deep_repeat_part n i) None)))
  deep_stmt (suc n) g.exit_loop = None
  deep_stmt (suc n) g.next_turn = None
  deep_stmt (suc n) g.goto = None
  deep_stmt (suc n) g.go_to = None
  deep_stmt (suc n) (g.return d) = first (deep_list_option n d) None
  deep_stmt (suc n) (g.resume d) = first (deep_list_option n d) None
  deep_stmt (suc n) g.reject = None
  deep_stmt (suc n) g.retry = None
  deep_stmt (suc n) g.continue = None

  pub deep_targets : ℕ → {ts : List Token} {x : Entries Left} {rest : List Token} → IsTargets ts x rest → Option (List Token)
  deep_targets n g.no_targets = None
  deep_targets n (g.targets d) = first (deep_lefts n d) None
  deep_targets n (g.key_targets d) = first (deep_key_lefts n d) None

  pub deep_lefts : ℕ → {ts : List Token} {x : List Left} {rest : List Token} → IsLefts ts x rest → Option (List Token)
  deep_lefts n (g.a_left d) = first (deep_left n d) None
  deep_lefts n (g.lefts d f) = first (deep_lefts n d) (first (deep_left n f) None)

  pub deep_key_lefts : ℕ → {ts : List Token} {x : List (Keyed Left)} {rest : List Token} → IsKeyLefts ts x rest → Option (List Token)
  deep_key_lefts n (g.key_left d) = first (deep_left n d) None
  deep_key_lefts n (g.key_lefts d f) = first (deep_key_lefts n d) (first (deep_left n f) None)

  pub deep_otherwise : ℕ → {ts : List Token} {x : Option Statement} {rest : List Token} → IsOtherwise ts x rest → Option (List Token)
  deep_otherwise n g.no_otherwise = None
  deep_otherwise n (g.otherwise d) = first (deep_stmt n d) None

  pub deep_case_list : ℕ → {ts : List Token} {x : List Case} {rest : List Token} → IsCaseList ts x rest → Option (List Token)
  deep_case_list n g.no_cases = None
  deep_case_list n (g.open_cases d) = first (deep_cases n d) None
  deep_case_list n (g.closed_cases d) = first (deep_cases n d) None

  pub deep_cases : ℕ → {ts : List Token} {x : List Case} {rest : List Token} → IsCases ts x rest → Option (List Token)
  deep_cases n (g.a_case d) = first (deep_case n d) None
  deep_cases n (g.cases d f) = first (deep_cases n d) (first (deep_case n f) None)

  pub deep_case : ℕ → {ts : List Token} {x : Case} {rest : List Token} → IsCase ts x rest → Option (List Token)
  deep_case n (g.case_of d f) = first (deep_tests n d) (first (deep_stmt n f) None)

  pub deep_tests : ℕ → {ts : List Token} {x : List Test} {rest : List Token} → IsTests ts x rest → Option (List Token)
  deep_tests n (g.a_test d) = first (deep_test n d) None
  deep_tests n (g.tests d f) = first (deep_tests n d) (first (deep_test n f) None)

  pub deep_test : ℕ → {ts : List Token} {x : Test} {rest : List Token} → IsTest ts x rest → Option (List Token)
  deep_test n (g.value d) = first (deep_expr n d) None
  deep_test n (g.compared _ _ h) = first (deep_sum n h) None
  deep_test n (g.inside _ f) = first (deep_interval n f) None

  pub deep_control : ℕ → {ts : List Token} {x : Control} {rest : List Token} → IsControl ts x rest → Option (List Token)
  deep_control n (g.controlled d f) = first (deep_count n d) (first (deep_condition n f) None)

  pub deep_count : ℕ → {ts : List Token} {x : Option Count} {rest : List Token} → IsCount ts x rest → Option (List Token)
  deep_count n g.no_count = None
  deep_count n (g.for _ f) = first (deep_interval n f) None
  deep_count n (g.through d) = first (deep_interval n d) None

  pub deep_condition : ℕ → {ts : List Token} {x : Option Condition} {rest : List Token} → IsCondition ts x rest → Option (List Token)
  deep_condition n g.no_condition = None
  deep_condition n (g.while d) = first (deep_expr n d) None
  deep_condition n (g.until d) = first (deep_expr n d) None

  pub deep_body : ℕ → {ts : List Token} {x : List Statement} {rest : List Token} → IsBody ts x rest → Option (List Token)
  deep_body n g.no_stmts = None
  deep_body n (g.open_stmts d) = first (deep_stmts n d) None
  deep_body n (g.closed_stmts d) = first (deep_stmts n d) None

  pub deep_stmts : ℕ → {ts : List Token} {x : List Statement} {rest : List Token} → IsStmts ts x rest → Option (List Token)
  deep_stmts n (g.a_stmt d) = first (deep_stmt n d) None
  deep_stmts n (g.stmts d f) = first (deep_stmts n d) (first (deep_stmt n f) None)

  pub deep_repeat_part : ℕ → {ts : List Token} {x : List (Labeled RepeatLabels Statement)} {rest : List Token} → IsRepeatPart ts x rest → Option (List Token)
  deep_repeat_part n g.no_repeats = None
  deep_repeat_part n (g.open_repeats d) = first (deep_repeats n d) None
  deep_repeat_part n (g.closed_repeats d) = first (deep_repeats n d) None

  pub deep_repeats : ℕ → {ts : List Token} {x : List (Labeled RepeatLabels Statement)} {rest : List Token} → IsRepeats ts x rest → Option (List Token)
  deep_repeats n (g.a_repeat d) = first (deep_repeat n d) None
  deep_repeats n (g.repeats d f) = first (deep_repeats n d) (first (deep_repeat n f) None)

  pub deep_repeat : ℕ → {ts : List Token} {x : Labeled RepeatLabels Statement} {rest : List Token} → IsRepeat ts x rest → Option (List Token)
  deep_repeat n (g.repeat_of _ f) = first (deep_stmt n f) None

  pub deep_exit_part : ℕ → {ts : List Token} {x : List (Labeled (List Identifier) Statement)} {rest : List Token} → IsExitPart ts x rest → Option (List Token)
  deep_exit_part n g.no_exits = None
  deep_exit_part n (g.open_exits d) = first (deep_exits n d) None
  deep_exit_part n (g.closed_exits d) = first (deep_exits n d) None

  pub deep_exits : ℕ → {ts : List Token} {x : List (Labeled (List Identifier) Statement)} {rest : List Token} → IsExits ts x rest → Option (List Token)
  deep_exits n (g.an_exit d) = first (deep_exit n d) None
  deep_exits n (g.exits d f) = first (deep_exits n d) (first (deep_exit n f) None)

  pub deep_exit : ℕ → {ts : List Token} {x : Labeled (List Identifier) Statement} {rest : List Token} → IsExit ts x rest → Option (List Token)
  deep_exit n (g.exit_of _ f) = first (deep_stmt n f) None

  pub deep_enabling : ℕ → {ts : List Token} {x : Option (Placed (List Arm))} {rest : List Token} → IsEnabling ts x rest → Option (List Token)
  deep_enabling n g.no_enable = None
  deep_enabling n (g.enable_one d) = first (deep_arm n d) None
  deep_enabling n (g.enable_many d) = first (deep_arm_list n d) None

  pub deep_block : ℕ → {ts : List Token} {x : Block} {rest : List Token} → IsBlock ts x rest → Option (List Token)
  deep_block n (g.begin_end d f h i) = first (deep_enabling n d) (first (deep_locals n f) (first (deep_body n h) (first (deep_exit_part n i) None)))
  deep_block n (g.braces d f h i) = first (deep_enabling n d) (first (deep_locals n f) (first (deep_body n h) (first (deep_exit_part n i) None)))

  pub deep_locals : ℕ → {ts : List Token} {x : List (Labeled (List Identifier) PlainItem)} {rest : List Token} → IsLocals ts x rest → Option (List Token)
  deep_locals n g.no_locals = None
  deep_locals n (g.locals d f) = first (deep_locals n d) (first (deep_local n f) None)

  pub deep_local : ℕ → {ts : List Token} {x : Labeled (List Identifier) PlainItem} {rest : List Token} → IsLocal ts x rest → Option (List Token)
  deep_local n (g.local_of _ f) = first (deep_plain n f) None

  pub deep_plain : ℕ → {ts : List Token} {x : PlainItem} {rest : List Token} → IsPlain ts x rest → Option (List Token)
  deep_plain n (g.type_is d) = first (deep_type n d) None
  deep_plain n (g.variable d) = first (deep_type n d) None
  deep_plain n (g.initial d f) = first (deep_type n d) (first (deep_expr n f) None)
  deep_plain n (g.constant d f) = first (deep_type n d) (first (deep_expr n f) None)
