-- The nesting of readings, sealed: one equation for each row of the grammar.
use Rattle.std.proofs.Common.{◌≡◌, ℕ, zero, suc, Bool, List, ◌∷◌, Option, Some, None, refl}
use Rattle.mesa_base.specs.declared.place.Place.{Place}
use Rattle.mesa_lexer.specs.declared.token.Token.{Token}
use Rattle.mesa_lexer.specs.declared.token.Kind.{Kind}
use Rattle.mesa_lexer.specs.declared.word.Word.TheVariants.{DoWord, ElseWord, EndWord, EndcaseWord, EndloopWord, FromWord, InWord, OfWord, ThenWord}
use Rattle.mesa_lexer.specs.declared.mark.Mark.TheVariants.{Arrow, Semicolon, Colon, Comma, Dot, DotDot, RightBracket, RightParenthesis, RightBrace, Equal, DoubleArrow}
use Rattle.token_cursor.specs.Parsing.{token, word, mark, first}
use Rattle.mesa_base.specs.declared.identifier.Identifier.{Identifier}
use Rattle.syntax_trees.specs.declared.syntax.QualifiedName.{QualifiedName}
use Rattle.mesa_base.specs.declared.placed.Placed.{Placed}
use Rattle.syntax_trees.specs.declared.syntax.Keyed.{Keyed}
use Rattle.syntax_trees.specs.declared.syntax.Labeled.{Labeled}
use Rattle.syntax_trees.specs.declared.syntax.Entries.{Entries}
use Rattle.syntax_trees.specs.declared.syntax.Labels.{Labels}
use Rattle.syntax_trees.specs.declared.syntax.RepeatLabels.{RepeatLabels}
use Rattle.syntax_trees.specs.declared.syntax.TypeBase.{TypeBase}
use Rattle.syntax_trees.specs.declared.syntax.Operator.{Operator}
use Rattle.mesa_base.specs.declared.relation.Relation.{Relation}
use Rattle.syntax_trees.specs.declared.syntax.Sign.{Sign}
use Rattle.syntax_trees.specs.declared.syntax.TypeExp.{TypeExp}
use Rattle.syntax_trees.specs.declared.syntax.FieldList.{FieldList}
use Rattle.syntax_trees.specs.declared.syntax.Interval.{Interval}
use Rattle.syntax_trees.specs.declared.syntax.Expr.{Expr}
use Rattle.syntax_trees.specs.declared.syntax.Operation.{Operation}
use Rattle.syntax_trees.specs.declared.syntax.Left.{Left}
use Rattle.syntax_trees.specs.declared.syntax.Suffix.{Suffix}
use Rattle.syntax_trees.specs.declared.syntax.Brackets.{Brackets}
use Rattle.syntax_trees.specs.declared.syntax.Raise.{Raise}
use Rattle.syntax_trees.specs.declared.syntax.Arm.{Arm}
use Rattle.syntax_trees.specs.declared.syntax.Statement.{Statement}
use Rattle.syntax_trees.specs.declared.syntax.Control.{Control}
use Rattle.syntax_trees.specs.declared.syntax.Count.{Count}
use Rattle.syntax_trees.specs.declared.syntax.Condition.{Condition}
use Rattle.syntax_trees.specs.declared.syntax.Case.{Case}
use Rattle.syntax_trees.specs.declared.syntax.Test.{Test}
use Rattle.syntax_trees.specs.declared.syntax.Block.{Block}
use Rattle.syntax_trees.specs.declared.syntax.PlainItem.{PlainItem}
use Rattle.grammar_rules.specs.WordsAndMarks.{spelled, disjoining, conjoining, adding, multiplying, signing, relating, negating, opening, closing}
use Rattle.grammar_rules.specs.Grammar as g
use Rattle.grammar_rules.specs.Grammar.{NoElse, IsNames, IsQName, IsLabels, IsRepeatLabels, IsBase, IsNot, IsDecreasing, IsType, IsFields, IsTypes, IsGroups, IsInterval, IsExpr, IsOrs, IsConj, IsAnds, IsNeg, IsRel, IsSum, IsSums, IsProduct, IsProducts, IsFactor, IsPrimary, IsList, IsListOption, IsLeft, IsBrackets, IsBracketsOption, IsArgs, IsExprs, IsKeys, IsCatch, IsArmList, IsArms, IsArm, IsRaise, IsStmt, IsTargets, IsLefts, IsKeyLefts, IsOtherwise, IsCaseList, IsCases, IsCase, IsTests, IsTest, IsControl, IsCount, IsCondition, IsBody, IsStmts, IsRepeatPart, IsRepeats, IsRepeat, IsExitPart, IsExits, IsExit, IsEnabling, IsBlock, IsLocals, IsLocal, IsPlain}
use Rattle.grammar_rules.proofs.Sealed.{at_type, at_fields, at_types, at_groups, at_interval, at_expr, at_ors, at_conj, at_ands, at_neg, at_rel, at_sum, at_sums, at_product, at_products, at_factor, at_primary, at_list, at_list_option, at_left, at_brackets, at_brackets_option, at_args, at_exprs, at_keys, at_catch, at_arm_list, at_arms, at_arm, at_raise, at_stmt, at_targets, at_lefts, at_key_lefts, at_otherwise, at_case_list, at_cases, at_case, at_tests, at_test, at_control, at_count, at_condition, at_body, at_stmts, at_repeat_part, at_repeats, at_repeat, at_exit_part, at_exits, at_exit, at_enabling, at_block, at_locals, at_local, at_plain}

pub zero_at_type : {ts : List Token} {x : TypeExp} {rest : List Token} (e : IsType ts x rest) → at_type zero e ≡ Some ts
unfolding at_type
zero_at_type e = refl

pub is_integer : (lev : ℕ) (rest : List Token) (p : Place) → at_type (suc lev) (g.integer {rest = rest} {p = p}) ≡ None
unfolding at_type
is_integer lev _ _ = refl

pub is_cardinal : (lev : ℕ) (rest : List Token) (p : Place) → at_type (suc lev) (g.cardinal {rest = rest} {p = p}) ≡ None
unfolding at_type
is_cardinal lev _ _ = refl

pub is_long_integer : (lev : ℕ) (rest : List Token) (p q : Place) → at_type (suc lev) (g.long_integer {rest = rest} {p = p} {q = q}) ≡ None
unfolding at_type
is_long_integer lev _ _ _ = refl

pub is_long_cardinal : (lev : ℕ) (rest : List Token) (p q : Place) → at_type (suc lev) (g.long_cardinal {rest = rest} {p = p} {q = q}) ≡ None
unfolding at_type
is_long_cardinal lev _ _ _ = refl

pub is_boolean : (lev : ℕ) (rest : List Token) (p : Place) → at_type (suc lev) (g.boolean {rest = rest} {p = p}) ≡ None
unfolding at_type
is_boolean lev _ _ = refl

pub is_character : (lev : ℕ) (rest : List Token) (p : Place) → at_type (suc lev) (g.character {rest = rest} {p = p}) ≡ None
unfolding at_type
is_character lev _ _ = refl

pub is_string : (lev : ℕ) (rest : List Token) (p : Place) → at_type (suc lev) (g.string {rest = rest} {p = p}) ≡ None
unfolding at_type
is_string lev _ _ = refl

pub is_called : (lev : ℕ) (ts rest : List Token) (x : QualifiedName) (a1 : IsQName ts x rest) → at_type (suc lev) (g.called {ts = ts} {rest = rest} {x = x} a1) ≡ None
unfolding at_type
is_called lev _ _ _ a1 = refl

pub is_enumeration : (lev : ℕ) (ts rest : List Token) (all : List Identifier) (p q : Place) (a1 : IsNames ts all (mark RightBrace q ∷ rest)) → at_type (suc lev) (g.enumeration {ts = ts} {rest = rest} {all = all} {p = p} {q = q} a1) ≡ None
unfolding at_type
is_enumeration lev _ _ _ _ _ a1 = refl

pub is_subrange : (lev : ℕ) (ts us rest : List Token) (b : TypeBase) (x : Interval) (a1 : IsBase ts b us) (a2 : IsInterval us x rest) → at_type (suc lev) (g.subrange {ts = ts} {us = us} {rest = rest} {b = b} {x = x} a1 a2) ≡ first (at_interval lev a2) None
unfolding at_interval at_type
is_subrange lev _ _ _ _ _ a1 a2 = refl

pub is_array : (lev : ℕ) (ts us rest : List Token) (x y : TypeExp) (p q : Place) (a1 : IsType ts x (word OfWord q ∷ us)) (a2 : IsType us y rest) → at_type (suc lev) (g.array {ts = ts} {us = us} {rest = rest} {x = x} {y = y} {p = p} {q = q} a1 a2) ≡ first (at_type lev a1) (first (at_type lev a2) None)
unfolding at_type
is_array lev _ _ _ _ _ _ _ a1 a2 = refl

pub is_a_record : (lev : ℕ) (ts rest : List Token) (x : FieldList) (p q r : Place) (a1 : IsFields ts x (mark RightBracket r ∷ rest)) → at_type (suc lev) (g.a_record {ts = ts} {rest = rest} {x = x} {p = p} {q = q} {r = r} a1) ≡ first (at_fields lev a1) None
unfolding at_fields at_type
is_a_record lev _ _ _ _ _ _ a1 = refl

pub is_with_names : (lev : ℕ) (ts rest : List Token) (all : List (Labeled (List Identifier) TypeExp)) (a1 : IsGroups ts all rest) → at_fields lev (g.with_names {ts = ts} {rest = rest} {all = all} a1) ≡ first (at_groups lev a1) None
unfolding at_fields at_groups
is_with_names lev _ _ _ a1 = refl

pub is_unnamed : (lev : ℕ) (ts rest : List Token) (all : List TypeExp) (a1 : IsTypes ts all rest) → at_fields lev (g.unnamed {ts = ts} {rest = rest} {all = all} a1) ≡ first (at_types lev a1) None
unfolding at_fields at_types
is_unnamed lev _ _ _ a1 = refl

pub is_a_type : (lev : ℕ) (ts rest : List Token) (x : TypeExp) (a1 : IsType ts x rest) → at_types lev (g.a_type {ts = ts} {rest = rest} {x = x} a1) ≡ first (at_type lev a1) None
unfolding at_type at_types
is_a_type lev _ _ _ a1 = refl

pub is_types : (lev : ℕ) (ts us rest : List Token) (all : List TypeExp) (x : TypeExp) (p : Place) (a1 : IsTypes ts all (mark Comma p ∷ us)) (a2 : IsType us x rest) → at_types lev (g.types {ts = ts} {us = us} {rest = rest} {all = all} {x = x} {p = p} a1 a2) ≡ first (at_types lev a1) (first (at_type lev a2) None)
unfolding at_type at_types
is_types lev _ _ _ _ _ _ a1 a2 = refl

pub is_group : (lev : ℕ) (ts us rest : List Token) (ns : List Identifier) (x : TypeExp) (p : Place) (a1 : IsNames ts ns (mark Colon p ∷ us)) (a2 : IsType us x rest) → at_groups lev (g.group {ts = ts} {us = us} {rest = rest} {ns = ns} {x = x} {p = p} a1 a2) ≡ first (at_type lev a2) None
unfolding at_groups at_type
is_group lev _ _ _ _ _ _ a1 a2 = refl

pub is_groups : (lev : ℕ) (ts us vs rest : List Token) (all : List (Labeled (List Identifier) TypeExp)) (ns : List Identifier) (x : TypeExp) (p q : Place) (a1 : IsGroups ts all (mark Comma p ∷ us)) (a2 : IsNames us ns (mark Colon q ∷ vs)) (a3 : IsType vs x rest) → at_groups lev (g.groups {ts = ts} {us = us} {vs = vs} {rest = rest} {all = all} {ns = ns} {x = x} {p = p} {q = q} a1 a2 a3) ≡ first (at_groups lev a1) (first (at_type lev a3) None)
unfolding at_groups at_type
is_groups lev _ _ _ _ _ _ _ _ _ a1 a2 a3 = refl

pub is_bounds : (lev : ℕ) (ts us rest : List Token) (kind kind' : Kind) (a b : Bool) (x y : Expr) (p q r : Place) (a1 : opening kind ≡ Some a) (a2 : IsExpr ts x (mark DotDot q ∷ us)) (a3 : IsExpr us y (token kind' r ∷ rest)) (a4 : closing kind' ≡ Some b) → at_interval lev (g.bounds {ts = ts} {us = us} {rest = rest} {kind = kind} {kind' = kind'} {a = a} {b = b} {x = x} {y = y} {p = p} {q = q} {r = r} a1 a2 a3 a4) ≡ first (at_expr lev a2) (first (at_expr lev a3) None)
unfolding at_expr at_interval
is_bounds lev _ _ _ _ _ _ _ _ _ _ _ _ a1 a2 a3 a4 = refl

pub zero_at_expr : {ts : List Token} {x : Expr} {rest : List Token} (e : IsExpr ts x rest) → at_expr zero e ≡ Some ts
unfolding at_expr
zero_at_expr e = refl

pub is_expr : (lev : ℕ) (ts rest : List Token) (x : Expr) (ss : List Operation) (a1 : IsOrs ts x ss rest) → at_expr (suc lev) (g.expr {ts = ts} {rest = rest} {x = x} {ss = ss} a1) ≡ first (at_ors lev a1) None
unfolding at_expr at_ors
is_expr lev _ _ _ _ a1 = refl

pub is_disjunct : (lev : ℕ) (ts rest : List Token) (x : Expr) (a1 : IsConj ts x rest) → at_ors lev (g.disjunct {ts = ts} {rest = rest} {x = x} a1) ≡ first (at_conj lev a1) None
unfolding at_conj at_ors
is_disjunct lev _ _ _ a1 = refl

pub is_ors : (lev : ℕ) (ts us rest : List Token) (x y : Expr) (ss : List Operation) (kind : Kind) (o : Operator) (p : Place) (a1 : IsOrs ts x ss (token kind p ∷ us)) (a2 : disjoining kind ≡ Some o) (a3 : IsConj us y rest) → at_ors lev (g.ors {ts = ts} {us = us} {rest = rest} {x = x} {y = y} {ss = ss} {kind = kind} {o = o} {p = p} a1 a2 a3) ≡ first (at_ors lev a1) (first (at_conj lev a3) None)
unfolding at_conj at_ors
is_ors lev _ _ _ _ _ _ _ _ _ a1 a2 a3 = refl

pub is_conj : (lev : ℕ) (ts rest : List Token) (x : Expr) (ss : List Operation) (a1 : IsAnds ts x ss rest) → at_conj lev (g.conj {ts = ts} {rest = rest} {x = x} {ss = ss} a1) ≡ first (at_ands lev a1) None
unfolding at_ands at_conj
is_conj lev _ _ _ _ a1 = refl

pub is_conjunct : (lev : ℕ) (ts rest : List Token) (x : Expr) (a1 : IsNeg ts x rest) → at_ands lev (g.conjunct {ts = ts} {rest = rest} {x = x} a1) ≡ first (at_neg lev a1) None
unfolding at_ands at_neg
is_conjunct lev _ _ _ a1 = refl

pub is_ands : (lev : ℕ) (ts us rest : List Token) (x y : Expr) (ss : List Operation) (kind : Kind) (o : Operator) (p : Place) (a1 : IsAnds ts x ss (token kind p ∷ us)) (a2 : conjoining kind ≡ Some o) (a3 : IsNeg us y rest) → at_ands lev (g.ands {ts = ts} {us = us} {rest = rest} {x = x} {y = y} {ss = ss} {kind = kind} {o = o} {p = p} a1 a2 a3) ≡ first (at_ands lev a1) (first (at_neg lev a3) None)
unfolding at_ands at_neg
is_ands lev _ _ _ _ _ _ _ _ _ a1 a2 a3 = refl

pub is_rel : (lev : ℕ) (ts rest : List Token) (x : Expr) (a1 : IsRel ts x rest) → at_neg lev (g.rel {ts = ts} {rest = rest} {x = x} a1) ≡ first (at_rel lev a1) None
unfolding at_neg at_rel
is_rel lev _ _ _ a1 = refl

pub is_not : (lev : ℕ) (ts rest : List Token) (x : Expr) (kind : Kind) (p : Place) (a1 : negating kind ≡ Some tt) (a2 : IsRel ts x rest) → at_neg lev (g.not {ts = ts} {rest = rest} {x = x} {kind = kind} {p = p} a1 a2) ≡ first (at_rel lev a2) None
unfolding at_neg at_rel
is_not lev _ _ _ _ _ a1 a2 = refl

pub is_alone : (lev : ℕ) (ts rest : List Token) (x : Expr) (a1 : IsSum ts x rest) → at_rel lev (g.alone {ts = ts} {rest = rest} {x = x} a1) ≡ first (at_sum lev a1) None
unfolding at_rel at_sum
is_alone lev _ _ _ a1 = refl

pub is_compare : (lev : ℕ) (ts us vs rest : List Token) (x y : Expr) (b : Bool) (kind : Kind) (r : Relation) (p : Place) (a1 : IsSum ts x us) (a2 : IsNot us b (token kind p ∷ vs)) (a3 : relating kind ≡ Some r) (a4 : IsSum vs y rest) → at_rel lev (g.compare {ts = ts} {us = us} {vs = vs} {rest = rest} {x = x} {y = y} {b = b} {kind = kind} {r = r} {p = p} a1 a2 a3 a4) ≡ first (at_sum lev a1) (first (at_sum lev a4) None)
unfolding at_rel at_sum
is_compare lev _ _ _ _ _ _ _ _ _ _ a1 a2 a3 a4 = refl

pub is_within : (lev : ℕ) (ts us vs rest : List Token) (x : Expr) (b : Bool) (i : Interval) (p : Place) (a1 : IsSum ts x us) (a2 : IsNot us b (word InWord p ∷ vs)) (a3 : IsInterval vs i rest) → at_rel lev (g.within {ts = ts} {us = us} {vs = vs} {rest = rest} {x = x} {b = b} {i = i} {p = p} a1 a2 a3) ≡ first (at_sum lev a1) (first (at_interval lev a3) None)
unfolding at_interval at_rel at_sum
is_within lev _ _ _ _ _ _ _ _ a1 a2 a3 = refl

pub is_sum : (lev : ℕ) (ts rest : List Token) (x : Expr) (ss : List Operation) (a1 : IsSums ts x ss rest) → at_sum lev (g.sum {ts = ts} {rest = rest} {x = x} {ss = ss} a1) ≡ first (at_sums lev a1) None
unfolding at_sum at_sums
is_sum lev _ _ _ _ a1 = refl

pub is_summand : (lev : ℕ) (ts rest : List Token) (x : Expr) (a1 : IsProduct ts x rest) → at_sums lev (g.summand {ts = ts} {rest = rest} {x = x} a1) ≡ first (at_product lev a1) None
unfolding at_product at_sums
is_summand lev _ _ _ a1 = refl

pub is_sums : (lev : ℕ) (ts us rest : List Token) (x y : Expr) (ss : List Operation) (kind : Kind) (o : Operator) (p : Place) (a1 : IsSums ts x ss (token kind p ∷ us)) (a2 : adding kind ≡ Some o) (a3 : IsProduct us y rest) → at_sums lev (g.sums {ts = ts} {us = us} {rest = rest} {x = x} {y = y} {ss = ss} {kind = kind} {o = o} {p = p} a1 a2 a3) ≡ first (at_sums lev a1) (first (at_product lev a3) None)
unfolding at_product at_sums
is_sums lev _ _ _ _ _ _ _ _ _ a1 a2 a3 = refl

pub is_product : (lev : ℕ) (ts rest : List Token) (x : Expr) (ss : List Operation) (a1 : IsProducts ts x ss rest) → at_product lev (g.product {ts = ts} {rest = rest} {x = x} {ss = ss} a1) ≡ first (at_products lev a1) None
unfolding at_product at_products
is_product lev _ _ _ _ a1 = refl

pub is_factor : (lev : ℕ) (ts rest : List Token) (x : Expr) (a1 : IsFactor ts x rest) → at_products lev (g.factor {ts = ts} {rest = rest} {x = x} a1) ≡ first (at_factor lev a1) None
unfolding at_factor at_products
is_factor lev _ _ _ a1 = refl

pub is_products : (lev : ℕ) (ts us rest : List Token) (x y : Expr) (ss : List Operation) (kind : Kind) (o : Operator) (p : Place) (a1 : IsProducts ts x ss (token kind p ∷ us)) (a2 : multiplying kind ≡ Some o) (a3 : IsFactor us y rest) → at_products lev (g.products {ts = ts} {us = us} {rest = rest} {x = x} {y = y} {ss = ss} {kind = kind} {o = o} {p = p} a1 a2 a3) ≡ first (at_products lev a1) (first (at_factor lev a3) None)
unfolding at_factor at_products
is_products lev _ _ _ _ _ _ _ _ _ a1 a2 a3 = refl

pub is_primary : (lev : ℕ) (ts rest : List Token) (x : Expr) (a1 : IsPrimary ts x rest) → at_factor lev (g.primary {ts = ts} {rest = rest} {x = x} a1) ≡ first (at_primary lev a1) None
unfolding at_factor at_primary
is_primary lev _ _ _ a1 = refl

pub is_signed : (lev : ℕ) (ts rest : List Token) (x : Expr) (kind : Kind) (s : Sign) (p : Place) (a1 : signing kind ≡ Some s) (a2 : IsPrimary ts x rest) → at_factor lev (g.signed {ts = ts} {rest = rest} {x = x} {kind = kind} {s = s} {p = p} a1 a2) ≡ first (at_primary lev a2) None
unfolding at_factor at_primary
is_signed lev _ _ _ _ _ _ a1 a2 = refl

pub is_number : (lev : ℕ) (rest : List Token) (n : ℕ) (p : Place) → at_primary lev (g.number {rest = rest} {n = n} {p = p}) ≡ None
unfolding at_primary
is_number lev _ _ _ = refl

pub is_char : (lev : ℕ) (rest : List Token) (n : ℕ) (p : Place) → at_primary lev (g.char {rest = rest} {n = n} {p = p}) ≡ None
unfolding at_primary
is_char lev _ _ _ = refl

pub is_text : (lev : ℕ) (rest : List Token) (bytes : List ℕ) (p : Place) → at_primary lev (g.text {rest = rest} {bytes = bytes} {p = p}) ≡ None
unfolding at_primary
is_text lev _ _ _ = refl

pub is_true_word : (lev : ℕ) (rest : List Token) (p : Place) → at_primary lev (g.true_word {rest = rest} {p = p}) ≡ None
unfolding at_primary
is_true_word lev _ _ = refl

pub is_false_word : (lev : ℕ) (rest : List Token) (p : Place) → at_primary lev (g.false_word {rest = rest} {p = p}) ≡ None
unfolding at_primary
is_false_word lev _ _ = refl

pub is_parens : (lev : ℕ) (ts rest : List Token) (x : Expr) (p q : Place) (a1 : IsExpr ts x (mark RightParenthesis q ∷ rest)) → at_primary lev (g.parens {ts = ts} {rest = rest} {x = x} {p = p} {q = q} a1) ≡ first (at_expr lev a1) None
unfolding at_expr at_primary
is_parens lev _ _ _ _ _ a1 = refl

pub is_reference : (lev : ℕ) (ts rest : List Token) (i : Identifier) (ss : List Suffix) (a1 : IsLeft ts i ss rest) → at_primary lev (g.reference {ts = ts} {rest = rest} {i = i} {ss = ss} a1) ≡ first (at_left lev a1) None
unfolding at_left at_primary
is_reference lev _ _ _ _ a1 = refl

pub is_constructor : (lev : ℕ) (ts rest : List Token) (x : Placed (Entries Expr)) (a1 : IsList ts x rest) → at_primary lev (g.constructor {ts = ts} {rest = rest} {x = x} a1) ≡ first (at_list lev a1) None
unfolding at_list at_primary
is_constructor lev _ _ _ a1 = refl

pub is_raised : (lev : ℕ) (ts rest : List Token) (x : Raise) (a1 : IsRaise ts x rest) → at_primary lev (g.raised {ts = ts} {rest = rest} {x = x} a1) ≡ first (at_raise lev a1) None
unfolding at_primary at_raise
is_raised lev _ _ _ a1 = refl

pub is_list : (lev : ℕ) (ts rest : List Token) (x : Entries Expr) (p q : Place) (a1 : IsArgs ts x (mark RightBracket q ∷ rest)) → at_list lev (g.list {ts = ts} {rest = rest} {x = x} {p = p} {q = q} a1) ≡ first (at_args lev a1) None
unfolding at_args at_list
is_list lev _ _ _ _ _ a1 = refl

pub is_no_list : (lev : ℕ) (rest : List Token) → at_list_option lev (g.no_list {rest = rest}) ≡ None
unfolding at_list_option
is_no_list lev _ = refl

pub is_a_list : (lev : ℕ) (ts rest : List Token) (x : Placed (Entries Expr)) (a1 : IsList ts x rest) → at_list_option lev (g.a_list {ts = ts} {rest = rest} {x = x} a1) ≡ first (at_list lev a1) None
unfolding at_list at_list_option
is_a_list lev _ _ _ a1 = refl

pub is_named : (lev : ℕ) (rest : List Token) (i : Identifier) → at_left lev (g.named {rest = rest} {i = i}) ≡ None
unfolding at_left
is_named lev _ _ = refl

pub is_field : (lev : ℕ) (ts rest : List Token) (i j : Identifier) (ss : List Suffix) (p : Place) (a1 : IsLeft ts i ss (mark Dot p ∷ spelled j ∷ rest)) → at_left lev (g.field {ts = ts} {rest = rest} {i = i} {j = j} {ss = ss} {p = p} a1) ≡ first (at_left lev a1) None
unfolding at_left
is_field lev _ _ _ _ _ _ a1 = refl

pub is_applied : (lev : ℕ) (ts us rest : List Token) (i : Identifier) (ss : List Suffix) (b : Brackets) (a1 : IsLeft ts i ss us) (a2 : IsBrackets us b rest) → at_left lev (g.applied {ts = ts} {us = us} {rest = rest} {i = i} {ss = ss} {b = b} a1 a2) ≡ first (at_left lev a1) (first (at_brackets lev a2) None)
unfolding at_brackets at_left
is_applied lev _ _ _ _ _ _ a1 a2 = refl

pub is_bracketed : (lev : ℕ) (ts us rest : List Token) (x : Entries Expr) (c : Option (Placed (List Arm))) (p q : Place) (a1 : IsArgs ts x us) (a2 : IsCatch us c (mark RightBracket q ∷ rest)) → at_brackets lev (g.bracketed {ts = ts} {us = us} {rest = rest} {x = x} {c = c} {p = p} {q = q} a1 a2) ≡ first (at_args lev a1) (first (at_catch lev a2) None)
unfolding at_args at_brackets at_catch
is_bracketed lev _ _ _ _ _ _ _ a1 a2 = refl

pub is_no_brackets : (lev : ℕ) (rest : List Token) → at_brackets_option lev (g.no_brackets {rest = rest}) ≡ None
unfolding at_brackets_option
is_no_brackets lev _ = refl

pub is_some_brackets : (lev : ℕ) (ts rest : List Token) (b : Brackets) (a1 : IsBrackets ts b rest) → at_brackets_option lev (g.some_brackets {ts = ts} {rest = rest} {b = b} a1) ≡ first (at_brackets lev a1) None
unfolding at_brackets at_brackets_option
is_some_brackets lev _ _ _ a1 = refl

pub is_no_args : (lev : ℕ) (rest : List Token) → at_args lev (g.no_args {rest = rest}) ≡ None
unfolding at_args
is_no_args lev _ = refl

pub is_in_order : (lev : ℕ) (ts rest : List Token) (all : List Expr) (a1 : IsExprs ts all rest) → at_args lev (g.in_order {ts = ts} {rest = rest} {all = all} a1) ≡ first (at_exprs lev a1) None
unfolding at_args at_exprs
is_in_order lev _ _ _ a1 = refl

pub is_by_key : (lev : ℕ) (ts rest : List Token) (all : List (Keyed Expr)) (a1 : IsKeys ts all rest) → at_args lev (g.by_key {ts = ts} {rest = rest} {all = all} a1) ≡ first (at_keys lev a1) None
unfolding at_args at_keys
is_by_key lev _ _ _ a1 = refl

pub is_an_expr : (lev : ℕ) (ts rest : List Token) (x : Expr) (a1 : IsExpr ts x rest) → at_exprs lev (g.an_expr {ts = ts} {rest = rest} {x = x} a1) ≡ first (at_expr lev a1) None
unfolding at_expr at_exprs
is_an_expr lev _ _ _ a1 = refl

pub is_exprs : (lev : ℕ) (ts us rest : List Token) (all : List Expr) (x : Expr) (p : Place) (a1 : IsExprs ts all (mark Comma p ∷ us)) (a2 : IsExpr us x rest) → at_exprs lev (g.exprs {ts = ts} {us = us} {rest = rest} {all = all} {x = x} {p = p} a1 a2) ≡ first (at_exprs lev a1) (first (at_expr lev a2) None)
unfolding at_expr at_exprs
is_exprs lev _ _ _ _ _ _ a1 a2 = refl

pub is_key : (lev : ℕ) (ts rest : List Token) (i : Identifier) (x : Expr) (p : Place) (a1 : IsExpr ts x rest) → at_keys lev (g.key {ts = ts} {rest = rest} {i = i} {x = x} {p = p} a1) ≡ first (at_expr lev a1) None
unfolding at_expr at_keys
is_key lev _ _ _ _ _ a1 = refl

pub is_keys : (lev : ℕ) (ts us rest : List Token) (all : List (Keyed Expr)) (i : Identifier) (x : Expr) (p q : Place) (a1 : IsKeys ts all (mark Comma p ∷ spelled i ∷ mark Colon q ∷ us)) (a2 : IsExpr us x rest) → at_keys lev (g.keys {ts = ts} {us = us} {rest = rest} {all = all} {i = i} {x = x} {p = p} {q = q} a1 a2) ≡ first (at_keys lev a1) (first (at_expr lev a2) None)
unfolding at_expr at_keys
is_keys lev _ _ _ _ _ _ _ _ a1 a2 = refl

pub is_no_catch : (lev : ℕ) (rest : List Token) → at_catch lev (g.no_catch {rest = rest}) ≡ None
unfolding at_catch
is_no_catch lev _ = refl

pub is_catch : (lev : ℕ) (ts rest : List Token) (all : List Arm) (p : Place) (a1 : IsArmList ts all rest) → at_catch lev (g.catch {ts = ts} {rest = rest} {all = all} {p = p} a1) ≡ first (at_arm_list lev a1) None
unfolding at_arm_list at_catch
is_catch lev _ _ _ _ a1 = refl

pub is_open_arms : (lev : ℕ) (ts rest : List Token) (all : List Arm) (a1 : IsArms ts all rest) → at_arm_list lev (g.open_arms {ts = ts} {rest = rest} {all = all} a1) ≡ first (at_arms lev a1) None
unfolding at_arm_list at_arms
is_open_arms lev _ _ _ a1 = refl

pub is_closed_arms : (lev : ℕ) (ts rest : List Token) (all : List Arm) (p : Place) (a1 : IsArms ts all (mark Semicolon p ∷ rest)) → at_arm_list lev (g.closed_arms {ts = ts} {rest = rest} {all = all} {p = p} a1) ≡ first (at_arms lev a1) None
unfolding at_arm_list at_arms
is_closed_arms lev _ _ _ _ a1 = refl

pub is_an_arm : (lev : ℕ) (ts rest : List Token) (x : Arm) (a1 : IsArm ts x rest) → at_arms lev (g.an_arm {ts = ts} {rest = rest} {x = x} a1) ≡ first (at_arm lev a1) None
unfolding at_arm at_arms
is_an_arm lev _ _ _ a1 = refl

pub is_arms : (lev : ℕ) (ts us rest : List Token) (all : List Arm) (x : Arm) (p : Place) (a1 : IsArms ts all (mark Semicolon p ∷ us)) (a2 : IsArm us x rest) → at_arms lev (g.arms {ts = ts} {us = us} {rest = rest} {all = all} {x = x} {p = p} a1 a2) ≡ first (at_arms lev a1) (first (at_arm lev a2) None)
unfolding at_arm at_arms
is_arms lev _ _ _ _ _ _ a1 a2 = refl

pub is_an_arm_of : (lev : ℕ) (ts us rest : List Token) (l : Labels) (x : Statement) (p : Place) (a1 : IsLabels ts l (mark DoubleArrow p ∷ us)) (a2 : IsStmt us x rest) → at_arm lev (g.an_arm_of {ts = ts} {us = us} {rest = rest} {l = l} {x = x} {p = p} a1 a2) ≡ first (at_stmt lev a2) None
unfolding at_arm at_stmt
is_an_arm_of lev _ _ _ _ _ _ a1 a2 = refl

pub is_signal : (lev : ℕ) (ts us rest : List Token) (x : QualifiedName) (b : Option Brackets) (p : Place) (a1 : IsQName ts x us) (a2 : IsBracketsOption us b rest) → at_raise lev (g.signal {ts = ts} {us = us} {rest = rest} {x = x} {b = b} {p = p} a1 a2) ≡ first (at_brackets_option lev a2) None
unfolding at_brackets_option at_raise
is_signal lev _ _ _ _ _ _ a1 a2 = refl

pub is_error : (lev : ℕ) (ts us rest : List Token) (x : QualifiedName) (b : Option Brackets) (p : Place) (a1 : IsQName ts x us) (a2 : IsBracketsOption us b rest) → at_raise lev (g.error {ts = ts} {us = us} {rest = rest} {x = x} {b = b} {p = p} a1 a2) ≡ first (at_brackets_option lev a2) None
unfolding at_brackets_option at_raise
is_error lev _ _ _ _ _ _ a1 a2 = refl

pub is_unnamed_error : (lev : ℕ) (rest : List Token) (p : Place) → at_raise lev (g.unnamed_error {rest = rest} {p = p}) ≡ None
unfolding at_raise
is_unnamed_error lev _ _ = refl

pub zero_at_stmt : {ts : List Token} {x : Statement} {rest : List Token} (e : IsStmt ts x rest) → at_stmt zero e ≡ Some ts
unfolding at_stmt
zero_at_stmt e = refl

pub is_null : (lev : ℕ) (rest : List Token) (p : Place) → at_stmt (suc lev) (g.null {rest = rest} {p = p}) ≡ None
unfolding at_stmt
is_null lev _ _ = refl

pub is_nested : (lev : ℕ) (ts rest : List Token) (x : Block) (a1 : IsBlock ts x rest) → at_stmt (suc lev) (g.nested {ts = ts} {rest = rest} {x = x} a1) ≡ first (at_block lev a1) None
unfolding at_block at_stmt
is_nested lev _ _ _ a1 = refl

pub is_assign : (lev : ℕ) (ts us rest : List Token) (i : Identifier) (ss : List Suffix) (x : Expr) (p : Place) (a1 : IsLeft ts i ss (mark Arrow p ∷ us)) (a2 : IsExpr us x rest) → at_stmt (suc lev) (g.assign {ts = ts} {us = us} {rest = rest} {i = i} {ss = ss} {x = x} {p = p} a1 a2) ≡ first (at_left lev a1) (first (at_expr lev a2) None)
unfolding at_expr at_left at_stmt
is_assign lev _ _ _ _ _ _ _ a1 a2 = refl

pub is_extract : (lev : ℕ) (ts us rest : List Token) (x : Entries Left) (y : Expr) (p q r : Place) (a1 : IsTargets ts x (mark RightBracket q ∷ mark Arrow r ∷ us)) (a2 : IsExpr us y rest) → at_stmt (suc lev) (g.extract {ts = ts} {us = us} {rest = rest} {x = x} {y = y} {p = p} {q = q} {r = r} a1 a2) ≡ first (at_targets lev a1) (first (at_expr lev a2) None)
unfolding at_expr at_stmt at_targets
is_extract lev _ _ _ _ _ _ _ _ a1 a2 = refl

pub is_call : (lev : ℕ) (ts rest : List Token) (i : Identifier) (ss : List Suffix) (a1 : IsLeft ts i ss rest) → at_stmt (suc lev) (g.call {ts = ts} {rest = rest} {i = i} {ss = ss} a1) ≡ first (at_left lev a1) None
unfolding at_left at_stmt
is_call lev _ _ _ _ a1 = refl

pub is_raise : (lev : ℕ) (ts rest : List Token) (x : Raise) (a1 : IsRaise ts x rest) → at_stmt (suc lev) (g.raise {ts = ts} {rest = rest} {x = x} a1) ≡ first (at_raise lev a1) None
unfolding at_raise at_stmt
is_raise lev _ _ _ a1 = refl

pub is_if_then : (lev : ℕ) (ts us rest : List Token) (c : Expr) (x : Statement) (p q : Place) (a1 : IsExpr ts c (word ThenWord q ∷ us)) (a2 : IsStmt us x rest) (a3 : NoElse rest) → at_stmt (suc lev) (g.if_then {ts = ts} {us = us} {rest = rest} {c = c} {x = x} {p = p} {q = q} a1 a2 a3) ≡ first (at_expr lev a1) (first (at_stmt lev a2) None)
unfolding at_expr at_stmt
is_if_then lev _ _ _ _ _ _ _ a1 a2 a3 = refl

pub is_if_else : (lev : ℕ) (ts us vs rest : List Token) (c : Expr) (x y : Statement) (p q r : Place) (a1 : IsExpr ts c (word ThenWord q ∷ us)) (a2 : IsStmt us x (word ElseWord r ∷ vs)) (a3 : IsStmt vs y rest) → at_stmt (suc lev) (g.if_else {ts = ts} {us = us} {vs = vs} {rest = rest} {c = c} {x = x} {y = y} {p = p} {q = q} {r = r} a1 a2 a3) ≡ first (at_expr lev a1) (first (at_stmt lev a2) (first (at_stmt lev a3) None))
unfolding at_expr at_stmt
is_if_else lev _ _ _ _ _ _ _ _ _ _ a1 a2 a3 = refl

pub is_select : (lev : ℕ) (ts us vs rest : List Token) (x : Expr) (cs : List Case) (y : Option Statement) (p q r : Place) (a1 : IsExpr ts x (word FromWord q ∷ us)) (a2 : IsCaseList us cs (word EndcaseWord r ∷ vs)) (a3 : IsOtherwise vs y rest) → at_stmt (suc lev) (g.select {ts = ts} {us = us} {vs = vs} {rest = rest} {x = x} {cs = cs} {y = y} {p = p} {q = q} {r = r} a1 a2 a3) ≡ first (at_expr lev a1) (first (at_case_list lev a2) (first (at_otherwise lev a3) None))
unfolding at_case_list at_expr at_otherwise at_stmt
is_select lev _ _ _ _ _ _ _ _ _ _ a1 a2 a3 = refl

pub is_loop : (lev : ℕ) (ts us vs ws rest : List Token) (c : Control) (e : Option (Placed (List Arm))) (body : List Statement) (rs : List (Labeled RepeatLabels Statement)) (p q : Place) (a1 : IsControl ts c (word DoWord p ∷ us)) (a2 : IsEnabling us e vs) (a3 : IsBody vs body ws) (a4 : IsRepeatPart ws rs (word EndloopWord q ∷ rest)) → at_stmt (suc lev) (g.loop {ts = ts} {us = us} {vs = vs} {ws = ws} {rest = rest} {c = c} {e = e} {body = body} {rs = rs} {p = p} {q = q} a1 a2 a3 a4) ≡ first (at_control lev a1) (first (at_enabling lev a2) (first (at_body lev a3) (first (at_repeat_part lev a4) None)))
unfolding at_body at_control at_enabling at_repeat_part at_stmt
is_loop lev _ _ _ _ _ _ _ _ _ _ _ a1 a2 a3 a4 = refl

pub is_exit_loop : (lev : ℕ) (rest : List Token) (p : Place) → at_stmt (suc lev) (g.exit_loop {rest = rest} {p = p}) ≡ None
unfolding at_stmt
is_exit_loop lev _ _ = refl

pub is_next_turn : (lev : ℕ) (rest : List Token) (p : Place) → at_stmt (suc lev) (g.next_turn {rest = rest} {p = p}) ≡ None
unfolding at_stmt
is_next_turn lev _ _ = refl

pub is_goto : (lev : ℕ) (rest : List Token) (i : Identifier) (p : Place) → at_stmt (suc lev) (g.goto {rest = rest} {i = i} {p = p}) ≡ None
unfolding at_stmt
is_goto lev _ _ _ = refl

pub is_go_to : (lev : ℕ) (rest : List Token) (i : Identifier) (p q : Place) → at_stmt (suc lev) (g.go_to {rest = rest} {i = i} {p = p} {q = q}) ≡ None
unfolding at_stmt
is_go_to lev _ _ _ _ = refl

pub is_return : (lev : ℕ) (ts rest : List Token) (x : Option (Placed (Entries Expr))) (p : Place) (a1 : IsListOption ts x rest) → at_stmt (suc lev) (g.return {ts = ts} {rest = rest} {x = x} {p = p} a1) ≡ first (at_list_option lev a1) None
unfolding at_list_option at_stmt
is_return lev _ _ _ _ a1 = refl

pub is_resume : (lev : ℕ) (ts rest : List Token) (x : Option (Placed (Entries Expr))) (p : Place) (a1 : IsListOption ts x rest) → at_stmt (suc lev) (g.resume {ts = ts} {rest = rest} {x = x} {p = p} a1) ≡ first (at_list_option lev a1) None
unfolding at_list_option at_stmt
is_resume lev _ _ _ _ a1 = refl

pub is_reject : (lev : ℕ) (rest : List Token) (p : Place) → at_stmt (suc lev) (g.reject {rest = rest} {p = p}) ≡ None
unfolding at_stmt
is_reject lev _ _ = refl

pub is_retry : (lev : ℕ) (rest : List Token) (p : Place) → at_stmt (suc lev) (g.retry {rest = rest} {p = p}) ≡ None
unfolding at_stmt
is_retry lev _ _ = refl

pub is_continue : (lev : ℕ) (rest : List Token) (p : Place) → at_stmt (suc lev) (g.continue {rest = rest} {p = p}) ≡ None
unfolding at_stmt
is_continue lev _ _ = refl

pub is_no_targets : (lev : ℕ) (rest : List Token) → at_targets lev (g.no_targets {rest = rest}) ≡ None
unfolding at_targets
is_no_targets lev _ = refl

pub is_targets : (lev : ℕ) (ts rest : List Token) (all : List Left) (a1 : IsLefts ts all rest) → at_targets lev (g.targets {ts = ts} {rest = rest} {all = all} a1) ≡ first (at_lefts lev a1) None
unfolding at_lefts at_targets
is_targets lev _ _ _ a1 = refl

pub is_key_targets : (lev : ℕ) (ts rest : List Token) (all : List (Keyed Left)) (a1 : IsKeyLefts ts all rest) → at_targets lev (g.key_targets {ts = ts} {rest = rest} {all = all} a1) ≡ first (at_key_lefts lev a1) None
unfolding at_key_lefts at_targets
is_key_targets lev _ _ _ a1 = refl

pub is_a_left : (lev : ℕ) (ts rest : List Token) (i : Identifier) (ss : List Suffix) (a1 : IsLeft ts i ss rest) → at_lefts lev (g.a_left {ts = ts} {rest = rest} {i = i} {ss = ss} a1) ≡ first (at_left lev a1) None
unfolding at_left at_lefts
is_a_left lev _ _ _ _ a1 = refl

pub is_lefts : (lev : ℕ) (ts us rest : List Token) (all : List Left) (i : Identifier) (ss : List Suffix) (p : Place) (a1 : IsLefts ts all (mark Comma p ∷ us)) (a2 : IsLeft us i ss rest) → at_lefts lev (g.lefts {ts = ts} {us = us} {rest = rest} {all = all} {i = i} {ss = ss} {p = p} a1 a2) ≡ first (at_lefts lev a1) (first (at_left lev a2) None)
unfolding at_left at_lefts
is_lefts lev _ _ _ _ _ _ _ a1 a2 = refl

pub is_key_left : (lev : ℕ) (ts rest : List Token) (i j : Identifier) (ss : List Suffix) (p : Place) (a1 : IsLeft ts i ss rest) → at_key_lefts lev (g.key_left {ts = ts} {rest = rest} {i = i} {j = j} {ss = ss} {p = p} a1) ≡ first (at_left lev a1) None
unfolding at_key_lefts at_left
is_key_left lev _ _ _ _ _ _ a1 = refl

pub is_key_lefts : (lev : ℕ) (ts us rest : List Token) (all : List (Keyed Left)) (i j : Identifier) (ss : List Suffix) (p q : Place) (a1 : IsKeyLefts ts all (mark Comma p ∷ spelled j ∷ mark Colon q ∷ us)) (a2 : IsLeft us i ss rest) → at_key_lefts lev (g.key_lefts {ts = ts} {us = us} {rest = rest} {all = all} {i = i} {j = j} {ss = ss} {p = p} {q = q} a1 a2) ≡ first (at_key_lefts lev a1) (first (at_left lev a2) None)
unfolding at_key_lefts at_left
is_key_lefts lev _ _ _ _ _ _ _ _ _ a1 a2 = refl

pub is_no_otherwise : (lev : ℕ) (rest : List Token) → at_otherwise lev (g.no_otherwise {rest = rest}) ≡ None
unfolding at_otherwise
is_no_otherwise lev _ = refl

pub is_otherwise : (lev : ℕ) (ts rest : List Token) (x : Statement) (p : Place) (a1 : IsStmt ts x rest) → at_otherwise lev (g.otherwise {ts = ts} {rest = rest} {x = x} {p = p} a1) ≡ first (at_stmt lev a1) None
unfolding at_otherwise at_stmt
is_otherwise lev _ _ _ _ a1 = refl

pub is_no_cases : (lev : ℕ) (rest : List Token) → at_case_list lev (g.no_cases {rest = rest}) ≡ None
unfolding at_case_list
is_no_cases lev _ = refl

pub is_open_cases : (lev : ℕ) (ts rest : List Token) (all : List Case) (a1 : IsCases ts all rest) → at_case_list lev (g.open_cases {ts = ts} {rest = rest} {all = all} a1) ≡ first (at_cases lev a1) None
unfolding at_case_list at_cases
is_open_cases lev _ _ _ a1 = refl

pub is_closed_cases : (lev : ℕ) (ts rest : List Token) (all : List Case) (p : Place) (a1 : IsCases ts all (mark Semicolon p ∷ rest)) → at_case_list lev (g.closed_cases {ts = ts} {rest = rest} {all = all} {p = p} a1) ≡ first (at_cases lev a1) None
unfolding at_case_list at_cases
is_closed_cases lev _ _ _ _ a1 = refl

pub is_a_case : (lev : ℕ) (ts rest : List Token) (x : Case) (a1 : IsCase ts x rest) → at_cases lev (g.a_case {ts = ts} {rest = rest} {x = x} a1) ≡ first (at_case lev a1) None
unfolding at_case at_cases
is_a_case lev _ _ _ a1 = refl

pub is_cases : (lev : ℕ) (ts us rest : List Token) (all : List Case) (x : Case) (p : Place) (a1 : IsCases ts all (mark Semicolon p ∷ us)) (a2 : IsCase us x rest) → at_cases lev (g.cases {ts = ts} {us = us} {rest = rest} {all = all} {x = x} {p = p} a1 a2) ≡ first (at_cases lev a1) (first (at_case lev a2) None)
unfolding at_case at_cases
is_cases lev _ _ _ _ _ _ a1 a2 = refl

pub is_case_of : (lev : ℕ) (ts us rest : List Token) (all : List Test) (x : Statement) (p : Place) (a1 : IsTests ts all (mark DoubleArrow p ∷ us)) (a2 : IsStmt us x rest) → at_case lev (g.case_of {ts = ts} {us = us} {rest = rest} {all = all} {x = x} {p = p} a1 a2) ≡ first (at_tests lev a1) (first (at_stmt lev a2) None)
unfolding at_case at_stmt at_tests
is_case_of lev _ _ _ _ _ _ a1 a2 = refl

pub is_a_test : (lev : ℕ) (ts rest : List Token) (x : Test) (a1 : IsTest ts x rest) → at_tests lev (g.a_test {ts = ts} {rest = rest} {x = x} a1) ≡ first (at_test lev a1) None
unfolding at_test at_tests
is_a_test lev _ _ _ a1 = refl

pub is_tests : (lev : ℕ) (ts us rest : List Token) (all : List Test) (x : Test) (p : Place) (a1 : IsTests ts all (mark Comma p ∷ us)) (a2 : IsTest us x rest) → at_tests lev (g.tests {ts = ts} {us = us} {rest = rest} {all = all} {x = x} {p = p} a1 a2) ≡ first (at_tests lev a1) (first (at_test lev a2) None)
unfolding at_test at_tests
is_tests lev _ _ _ _ _ _ a1 a2 = refl

pub is_value : (lev : ℕ) (ts rest : List Token) (x : Expr) (a1 : IsExpr ts x rest) → at_test lev (g.value {ts = ts} {rest = rest} {x = x} a1) ≡ first (at_expr lev a1) None
unfolding at_expr at_test
is_value lev _ _ _ a1 = refl

pub is_compared : (lev : ℕ) (ts us rest : List Token) (b : Bool) (x : Expr) (kind : Kind) (r : Relation) (p : Place) (a1 : IsNot ts b (token kind p ∷ us)) (a2 : relating kind ≡ Some r) (a3 : IsSum us x rest) → at_test lev (g.compared {ts = ts} {us = us} {rest = rest} {b = b} {x = x} {kind = kind} {r = r} {p = p} a1 a2 a3) ≡ first (at_sum lev a3) None
unfolding at_sum at_test
is_compared lev _ _ _ _ _ _ _ _ a1 a2 a3 = refl

pub is_inside : (lev : ℕ) (ts us rest : List Token) (b : Bool) (i : Interval) (p : Place) (a1 : IsNot ts b (word InWord p ∷ us)) (a2 : IsInterval us i rest) → at_test lev (g.inside {ts = ts} {us = us} {rest = rest} {b = b} {i = i} {p = p} a1 a2) ≡ first (at_interval lev a2) None
unfolding at_interval at_test
is_inside lev _ _ _ _ _ _ a1 a2 = refl

pub is_controlled : (lev : ℕ) (ts us rest : List Token) (a : Option Count) (b : Option Condition) (a1 : IsCount ts a us) (a2 : IsCondition us b rest) → at_control lev (g.controlled {ts = ts} {us = us} {rest = rest} {a = a} {b = b} a1 a2) ≡ first (at_count lev a1) (first (at_condition lev a2) None)
unfolding at_condition at_control at_count
is_controlled lev _ _ _ _ _ a1 a2 = refl

pub is_no_count : (lev : ℕ) (rest : List Token) → at_count lev (g.no_count {rest = rest}) ≡ None
unfolding at_count
is_no_count lev _ = refl

pub is_for : (lev : ℕ) (ts us rest : List Token) (i : Identifier) (b : Bool) (x : Interval) (p q : Place) (a1 : IsDecreasing ts b (word InWord q ∷ us)) (a2 : IsInterval us x rest) → at_count lev (g.for {ts = ts} {us = us} {rest = rest} {i = i} {b = b} {x = x} {p = p} {q = q} a1 a2) ≡ first (at_interval lev a2) None
unfolding at_count at_interval
is_for lev _ _ _ _ _ _ _ _ a1 a2 = refl

pub is_through : (lev : ℕ) (ts rest : List Token) (x : Interval) (p : Place) (a1 : IsInterval ts x rest) → at_count lev (g.through {ts = ts} {rest = rest} {x = x} {p = p} a1) ≡ first (at_interval lev a1) None
unfolding at_count at_interval
is_through lev _ _ _ _ a1 = refl

pub is_no_condition : (lev : ℕ) (rest : List Token) → at_condition lev (g.no_condition {rest = rest}) ≡ None
unfolding at_condition
is_no_condition lev _ = refl

pub is_while : (lev : ℕ) (ts rest : List Token) (x : Expr) (p : Place) (a1 : IsExpr ts x rest) → at_condition lev (g.while {ts = ts} {rest = rest} {x = x} {p = p} a1) ≡ first (at_expr lev a1) None
unfolding at_condition at_expr
is_while lev _ _ _ _ a1 = refl

pub is_until : (lev : ℕ) (ts rest : List Token) (x : Expr) (p : Place) (a1 : IsExpr ts x rest) → at_condition lev (g.until {ts = ts} {rest = rest} {x = x} {p = p} a1) ≡ first (at_expr lev a1) None
unfolding at_condition at_expr
is_until lev _ _ _ _ a1 = refl

pub is_no_stmts : (lev : ℕ) (rest : List Token) → at_body lev (g.no_stmts {rest = rest}) ≡ None
unfolding at_body
is_no_stmts lev _ = refl

pub is_open_stmts : (lev : ℕ) (ts rest : List Token) (all : List Statement) (a1 : IsStmts ts all rest) → at_body lev (g.open_stmts {ts = ts} {rest = rest} {all = all} a1) ≡ first (at_stmts lev a1) None
unfolding at_body at_stmts
is_open_stmts lev _ _ _ a1 = refl

pub is_closed_stmts : (lev : ℕ) (ts rest : List Token) (all : List Statement) (p : Place) (a1 : IsStmts ts all (mark Semicolon p ∷ rest)) → at_body lev (g.closed_stmts {ts = ts} {rest = rest} {all = all} {p = p} a1) ≡ first (at_stmts lev a1) None
unfolding at_body at_stmts
is_closed_stmts lev _ _ _ _ a1 = refl

pub is_a_stmt : (lev : ℕ) (ts rest : List Token) (x : Statement) (a1 : IsStmt ts x rest) → at_stmts lev (g.a_stmt {ts = ts} {rest = rest} {x = x} a1) ≡ first (at_stmt lev a1) None
unfolding at_stmt at_stmts
is_a_stmt lev _ _ _ a1 = refl

pub is_stmts : (lev : ℕ) (ts us rest : List Token) (all : List Statement) (x : Statement) (p : Place) (a1 : IsStmts ts all (mark Semicolon p ∷ us)) (a2 : IsStmt us x rest) → at_stmts lev (g.stmts {ts = ts} {us = us} {rest = rest} {all = all} {x = x} {p = p} a1 a2) ≡ first (at_stmts lev a1) (first (at_stmt lev a2) None)
unfolding at_stmt at_stmts
is_stmts lev _ _ _ _ _ _ a1 a2 = refl

pub is_no_repeats : (lev : ℕ) (rest : List Token) → at_repeat_part lev (g.no_repeats {rest = rest}) ≡ None
unfolding at_repeat_part
is_no_repeats lev _ = refl

pub is_open_repeats : (lev : ℕ) (ts rest : List Token) (all : List (Labeled RepeatLabels Statement)) (p : Place) (a1 : IsRepeats ts all rest) → at_repeat_part lev (g.open_repeats {ts = ts} {rest = rest} {all = all} {p = p} a1) ≡ first (at_repeats lev a1) None
unfolding at_repeat_part at_repeats
is_open_repeats lev _ _ _ _ a1 = refl

pub is_closed_repeats : (lev : ℕ) (ts rest : List Token) (all : List (Labeled RepeatLabels Statement)) (p q : Place) (a1 : IsRepeats ts all (mark Semicolon q ∷ rest)) → at_repeat_part lev (g.closed_repeats {ts = ts} {rest = rest} {all = all} {p = p} {q = q} a1) ≡ first (at_repeats lev a1) None
unfolding at_repeat_part at_repeats
is_closed_repeats lev _ _ _ _ _ a1 = refl

pub is_a_repeat : (lev : ℕ) (ts rest : List Token) (x : Labeled RepeatLabels Statement) (a1 : IsRepeat ts x rest) → at_repeats lev (g.a_repeat {ts = ts} {rest = rest} {x = x} a1) ≡ first (at_repeat lev a1) None
unfolding at_repeat at_repeats
is_a_repeat lev _ _ _ a1 = refl

pub is_repeats : (lev : ℕ) (ts us rest : List Token) (all : List (Labeled RepeatLabels Statement)) (x : Labeled RepeatLabels Statement) (p : Place) (a1 : IsRepeats ts all (mark Semicolon p ∷ us)) (a2 : IsRepeat us x rest) → at_repeats lev (g.repeats {ts = ts} {us = us} {rest = rest} {all = all} {x = x} {p = p} a1 a2) ≡ first (at_repeats lev a1) (first (at_repeat lev a2) None)
unfolding at_repeat at_repeats
is_repeats lev _ _ _ _ _ _ a1 a2 = refl

pub is_repeat_of : (lev : ℕ) (ts us rest : List Token) (l : RepeatLabels) (x : Statement) (p : Place) (a1 : IsRepeatLabels ts l (mark DoubleArrow p ∷ us)) (a2 : IsStmt us x rest) → at_repeat lev (g.repeat_of {ts = ts} {us = us} {rest = rest} {l = l} {x = x} {p = p} a1 a2) ≡ first (at_stmt lev a2) None
unfolding at_repeat at_stmt
is_repeat_of lev _ _ _ _ _ _ a1 a2 = refl

pub is_no_exits : (lev : ℕ) (rest : List Token) → at_exit_part lev (g.no_exits {rest = rest}) ≡ None
unfolding at_exit_part
is_no_exits lev _ = refl

pub is_open_exits : (lev : ℕ) (ts rest : List Token) (all : List (Labeled (List Identifier) Statement)) (p : Place) (a1 : IsExits ts all rest) → at_exit_part lev (g.open_exits {ts = ts} {rest = rest} {all = all} {p = p} a1) ≡ first (at_exits lev a1) None
unfolding at_exit_part at_exits
is_open_exits lev _ _ _ _ a1 = refl

pub is_closed_exits : (lev : ℕ) (ts rest : List Token) (all : List (Labeled (List Identifier) Statement)) (p q : Place) (a1 : IsExits ts all (mark Semicolon q ∷ rest)) → at_exit_part lev (g.closed_exits {ts = ts} {rest = rest} {all = all} {p = p} {q = q} a1) ≡ first (at_exits lev a1) None
unfolding at_exit_part at_exits
is_closed_exits lev _ _ _ _ _ a1 = refl

pub is_an_exit : (lev : ℕ) (ts rest : List Token) (x : Labeled (List Identifier) Statement) (a1 : IsExit ts x rest) → at_exits lev (g.an_exit {ts = ts} {rest = rest} {x = x} a1) ≡ first (at_exit lev a1) None
unfolding at_exit at_exits
is_an_exit lev _ _ _ a1 = refl

pub is_exits : (lev : ℕ) (ts us rest : List Token) (all : List (Labeled (List Identifier) Statement)) (x : Labeled (List Identifier) Statement) (p : Place) (a1 : IsExits ts all (mark Semicolon p ∷ us)) (a2 : IsExit us x rest) → at_exits lev (g.exits {ts = ts} {us = us} {rest = rest} {all = all} {x = x} {p = p} a1 a2) ≡ first (at_exits lev a1) (first (at_exit lev a2) None)
unfolding at_exit at_exits
is_exits lev _ _ _ _ _ _ a1 a2 = refl

pub is_exit_of : (lev : ℕ) (ts us rest : List Token) (ns : List Identifier) (x : Statement) (p : Place) (a1 : IsNames ts ns (mark DoubleArrow p ∷ us)) (a2 : IsStmt us x rest) → at_exit lev (g.exit_of {ts = ts} {us = us} {rest = rest} {ns = ns} {x = x} {p = p} a1 a2) ≡ first (at_stmt lev a2) None
unfolding at_exit at_stmt
is_exit_of lev _ _ _ _ _ _ a1 a2 = refl

pub is_no_enable : (lev : ℕ) (rest : List Token) → at_enabling lev (g.no_enable {rest = rest}) ≡ None
unfolding at_enabling
is_no_enable lev _ = refl

pub is_enable_one : (lev : ℕ) (ts rest : List Token) (x : Arm) (p q : Place) (a1 : IsArm ts x (mark Semicolon q ∷ rest)) → at_enabling lev (g.enable_one {ts = ts} {rest = rest} {x = x} {p = p} {q = q} a1) ≡ first (at_arm lev a1) None
unfolding at_arm at_enabling
is_enable_one lev _ _ _ _ _ a1 = refl

pub is_enable_many : (lev : ℕ) (ts rest : List Token) (all : List Arm) (p q r s : Place) (a1 : IsArmList ts all (word EndWord r ∷ mark Semicolon s ∷ rest)) → at_enabling lev (g.enable_many {ts = ts} {rest = rest} {all = all} {p = p} {q = q} {r = r} {s = s} a1) ≡ first (at_arm_list lev a1) None
unfolding at_arm_list at_enabling
is_enable_many lev _ _ _ _ _ _ _ a1 = refl

pub is_begin_end : (lev : ℕ) (ts us vs ws rest : List Token) (e : Option (Placed (List Arm))) (ls : List (Labeled (List Identifier) PlainItem)) (ss : List Statement) (xs : List (Labeled (List Identifier) Statement)) (p q : Place) (a1 : IsEnabling ts e us) (a2 : IsLocals us ls vs) (a3 : IsBody vs ss ws) (a4 : IsExitPart ws xs (word EndWord q ∷ rest)) → at_block lev (g.begin_end {ts = ts} {us = us} {vs = vs} {ws = ws} {rest = rest} {e = e} {ls = ls} {ss = ss} {xs = xs} {p = p} {q = q} a1 a2 a3 a4) ≡ first (at_enabling lev a1) (first (at_locals lev a2) (first (at_body lev a3) (first (at_exit_part lev a4) None)))
unfolding at_block at_body at_enabling at_exit_part at_locals
is_begin_end lev _ _ _ _ _ _ _ _ _ _ _ a1 a2 a3 a4 = refl

pub is_braces : (lev : ℕ) (ts us vs ws rest : List Token) (e : Option (Placed (List Arm))) (ls : List (Labeled (List Identifier) PlainItem)) (ss : List Statement) (xs : List (Labeled (List Identifier) Statement)) (p q : Place) (a1 : IsEnabling ts e us) (a2 : IsLocals us ls vs) (a3 : IsBody vs ss ws) (a4 : IsExitPart ws xs (mark RightBrace q ∷ rest)) → at_block lev (g.braces {ts = ts} {us = us} {vs = vs} {ws = ws} {rest = rest} {e = e} {ls = ls} {ss = ss} {xs = xs} {p = p} {q = q} a1 a2 a3 a4) ≡ first (at_enabling lev a1) (first (at_locals lev a2) (first (at_body lev a3) (first (at_exit_part lev a4) None)))
unfolding at_block at_body at_enabling at_exit_part at_locals
is_braces lev _ _ _ _ _ _ _ _ _ _ _ a1 a2 a3 a4 = refl

pub is_no_locals : (lev : ℕ) (rest : List Token) → at_locals lev (g.no_locals {rest = rest}) ≡ None
unfolding at_locals
is_no_locals lev _ = refl

pub is_locals : (lev : ℕ) (ts us rest : List Token) (all : List (Labeled (List Identifier) PlainItem)) (x : Labeled (List Identifier) PlainItem) (p : Place) (a1 : IsLocals ts all us) (a2 : IsLocal us x (mark Semicolon p ∷ rest)) → at_locals lev (g.locals {ts = ts} {us = us} {rest = rest} {all = all} {x = x} {p = p} a1 a2) ≡ first (at_locals lev a1) (first (at_local lev a2) None)
unfolding at_local at_locals
is_locals lev _ _ _ _ _ _ a1 a2 = refl

pub is_local_of : (lev : ℕ) (ts us rest : List Token) (ns : List Identifier) (x : PlainItem) (p : Place) (a1 : IsNames ts ns (mark Colon p ∷ us)) (a2 : IsPlain us x rest) → at_local lev (g.local_of {ts = ts} {us = us} {rest = rest} {ns = ns} {x = x} {p = p} a1 a2) ≡ first (at_plain lev a2) None
unfolding at_local at_plain
is_local_of lev _ _ _ _ _ _ a1 a2 = refl

pub is_type_is : (lev : ℕ) (ts rest : List Token) (x : TypeExp) (p q : Place) (a1 : IsType ts x rest) → at_plain lev (g.type_is {ts = ts} {rest = rest} {x = x} {p = p} {q = q} a1) ≡ first (at_type lev a1) None
unfolding at_plain at_type
is_type_is lev _ _ _ _ _ a1 = refl

pub is_variable : (lev : ℕ) (ts rest : List Token) (x : TypeExp) (a1 : IsType ts x rest) → at_plain lev (g.variable {ts = ts} {rest = rest} {x = x} a1) ≡ first (at_type lev a1) None
unfolding at_plain at_type
is_variable lev _ _ _ a1 = refl

pub is_initial : (lev : ℕ) (ts us rest : List Token) (x : TypeExp) (y : Expr) (p : Place) (a1 : IsType ts x (mark Arrow p ∷ us)) (a2 : IsExpr us y rest) → at_plain lev (g.initial {ts = ts} {us = us} {rest = rest} {x = x} {y = y} {p = p} a1 a2) ≡ first (at_type lev a1) (first (at_expr lev a2) None)
unfolding at_expr at_plain at_type
is_initial lev _ _ _ _ _ _ a1 a2 = refl

pub is_constant : (lev : ℕ) (ts us rest : List Token) (x : TypeExp) (y : Expr) (p : Place) (a1 : IsType ts x (mark Equal p ∷ us)) (a2 : IsExpr us y rest) → at_plain lev (g.constant {ts = ts} {us = us} {rest = rest} {x = x} {y = y} {p = p} a1 a2) ≡ first (at_type lev a1) (first (at_expr lev a2) None)
unfolding at_expr at_plain at_type
is_constant lev _ _ _ _ _ _ a1 a2 = refl
