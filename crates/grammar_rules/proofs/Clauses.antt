-- One lemma for each row of the grammar: where the parts lead the parser, the whole does.
use Rattle.std.proofs.Common.{◌≡◌, ℕ, suc, Bool, true, false, ◌||◌, List, [], ◌∷◌, ◌++◌, Option, Some, None, ◌⊎◌, refl, sym, ap, subst}
use Rattle.mesa_base.specs.declared.place.Place.{Place}
use Rattle.mesa_lexer.specs.declared.token.Token.{Token}
use Rattle.mesa_lexer.specs.declared.token.Kind.{Kind}
use Rattle.mesa_lexer.specs.declared.token.Kind.TheVariants as k
use Rattle.mesa_lexer.specs.declared.word.Word.TheVariants.{ArrayWord, BeginWord, BooleanWord, CardinalWord, CharacterWord, ContinueWord, DoWord, ElseWord, EnableWord, EndWord, EndcaseWord, EndloopWord, ErrorWord, ExitWord, ExitsWord, FalseWord, ForWord, FromWord, GoWord, GotoWord, IfWord, InWord, IntegerWord, LongWord, LoopWord, NullWord, OfWord, RecordWord, RejectWord, RepeatWord, ResumeWord, RetryWord, ReturnWord, SelectWord, SignalWord, StringWord, ThenWord, ThroughWord, ToWord, TrueWord, TypeWord, UntilWord, WhileWord}
use Rattle.mesa_lexer.specs.declared.mark.Mark.TheVariants.{Arrow, Semicolon, Colon, Comma, Dot, DotDot, LeftBracket, RightBracket, LeftParenthesis, RightParenthesis, LeftBrace, RightBrace, Equal, Bang, DoubleArrow}
use Rattle.token_cursor.specs.Parsing.{token, word, mark, Out, and_then, ◌>>=◌, ◌>>◌, pure, refuse, first, only, exactly, finds, among, a_name, choose, need, Again, repeat}
use Rattle.token_cursor.specs.Parsing.{Turned}
use Rattle.token_cursor.specs.Parsing as w
use Rattle.mesa_base.specs.declared.identifier.Identifier.{Identifier}
use Rattle.syntax_trees.specs.declared.syntax.QualifiedName.{QualifiedName}
use Rattle.mesa_base.specs.declared.placed.Placed.{Placed}
use Rattle.syntax_trees.specs.declared.syntax.Keyed.{Keyed}
use Rattle.syntax_trees.specs.declared.syntax.Labeled.{Labeled}
use Rattle.syntax_trees.specs.declared.syntax.Entries.{Entries}
use Rattle.syntax_trees.specs.declared.syntax.Entries.TheVariants.{Nothing, InOrder, ByKey}
use Rattle.syntax_trees.specs.declared.syntax.Labels.{Labels}
use Rattle.syntax_trees.specs.declared.syntax.RepeatLabels.{RepeatLabels}
use Rattle.syntax_trees.specs.declared.syntax.TypeBase.{TypeBase}
use Rattle.syntax_trees.specs.declared.syntax.Operator.{Operator}
use Rattle.mesa_base.specs.declared.relation.Relation.{Relation}
use Rattle.syntax_trees.specs.declared.syntax.Sign.{Sign}
use Rattle.syntax_trees.specs.declared.syntax.TypeExp.{TypeExp}
use Rattle.syntax_trees.specs.declared.syntax.TypeExp.TheVariants as t
use Rattle.syntax_trees.specs.declared.syntax.FieldList.{FieldList}
use Rattle.syntax_trees.specs.declared.syntax.FieldList.TheVariants.{WithNames, Unnamed}
use Rattle.syntax_trees.specs.declared.syntax.Interval.{Interval}
use Rattle.syntax_trees.specs.declared.syntax.Expr.{Expr}
use Rattle.syntax_trees.specs.declared.syntax.Expr.TheVariants as ev
use Rattle.syntax_trees.specs.declared.syntax.Operation.{Operation}
use Rattle.syntax_trees.specs.declared.syntax.Left.{Left}
use Rattle.syntax_trees.specs.declared.syntax.Suffix.{Suffix}
use Rattle.syntax_trees.specs.declared.syntax.Suffix.TheVariants.{Field, Applied}
use Rattle.syntax_trees.specs.declared.syntax.Brackets.{Brackets}
use Rattle.syntax_trees.specs.declared.syntax.Raise.{Raise}
use Rattle.syntax_trees.specs.declared.syntax.Raise.TheVariants.{SignalRaise, ErrorRaise, UnnamedError}
use Rattle.syntax_trees.specs.declared.syntax.Arm.{Arm}
use Rattle.syntax_trees.specs.declared.syntax.Statement.{Statement}
use Rattle.syntax_trees.specs.declared.syntax.Statement.TheVariants as s
use Rattle.syntax_trees.specs.declared.syntax.Control.{Control}
use Rattle.syntax_trees.specs.declared.syntax.Count.{Count}
use Rattle.syntax_trees.specs.declared.syntax.Count.TheVariants.{For, Through}
use Rattle.syntax_trees.specs.declared.syntax.Condition.{Condition}
use Rattle.syntax_trees.specs.declared.syntax.Condition.TheVariants.{While, Until}
use Rattle.syntax_trees.specs.declared.syntax.Case.{Case}
use Rattle.syntax_trees.specs.declared.syntax.Test.{Test}
use Rattle.syntax_trees.specs.declared.syntax.Test.TheVariants.{Value, Compared, Inside}
use Rattle.syntax_trees.specs.declared.syntax.PlainItem.{PlainItem}
use Rattle.syntax_trees.specs.declared.syntax.PlainItem.TheVariants.{TypeIs, Variable, Initial, Constant}
use Rattle.grammar_rules.specs.WordsAndMarks.{spelled, disjoining, conjoining, adding, multiplying, signing, relating, negating, opening, closing}
use Rattle.grammar_rules.specs.Grammar as g
use Rattle.grammar_rules.specs.Grammar.{run, step, interval, left, brackets, keyed, labeled, arm, case, control, block, NoElse, IsNames, IsQName, IsLabels, IsRepeatLabels, IsBase, IsNot, IsDecreasing, IsType, IsFields, IsTypes, IsGroups, IsInterval, IsExpr, IsOrs, IsConj, IsAnds, IsNeg, IsRel, IsSum, IsSums, IsProduct, IsProducts, IsFactor, IsPrimary, IsListOption, IsLeft, IsBracketsOption, IsExprs, IsKeys, IsArmList, IsArms, IsArm, IsRaise, IsStmt, IsTargets, IsLefts, IsKeyLefts, IsOtherwise, IsCaseList, IsCases, IsCase, IsTests, IsTest, IsControl, IsCount, IsCondition, IsBody, IsStmts, IsRepeatPart, IsRepeats, IsRepeat, IsExits, IsExit, IsEnabling}
use Rattle.grammar_rules.specs.Grammar.{placed as placing}
use Rattle.token_cursor.proofs.Exact.{Free, first_none}
use Rattle.token_cursor.proofs.Branches.{passed, when_false, chosen}
use Rattle.token_cursor.proofs.Leading.{Leads, stand, onto, under, comp, last, ahead, via, placed, many_more, many_end, ended_more, ended_bare, ended_closed, Begins, when_begins}
use Rattle.grammar_rules.specs.ReadNested.{Fresh, Nested, begins_stmt, begins_arm, begins_test, begins_repeat, comma, identifier}
use Rattle.grammar_rules.specs.ReadNested as nr
use Rattle.grammar_rules.specs.ReadExpressions as ex
use Rattle.grammar_rules.specs.ReadExpressions.{suffixing}
use Rattle.grammar_rules.specs.ReadStatements as st
use Rattle.grammar_rules.specs.ReadStatements.{nested, Local, Exit, Head, begins_label, semicolon}
use Rattle.grammar_rules.proofs.Follows as fo
use Rattle.grammar_rules.proofs.Follows.{more_primary, more_product, more_sum, more_rel, more_conj, more_expr, more_stmt, more_type, more_items, more_fields, more_plain, declares, tails, free_left, free_only}
use Rattle.grammar_rules.proofs.Turns.{names_all, qname_c, labels_c, repeat_labels_c, args_goes}
use Rattle.grammar_rules.proofs.Seconds.{behind_first, Second, exprs_second, names_second}
use Rattle.grammar_rules.proofs.Goes as go
use Rattle.grammar_rules.proofs.FieldTurns as ft
use Rattle.grammar_rules.proofs.Sealed as sd
use Rattle.grammar_rules.proofs.Parts.{Products, Sums, Ands, Ors, products_eats, sums_eats, ands_eats, ors_eats, Made, run_end, Suffixes, suffixes_eats, Exprs, exprs_eats, Keys, keys_eats, Arms, arms_eats, Groups, groups_eats, semi_free, begins_free, otherwise_free, suffix_free, name_free, dot_free, stmt_primary, closers, unsigned, group_first, open_free, type_dot, fields_comma, no_else_passes, closers_comma, closers_colon, closers_none, Stmts, stmts_eats, Exits, exits_eats, Repeats, repeats_eats, Cases, cases_eats, Tests, tests_eats, Lefts, lefts_eats, KeyLefts, key_lefts_eats, tail_stmts, valued_bare, typed_goes, enabling_none, enable_goes, end_semi, end_name, ends, ends_tail, conditions, count_none, first_lefts, lefts_second, lefts_go, first_goes, step_goes, key_goes, key_step_goes, type_integer, type_cardinal, type_long_integer, type_long_cardinal, type_character, type_boolean, type_string, type_enumeration, type_array, type_record, primary_number, primary_char, primary_text, primary_true, primary_false, primary_parens, primary_list, stmt_null, stmt_begin, stmt_brace, stmt_extract, stmt_if, stmt_select, stmt_exit, stmt_next, stmt_goto, stmt_go, stmt_return, stmt_resume, stmt_reject, stmt_retry, stmt_continue, left_end, in_brackets, inside}

pub c_integer : (n : ℕ) {rest : List Token} {p : Place} (f1 : Free more_type rest) → Leads (word IntegerWord p ∷ rest) (t.Integer p) rest (None) (λ y. pure y) (ex.type_exp (nested n) None (word IntegerWord p ∷ rest))
unfolding need choose nr.named ex.enumeration ex.array ex.a_record
c_integer n f = via (type_integer (nested n) _ _) (ahead _ (via (go.base_bare (nested n) _ _ _ (open_free _ f)) (stand _ _ (λ y. pure y))))

pub c_cardinal : (n : ℕ) {rest : List Token} {p : Place} (f1 : Free more_type rest) → Leads (word CardinalWord p ∷ rest) (t.Cardinal p) rest (None) (λ y. pure y) (ex.type_exp (nested n) None (word CardinalWord p ∷ rest))
unfolding need choose nr.named ex.enumeration ex.array ex.a_record
c_cardinal n f = via (type_cardinal (nested n) _ _) (ahead _ (via (go.base_bare (nested n) _ _ _ (open_free _ f)) (stand _ _ (λ y. pure y))))

pub c_long_integer : (n : ℕ) {rest : List Token} {p q : Place} (f1 : Free more_type rest) → Leads (word LongWord p ∷ word IntegerWord q ∷ rest) (t.LongInteger p) rest (None) (λ y. pure y) (ex.type_exp (nested n) None (word LongWord p ∷ word IntegerWord q ∷ rest))
c_long_integer n f = via (type_long_integer (nested n) _ _ _) (ahead _ (ahead _ (stand _ _ (λ y. pure y))))

pub c_long_cardinal : (n : ℕ) {rest : List Token} {p q : Place} (f1 : Free more_type rest) → Leads (word LongWord p ∷ word CardinalWord q ∷ rest) (t.LongCardinal p) rest (None) (λ y. pure y) (ex.type_exp (nested n) None (word LongWord p ∷ word CardinalWord q ∷ rest))
c_long_cardinal n f = via (type_long_cardinal (nested n) _ _ _) (ahead _ (ahead _ (stand _ _ (λ y. pure y))))

pub c_boolean : (n : ℕ) {rest : List Token} {p : Place} (f1 : Free more_type rest) → Leads (word BooleanWord p ∷ rest) (t.Boolean p) rest (None) (λ y. pure y) (ex.type_exp (nested n) None (word BooleanWord p ∷ rest))
unfolding need choose nr.named ex.enumeration ex.array ex.a_record
c_boolean n f = via (type_boolean (nested n) _ _) (ahead _ (stand _ _ (λ y. pure y)))

pub c_character : (n : ℕ) {rest : List Token} {p : Place} (f1 : Free more_type rest) → Leads (word CharacterWord p ∷ rest) (t.Character p) rest (None) (λ y. pure y) (ex.type_exp (nested n) None (word CharacterWord p ∷ rest))
unfolding need choose nr.named ex.enumeration ex.array ex.a_record
c_character n f = via (type_character (nested n) _ _) (ahead _ (via (go.base_bare (nested n) _ _ _ (open_free _ f)) (stand _ _ (λ y. pure y))))

pub c_string : (n : ℕ) {rest : List Token} {p : Place} (f1 : Free more_type rest) → Leads (word StringWord p ∷ rest) (t.String p) rest (None) (λ y. pure y) (ex.type_exp (nested n) None (word StringWord p ∷ rest))
unfolding need choose nr.named ex.enumeration ex.array ex.a_record
c_string n f = via (type_string (nested n) _ _) (ahead _ (stand _ _ (λ y. pure y)))

pub c_called : (n : ℕ) {ts rest : List Token} {x : QualifiedName} (b1 : IsQName ts x rest) (f1 : Free more_type rest) → Leads ts (t.Called x) rest (None) (λ y. pure y) (ex.type_exp (nested n) None ts)
unfolding need choose nr.named ex.enumeration ex.array ex.a_record
c_called n d f = via (go.type_goes (nested n) _ (fo.qname_named d)) (comp (onto _ (qname_c d (type_dot _ f))) (via (go.base_bare (nested n) _ _ _ (open_free _ f)) (stand _ _ (λ y. pure y))))

pub c_enumeration : (n : ℕ) {ts rest : List Token} {all : List Identifier} {p q : Place} (b1 : IsNames ts all (mark RightBrace q ∷ rest)) (f1 : Free more_type rest) → Leads (mark LeftBrace p ∷ ts) (t.Enumeration p all) rest (None) (λ y. pure y) (ex.type_exp (nested n) None (mark LeftBrace p ∷ ts))
unfolding need choose nr.named ex.enumeration ex.array ex.a_record
c_enumeration n d f = via (type_enumeration (nested n) _ _) (ahead _ (comp (onto _ (names_all d refl)) (ahead _ (stand _ _ (λ y. pure y)))))

pub c_subrange : (n : ℕ) {ts us rest : List Token} {b : TypeBase} {x : Interval} (b1 : IsBase ts b us) (b2 : IsInterval us x rest) (f1 : Free more_type rest) (r1 : Leads us x rest (sd.at_interval n b2) (λ y. pure y) (ex.interval (nested n) us)) → Leads ts (t.Subrange b x) rest (first (sd.at_interval n b2) None) (λ y. pure y) (ex.type_exp (nested n) None ts)
unfolding need choose nr.named ex.enumeration ex.array ex.a_record
c_subrange n g.unsaid i f r1 = via (go.type_unsaid (nested n) _ (go.interval_opens i)) (last _ r1)
c_subrange n g.of_integer i f r1 = via (type_integer (nested n) _ _) (ahead _ (via (go.base_bounded (nested n) _ _ _ (go.interval_opens i)) (last _ r1)))
c_subrange n g.of_cardinal i f r1 = via (type_cardinal (nested n) _ _) (ahead _ (via (go.base_bounded (nested n) _ _ _ (go.interval_opens i)) (last _ r1)))
c_subrange n g.of_character i f r1 = via (type_character (nested n) _ _) (ahead _ (via (go.base_bounded (nested n) _ _ _ (go.interval_opens i)) (last _ r1)))
c_subrange n (g.of_name d) i f r1 = via (go.type_goes (nested n) _ (fo.qname_named d)) (comp (onto _ (qname_c d (go.opens_dot _ (go.interval_opens i)))) (via (go.base_bounded (nested n) _ _ _ (go.interval_opens i)) (last _ r1)))

pub c_array : (n : ℕ) {ts us rest : List Token} {x y : TypeExp} {p q : Place} (b1 : IsType ts x (word OfWord q ∷ us)) (b2 : IsType us y rest) (f1 : Free more_type rest) (r1 : Leads ts x (word OfWord q ∷ us) (sd.at_type n b1) (λ y. pure y) ((nested n).type None ts)) (r2 : Leads us y rest (sd.at_type n b2) (λ y. pure y) ((nested n).type None us)) → Leads (word ArrayWord p ∷ ts) (t.Array p x y) rest (first (sd.at_type n b1) (first (sd.at_type n b2) None)) (λ y. pure y) (ex.type_exp (nested n) None (word ArrayWord p ∷ ts))
unfolding need choose nr.named ex.enumeration ex.array ex.a_record
c_array n d h f r1 r2 = via (type_array (nested n) _ _) (ahead _ (comp (onto _ r1) (ahead _ (last _ r2))))

pub c_a_record : (n : ℕ) {ts rest : List Token} {x : FieldList} {p q r : Place} (b1 : IsFields ts x (mark RightBracket r ∷ rest)) (f1 : Free more_type rest) (r1 : Leads ts x (mark RightBracket r ∷ rest) (sd.at_fields n b1) (λ y. pure y) (ex.field_list (nested n) ts)) → Leads (word RecordWord p ∷ mark LeftBracket q ∷ ts) (t.Record p x) rest (first (sd.at_fields n b1) None) (λ y. pure y) (ex.type_exp (nested n) None (word RecordWord p ∷ mark LeftBracket q ∷ ts))
unfolding need choose nr.named ex.enumeration ex.array ex.a_record
c_a_record n d f r1 = via (type_record (nested n) _ _) (ahead _ (ahead _ (comp (onto _ r1) (ahead _ (stand _ _ (λ y. pure y))))))

pub c_with_names : (m : ℕ) {ts rest : List Token} {all : List (Labeled (List Identifier) TypeExp)} (b1 : IsGroups ts all rest) (f1 : Free more_fields rest) (r1 : Leads ts all rest (sd.at_groups (suc m) b1) (Groups (suc m)) (ex.field_list (nested (suc m)) ts)) → Leads ts (WithNames all) rest (first (sd.at_groups (suc m) b1) None) (λ y. pure y) (ex.field_list (nested (suc m)) ts)
unfolding need choose nr.named ex.field_list
c_with_names m d f r1 = comp r1 (via (ap (λ out. and_then out (λ all. pure (WithNames all))) (many_end comma (ex.groups_step (nested (suc m))) (groups_eats (suc m)) _ _ (fields_comma _ f))) (stand _ _ (λ y. pure y)))

pub c_unnamed : (m : ℕ) {ts rest : List Token} {all : List TypeExp} (b1 : IsTypes ts all rest) (f1 : Free more_fields rest) (r1 : ft.Still m ts all rest (sd.at_types (suc m) b1) ⊎ ft.Past m ts all rest (sd.at_types (suc m) b1)) → Leads ts (Unnamed all) rest (first (sd.at_types (suc m) b1) None) (λ y. pure y) (ex.field_list (nested (suc m)) ts)
unfolding need choose nr.named ex.field_list
c_unnamed m d f r1 = placed (sym (first_none _)) (ft.types_done m _ _ _ _ f r1)

pub c_group : (m : ℕ) {ts us rest : List Token} {ns : List Identifier} {x : TypeExp} {p : Place} (b1 : IsNames ts ns (mark Colon p ∷ us)) (b2 : IsType us x rest) (f1 : Free more_type rest) (r1 : Leads us x rest (sd.at_type (suc m) b2) (λ y. pure y) ((nested (suc m)).type None us)) → Leads ts (labeled ns x ∷ []) rest (first (sd.at_type (suc m) b2) None) (Groups (suc m)) (ex.field_list (nested (suc m)) ts)
unfolding need choose nr.named ex.field_list
c_group m d h f r1 = group_first m _ _ _ _ _ _ _ d r1

pub c_groups : (m : ℕ) {ts us vs rest : List Token} {all : List (Labeled (List Identifier) TypeExp)} {ns : List Identifier} {x : TypeExp} {p q : Place} (b1 : IsGroups ts all (mark Comma p ∷ us)) (b2 : IsNames us ns (mark Colon q ∷ vs)) (b3 : IsType vs x rest) (f1 : Free more_type rest) (r1 : Leads ts all (mark Comma p ∷ us) (sd.at_groups (suc m) b1) (Groups (suc m)) (ex.field_list (nested (suc m)) ts)) (r2 : Leads vs x rest (sd.at_type (suc m) b3) (λ y. pure y) ((nested (suc m)).type None vs)) → Leads ts (all ++ labeled ns x ∷ []) rest (first (sd.at_groups (suc m) b1) (first (sd.at_type (suc m) b3) None)) (Groups (suc m)) (ex.field_list (nested (suc m)) ts)
unfolding need choose nr.named ex.field_list
c_groups m {p = p} d h i f r1 r2 = comp r1 (under _ (many_more comma (ex.groups_step (nested (suc m))) (groups_eats (suc m)) tt (mark Comma p) refl (comp (onto _ (names_all h refl)) (ahead _ (last _ r2)))))

pub c_bounds : (n : ℕ) {ts us rest : List Token} {kind kind' : Kind} {a b : Bool} {x y : Expr} {p q r : Place} (b1 : opening kind ≡ Some a) (b2 : IsExpr ts x (mark DotDot q ∷ us)) (b3 : IsExpr us y (token kind' r ∷ rest)) (b4 : closing kind' ≡ Some b) (r1 : Leads ts x (mark DotDot q ∷ us) (sd.at_expr n b2) (λ y. pure y) ((nested n).expr Fresh ts)) (r2 : Leads us y (token kind' r ∷ rest) (sd.at_expr n b3) (λ y. pure y) ((nested n).expr Fresh us)) → Leads (token kind p ∷ ts) (interval p a x y b) rest (first (sd.at_expr n b2) (first (sd.at_expr n b3) None)) (λ y. pure y) (ex.interval (nested n) (token kind p ∷ ts))
unfolding need choose nr.named ex.interval ex.bounds
c_bounds n {kind = kind} {a = a} {x = x} {y = y} {p = p} e d f h r1 r2 = via (chosen opening (ex.bounds (nested n)) refuse a (token kind p) _ e) (ahead _ (comp (onto _ r1) (ahead _ (comp (onto _ r2) (via (ap (λ out. and_then out (λ b. pure (interval p a x y b))) (go.closed_goes _ _ _ _ h)) (ahead _ (stand _ _ (λ y. pure y))))))))

pub c_expr : (n : ℕ) {ts rest : List Token} {x : Expr} {ss : List Operation} (b1 : IsOrs ts x ss rest) (f1 : Free more_expr rest) (r1 : Leads ts ss rest (sd.at_ors n b1) (Made (Ors n) x) (ex.expr (nested n) Fresh ts)) → Leads ts (run x ss) rest (first (sd.at_ors n b1) None) (λ y. pure y) (ex.expr (nested n) Fresh ts)
unfolding need choose nr.named ex.expr
c_expr n d f r1 = comp r1 (via (run_end disjoining (ex.ors_step (nested n)) (ors_eats n) _ _ _ (free_left (finds disjoining) more_conj _ f)) (stand _ _ (λ y. pure y)))

pub c_disjunct : (n : ℕ) {ts rest : List Token} {x : Expr} (b1 : IsConj ts x rest) (f1 : Free more_conj rest) (r1 : Leads ts x rest (sd.at_conj n b1) (λ y. pure y) (ex.conj (nested n) Fresh ts)) → Leads ts ([]) rest (first (sd.at_conj n b1) None) (Made (Ors n) x) (ex.expr (nested n) Fresh ts)
unfolding need choose nr.named ex.expr
c_disjunct n {x = x} d f r1 = comp (onto (λ y. Made (Ors n) y []) r1) (stand _ [] (Made (Ors n) x))

pub c_ors : (n : ℕ) {ts us rest : List Token} {x y : Expr} {ss : List Operation} {kind : Kind} {o : Operator} {p : Place} (b1 : IsOrs ts x ss (token kind p ∷ us)) (b2 : disjoining kind ≡ Some o) (b3 : IsConj us y rest) (f1 : Free more_conj rest) (r1 : Leads ts ss (token kind p ∷ us) (sd.at_ors n b1) (Made (Ors n) x) (ex.expr (nested n) Fresh ts)) (r2 : Leads us y rest (sd.at_conj n b3) (λ y. pure y) (ex.conj (nested n) Fresh us)) → Leads ts (ss ++ step o p y ∷ []) rest (first (sd.at_ors n b1) (first (sd.at_conj n b3) None)) (Made (Ors n) x) (ex.expr (nested n) Fresh ts)
unfolding need choose nr.named ex.expr
c_ors n {kind = kind} {o = o} {p = p} d e h f r1 r2 = comp r1 (under _ (many_more disjoining (ex.ors_step (nested n)) (ors_eats n) o (token kind p) e (last _ r2)))

pub c_conj : (n : ℕ) {ts rest : List Token} {x : Expr} {ss : List Operation} (b1 : IsAnds ts x ss rest) (f1 : Free more_conj rest) (r1 : Leads ts ss rest (sd.at_ands n b1) (Made (Ands n) x) (ex.conj (nested n) Fresh ts)) → Leads ts (run x ss) rest (first (sd.at_ands n b1) None) (λ y. pure y) (ex.conj (nested n) Fresh ts)
unfolding need choose nr.named ex.conj
c_conj n d f r1 = comp r1 (via (run_end conjoining (ex.ands_step (nested n)) (ands_eats n) _ _ _ (free_left (finds conjoining) more_rel _ f)) (stand _ _ (λ y. pure y)))

pub c_conjunct : (n : ℕ) {ts rest : List Token} {x : Expr} (b1 : IsNeg ts x rest) (f1 : Free more_rel rest) (r1 : Leads ts x rest (sd.at_neg n b1) (λ y. pure y) (ex.neg (nested n) Fresh ts)) → Leads ts ([]) rest (first (sd.at_neg n b1) None) (Made (Ands n) x) (ex.conj (nested n) Fresh ts)
unfolding need choose nr.named ex.conj
c_conjunct n {x = x} d f r1 = comp (onto (λ y. Made (Ands n) y []) r1) (stand _ [] (Made (Ands n) x))

pub c_ands : (n : ℕ) {ts us rest : List Token} {x y : Expr} {ss : List Operation} {kind : Kind} {o : Operator} {p : Place} (b1 : IsAnds ts x ss (token kind p ∷ us)) (b2 : conjoining kind ≡ Some o) (b3 : IsNeg us y rest) (f1 : Free more_rel rest) (r1 : Leads ts ss (token kind p ∷ us) (sd.at_ands n b1) (Made (Ands n) x) (ex.conj (nested n) Fresh ts)) (r2 : Leads us y rest (sd.at_neg n b3) (λ y. pure y) (ex.neg (nested n) Fresh us)) → Leads ts (ss ++ step o p y ∷ []) rest (first (sd.at_ands n b1) (first (sd.at_neg n b3) None)) (Made (Ands n) x) (ex.conj (nested n) Fresh ts)
unfolding need choose nr.named ex.conj
c_ands n {kind = kind} {o = o} {p = p} d e h f r1 r2 = comp r1 (under _ (many_more conjoining (ex.ands_step (nested n)) (ands_eats n) o (token kind p) e (last _ r2)))

pub c_rel : (n : ℕ) {ts rest : List Token} {x : Expr} (b1 : IsRel ts x rest) (f1 : Free more_rel rest) (r1 : Leads ts x rest (sd.at_rel n b1) (λ y. pure y) (ex.rel (nested n) None ts)) → Leads ts x rest (first (sd.at_rel n b1) None) (λ y. pure y) (ex.neg (nested n) Fresh ts)
unfolding need choose nr.named ex.neg ex.negation
c_rel n d f r1 = placed (sym (first_none _)) (via (passed negating (λ _ p. ex.negation (nested n) p) (ex.rel (nested n) None) _ (let b = fo.rel_starts d in subst (Free (finds negating)) (sym b.is) b.positive)) r1)

pub c_not : (n : ℕ) {ts rest : List Token} {x : Expr} {kind : Kind} {p : Place} (b1 : negating kind ≡ Some tt) (b2 : IsRel ts x rest) (f1 : Free more_rel rest) (r1 : Leads ts x rest (sd.at_rel n b2) (λ y. pure y) (ex.rel (nested n) None ts)) → Leads (token kind p ∷ ts) (ev.Not p x) rest (first (sd.at_rel n b2) None) (λ y. pure y) (ex.neg (nested n) Fresh (token kind p ∷ ts))
unfolding need choose nr.named ex.neg ex.negation
c_not n {kind = kind} {p = p} e d f r1 = via (chosen negating (λ _ p. ex.negation (nested n) p) (ex.rel (nested n) None) tt (token kind p) _ e) (ahead _ (last _ r1))

pub c_alone : (n : ℕ) {ts rest : List Token} {x : Expr} (b1 : IsSum ts x rest) (f1 : Free more_rel rest) (r1 : Leads ts x rest (sd.at_sum n b1) (λ y. pure y) (ex.sum (nested n) None ts)) → Leads ts x rest (first (sd.at_sum n b1) None) (λ y. pure y) (ex.rel (nested n) None ts)
unfolding need choose nr.named ex.rel ex.relation
c_alone n d f r1 = comp (onto _ r1) (via (go.related_bare (nested n) _ _ f) (stand _ _ (λ y. pure y)))

pub c_compare : (n : ℕ) {ts us vs rest : List Token} {x y : Expr} {b : Bool} {kind : Kind} {r : Relation} {p : Place} (b1 : IsSum ts x us) (b2 : IsNot us b (token kind p ∷ vs)) (b3 : relating kind ≡ Some r) (b4 : IsSum vs y rest) (f1 : Free more_rel rest) (r1 : Leads ts x us (sd.at_sum n b1) (λ y. pure y) (ex.sum (nested n) None ts)) (r2 : Leads vs y rest (sd.at_sum n b4) (λ y. pure y) (ex.sum (nested n) None vs)) → Leads ts (ev.Compare x b r p y) rest (first (sd.at_sum n b1) (first (sd.at_sum n b4) None)) (λ y. pure y) (ex.rel (nested n) None ts)
unfolding need choose nr.named ex.rel ex.relation
c_compare n {kind = kind} {r = r} {p = p} d g.affirmed e h f r1 r2 = comp (onto _ (r1)) (via (go.related_compare (nested n) _ kind r p _ e) (ahead _ (last _ r2)))
c_compare n {kind = kind} {r = r} {p = p} d (g.negated {kind = k2} {p = p2} i) e h f r1 r2 = comp (onto _ (r1)) (via (go.related_not_compare (nested n) _ k2 p2 kind r p _ i e) (ahead _ (ahead _ (last _ r2))))

pub c_within : (n : ℕ) {ts us vs rest : List Token} {x : Expr} {b : Bool} {i : Interval} {p : Place} (b1 : IsSum ts x us) (b2 : IsNot us b (word InWord p ∷ vs)) (b3 : IsInterval vs i rest) (f1 : Free more_rel rest) (r1 : Leads ts x us (sd.at_sum n b1) (λ y. pure y) (ex.sum (nested n) None ts)) (r2 : Leads vs i rest (sd.at_interval n b3) (λ y. pure y) (ex.interval (nested n) vs)) → Leads ts (ev.Within x b p i) rest (first (sd.at_sum n b1) (first (sd.at_interval n b3) None)) (λ y. pure y) (ex.rel (nested n) None ts)
unfolding need choose nr.named ex.rel ex.relation
c_within n {p = p} d g.affirmed h f r1 r2 = comp (onto _ r1) (via (go.related_within (nested n) _ p _) (ahead _ (last _ r2)))
c_within n {p = p} d (g.negated {kind = k2} {p = p2} i) h f r1 r2 = comp (onto _ (r1)) (via (go.related_not (nested n) _ k2 p2 _ i) (ahead _ (ahead _ (last _ r2))))

pub c_sum : (n : ℕ) {ts rest : List Token} {x : Expr} {ss : List Operation} (b1 : IsSums ts x ss rest) (f1 : Free more_sum rest) (r1 : Leads ts ss rest (sd.at_sums n b1) (Made (Sums n) x) (ex.sum (nested n) None ts)) → Leads ts (run x ss) rest (first (sd.at_sums n b1) None) (λ y. pure y) (ex.sum (nested n) None ts)
unfolding need choose nr.named ex.sum
c_sum n d f r1 = comp r1 (via (run_end adding (ex.sums_step (nested n)) (sums_eats n) _ _ _ (free_left (finds adding) more_product _ f)) (stand _ _ (λ y. pure y)))

pub c_summand : (n : ℕ) {ts rest : List Token} {x : Expr} (b1 : IsProduct ts x rest) (f1 : Free more_product rest) (r1 : Leads ts x rest (sd.at_product n b1) (λ y. pure y) (ex.product (nested n) None ts)) → Leads ts ([]) rest (first (sd.at_product n b1) None) (Made (Sums n) x) (ex.sum (nested n) None ts)
unfolding need choose nr.named ex.sum
c_summand n {x = x} d f r1 = comp (onto (λ y. Made (Sums n) y []) r1) (stand _ [] (Made (Sums n) x))

pub c_sums : (n : ℕ) {ts us rest : List Token} {x y : Expr} {ss : List Operation} {kind : Kind} {o : Operator} {p : Place} (b1 : IsSums ts x ss (token kind p ∷ us)) (b2 : adding kind ≡ Some o) (b3 : IsProduct us y rest) (f1 : Free more_product rest) (r1 : Leads ts ss (token kind p ∷ us) (sd.at_sums n b1) (Made (Sums n) x) (ex.sum (nested n) None ts)) (r2 : Leads us y rest (sd.at_product n b3) (λ y. pure y) (ex.product (nested n) None us)) → Leads ts (ss ++ step o p y ∷ []) rest (first (sd.at_sums n b1) (first (sd.at_product n b3) None)) (Made (Sums n) x) (ex.sum (nested n) None ts)
unfolding need choose nr.named ex.sum
c_sums n {kind = kind} {o = o} {p = p} d e h f r1 r2 = comp r1 (under _ (many_more adding (ex.sums_step (nested n)) (sums_eats n) o (token kind p) e (last _ r2)))

pub c_product : (n : ℕ) {ts rest : List Token} {x : Expr} {ss : List Operation} (b1 : IsProducts ts x ss rest) (f1 : Free more_product rest) (r1 : Leads ts ss rest (sd.at_products n b1) (Made (Products n) x) (ex.product (nested n) None ts)) → Leads ts (run x ss) rest (first (sd.at_products n b1) None) (λ y. pure y) (ex.product (nested n) None ts)
unfolding need choose nr.named ex.product
c_product n d f r1 = comp r1 (via (run_end multiplying (ex.products_step (nested n)) (products_eats n) _ _ _ (free_left (finds multiplying) more_primary _ f)) (stand _ _ (λ y. pure y)))

pub c_factor : (n : ℕ) {ts rest : List Token} {x : Expr} (b1 : IsFactor ts x rest) (f1 : Free more_primary rest) (r1 : Leads ts x rest (sd.at_factor n b1) (λ y. pure y) (ex.factor (nested n) None ts)) → Leads ts ([]) rest (first (sd.at_factor n b1) None) (Made (Products n) x) (ex.product (nested n) None ts)
unfolding need choose nr.named ex.product
c_factor n {x = x} d f r1 = comp (onto (λ y. Made (Products n) y []) r1) (stand _ [] (Made (Products n) x))

pub c_products : (n : ℕ) {ts us rest : List Token} {x y : Expr} {ss : List Operation} {kind : Kind} {o : Operator} {p : Place} (b1 : IsProducts ts x ss (token kind p ∷ us)) (b2 : multiplying kind ≡ Some o) (b3 : IsFactor us y rest) (f1 : Free more_primary rest) (r1 : Leads ts ss (token kind p ∷ us) (sd.at_products n b1) (Made (Products n) x) (ex.product (nested n) None ts)) (r2 : Leads us y rest (sd.at_factor n b3) (λ y. pure y) (ex.factor (nested n) None us)) → Leads ts (ss ++ step o p y ∷ []) rest (first (sd.at_products n b1) (first (sd.at_factor n b3) None)) (Made (Products n) x) (ex.product (nested n) None ts)
unfolding need choose nr.named ex.product
c_products n {kind = kind} {o = o} {p = p} d e h f r1 r2 = comp r1 (under _ (many_more multiplying (ex.products_step (nested n)) (products_eats n) o (token kind p) e (last _ r2)))

pub c_primary : (n : ℕ) {ts rest : List Token} {x : Expr} (b1 : IsPrimary ts x rest) (f1 : Free more_primary rest) (r1 : Leads ts x rest (sd.at_primary n b1) (λ y. pure y) (ex.primary (nested n) None ts)) → Leads ts x rest (first (sd.at_primary n b1) None) (λ y. pure y) (ex.factor (nested n) None ts)
unfolding need choose nr.named ex.factor
c_primary n d f r1 = placed (sym (first_none _)) (via (passed signing (λ s p. ex.primary (nested n) None >>= (λ x. pure (ev.Signed s p x))) (ex.primary (nested n) None) _ (unsigned d)) r1)

pub c_signed : (n : ℕ) {ts rest : List Token} {x : Expr} {kind : Kind} {s : Sign} {p : Place} (b1 : signing kind ≡ Some s) (b2 : IsPrimary ts x rest) (f1 : Free more_primary rest) (r1 : Leads ts x rest (sd.at_primary n b2) (λ y. pure y) (ex.primary (nested n) None ts)) → Leads (token kind p ∷ ts) (ev.Signed s p x) rest (first (sd.at_primary n b2) None) (λ y. pure y) (ex.factor (nested n) None (token kind p ∷ ts))
unfolding need choose nr.named ex.factor
c_signed n {kind = kind} {s = s} {p = p} e d f r1 = via (chosen signing (λ s p. ex.primary (nested n) None >>= (λ x. pure (ev.Signed s p x))) (ex.primary (nested n) None) s (token kind p) _ e) (ahead _ (last _ r1))

pub c_number : (n : ℕ) {rest : List Token} {n0 : ℕ} {p : Place} (f1 : Free more_primary rest) → Leads (token (k.Number n0) p ∷ rest) (ev.NumberLiteral p n0) rest (None) (λ y. pure y) (ex.primary (nested n) None (token (k.Number n0) p ∷ rest))
unfolding need choose nr.named ex.parens ex.list ex.reference
c_number n f = via (primary_number (nested n) _ _ _) (ahead _ (stand _ _ (λ y. pure y)))

pub c_char : (n : ℕ) {rest : List Token} {n0 : ℕ} {p : Place} (f1 : Free more_primary rest) → Leads (token (k.Char n0) p ∷ rest) (ev.CharacterLiteral p n0) rest (None) (λ y. pure y) (ex.primary (nested n) None (token (k.Char n0) p ∷ rest))
unfolding need choose nr.named ex.parens ex.list ex.reference
c_char n f = via (primary_char (nested n) _ _ _) (ahead _ (stand _ _ (λ y. pure y)))

pub c_text : (n : ℕ) {rest : List Token} {bytes : List ℕ} {p : Place} (f1 : Free more_primary rest) → Leads (token (k.Text bytes) p ∷ rest) (ev.StringLiteral p bytes) rest (None) (λ y. pure y) (ex.primary (nested n) None (token (k.Text bytes) p ∷ rest))
unfolding need choose nr.named ex.parens ex.list ex.reference
c_text n f = via (primary_text (nested n) _ _ _) (ahead _ (stand _ _ (λ y. pure y)))

pub c_true_word : (n : ℕ) {rest : List Token} {p : Place} (f1 : Free more_primary rest) → Leads (word TrueWord p ∷ rest) (ev.Truth p true) rest (None) (λ y. pure y) (ex.primary (nested n) None (word TrueWord p ∷ rest))
unfolding need choose nr.named ex.parens ex.list ex.reference
c_true_word n f = via (primary_true (nested n) _ _) (ahead _ (stand _ _ (λ y. pure y)))

pub c_false_word : (n : ℕ) {rest : List Token} {p : Place} (f1 : Free more_primary rest) → Leads (word FalseWord p ∷ rest) (ev.Truth p false) rest (None) (λ y. pure y) (ex.primary (nested n) None (word FalseWord p ∷ rest))
unfolding need choose nr.named ex.parens ex.list ex.reference
c_false_word n f = via (primary_false (nested n) _ _) (ahead _ (stand _ _ (λ y. pure y)))

pub c_parens : (n : ℕ) {ts rest : List Token} {x : Expr} {p q : Place} (b1 : IsExpr ts x (mark RightParenthesis q ∷ rest)) (f1 : Free more_primary rest) (r1 : Leads ts x (mark RightParenthesis q ∷ rest) (sd.at_expr n b1) (λ y. pure y) ((nested n).expr Fresh ts)) → Leads (mark LeftParenthesis p ∷ ts) (ev.Parenthesis p x) rest (first (sd.at_expr n b1) None) (λ y. pure y) (ex.primary (nested n) None (mark LeftParenthesis p ∷ ts))
unfolding need choose nr.named ex.parens ex.list ex.reference
c_parens n d f r1 = via (primary_parens (nested n) _ _) (ahead _ (comp (onto _ r1) (ahead _ (stand _ _ (λ y. pure y)))))

pub c_reference : (n : ℕ) {ts rest : List Token} {i : Identifier} {ss : List Suffix} (b1 : IsLeft ts i ss rest) (f1 : Free more_primary rest) (r1 : Leads ts ss rest (sd.at_left n b1) (Suffixes n) (ex.suffixes (nested n) (behind_first ts))) → Leads ts (ev.Reference (left i ss)) rest (first (sd.at_left n b1) None) (λ y. pure y) (ex.primary (nested n) None ts)
unfolding need choose nr.named ex.parens ex.list ex.reference
c_reference n d f r1 = via (go.primary_goes (nested n) _ _ _ (go.left_head d)) (last _ (left_end n _ r1 (suffix_free _ f)))

pub c_raised : (n : ℕ) {ts rest : List Token} {x : Raise} (b1 : IsRaise ts x rest) (f1 : Free more_primary rest) (r1 : Leads ts x rest (sd.at_raise n b1) (λ y. pure y) (ex.raise (nested n) ts)) → Leads ts (ev.Raised x) rest (first (sd.at_raise n b1) None) (λ y. pure y) (ex.primary (nested n) None ts)
unfolding need choose nr.named ex.parens ex.list ex.reference
c_raised n d f r1 = via (go.primary_raise (nested n) _ (fo.raise_begins d)) (last _ r1)

pub c_named : (n : ℕ) {rest : List Token} {i : Identifier} → Leads (spelled i ∷ rest) ([]) rest (None) (Suffixes n) (ex.suffixes (nested n) (behind_first (spelled i ∷ rest)))
unfolding need choose nr.named ex.suffixes ex.suffixes_step
c_named n = ahead _ (stand _ [] (Suffixes n))

pub c_field : (n : ℕ) {ts rest : List Token} {i j : Identifier} {ss : List Suffix} {p : Place} (b1 : IsLeft ts i ss (mark Dot p ∷ spelled j ∷ rest)) (r1 : Leads ts ss (mark Dot p ∷ spelled j ∷ rest) (sd.at_left n b1) (Suffixes n) (ex.suffixes (nested n) (behind_first ts))) → Leads ts (ss ++ Field j ∷ []) rest (first (sd.at_left n b1) None) (Suffixes n) (ex.suffixes (nested n) (behind_first ts))
unfolding need choose nr.named ex.suffixes ex.suffixes_step
c_field n {p = p} d r1 = comp r1 (many_more suffixing (ex.suffixes_step (nested n)) (suffixes_eats n) false (mark Dot p) refl (ahead _ (stand _ _ (λ y. pure y))))

pub c_no_args : (n : ℕ) {rest : List Token} (f1 : Begins (among closers) rest) → Leads rest Nothing rest (None) (λ y. pure y) (ex.args (nested n) rest)
unfolding need choose nr.named ex.in_order ex.by_key
c_no_args n b = via (closers_none n _ b) (stand _ _ (λ y. pure y))

pub c_in_order : (n : ℕ) {ts rest : List Token} {all : List Expr} (b1 : IsExprs ts all rest) (f1 : Begins (among closers) rest) (r1 : Leads ts all rest (sd.at_exprs n b1) (Exprs n) (ex.in_order (nested n) Fresh ts)) → Leads ts (InOrder all) rest (first (sd.at_exprs n b1) None) (λ y. pure y) (ex.args (nested n) ts)
unfolding need choose nr.named ex.in_order ex.by_key
c_in_order n d b r1 = via (args_goes n _ (fo.exprs_begin d) (exprs_second d (closers_colon _ b))) (comp r1 (via (ap (λ out. and_then out (λ all. pure (InOrder all))) (many_end comma (ex.exprs_step (nested n)) (exprs_eats n) _ _ (closers_comma _ b))) (stand _ _ (λ y. pure y))))

pub c_by_key : (n : ℕ) {ts rest : List Token} {all : List (Keyed Expr)} (b1 : IsKeys ts all rest) (f1 : Begins (among closers) rest) (r1 : Leads ts all rest (sd.at_keys n b1) (Keys n) (ex.args (nested n) ts)) → Leads ts (ByKey all) rest (first (sd.at_keys n b1) None) (λ y. pure y) (ex.args (nested n) ts)
unfolding need choose nr.named ex.in_order ex.by_key
c_by_key n d b r1 = comp r1 (via (ap (λ out. and_then out (λ all. pure (ByKey all))) (many_end comma (ex.keys_step (nested n)) (keys_eats n) _ _ (closers_comma _ b))) (stand _ _ (λ y. pure y)))

pub c_an_expr : (n : ℕ) {ts rest : List Token} {x : Expr} (b1 : IsExpr ts x rest) (f1 : Free more_expr rest) (r1 : Leads ts x rest (sd.at_expr n b1) (λ y. pure y) ((nested n).expr Fresh ts)) → Leads ts (x ∷ []) rest (first (sd.at_expr n b1) None) (Exprs n) (ex.in_order (nested n) Fresh ts)
unfolding need choose nr.named ex.in_order
c_an_expr n d f r1 = comp (onto (λ y. Exprs n (y ∷ [])) r1) (stand _ _ (Exprs n))

pub c_exprs : (n : ℕ) {ts us rest : List Token} {all : List Expr} {x : Expr} {p : Place} (b1 : IsExprs ts all (mark Comma p ∷ us)) (b2 : IsExpr us x rest) (f1 : Free more_expr rest) (r1 : Leads ts all (mark Comma p ∷ us) (sd.at_exprs n b1) (Exprs n) (ex.in_order (nested n) Fresh ts)) (r2 : Leads us x rest (sd.at_expr n b2) (λ y. pure y) ((nested n).expr Fresh us)) → Leads ts (all ++ x ∷ []) rest (first (sd.at_exprs n b1) (first (sd.at_expr n b2) None)) (Exprs n) (ex.in_order (nested n) Fresh ts)
unfolding need choose nr.named ex.in_order
c_exprs n {p = p} d h f r1 r2 = comp r1 (under _ (many_more comma (ex.exprs_step (nested n)) (exprs_eats n) tt (mark Comma p) refl (last _ r2)))

pub c_key : (n : ℕ) {ts rest : List Token} {i : Identifier} {x : Expr} {p : Place} (b1 : IsExpr ts x rest) (f1 : Free more_expr rest) (r1 : Leads ts x rest (sd.at_expr n b1) (λ y. pure y) ((nested n).expr Fresh ts)) → Leads (spelled i ∷ mark Colon p ∷ ts) (keyed i x ∷ []) rest (first (sd.at_expr n b1) None) (Keys n) (ex.args (nested n) (spelled i ∷ mark Colon p ∷ ts))
unfolding need choose nr.named ex.in_order ex.by_key
c_key n {i = i} {p = p} d f r1 = go.key_args n i p _ _ _ _ (Keys n) (comp (onto (λ y. Keys n (keyed i y ∷ [])) r1) (stand _ _ (Keys n)))

pub c_keys : (n : ℕ) {ts us rest : List Token} {all : List (Keyed Expr)} {i : Identifier} {x : Expr} {p q : Place} (b1 : IsKeys ts all (mark Comma p ∷ spelled i ∷ mark Colon q ∷ us)) (b2 : IsExpr us x rest) (f1 : Free more_expr rest) (r1 : Leads ts all (mark Comma p ∷ spelled i ∷ mark Colon q ∷ us) (sd.at_keys n b1) (Keys n) (ex.args (nested n) ts)) (r2 : Leads us x rest (sd.at_expr n b2) (λ y. pure y) ((nested n).expr Fresh us)) → Leads ts (all ++ keyed i x ∷ []) rest (first (sd.at_keys n b1) (first (sd.at_expr n b2) None)) (Keys n) (ex.args (nested n) ts)
unfolding need choose nr.named ex.in_order ex.by_key
c_keys n {p = p} d h f r1 r2 = comp r1 (under _ (many_more comma (ex.keys_step (nested n)) (keys_eats n) tt (mark Comma p) refl (ahead _ (ahead _ (last _ r2)))))

pub c_no_catch : (n : ℕ) {rest0 : List Token} {p0 : Place} (f1 : Free (more_items begins_arm) (mark RightBracket p0 ∷ rest0)) → Leads (mark RightBracket p0 ∷ rest0) None (mark RightBracket p0 ∷ rest0) (None) (λ y. pure y) (ex.catch (nested n) (mark RightBracket p0 ∷ rest0))
unfolding need choose nr.named ex.catch
c_no_catch n f = stand _ _ (λ y. pure y)

pub c_catch : (n : ℕ) {ts rest0 : List Token} {all : List Arm} {p : Place} {p0 : Place} (b1 : IsArmList ts all (mark RightBracket p0 ∷ rest0)) (f1 : Free (more_items begins_arm) (mark RightBracket p0 ∷ rest0)) (r1 : Leads ts all (mark RightBracket p0 ∷ rest0) (sd.at_arm_list n b1) (λ y. pure y) (ex.arm_list (nested n) ts)) → Leads (mark Bang p ∷ ts) (Some (placing p all)) (mark RightBracket p0 ∷ rest0) (first (sd.at_arm_list n b1) None) (λ y. pure y) (ex.catch (nested n) (mark Bang p ∷ ts))
unfolding need choose nr.named ex.catch
c_catch n d f r1 = ahead _ (last _ r1)

pub c_open_arms : (n : ℕ) {ts rest : List Token} {all : List Arm} (b1 : IsArms ts all rest) (f1 : Free (more_items begins_arm) rest) (r1 : Leads ts all rest (sd.at_arms n b1) (Arms n) (ex.arm_list (nested n) ts)) → Leads ts all rest (first (sd.at_arms n b1) None) (λ y. pure y) (ex.arm_list (nested n) ts)
unfolding need choose nr.named ex.arm_list
c_open_arms n d f r1 = comp r1 (via (ended_bare semicolon begins_arm (ex.arms_step (nested n)) (arms_eats n) _ _ (semi_free begins_arm _ f)) (stand _ _ (λ y. pure y)))

pub c_closed_arms : (n : ℕ) {ts rest : List Token} {all : List Arm} {p : Place} (b1 : IsArms ts all (mark Semicolon p ∷ rest)) (f1 : Free (more_items begins_arm) rest) (r1 : Leads ts all (mark Semicolon p ∷ rest) (sd.at_arms n b1) (Arms n) (ex.arm_list (nested n) ts)) → Leads ts all rest (first (sd.at_arms n b1) None) (λ y. pure y) (ex.arm_list (nested n) ts)
unfolding need choose nr.named ex.arm_list
c_closed_arms n d f r1 = comp r1 (via (ended_closed semicolon begins_arm (ex.arms_step (nested n)) (arms_eats n) _ _ _ refl (begins_free begins_arm _ f)) (ahead _ (stand _ _ (λ y. pure y))))

pub c_an_arm : (n : ℕ) {ts rest : List Token} {x : Arm} (b1 : IsArm ts x rest) (f1 : Free more_stmt rest) (r1 : Leads ts x rest (sd.at_arm n b1) (λ y. pure y) (ex.arm (nested n) ts)) → Leads ts (x ∷ []) rest (first (sd.at_arm n b1) None) (Arms n) (ex.arm_list (nested n) ts)
unfolding need choose nr.named ex.arm_list
c_an_arm n d f r1 = comp (onto (λ y. Arms n (y ∷ [])) r1) (stand _ _ (Arms n))

pub c_arms : (n : ℕ) {ts us rest : List Token} {all : List Arm} {x : Arm} {p : Place} (b1 : IsArms ts all (mark Semicolon p ∷ us)) (b2 : IsArm us x rest) (f1 : Free more_stmt rest) (r1 : Leads ts all (mark Semicolon p ∷ us) (sd.at_arms n b1) (Arms n) (ex.arm_list (nested n) ts)) (r2 : Leads us x rest (sd.at_arm n b2) (λ y. pure y) (ex.arm (nested n) us)) → Leads ts (all ++ x ∷ []) rest (first (sd.at_arms n b1) (first (sd.at_arm n b2) None)) (Arms n) (ex.arm_list (nested n) ts)
unfolding need choose nr.named ex.arm_list
c_arms n {p = p} d h f r1 r2 = comp r1 (ended_more semicolon begins_arm (ex.arms_step (nested n)) (arms_eats n) p refl (fo.arm_begins h) (last _ r2))

pub c_an_arm_of : (n : ℕ) {ts us rest : List Token} {l : Labels} {x : Statement} {p : Place} (b1 : IsLabels ts l (mark DoubleArrow p ∷ us)) (b2 : IsStmt us x rest) (f1 : Free more_stmt rest) (r1 : Leads us x rest (sd.at_stmt n b2) (λ y. pure y) ((nested n).stmt None us)) → Leads ts (arm l x) rest (first (sd.at_stmt n b2) None) (λ y. pure y) (ex.arm (nested n) ts)
unfolding need choose nr.named ex.arm
c_an_arm_of n d h f r1 = comp (onto _ (labels_c d refl refl)) (ahead _ (last _ r1))

pub c_signal : (n : ℕ) {ts us rest : List Token} {x : QualifiedName} {b : Option Brackets} {p : Place} (b1 : IsQName ts x us) (b2 : IsBracketsOption us b rest) (f1 : Free more_primary rest) (r1 : Leads us b rest (sd.at_brackets_option n b2) (λ y. pure y) (ex.brackets_option (nested n) us)) → Leads (word SignalWord p ∷ ts) (SignalRaise p x b) rest (first (sd.at_brackets_option n b2) None) (λ y. pure y) (ex.raise (nested n) (word SignalWord p ∷ ts))
unfolding need choose nr.named ex.raise ex.signal_raise
c_signal n d h f r1 = ahead _ (comp (onto _ (qname_c d (go.brackets_dot h (dot_free _ f)))) (last _ r1))

pub c_error : (n : ℕ) {ts us rest : List Token} {x : QualifiedName} {b : Option Brackets} {p : Place} (b1 : IsQName ts x us) (b2 : IsBracketsOption us b rest) (f1 : Free more_primary rest) (r1 : Leads us b rest (sd.at_brackets_option n b2) (λ y. pure y) (ex.brackets_option (nested n) us)) → Leads (word ErrorWord p ∷ ts) (ErrorRaise p x b) rest (first (sd.at_brackets_option n b2) None) (λ y. pure y) (ex.raise (nested n) (word ErrorWord p ∷ ts))
unfolding need choose nr.named ex.raise ex.signal_raise
c_error n {p = p} d h f r1 = ahead _ (via (go.error_goes (nested n) p _ (fo.qname_named d)) (comp (onto _ (qname_c d (go.brackets_dot h (dot_free _ f)))) (last _ r1)))

pub c_unnamed_error : (n : ℕ) {rest : List Token} {p : Place} (f1 : Free more_primary rest) → Leads (word ErrorWord p ∷ rest) (UnnamedError p) rest (None) (λ y. pure y) (ex.raise (nested n) (word ErrorWord p ∷ rest))
unfolding need choose nr.named ex.raise ex.signal_raise
c_unnamed_error n {p = p} f = ahead _ (via (passed a_name (λ name r. ex.error_raise (nested n) p (identifier name r)) (pure (UnnamedError p)) _ (name_free _ f)) (stand _ _ (λ y. pure y)))

pub c_no_brackets : (n : ℕ) {rest : List Token} (f1 : Free (finds (exactly (k.Mark LeftBracket))) rest) → Leads rest None rest (None) (λ y. pure y) (ex.brackets_option (nested n) rest)
unfolding need choose nr.named ex.brackets_option
c_no_brackets n f = via (passed (exactly (k.Mark LeftBracket)) (λ _ p. ex.brackets (nested n) p >>= (λ x. pure (Some x))) (pure None) _ f) (stand _ _ (λ y. pure y))

pub c_no_list : (n : ℕ) {rest : List Token} (f1 : Free (finds (exactly (k.Mark LeftBracket))) rest) → Leads rest None rest (None) (λ y. pure y) (ex.list_option (nested n) rest)
unfolding need choose nr.named ex.list_option
c_no_list n f = via (passed (exactly (k.Mark LeftBracket)) (λ _ p. ex.list (nested n) p >>= (λ x. pure (Some x))) (pure None) _ f) (stand _ _ (λ y. pure y))

pub c_null : (n : ℕ) {rest : List Token} {p : Place} (f1 : Free more_stmt rest) → Leads (word NullWord p ∷ rest) (s.Null p) rest (None) (λ y. pure y) (st.statement (nested n) None (word NullWord p ∷ rest))
unfolding need choose nr.named st.conditional st.select st.loop st.go_to st.extract st.assigned st.block st.else_part ex.list_option
c_null n f = via (stmt_null (nested n) _ _) (ahead _ (stand _ _ (λ y. pure y)))

pub c_assign : (n : ℕ) {ts us rest : List Token} {i : Identifier} {ss : List Suffix} {x : Expr} {p : Place} (b1 : IsLeft ts i ss (mark Arrow p ∷ us)) (b2 : IsExpr us x rest) (f1 : Free more_stmt rest) (r1 : Leads ts ss (mark Arrow p ∷ us) (sd.at_left n b1) (Suffixes n) (ex.suffixes (nested n) (behind_first ts))) (r2 : Leads us x rest (sd.at_expr n b2) (λ y. pure y) ((nested n).expr Fresh us)) → Leads ts (s.Assign (left i ss) x) rest (first (sd.at_left n b1) (first (sd.at_expr n b2) None)) (λ y. pure y) (st.statement (nested n) None ts)
unfolding need choose nr.named st.conditional st.select st.loop st.go_to st.extract st.assigned st.block st.else_part ex.list_option
c_assign n d h f r1 r2 = via (go.stmt_goes (nested n) _ _ _ (go.left_head d)) (comp (onto _ (left_end n _ r1 refl)) (ahead _ (last _ r2)))

pub c_extract : (n : ℕ) {ts us rest : List Token} {x : Entries Left} {y : Expr} {p q r : Place} (b1 : IsTargets ts x (mark RightBracket q ∷ mark Arrow r ∷ us)) (b2 : IsExpr us y rest) (f1 : Free more_stmt rest) (r1 : Leads ts x (mark RightBracket q ∷ mark Arrow r ∷ us) (sd.at_targets n b1) (λ y. pure y) (st.targets (nested n) ts)) (r2 : Leads us y rest (sd.at_expr n b2) (λ y. pure y) ((nested n).expr Fresh us)) → Leads (mark LeftBracket p ∷ ts) (s.Extract p x y) rest (first (sd.at_targets n b1) (first (sd.at_expr n b2) None)) (λ y. pure y) (st.statement (nested n) None (mark LeftBracket p ∷ ts))
unfolding need choose nr.named st.conditional st.select st.loop st.go_to st.extract st.assigned st.block st.else_part ex.list_option
c_extract n d h f r1 r2 = via (stmt_extract (nested n) _ _) (ahead _ (comp (onto _ r1) (ahead _ (ahead _ (last _ r2)))))

pub c_call : (n : ℕ) {ts rest : List Token} {i : Identifier} {ss : List Suffix} (b1 : IsLeft ts i ss rest) (f1 : Free more_stmt rest) (r1 : Leads ts ss rest (sd.at_left n b1) (Suffixes n) (ex.suffixes (nested n) (behind_first ts))) → Leads ts (s.Call (left i ss)) rest (first (sd.at_left n b1) None) (λ y. pure y) (st.statement (nested n) None ts)
unfolding need choose nr.named st.conditional st.select st.loop st.go_to st.extract st.assigned st.block st.else_part ex.list_option
c_call n {i = i} {ss = ss} d f r1 = via (go.stmt_goes (nested n) _ _ _ (go.left_head d)) (comp (onto _ (left_end n _ r1 (suffix_free _ (stmt_primary _ f)))) (via (passed (exactly (k.Mark Arrow)) (λ _ _. (nested n).expr Fresh >>= (λ x. pure (s.Assign (g.left i ss) x))) (pure (s.Call (g.left i ss))) _ (free_only (k.Mark Arrow) _ (free_left (only (k.Mark Arrow)) (λ kind. only (k.Mark DoubleArrow) kind || more_expr kind) _ f))) (stand _ _ (λ y. pure y))))

pub c_raise : (n : ℕ) {ts rest : List Token} {x : Raise} (b1 : IsRaise ts x rest) (f1 : Free more_stmt rest) (r1 : Leads ts x rest (sd.at_raise n b1) (λ y. pure y) (ex.raise (nested n) ts)) → Leads ts (s.RaiseStatement x) rest (first (sd.at_raise n b1) None) (λ y. pure y) (st.statement (nested n) None ts)
unfolding need choose nr.named st.conditional st.select st.loop st.go_to st.extract st.assigned st.block st.else_part ex.list_option
c_raise n d f r1 = via (go.stmt_raise (nested n) _ (fo.raise_begins d)) (last _ r1)

pub c_if_then : (n : ℕ) {ts us rest : List Token} {c : Expr} {x : Statement} {p q : Place} (b1 : IsExpr ts c (word ThenWord q ∷ us)) (b2 : IsStmt us x rest) (b3 : NoElse rest) (f1 : Free more_stmt rest) (r1 : Leads ts c (word ThenWord q ∷ us) (sd.at_expr n b1) (λ y. pure y) ((nested n).expr Fresh ts)) (r2 : Leads us x rest (sd.at_stmt n b2) (λ y. pure y) ((nested n).stmt None us)) → Leads (word IfWord p ∷ ts) (s.If p c x None) rest (first (sd.at_expr n b1) (first (sd.at_stmt n b2) None)) (λ y. pure y) (st.statement (nested n) None (word IfWord p ∷ ts))
unfolding need choose nr.named st.conditional st.select st.loop st.go_to st.extract st.assigned st.block st.else_part ex.list_option
c_if_then n {c = c} {x = x} {p = p} d h i f r1 r2 = via (stmt_if (nested n) _ _) (ahead _ (comp (onto _ r1) (ahead _ (comp (onto _ r2) (via (passed (exactly (k.Word ElseWord)) (λ _ _. (nested n).stmt None >>= (λ y. pure (s.If p c x (Some y)))) (pure (s.If p c x None)) _ (no_else_passes _ i)) (stand _ _ (λ y. pure y)))))))

pub c_if_else : (n : ℕ) {ts us vs rest : List Token} {c : Expr} {x y : Statement} {p q r : Place} (b1 : IsExpr ts c (word ThenWord q ∷ us)) (b2 : IsStmt us x (word ElseWord r ∷ vs)) (b3 : IsStmt vs y rest) (f1 : Free more_stmt rest) (r1 : Leads ts c (word ThenWord q ∷ us) (sd.at_expr n b1) (λ y. pure y) ((nested n).expr Fresh ts)) (r2 : Leads us x (word ElseWord r ∷ vs) (sd.at_stmt n b2) (λ y. pure y) ((nested n).stmt None us)) (r3 : Leads vs y rest (sd.at_stmt n b3) (λ y. pure y) ((nested n).stmt None vs)) → Leads (word IfWord p ∷ ts) (s.If p c x (Some y)) rest (first (sd.at_expr n b1) (first (sd.at_stmt n b2) (first (sd.at_stmt n b3) None))) (λ y. pure y) (st.statement (nested n) None (word IfWord p ∷ ts))
unfolding need choose nr.named st.conditional st.select st.loop st.go_to st.extract st.assigned st.block st.else_part ex.list_option
c_if_else n d h i f r1 r2 r3 = via (stmt_if (nested n) _ _) (ahead _ (comp (onto _ r1) (ahead _ (comp (onto _ r2) (ahead _ (last _ r3))))))

pub c_select : (n : ℕ) {ts us vs rest : List Token} {x : Expr} {cs : List Case} {y : Option Statement} {p q r : Place} (b1 : IsExpr ts x (word FromWord q ∷ us)) (b2 : IsCaseList us cs (word EndcaseWord r ∷ vs)) (b3 : IsOtherwise vs y rest) (f1 : Free more_stmt rest) (r1 : Leads ts x (word FromWord q ∷ us) (sd.at_expr n b1) (λ y. pure y) ((nested n).expr Fresh ts)) (r2 : Leads us cs (w.word EndcaseWord r ∷ vs) (sd.at_case_list n b2) (λ y. pure y) (st.case_list (nested n) us)) (r3 : Leads vs y rest (sd.at_otherwise n b3) (λ y. pure y) (st.otherwise (nested n) vs)) → Leads (word SelectWord p ∷ ts) (s.Select p x cs y) rest (first (sd.at_expr n b1) (first (sd.at_case_list n b2) (first (sd.at_otherwise n b3) None))) (λ y. pure y) (st.statement (nested n) None (word SelectWord p ∷ ts))
unfolding need choose nr.named st.conditional st.select st.loop st.go_to st.extract st.assigned st.block st.else_part ex.list_option
c_select n d h i f r1 r2 r3 = via (stmt_select (nested n) _ _) (ahead _ (comp (onto _ r1) (ahead _ (comp (onto _ r2) (ahead _ (last _ r3))))))

pub c_loop : (n : ℕ) {ts us vs ws rest : List Token} {c : Control} {e : Option (Placed (List Arm))} {body : List Statement} {rs : List (Labeled RepeatLabels Statement)} {p q : Place} (b1 : IsControl ts c (word DoWord p ∷ us)) (b2 : IsEnabling us e vs) (b3 : IsBody vs body ws) (b4 : IsRepeatPart ws rs (word EndloopWord q ∷ rest)) (f1 : Free more_stmt rest) (r1 : Leads ts c (w.word DoWord p ∷ us) (sd.at_control n b1) (λ y. pure y) (st.control (nested n) ts)) (r2 : Leads us e vs (sd.at_enabling n b2) (λ y. pure y) (st.enabling (nested n) us)) (r3 : Leads vs body ws (sd.at_body n b3) (λ y. pure y) (st.body (nested n) vs)) (r4 : Leads ws rs (w.word EndloopWord q ∷ rest) (sd.at_repeat_part n b4) (λ y. pure y) (st.repeat_part (nested n) ws)) → Leads ts (s.Loop c p e body rs) rest (first (sd.at_control n b1) (first (sd.at_enabling n b2) (first (sd.at_body n b3) (first (sd.at_repeat_part n b4) None)))) (λ y. pure y) (st.statement (nested n) None ts)
unfolding need choose nr.named st.conditional st.select st.loop st.go_to st.extract st.assigned st.block st.else_part ex.list_option
c_loop n d h i j f r1 r2 r3 r4 = via (go.stmt_loop (nested n) _ (fo.control_begins d)) (comp (onto _ r1) (ahead _ (comp (onto _ r2) (comp (onto _ r3) (comp (onto _ r4) (ahead _ (stand _ _ (λ y. pure y))))))))

pub c_exit_loop : (n : ℕ) {rest : List Token} {p : Place} (f1 : Free more_stmt rest) → Leads (word ExitWord p ∷ rest) (s.ExitLoop p) rest (None) (λ y. pure y) (st.statement (nested n) None (word ExitWord p ∷ rest))
unfolding need choose nr.named st.conditional st.select st.loop st.go_to st.extract st.assigned st.block st.else_part ex.list_option
c_exit_loop n f = via (stmt_exit (nested n) _ _) (ahead _ (stand _ _ (λ y. pure y)))

pub c_next_turn : (n : ℕ) {rest : List Token} {p : Place} (f1 : Free more_stmt rest) → Leads (word LoopWord p ∷ rest) (s.NextTurn p) rest (None) (λ y. pure y) (st.statement (nested n) None (word LoopWord p ∷ rest))
unfolding need choose nr.named st.conditional st.select st.loop st.go_to st.extract st.assigned st.block st.else_part ex.list_option
c_next_turn n f = via (stmt_next (nested n) _ _) (ahead _ (stand _ _ (λ y. pure y)))

pub c_goto : (n : ℕ) {rest : List Token} {i : Identifier} {p : Place} (f1 : Free more_stmt rest) → Leads (word GotoWord p ∷ spelled i ∷ rest) (s.Goto p i) rest (None) (λ y. pure y) (st.statement (nested n) None (word GotoWord p ∷ spelled i ∷ rest))
unfolding need choose nr.named st.conditional st.select st.loop st.go_to st.extract st.assigned st.block st.else_part ex.list_option
c_goto n f = via (stmt_goto (nested n) _ _) (ahead _ (ahead _ (stand _ _ (λ y. pure y))))

pub c_go_to : (n : ℕ) {rest : List Token} {i : Identifier} {p q : Place} (f1 : Free more_stmt rest) → Leads (word GoWord p ∷ word ToWord q ∷ spelled i ∷ rest) (s.Goto p i) rest (None) (λ y. pure y) (st.statement (nested n) None (word GoWord p ∷ word ToWord q ∷ spelled i ∷ rest))
unfolding need choose nr.named st.conditional st.select st.loop st.go_to st.extract st.assigned st.block st.else_part ex.list_option
c_go_to n f = via (stmt_go (nested n) _ _) (ahead _ (ahead _ (ahead _ (stand _ _ (λ y. pure y)))))

pub c_return : (n : ℕ) {ts rest : List Token} {x : Option (Placed (Entries Expr))} {p : Place} (b1 : IsListOption ts x rest) (f1 : Free more_stmt rest) (r1 : Leads ts x rest (sd.at_list_option n b1) (λ y. pure y) (ex.list_option (nested n) ts)) → Leads (word ReturnWord p ∷ ts) (s.Return p x) rest (first (sd.at_list_option n b1) None) (λ y. pure y) (st.statement (nested n) None (word ReturnWord p ∷ ts))
unfolding need choose nr.named st.conditional st.select st.loop st.go_to st.extract st.assigned st.block st.else_part ex.list_option
c_return n d f r1 = via (stmt_return (nested n) _ _) (ahead _ (last _ r1))

pub c_resume : (n : ℕ) {ts rest : List Token} {x : Option (Placed (Entries Expr))} {p : Place} (b1 : IsListOption ts x rest) (f1 : Free more_stmt rest) (r1 : Leads ts x rest (sd.at_list_option n b1) (λ y. pure y) (ex.list_option (nested n) ts)) → Leads (word ResumeWord p ∷ ts) (s.Resume p x) rest (first (sd.at_list_option n b1) None) (λ y. pure y) (st.statement (nested n) None (word ResumeWord p ∷ ts))
unfolding need choose nr.named st.conditional st.select st.loop st.go_to st.extract st.assigned st.block st.else_part ex.list_option
c_resume n d f r1 = via (stmt_resume (nested n) _ _) (ahead _ (last _ r1))

pub c_reject : (n : ℕ) {rest : List Token} {p : Place} (f1 : Free more_stmt rest) → Leads (word RejectWord p ∷ rest) (s.Reject p) rest (None) (λ y. pure y) (st.statement (nested n) None (word RejectWord p ∷ rest))
unfolding need choose nr.named st.conditional st.select st.loop st.go_to st.extract st.assigned st.block st.else_part ex.list_option
c_reject n f = via (stmt_reject (nested n) _ _) (ahead _ (stand _ _ (λ y. pure y)))

pub c_retry : (n : ℕ) {rest : List Token} {p : Place} (f1 : Free more_stmt rest) → Leads (word RetryWord p ∷ rest) (s.Retry p) rest (None) (λ y. pure y) (st.statement (nested n) None (word RetryWord p ∷ rest))
unfolding need choose nr.named st.conditional st.select st.loop st.go_to st.extract st.assigned st.block st.else_part ex.list_option
c_retry n f = via (stmt_retry (nested n) _ _) (ahead _ (stand _ _ (λ y. pure y)))

pub c_continue : (n : ℕ) {rest : List Token} {p : Place} (f1 : Free more_stmt rest) → Leads (word ContinueWord p ∷ rest) (s.Continue p) rest (None) (λ y. pure y) (st.statement (nested n) None (word ContinueWord p ∷ rest))
unfolding need choose nr.named st.conditional st.select st.loop st.go_to st.extract st.assigned st.block st.else_part ex.list_option
c_continue n f = via (stmt_continue (nested n) _ _) (ahead _ (stand _ _ (λ y. pure y)))

pub c_type_is : (n : ℕ) {ts rest : List Token} {x : TypeExp} {p q : Place} (b1 : IsType ts x rest) (f1 : Free more_plain rest) (r1 : Leads ts x rest (sd.at_type n b1) (λ y. pure y) ((nested n).type None ts)) → Leads (word TypeWord p ∷ mark Equal q ∷ ts) (TypeIs x) rest (first (sd.at_type n b1) None) (λ y. pure y) (st.plain (nested n) (word TypeWord p ∷ mark Equal q ∷ ts))
unfolding need choose nr.named st.plain st.type_is st.typed st.valued
c_type_is n d f r1 = ahead _ (ahead _ (last _ r1))

pub c_variable : (n : ℕ) {ts rest : List Token} {x : TypeExp} (b1 : IsType ts x rest) (f1 : Free more_plain rest) (r1 : Leads ts x rest (sd.at_type n b1) (λ y. pure y) ((nested n).type None ts)) → Leads ts (Variable x) rest (first (sd.at_type n b1) None) (λ y. pure y) (st.plain (nested n) ts)
unfolding need choose nr.named st.plain st.type_is st.typed st.valued
c_variable n {x = x} d f r1 = via (typed_goes n _ (fo.type_begins d)) (comp (onto _ r1) (via (valued_bare n x _ f) (stand _ _ (λ y. pure y))))

pub c_initial : (n : ℕ) {ts us rest : List Token} {x : TypeExp} {y : Expr} {p : Place} (b1 : IsType ts x (mark Arrow p ∷ us)) (b2 : IsExpr us y rest) (f1 : Free more_plain rest) (r1 : Leads ts x (mark Arrow p ∷ us) (sd.at_type n b1) (λ y. pure y) ((nested n).type None ts)) (r2 : Leads us y rest (sd.at_expr n b2) (λ y. pure y) ((nested n).expr Fresh us)) → Leads ts (Initial x y) rest (first (sd.at_type n b1) (first (sd.at_expr n b2) None)) (λ y. pure y) (st.plain (nested n) ts)
unfolding need choose nr.named st.plain st.type_is st.typed st.valued
c_initial n d h f r1 r2 = via (typed_goes n _ (fo.type_begins d)) (comp (onto _ r1) (ahead _ (last _ r2)))

pub c_constant : (n : ℕ) {ts us rest : List Token} {x : TypeExp} {y : Expr} {p : Place} (b1 : IsType ts x (mark Equal p ∷ us)) (b2 : IsExpr us y rest) (f1 : Free more_plain rest) (r1 : Leads ts x (mark Equal p ∷ us) (sd.at_type n b1) (λ y. pure y) ((nested n).type None ts)) (r2 : Leads us y rest (sd.at_expr n b2) (λ y. pure y) ((nested n).expr Fresh us)) → Leads ts (Constant x y) rest (first (sd.at_type n b1) (first (sd.at_expr n b2) None)) (λ y. pure y) (st.plain (nested n) ts)
unfolding need choose nr.named st.plain st.type_is st.typed st.valued
c_constant n d h f r1 r2 = via (typed_goes n _ (fo.type_begins d)) (comp (onto _ r1) (ahead _ (last _ r2)))

pub c_no_enable : (n : ℕ) {rest : List Token} (f1 : Free (finds (exactly (k.Word EnableWord))) rest) → Leads rest None rest (None) (λ y. pure y) (st.enabling (nested n) rest)
unfolding need choose nr.named st.enabling st.enable_many st.enable_one
c_no_enable n f = via (enabling_none n _ f) (stand _ _ (λ y. pure y))

pub c_enable_one : (n : ℕ) {ts rest : List Token} {x : Arm} {p q : Place} (b1 : IsArm ts x (mark Semicolon q ∷ rest)) (f1 : Free (finds (exactly (k.Word EnableWord))) rest) (r1 : Leads ts x (mark Semicolon q ∷ rest) (sd.at_arm n b1) (λ y. pure y) (ex.arm (nested n) ts)) → Leads (word EnableWord p ∷ ts) (Some (placing p (x ∷ []))) rest (first (sd.at_arm n b1) None) (λ y. pure y) (st.enabling (nested n) (word EnableWord p ∷ ts))
unfolding need choose nr.named st.enabling st.enable_many st.enable_one
c_enable_one n {p = p} d f r1 = ahead _ (via (enable_goes n p _ (fo.arm_begins d)) (comp (onto _ r1) (ahead _ (stand _ _ (λ y. pure y)))))

pub c_enable_many : (n : ℕ) {ts rest : List Token} {all : List Arm} {p q r s : Place} (b1 : IsArmList ts all (word EndWord r ∷ mark Semicolon s ∷ rest)) (f1 : Free (finds (exactly (k.Word EnableWord))) rest) (r1 : Leads ts all (word EndWord r ∷ mark Semicolon s ∷ rest) (sd.at_arm_list n b1) (λ y. pure y) (ex.arm_list (nested n) ts)) → Leads (word EnableWord p ∷ word BeginWord q ∷ ts) (Some (placing p all)) rest (first (sd.at_arm_list n b1) None) (λ y. pure y) (st.enabling (nested n) (word EnableWord p ∷ word BeginWord q ∷ ts))
unfolding need choose nr.named st.enabling st.enable_many st.enable_one
c_enable_many n d f r1 = ahead _ (ahead _ (comp (onto _ r1) (ahead _ (ahead _ (stand _ _ (λ y. pure y))))))

pub c_no_stmts : (n : ℕ) {rest : List Token} (f1 : Begins (among tails) rest) → Leads rest ([]) rest (None) (λ y. pure y) (st.body (nested n) rest)
unfolding need choose nr.named st.body
c_no_stmts n b = via (when_false begins_stmt (st.stmts (nested n) None) (pure []) _ (tail_stmts _ b)) (stand _ _ (λ y. pure y))

pub c_open_stmts : (n : ℕ) {ts rest : List Token} {all : List Statement} (b1 : IsStmts ts all rest) (f1 : Begins (among tails) rest) (r1 : Leads ts all rest (sd.at_stmts n b1) (Stmts n) (st.stmts (nested n) None ts)) → Leads ts all rest (first (sd.at_stmts n b1) None) (λ y. pure y) (st.body (nested n) ts)
unfolding need choose nr.named st.body
c_open_stmts n d b r1 = via (when_begins begins_stmt (st.stmts (nested n) None) (pure []) _ (fo.stmts_begin d)) (comp r1 (via (ended_bare semicolon begins_stmt (st.stmts_step (nested n)) (stmts_eats n) _ _ (semi_free begins_stmt _ (fo.tail_ends _ b))) (stand _ _ (λ y. pure y))))

pub c_closed_stmts : (n : ℕ) {ts rest : List Token} {all : List Statement} {p : Place} (b1 : IsStmts ts all (mark Semicolon p ∷ rest)) (f1 : Begins (among tails) rest) (r1 : Leads ts all (mark Semicolon p ∷ rest) (sd.at_stmts n b1) (Stmts n) (st.stmts (nested n) None ts)) → Leads ts all rest (first (sd.at_stmts n b1) None) (λ y. pure y) (st.body (nested n) ts)
unfolding need choose nr.named st.body
c_closed_stmts n d b r1 = via (when_begins begins_stmt (st.stmts (nested n) None) (pure []) _ (fo.stmts_begin d)) (comp r1 (via (ended_closed semicolon begins_stmt (st.stmts_step (nested n)) (stmts_eats n) _ _ _ refl (begins_free begins_stmt _ (fo.tail_ends _ b))) (ahead _ (stand _ _ (λ y. pure y)))))

pub c_a_stmt : (n : ℕ) {ts rest : List Token} {x : Statement} (b1 : IsStmt ts x rest) (f1 : Free more_stmt rest) (r1 : Leads ts x rest (sd.at_stmt n b1) (λ y. pure y) ((nested n).stmt None ts)) → Leads ts (x ∷ []) rest (first (sd.at_stmt n b1) None) (Stmts n) (st.stmts (nested n) None ts)
unfolding need choose nr.named st.stmts
c_a_stmt n d f r1 = comp (onto (λ y. Stmts n (y ∷ [])) r1) (stand _ _ (Stmts n))

pub c_stmts : (n : ℕ) {ts us rest : List Token} {all : List Statement} {x : Statement} {p : Place} (b1 : IsStmts ts all (mark Semicolon p ∷ us)) (b2 : IsStmt us x rest) (f1 : Free more_stmt rest) (r1 : Leads ts all (mark Semicolon p ∷ us) (sd.at_stmts n b1) (Stmts n) (st.stmts (nested n) None ts)) (r2 : Leads us x rest (sd.at_stmt n b2) (λ y. pure y) ((nested n).stmt None us)) → Leads ts (all ++ x ∷ []) rest (first (sd.at_stmts n b1) (first (sd.at_stmt n b2) None)) (Stmts n) (st.stmts (nested n) None ts)
unfolding need choose nr.named st.stmts
c_stmts n {p = p} d h f r1 r2 = comp r1 (ended_more semicolon begins_stmt (st.stmts_step (nested n)) (stmts_eats n) p refl (fo.stmt_begins h) (last _ r2))

pub c_an_exit : (n : ℕ) {ts rest : List Token} {x : Labeled (List Identifier) Statement} (b1 : IsExit ts x rest) (f1 : Free more_stmt rest) (r1 : Leads ts x rest (sd.at_exit n b1) (λ y. pure y) (st.exit (nested n) ts)) → Leads ts (x ∷ []) rest (first (sd.at_exit n b1) None) (Exits n) (st.exits (nested n) ts)
unfolding need choose nr.named st.exits
c_an_exit n d f r1 = comp (onto (λ y. Exits n (y ∷ [])) r1) (stand _ _ (Exits n))

pub c_exits : (n : ℕ) {ts us rest : List Token} {all : List (Labeled (List Identifier) Statement)} {x : Labeled (List Identifier) Statement} {p : Place} (b1 : IsExits ts all (mark Semicolon p ∷ us)) (b2 : IsExit us x rest) (f1 : Free more_stmt rest) (r1 : Leads ts all (mark Semicolon p ∷ us) (sd.at_exits n b1) (Exits n) (st.exits (nested n) ts)) (r2 : Leads us x rest (sd.at_exit n b2) (λ y. pure y) (st.exit (nested n) us)) → Leads ts (all ++ x ∷ []) rest (first (sd.at_exits n b1) (first (sd.at_exit n b2) None)) (Exits n) (st.exits (nested n) ts)
unfolding need choose nr.named st.exits
c_exits n {p = p} d h f r1 r2 = comp r1 (ended_more semicolon begins_label (st.exits_step (nested n)) (exits_eats n) p refl (fo.exit_begins h) (last _ r2))

pub c_exit_of : (n : ℕ) {ts us rest : List Token} {ns : List Identifier} {x : Statement} {p : Place} (b1 : IsNames ts ns (mark DoubleArrow p ∷ us)) (b2 : IsStmt us x rest) (f1 : Free more_stmt rest) (r1 : Leads us x rest (sd.at_stmt n b2) (λ y. pure y) ((nested n).stmt None us)) → Leads ts (labeled ns x) rest (first (sd.at_stmt n b2) None) (λ y. pure y) (st.exit (nested n) ts)
unfolding need choose nr.named st.exit
c_exit_of n d h f r1 = comp (onto _ (names_all d refl)) (ahead _ (last _ r1))

pub c_no_repeats : (n : ℕ) {rest0 : List Token} {p0 : Place} → Leads (w.word EndloopWord p0 ∷ rest0) ([]) (w.word EndloopWord p0 ∷ rest0) (None) (λ y. pure y) (st.repeat_part (nested n) (w.word EndloopWord p0 ∷ rest0))
unfolding need choose nr.named st.repeat_part
c_no_repeats n = stand _ _ (λ y. pure y)

pub c_open_repeats : (n : ℕ) {ts rest0 : List Token} {all : List (Labeled RepeatLabels Statement)} {p : Place} {p0 : Place} (b1 : IsRepeats ts all (w.word EndloopWord p0 ∷ rest0)) (r1 : Leads ts all (w.word EndloopWord p0 ∷ rest0) (sd.at_repeats n b1) (Repeats n) (st.repeats (nested n) ts)) → Leads (word RepeatWord p ∷ ts) all (w.word EndloopWord p0 ∷ rest0) (first (sd.at_repeats n b1) None) (λ y. pure y) (st.repeat_part (nested n) (word RepeatWord p ∷ ts))
unfolding need choose nr.named st.repeat_part
c_open_repeats n d r1 = ahead _ (comp r1 (via (ended_bare semicolon begins_repeat (st.repeats_step (nested n)) (repeats_eats n) _ _ refl) (stand _ _ (λ y. pure y))))

pub c_closed_repeats : (n : ℕ) {ts rest0 : List Token} {all : List (Labeled RepeatLabels Statement)} {p q : Place} {p0 : Place} (b1 : IsRepeats ts all (mark Semicolon q ∷ (w.word EndloopWord p0 ∷ rest0))) (r1 : Leads ts all (mark Semicolon q ∷ (w.word EndloopWord p0 ∷ rest0)) (sd.at_repeats n b1) (Repeats n) (st.repeats (nested n) ts)) → Leads (word RepeatWord p ∷ ts) all (w.word EndloopWord p0 ∷ rest0) (first (sd.at_repeats n b1) None) (λ y. pure y) (st.repeat_part (nested n) (word RepeatWord p ∷ ts))
unfolding need choose nr.named st.repeat_part
c_closed_repeats n d r1 = ahead _ (comp r1 (via (ended_closed semicolon begins_repeat (st.repeats_step (nested n)) (repeats_eats n) _ _ _ refl refl) (ahead _ (stand _ _ (λ y. pure y)))))

pub c_a_repeat : (n : ℕ) {ts rest : List Token} {x : Labeled RepeatLabels Statement} (b1 : IsRepeat ts x rest) (f1 : Free more_stmt rest) (r1 : Leads ts x rest (sd.at_repeat n b1) (λ y. pure y) (st.an_end (nested n) ts)) → Leads ts (x ∷ []) rest (first (sd.at_repeat n b1) None) (Repeats n) (st.repeats (nested n) ts)
unfolding need choose nr.named st.repeats
c_a_repeat n d f r1 = comp (onto (λ y. Repeats n (y ∷ [])) r1) (stand _ _ (Repeats n))

pub c_repeats : (n : ℕ) {ts us rest : List Token} {all : List (Labeled RepeatLabels Statement)} {x : Labeled RepeatLabels Statement} {p : Place} (b1 : IsRepeats ts all (mark Semicolon p ∷ us)) (b2 : IsRepeat us x rest) (f1 : Free more_stmt rest) (r1 : Leads ts all (mark Semicolon p ∷ us) (sd.at_repeats n b1) (Repeats n) (st.repeats (nested n) ts)) (r2 : Leads us x rest (sd.at_repeat n b2) (λ y. pure y) (st.an_end (nested n) us)) → Leads ts (all ++ x ∷ []) rest (first (sd.at_repeats n b1) (first (sd.at_repeat n b2) None)) (Repeats n) (st.repeats (nested n) ts)
unfolding need choose nr.named st.repeats
c_repeats n {p = p} d h f r1 r2 = comp r1 (ended_more semicolon begins_repeat (st.repeats_step (nested n)) (repeats_eats n) p refl (fo.repeat_begins h) (last _ r2))

pub c_repeat_of : (n : ℕ) {ts us rest : List Token} {l : RepeatLabels} {x : Statement} {p : Place} (b1 : IsRepeatLabels ts l (mark DoubleArrow p ∷ us)) (b2 : IsStmt us x rest) (f1 : Free more_stmt rest) (r1 : Leads us x rest (sd.at_stmt n b2) (λ y. pure y) ((nested n).stmt None us)) → Leads ts (labeled l x) rest (first (sd.at_stmt n b2) None) (λ y. pure y) (st.an_end (nested n) ts)
unfolding need choose nr.named st.an_end
c_repeat_of n d h f r1 = comp (onto _ (repeat_labels_c d refl)) (ahead _ (last _ r1))

pub c_no_otherwise : (n : ℕ) {rest : List Token} (f1 : Free more_stmt rest) → Leads rest None rest (None) (λ y. pure y) (st.otherwise (nested n) rest)
unfolding need choose nr.named st.otherwise
c_no_otherwise n f = via (passed (exactly (k.Mark DoubleArrow)) (λ _ _. (nested n).stmt None >>= (λ x. pure (Some x))) (pure None) _ (otherwise_free _ f)) (stand _ _ (λ y. pure y))

pub c_otherwise : (n : ℕ) {ts rest : List Token} {x : Statement} {p : Place} (b1 : IsStmt ts x rest) (f1 : Free more_stmt rest) (r1 : Leads ts x rest (sd.at_stmt n b1) (λ y. pure y) ((nested n).stmt None ts)) → Leads (mark DoubleArrow p ∷ ts) (Some x) rest (first (sd.at_stmt n b1) None) (λ y. pure y) (st.otherwise (nested n) (mark DoubleArrow p ∷ ts))
unfolding need choose nr.named st.otherwise
c_otherwise n d f r1 = ahead _ (last _ r1)

pub c_no_cases : (n : ℕ) {rest0 : List Token} {p0 : Place} → Leads (w.word EndcaseWord p0 ∷ rest0) ([]) (w.word EndcaseWord p0 ∷ rest0) (None) (λ y. pure y) (st.case_list (nested n) (w.word EndcaseWord p0 ∷ rest0))
unfolding need choose nr.named st.case_list
c_no_cases n = via (when_false begins_test (st.cases (nested n)) (pure []) _ refl) (stand _ _ (λ y. pure y))

pub c_open_cases : (n : ℕ) {ts rest0 : List Token} {all : List Case} {p0 : Place} (b1 : IsCases ts all (w.word EndcaseWord p0 ∷ rest0)) (r1 : Leads ts all (w.word EndcaseWord p0 ∷ rest0) (sd.at_cases n b1) (Cases n) (st.cases (nested n) ts)) → Leads ts all (w.word EndcaseWord p0 ∷ rest0) (first (sd.at_cases n b1) None) (λ y. pure y) (st.case_list (nested n) ts)
unfolding need choose nr.named st.case_list
c_open_cases n d r1 = via (when_begins begins_test (st.cases (nested n)) (pure []) _ (fo.cases_begin d)) (comp r1 (via (ended_bare semicolon begins_test (st.cases_step (nested n)) (cases_eats n) _ _ refl) (stand _ _ (λ y. pure y))))

pub c_closed_cases : (n : ℕ) {ts rest0 : List Token} {all : List Case} {p : Place} {p0 : Place} (b1 : IsCases ts all (mark Semicolon p ∷ (w.word EndcaseWord p0 ∷ rest0))) (r1 : Leads ts all (mark Semicolon p ∷ (w.word EndcaseWord p0 ∷ rest0)) (sd.at_cases n b1) (Cases n) (st.cases (nested n) ts)) → Leads ts all (w.word EndcaseWord p0 ∷ rest0) (first (sd.at_cases n b1) None) (λ y. pure y) (st.case_list (nested n) ts)
unfolding need choose nr.named st.case_list
c_closed_cases n d r1 = via (when_begins begins_test (st.cases (nested n)) (pure []) _ (fo.cases_begin d)) (comp r1 (via (ended_closed semicolon begins_test (st.cases_step (nested n)) (cases_eats n) _ _ _ refl refl) (ahead _ (stand _ _ (λ y. pure y)))))

pub c_a_case : (n : ℕ) {ts rest : List Token} {x : Case} (b1 : IsCase ts x rest) (f1 : Free more_stmt rest) (r1 : Leads ts x rest (sd.at_case n b1) (λ y. pure y) (st.case (nested n) ts)) → Leads ts (x ∷ []) rest (first (sd.at_case n b1) None) (Cases n) (st.cases (nested n) ts)
unfolding need choose nr.named st.cases
c_a_case n d f r1 = comp (onto (λ y. Cases n (y ∷ [])) r1) (stand _ _ (Cases n))

pub c_cases : (n : ℕ) {ts us rest : List Token} {all : List Case} {x : Case} {p : Place} (b1 : IsCases ts all (mark Semicolon p ∷ us)) (b2 : IsCase us x rest) (f1 : Free more_stmt rest) (r1 : Leads ts all (mark Semicolon p ∷ us) (sd.at_cases n b1) (Cases n) (st.cases (nested n) ts)) (r2 : Leads us x rest (sd.at_case n b2) (λ y. pure y) (st.case (nested n) us)) → Leads ts (all ++ x ∷ []) rest (first (sd.at_cases n b1) (first (sd.at_case n b2) None)) (Cases n) (st.cases (nested n) ts)
unfolding need choose nr.named st.cases
c_cases n {p = p} d h f r1 r2 = comp r1 (ended_more semicolon begins_test (st.cases_step (nested n)) (cases_eats n) p refl (fo.case_begins h) (last _ r2))

pub c_case_of : (n : ℕ) {ts us rest : List Token} {all : List Test} {x : Statement} {p : Place} (b1 : IsTests ts all (mark DoubleArrow p ∷ us)) (b2 : IsStmt us x rest) (f1 : Free more_stmt rest) (r1 : Leads ts all (mark DoubleArrow p ∷ us) (sd.at_tests n b1) (Tests n) (st.case (nested n) ts)) (r2 : Leads us x rest (sd.at_stmt n b2) (λ y. pure y) ((nested n).stmt None us)) → Leads ts (case all x) rest (first (sd.at_tests n b1) (first (sd.at_stmt n b2) None)) (λ y. pure y) (st.case (nested n) ts)
unfolding need choose nr.named st.case
c_case_of n d h f r1 r2 = comp r1 (via (ap (λ out. and_then out (λ all. need (k.Mark DoubleArrow) >> ((nested n).stmt None >>= (λ x. pure (case all x))))) (many_end comma (st.tests_step (nested n)) (tests_eats n) _ _ refl)) (ahead _ (last _ r2)))

pub c_a_test : (n : ℕ) {ts rest : List Token} {x : Test} (b1 : IsTest ts x rest) (f1 : Free more_expr rest) (r1 : Leads ts x rest (sd.at_test n b1) (λ y. pure y) (st.test (nested n) ts)) → Leads ts (x ∷ []) rest (first (sd.at_test n b1) None) (Tests n) (st.case (nested n) ts)
unfolding need choose nr.named st.case
c_a_test n d f r1 = comp (onto (λ y. Tests n (y ∷ [])) r1) (stand _ _ (Tests n))

pub c_tests : (n : ℕ) {ts us rest : List Token} {all : List Test} {x : Test} {p : Place} (b1 : IsTests ts all (mark Comma p ∷ us)) (b2 : IsTest us x rest) (f1 : Free more_expr rest) (r1 : Leads ts all (mark Comma p ∷ us) (sd.at_tests n b1) (Tests n) (st.case (nested n) ts)) (r2 : Leads us x rest (sd.at_test n b2) (λ y. pure y) (st.test (nested n) us)) → Leads ts (all ++ x ∷ []) rest (first (sd.at_tests n b1) (first (sd.at_test n b2) None)) (Tests n) (st.case (nested n) ts)
unfolding need choose nr.named st.case
c_tests n {p = p} d h f r1 r2 = comp r1 (under _ (many_more comma (st.tests_step (nested n)) (tests_eats n) tt (mark Comma p) refl (last _ r2)))

pub c_value : (n : ℕ) {ts rest : List Token} {x : Expr} (b1 : IsExpr ts x rest) (f1 : Free more_expr rest) (r1 : Leads ts x rest (sd.at_expr n b1) (λ y. pure y) ((nested n).expr Fresh ts)) → Leads ts (Value x) rest (first (sd.at_expr n b1) None) (λ y. pure y) (st.test (nested n) ts)
unfolding need choose nr.named
c_value n d f r1 = via ((go.test_value d).goes n) (last _ r1)

pub c_compared : (n : ℕ) {ts us rest : List Token} {b : Bool} {x : Expr} {kind : Kind} {r : Relation} {p : Place} (b1 : IsNot ts b (token kind p ∷ us)) (b2 : relating kind ≡ Some r) (b3 : IsSum us x rest) (f1 : Free more_expr rest) (r1 : Leads us x rest (sd.at_sum n b3) (λ y. pure y) (ex.sum (nested n) None us)) → Leads ts (Compared b r p x) rest (first (sd.at_sum n b3) None) (λ y. pure y) (st.test (nested n) ts)
unfolding need choose nr.named
c_compared n {kind = kind} {r = r} {p = p} g.affirmed e d f r1 = via (go.test_compared n kind r p _ e) (ahead _ (last _ r1))
c_compared n {kind = kind} {r = r} {p = p} (g.negated {kind = k2} {p = p2} h) e d f r1 = go.not_test n k2 p2 _ _ _ _ (λ y. pure y) h (via (go.after_not_compared (nested n) p2 kind r p _ e) (ahead _ (last _ r1)))

pub c_inside : (n : ℕ) {ts us rest : List Token} {b : Bool} {i : Interval} {p : Place} (b1 : IsNot ts b (word InWord p ∷ us)) (b2 : IsInterval us i rest) (f1 : Free more_expr rest) (r1 : Leads us i rest (sd.at_interval n b2) (λ y. pure y) (ex.interval (nested n) us)) → Leads ts (Inside b p i) rest (first (sd.at_interval n b2) None) (λ y. pure y) (st.test (nested n) ts)
unfolding need choose nr.named
c_inside n {p = p} g.affirmed d f r1 = via (go.test_inside n p _) (ahead _ (last _ r1))
c_inside n {p = p} (g.negated {kind = k2} {p = p2} h) d f r1 = go.not_test n k2 p2 _ _ _ _ (λ y. pure y) h (via (go.after_not_inside (nested n) p2 p _) (ahead _ (last _ r1)))

pub c_controlled : (n : ℕ) {ts us rest0 : List Token} {a : Option Count} {b : Option Condition} {p0 : Place} (b1 : IsCount ts a us) (b2 : IsCondition us b (w.word DoWord p0 ∷ rest0)) (r1 : Leads ts a us (sd.at_count n b1) (λ y. pure y) (st.count (nested n) ts)) (r2 : Leads us b (w.word DoWord p0 ∷ rest0) (sd.at_condition n b2) (λ y. pure y) (st.condition (nested n) us)) → Leads ts (control a b) (w.word DoWord p0 ∷ rest0) (first (sd.at_count n b1) (first (sd.at_condition n b2) None)) (λ y. pure y) (st.control (nested n) ts)
unfolding need choose nr.named st.control
c_controlled n d h r1 r2 = comp (onto _ r1) (last _ r2)

pub c_no_count : (n : ℕ) {rest : List Token} (f1 : Begins (among conditions) rest) → Leads rest None rest (None) (λ y. pure y) (st.count (nested n) rest)
unfolding need choose nr.named st.count st.for st.through st.decreasing
c_no_count n b = via (count_none n _ b) (stand _ _ (λ y. pure y))

pub c_for : (n : ℕ) {ts us rest : List Token} {i : Identifier} {b : Bool} {x : Interval} {p q : Place} (b1 : IsDecreasing ts b (word InWord q ∷ us)) (b2 : IsInterval us x rest) (f1 : Begins (among conditions) rest) (r1 : Leads us x rest (sd.at_interval n b2) (λ y. pure y) (ex.interval (nested n) us)) → Leads (word ForWord p ∷ spelled i ∷ ts) (Some (For p i b x)) rest (first (sd.at_interval n b2) None) (λ y. pure y) (st.count (nested n) (word ForWord p ∷ spelled i ∷ ts))
unfolding need choose nr.named st.count st.for st.through st.decreasing
c_for n g.rising d b r1 = ahead _ (ahead _ (ahead _ (last _ r1)))
c_for n g.falling d b r1 = ahead _ (ahead _ (ahead _ (ahead _ (last _ r1))))

pub c_through : (n : ℕ) {ts rest : List Token} {x : Interval} {p : Place} (b1 : IsInterval ts x rest) (f1 : Begins (among conditions) rest) (r1 : Leads ts x rest (sd.at_interval n b1) (λ y. pure y) (ex.interval (nested n) ts)) → Leads (word ThroughWord p ∷ ts) (Some (Through p x)) rest (first (sd.at_interval n b1) None) (λ y. pure y) (st.count (nested n) (word ThroughWord p ∷ ts))
unfolding need choose nr.named st.count st.for st.through st.decreasing
c_through n d b r1 = ahead _ (last _ r1)

pub c_no_condition : (n : ℕ) {rest0 : List Token} {p0 : Place} → Leads (w.word DoWord p0 ∷ rest0) None (w.word DoWord p0 ∷ rest0) (None) (λ y. pure y) (st.condition (nested n) (w.word DoWord p0 ∷ rest0))
unfolding need choose nr.named st.condition
c_no_condition n = stand _ _ (λ y. pure y)

pub c_while : (n : ℕ) {ts rest0 : List Token} {x : Expr} {p : Place} {p0 : Place} (b1 : IsExpr ts x (w.word DoWord p0 ∷ rest0)) (r1 : Leads ts x (w.word DoWord p0 ∷ rest0) (sd.at_expr n b1) (λ y. pure y) ((nested n).expr Fresh ts)) → Leads (word WhileWord p ∷ ts) (Some (While p x)) (w.word DoWord p0 ∷ rest0) (first (sd.at_expr n b1) None) (λ y. pure y) (st.condition (nested n) (word WhileWord p ∷ ts))
unfolding need choose nr.named st.condition
c_while n d r1 = ahead _ (last _ r1)

pub c_until : (n : ℕ) {ts rest0 : List Token} {x : Expr} {p : Place} {p0 : Place} (b1 : IsExpr ts x (w.word DoWord p0 ∷ rest0)) (r1 : Leads ts x (w.word DoWord p0 ∷ rest0) (sd.at_expr n b1) (λ y. pure y) ((nested n).expr Fresh ts)) → Leads (word UntilWord p ∷ ts) (Some (Until p x)) (w.word DoWord p0 ∷ rest0) (first (sd.at_expr n b1) None) (λ y. pure y) (st.condition (nested n) (word UntilWord p ∷ ts))
unfolding need choose nr.named st.condition
c_until n d r1 = ahead _ (last _ r1)

pub c_no_targets : (n : ℕ) {rest0 : List Token} {p0 : Place} → Leads (mark RightBracket p0 ∷ rest0) Nothing (mark RightBracket p0 ∷ rest0) (None) (λ y. pure y) (st.targets (nested n) (mark RightBracket p0 ∷ rest0))
unfolding need choose nr.named st.targets st.targets_from st.lefts st.key_lefts
c_no_targets n = stand _ _ (λ y. pure y)

pub c_targets : (n : ℕ) {ts rest0 : List Token} {all : List Left} {p0 : Place} (b1 : IsLefts ts all (mark RightBracket p0 ∷ rest0)) (r1 : Leads ts all (mark RightBracket p0 ∷ rest0) (sd.at_lefts n b1) (Lefts n) (first_lefts n ts)) → Leads ts (InOrder all) (mark RightBracket p0 ∷ rest0) (first (sd.at_lefts n b1) None) (λ y. pure y) (st.targets (nested n) ts)
unfolding need choose nr.named st.targets st.targets_from st.lefts st.key_lefts
c_targets n d r1 = via (lefts_go n _ (lefts_second d)) (comp r1 (via (ap (λ out. and_then out (λ all. pure (InOrder all))) (many_end comma (st.lefts_step (nested n)) (lefts_eats n) _ _ refl)) (stand _ _ (λ y. pure y))))

pub c_key_targets : (n : ℕ) {ts rest0 : List Token} {all : List (Keyed Left)} {p0 : Place} (b1 : IsKeyLefts ts all (mark RightBracket p0 ∷ rest0)) (r1 : Leads ts all (mark RightBracket p0 ∷ rest0) (sd.at_key_lefts n b1) (KeyLefts n) (st.targets (nested n) ts)) → Leads ts (ByKey all) (mark RightBracket p0 ∷ rest0) (first (sd.at_key_lefts n b1) None) (λ y. pure y) (st.targets (nested n) ts)
unfolding need choose nr.named st.targets st.targets_from st.lefts st.key_lefts
c_key_targets n d r1 = comp r1 (via (ap (λ out. and_then out (λ all. pure (ByKey all))) (many_end comma (st.key_lefts_step (nested n)) (key_lefts_eats n) _ _ refl)) (stand _ _ (λ y. pure y)))

pub c_a_left : (n : ℕ) {ts rest : List Token} {i : Identifier} {ss : List Suffix} (b1 : IsLeft ts i ss rest) (f1 : Free (finds suffixing) rest) (r1 : Leads ts ss rest (sd.at_left n b1) (Suffixes n) (ex.suffixes (nested n) (behind_first ts))) → Leads ts (left i ss ∷ []) rest (first (sd.at_left n b1) None) (Lefts n) (first_lefts n ts)
unfolding need choose nr.named
c_a_left n {i = i} d f r1 = via (first_goes n _ _ _ (go.left_head d)) (comp (onto (λ ss. Lefts n (g.left i ss ∷ [])) (left_end n _ r1 f)) (stand _ _ (Lefts n)))

pub c_lefts : (n : ℕ) {ts us rest : List Token} {all : List Left} {i : Identifier} {ss : List Suffix} {p : Place} (b1 : IsLefts ts all (mark Comma p ∷ us)) (b2 : IsLeft us i ss rest) (f1 : Free (finds suffixing) rest) (r1 : Leads ts all (mark Comma p ∷ us) (sd.at_lefts n b1) (Lefts n) (first_lefts n ts)) (r2 : Leads us ss rest (sd.at_left n b2) (Suffixes n) (ex.suffixes (nested n) (behind_first us))) → Leads ts (all ++ left i ss ∷ []) rest (first (sd.at_lefts n b1) (first (sd.at_left n b2) None)) (Lefts n) (first_lefts n ts)
unfolding need choose nr.named
c_lefts n {p = p} d h f r1 r2 = comp r1 (under _ (many_more comma (st.lefts_step (nested n)) (lefts_eats n) tt (mark Comma p) refl (via (step_goes n _ _ _ _ (go.left_head h)) (last _ (left_end n _ r2 f)))))

pub c_key_left : (n : ℕ) {ts rest : List Token} {i j : Identifier} {ss : List Suffix} {p : Place} (b1 : IsLeft ts i ss rest) (f1 : Free (finds suffixing) rest) (r1 : Leads ts ss rest (sd.at_left n b1) (Suffixes n) (ex.suffixes (nested n) (behind_first ts))) → Leads (spelled j ∷ mark Colon p ∷ ts) (keyed j (left i ss) ∷ []) rest (first (sd.at_left n b1) None) (KeyLefts n) (st.targets (nested n) (spelled j ∷ mark Colon p ∷ ts))
unfolding need choose nr.named st.targets st.targets_from st.lefts st.key_lefts
c_key_left n {i = i} {j = j} d f r1 = ahead _ (ahead _ (via (key_goes n j _ _ _ (go.left_head d)) (comp (onto (λ ss. KeyLefts n (keyed j (g.left i ss) ∷ [])) (left_end n _ r1 f)) (stand _ _ (KeyLefts n)))))

pub c_key_lefts : (n : ℕ) {ts us rest : List Token} {all : List (Keyed Left)} {i j : Identifier} {ss : List Suffix} {p q : Place} (b1 : IsKeyLefts ts all (mark Comma p ∷ spelled j ∷ mark Colon q ∷ us)) (b2 : IsLeft us i ss rest) (f1 : Free (finds suffixing) rest) (r1 : Leads ts all (mark Comma p ∷ spelled j ∷ mark Colon q ∷ us) (sd.at_key_lefts n b1) (KeyLefts n) (st.targets (nested n) ts)) (r2 : Leads us ss rest (sd.at_left n b2) (Suffixes n) (ex.suffixes (nested n) (behind_first us))) → Leads ts (all ++ keyed j (left i ss) ∷ []) rest (first (sd.at_key_lefts n b1) (first (sd.at_left n b2) None)) (KeyLefts n) (st.targets (nested n) ts)
unfolding need choose nr.named st.targets st.targets_from st.lefts st.key_lefts
c_key_lefts n {j = j} {p = p} d h f r1 r2 = comp r1 (under _ (many_more comma (st.key_lefts_step (nested n)) (key_lefts_eats n) tt (mark Comma p) refl (ahead _ (ahead _ (via (key_step_goes n j _ _ _ _ (go.left_head h)) (last _ (left_end n _ r2 f)))))))

-- ---- rows with another inside

pub c_constructor : (n : ℕ) {ts rest : List Token} {x : Entries Expr} {r : Place} {o : Option (List Token)} (p : Place) → Leads ts x (mark RightBracket r ∷ rest) o (λ y. pure y) (ex.args (nested n) ts) → Leads (mark LeftBracket p ∷ ts) (ev.Constructor (placing p x)) rest (first (first o None) None) (λ y. pure y) (ex.primary (nested n) None (mark LeftBracket p ∷ ts))
unfolding need choose ex.list
c_constructor n p h = via (primary_list (nested n) _ _) (ahead _ (last _ (comp (onto _ h) (ahead _ (stand _ _ (λ y. pure y))))))

pub c_a_list : (n : ℕ) {ts rest : List Token} {x : Entries Expr} {r : Place} {o : Option (List Token)} (p : Place) → Leads ts x (mark RightBracket r ∷ rest) o (λ y. pure y) (ex.args (nested n) ts) → Leads (mark LeftBracket p ∷ ts) (Some (placing p x)) rest (first (first o None) None) (λ y. pure y) (ex.list_option (nested n) (mark LeftBracket p ∷ ts))
unfolding need choose ex.list ex.list_option
c_a_list n p h = ahead _ (last _ (comp (onto _ h) (ahead _ (stand _ _ (λ y. pure y)))))

pub c_some_brackets : (n : ℕ) {ts us rest : List Token} {x : Entries Expr} {c : Option (Placed (List Arm))} {r : Place} {o o' : Option (List Token)} (p : Place) → Leads ts x us o (λ y. pure y) (ex.args (nested n) ts) → Leads us c (mark RightBracket r ∷ rest) o' (λ y. pure y) (ex.catch (nested n) us)
    → Leads (mark LeftBracket p ∷ ts) (Some (brackets p x c)) rest (first (first o (first o' None)) None) (λ y. pure y) (ex.brackets_option (nested n) (mark LeftBracket p ∷ ts))
unfolding choose ex.brackets_option
c_some_brackets n p h i = ahead _ (last _ (in_brackets n p h i))

pub c_applied : (n : ℕ) {ts us vs rest : List Token} {ss : List Suffix} {x : Entries Expr} {c : Option (Placed (List Arm))} {r : Place} {o o1 o2 : Option (List Token)} {out : Out (List Suffix)} (p : Place) → Leads ts ss (mark LeftBracket p ∷ us) o (Suffixes n) out → Leads us x vs o1 (λ y. pure y) (ex.args (nested n) us) → Leads vs c (mark RightBracket r ∷ rest) o2 (λ y. pure y) (ex.catch (nested n) vs)
    → Leads ts (ss ++ Applied (brackets p x c) ∷ []) rest (first o (first (first o1 (first o2 None)) None)) (Suffixes n) out
unfolding ex.suffixes_step
c_applied n p h i j = comp h (many_more suffixing (ex.suffixes_step (nested n)) (suffixes_eats n) true (mark LeftBracket p) refl (last _ (in_brackets n p i j)))

pub c_begin : (n : ℕ) (p : Place) {ts us vs ws rest : List Token} {e : Option (Placed (List Arm))} {ls : List Local} {ss : List Statement} {xs : List Exit} {r : Place} {o1 o2 o3 o4 : Option (List Token)}
    → Leads ts e us o1 (λ y. pure y) (st.enabling (nested n) ts) → Leads us ls vs o2 (repeat (st.head_turn (nested n))) (repeat (st.head_turn (nested n)) [] us) → Second declares vs → Leads vs ss ws o3 (λ y. pure y) (st.body (nested n) vs) → Leads ws xs (word EndWord r ∷ rest) o4 (λ y. pure y) (st.exit_part (nested n) ws)
    → Leads (word BeginWord p ∷ ts) (s.Nested (block p e ls ss xs)) rest (first (first o1 (first o2 (first o3 (first o4 None)))) None) (λ y. pure y) (st.statement (nested n) None (word BeginWord p ∷ ts))
c_begin n p a b x y z = via (stmt_begin (nested n) _ _) (ahead _ (last _ (inside n (k.Word EndWord) p refl a b x y z)))

pub c_brace : (n : ℕ) (p : Place) {ts us vs ws rest : List Token} {e : Option (Placed (List Arm))} {ls : List Local} {ss : List Statement} {xs : List Exit} {r : Place} {o1 o2 o3 o4 : Option (List Token)}
    → Leads ts e us o1 (λ y. pure y) (st.enabling (nested n) ts) → Leads us ls vs o2 (repeat (st.head_turn (nested n))) (repeat (st.head_turn (nested n)) [] us) → Second declares vs → Leads vs ss ws o3 (λ y. pure y) (st.body (nested n) vs) → Leads ws xs (mark RightBrace r ∷ rest) o4 (λ y. pure y) (st.exit_part (nested n) ws)
    → Leads (mark LeftBrace p ∷ ts) (s.Nested (block p e ls ss xs)) rest (first (first o1 (first o2 (first o3 (first o4 None)))) None) (λ y. pure y) (st.statement (nested n) None (mark LeftBrace p ∷ ts))
c_brace n p a b x y z = via (stmt_brace (nested n) _ _) (ahead _ (last _ (inside n (k.Mark RightBrace) p refl a b x y z)))

pub c_local : (n : ℕ) (all : List Local) {ts us rest : List Token} {ns : List Identifier} {x : PlainItem} {p r : Place} {o : Option (List Token)} → IsNames ts ns (mark Colon p ∷ us) → Leads us x (mark Semicolon r ∷ rest) o (λ y. pure y) (st.plain (nested n) us) → Leads {X = Turned (List Local) (Head Local)} ts (Again (all ++ labeled ns x ∷ [])) rest (first o None) (λ y. pure y) (st.head_turn (nested n) all ts)
unfolding need choose
c_local n all d h = go.local_step n all _ _ _ _ (fo.names_named d) (names_second d (record { token = _; back = _; is = refl; begins = refl })) (comp (onto (go.declared n) (names_all d refl)) (ahead _ (comp (onto _ h) (ahead _ (stand _ _ (λ y. pure y))))))

pub c_open_exits : (n : ℕ) (end : Kind) (r : Place) → among ends end ≡ true → {ts rest : List Token} {x : List Exit} {p : Place} {o : Option (List Token)} → Leads ts x (token end r ∷ rest) o (Exits n) (st.exits (nested n) ts) → Leads (word ExitsWord p ∷ ts) x (token end r ∷ rest) (first o None) (λ y. pure y) (st.exit_part (nested n) (word ExitsWord p ∷ ts))
unfolding choose st.exit_part
c_open_exits n end r tail h = ahead _ (comp h (via (ended_bare semicolon begins_label (st.exits_step (nested n)) (exits_eats n) _ _ (end_semi end (ends_tail end tail))) (stand _ _ (λ y. pure y))))

pub c_closed_exits : (n : ℕ) (end : Kind) (r : Place) → among ends end ≡ true → {ts rest : List Token} {x : List Exit} {p q : Place} {o : Option (List Token)} → Leads ts x (mark Semicolon q ∷ token end r ∷ rest) o (Exits n) (st.exits (nested n) ts) → Leads (word ExitsWord p ∷ ts) x (token end r ∷ rest) (first o None) (λ y. pure y) (st.exit_part (nested n) (word ExitsWord p ∷ ts))
unfolding choose st.exit_part
c_closed_exits n end r tail h = ahead _ (comp h (via (ended_closed semicolon begins_label (st.exits_step (nested n)) (exits_eats n) _ _ _ refl (end_name end (ends_tail end tail))) (ahead _ (stand _ _ (λ y. pure y)))))
