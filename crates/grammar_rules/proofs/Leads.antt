-- What a reading says, the parser finds, or it stops before what is too deep: one clause for each row of the grammar.
use Rattle.std.proofs.Common.{◌≡◌, ℕ, suc, true, List, [], ◌∷◌, ◌++◌, Option, None, ◌⊎◌, refl, sym, ap, ◌∙◌}
use Rattle.mesa_base.specs.declared.place.Place.{Place}
use Rattle.mesa_lexer.specs.declared.token.Token.{Token}
use Rattle.mesa_lexer.specs.declared.token.Kind.{Kind}
use Rattle.mesa_lexer.specs.declared.token.Kind.TheVariants as k
use Rattle.mesa_lexer.specs.declared.word.Word.TheVariants.{DoWord, EnableWord, EndWord, EndcaseWord, EndloopWord}
use Rattle.mesa_lexer.specs.declared.mark.Mark.TheVariants.{Semicolon, LeftBracket, RightBracket, RightBrace}
use Rattle.token_cursor.specs.Parsing.{token, mark, pure, first, exactly, finds, among, Turned, Again, repeat}
use Rattle.token_cursor.specs.Parsing as w
use Rattle.token_cursor.proofs.Exact.{Free, first_none}
use Rattle.token_cursor.proofs.Leading.{Leads, stand, comp, via, placed, turn_leads, Begins}
use Rattle.mesa_base.specs.declared.identifier.Identifier.{Identifier}
use Rattle.mesa_base.specs.declared.placed.Placed.{Placed}
use Rattle.syntax_trees.specs.declared.syntax.Keyed.{Keyed}
use Rattle.syntax_trees.specs.declared.syntax.Labeled.{Labeled}
use Rattle.syntax_trees.specs.declared.syntax.Entries.{Entries}
use Rattle.syntax_trees.specs.declared.syntax.TypeExp.{TypeExp}
use Rattle.syntax_trees.specs.declared.syntax.FieldList.{FieldList}
use Rattle.syntax_trees.specs.declared.syntax.Interval.{Interval}
use Rattle.syntax_trees.specs.declared.syntax.Expr.{Expr}
use Rattle.syntax_trees.specs.declared.syntax.Operation.{Operation}
use Rattle.syntax_trees.specs.declared.syntax.Left.{Left}
use Rattle.syntax_trees.specs.declared.syntax.Suffix.{Suffix}
use Rattle.syntax_trees.specs.declared.syntax.Brackets.{Brackets}
use Rattle.syntax_trees.specs.declared.syntax.Raise.{Raise}
use Rattle.syntax_trees.specs.declared.syntax.Arm.{Arm}
use Rattle.syntax_trees.specs.declared.syntax.Statement.{Statement}
use Rattle.syntax_trees.specs.declared.syntax.Control.{Control}
use Rattle.syntax_trees.specs.declared.syntax.Count.{Count}
use Rattle.syntax_trees.specs.declared.syntax.Condition.{Condition}
use Rattle.syntax_trees.specs.declared.syntax.Case.{Case}
use Rattle.syntax_trees.specs.declared.syntax.Test.{Test as TestTree}
use Rattle.syntax_trees.specs.declared.syntax.PlainItem.{PlainItem}
use Rattle.grammar_rules.specs.WordsAndMarks.{disjoining, conjoining, adding, multiplying}
use Rattle.grammar_rules.specs.Grammar as g
use Rattle.grammar_rules.specs.ReadNested.{Fresh, begins_stmt, begins_arm}
use Rattle.grammar_rules.specs.ReadExpressions as ex
use Rattle.grammar_rules.specs.ReadExpressions.{suffixing}
use Rattle.grammar_rules.specs.ReadStatements as st
use Rattle.grammar_rules.specs.ReadStatements.{nested, Local, Exit, Repeat, Head}
use Rattle.grammar_rules.proofs.Follows as fo
use Rattle.grammar_rules.proofs.Follows.{more_primary, more_product, more_sum, more_rel, more_conj, more_expr, more_stmt, more_type, more_items, more_fields, more_plain, tails, free_right}
use Rattle.grammar_rules.proofs.Seconds.{behind_first, body_second}
use Rattle.grammar_rules.proofs.FieldTurns as ft
use Rattle.grammar_rules.proofs.Sealed as sd
use Rattle.grammar_rules.proofs.Equations as eq
use Rattle.grammar_rules.proofs.Parts.{not_relating, not_in, Products, Sums, Ands, Ors, Made, Suffixes, Exprs, Keys, Arms, Groups, stmt_free, expr_free, rel_free, sum_free, bracket_free, stmt_primary, closers, catch_closes, lift_stmt, lift_expr, lift_type, phases, kind_sealed, lift_fields, fields_type, closers_expr, Stmts, Exits, Repeats, Cases, Tests, Lefts, KeyLefts, head_eats, enables, plain_type, plain_expr, end_stmt, ends, exits_none, ends_tail, conditions, condition_starts, first_lefts, exits_tail_of}
use Rattle.grammar_rules.proofs.Clauses as c

mutual
  pub type_c : (n : ℕ) {ts rest : List Token} {x : TypeExp} (d : g.IsType ts x rest) → Free more_type rest → Leads ts x rest (sd.at_type (suc n) d) (λ y. pure y) (ex.type_exp (nested n) None ts)
  type_c n g.integer f = placed (sym (eq.is_integer _ _ _)) (c.c_integer n f)
  type_c n g.cardinal f = placed (sym (eq.is_cardinal _ _ _)) (c.c_cardinal n f)
  type_c n g.long_integer f = placed (sym (eq.is_long_integer _ _ _ _)) (c.c_long_integer n f)
  type_c n g.long_cardinal f = placed (sym (eq.is_long_cardinal _ _ _ _)) (c.c_long_cardinal n f)
  type_c n g.boolean f = placed (sym (eq.is_boolean _ _ _)) (c.c_boolean n f)
  type_c n g.character f = placed (sym (eq.is_character _ _ _)) (c.c_character n f)
  type_c n g.string f = placed (sym (eq.is_string _ _ _)) (c.c_string n f)
  type_c n (g.called d) f = placed (sym (eq.is_called _ _ _ _ _)) (c.c_called n d f)
  type_c n (g.enumeration d) f = placed (sym (eq.is_enumeration _ _ _ _ _ _ _)) (c.c_enumeration n d f)
  type_c n (g.subrange z1 i) f = placed (sym (eq.is_subrange _ _ _ _ _ _ _ _)) (c.c_subrange n z1 i f (interval_c n i))
  type_c n (g.array d h) f = placed (sym (eq.is_array _ _ _ _ _ _ _ _ _ _)) (c.c_array n d h f (lift_type n d (λ m. type_c m d refl)) (lift_type n h (λ m. type_c m h f)))
  type_c n (g.a_record d) f = placed (sym (eq.is_a_record _ _ _ _ _ _ _ _)) (c.c_a_record n d f (lift_fields n d (λ m. fields_c m d refl)))

  pub fields_c : (m : ℕ) {ts rest : List Token} {x : FieldList} (d : g.IsFields ts x rest) → Free more_fields rest → Leads ts x rest (sd.at_fields (suc m) d) (λ y. pure y) (ex.field_list (nested (suc m)) ts)
  fields_c m (g.with_names d) f = placed (sym (eq.is_with_names _ _ _ _ _)) (c.c_with_names m d f (groups_c m d (fields_type _ f)))
  fields_c m (g.unnamed d) f = placed (sym (eq.is_unnamed _ _ _ _ _)) (c.c_unnamed m d f (types_c m d (fields_type _ f)))

  types_c : (m : ℕ) {ts rest : List Token} {x : List TypeExp} (d : g.IsTypes ts x rest) → Free more_type rest → ft.Still m ts x rest (sd.at_types (suc m) d) ⊎ ft.Past m ts x rest (sd.at_types (suc m) d)
  types_c m (g.a_type d) f = phases m (sym (eq.is_a_type _ _ _ _ _)) (ft.start_phase m (kind_sealed m d) (lift_type (suc m) d (λ j. type_c j d f)))
  types_c m (g.types {p = p} d h) f = phases m (sym (eq.is_types _ _ _ _ _ _ _ _ _)) (ft.next_phase m _ _ p _ (kind_sealed m h) (lift_type (suc m) h (λ j. type_c j h f)) (types_c m d refl))

  groups_c : (m : ℕ) {ts rest : List Token} {x : List (Labeled (List Identifier) TypeExp)} (d : g.IsGroups ts x rest) → Free more_type rest → Leads ts x rest (sd.at_groups (suc m) d) (Groups (suc m)) (ex.field_list (nested (suc m)) ts)
  groups_c m (g.group d h) f = placed (sym (eq.is_group _ _ _ _ _ _ _ _ _)) (c.c_group m d h f (lift_type (suc m) h (λ j. type_c j h f)))
  groups_c m (g.groups d h i) f = placed (sym (eq.is_groups _ _ _ _ _ _ _ _ _ _ _ _ _)) (c.c_groups m d h i f (groups_c m d refl) (lift_type (suc m) i (λ j. type_c j i f)))

  interval_c : (n : ℕ) {ts rest : List Token} {x : Interval} (d : g.IsInterval ts x rest) → Leads ts x rest (sd.at_interval n d) (λ y. pure y) (ex.interval (nested n) ts)
  interval_c n (g.bounds e d f h) = placed (sym (eq.is_bounds _ _ _ _ _ _ _ _ _ _ _ _ _ _ _ _ _)) (c.c_bounds n e d f h (lift_expr n d (λ m. expr_c m d refl)) (lift_expr n f (λ m. expr_c m f (fo.closing_ends _ _ h))))

  pub expr_c : (n : ℕ) {ts rest : List Token} {x : Expr} (d : g.IsExpr ts x rest) → Free more_expr rest → Leads ts x rest (sd.at_expr (suc n) d) (λ y. pure y) (ex.expr (nested n) Fresh ts)
  expr_c n (g.expr d) f = placed (sym (eq.is_expr _ _ _ _ _ _)) (c.c_expr n d f (ors_c n d (free_right (finds disjoining) more_conj _ f)))

  ors_c : (n : ℕ) {ts rest : List Token} {x : Expr} {ss : List Operation} (d : g.IsOrs ts x ss rest) → Free more_conj rest → Leads ts ss rest (sd.at_ors n d) (Made (Ors n) x) (ex.expr (nested n) Fresh ts)
  ors_c n (g.disjunct d) f = placed (sym (eq.is_disjunct _ _ _ _ _)) (c.c_disjunct n d f (conj_c n d f))
  ors_c n (g.ors d e h) f = placed (sym (eq.is_ors _ _ _ _ _ _ _ _ _ _ _ _ _)) (c.c_ors n d e h f (ors_c n d (fo.disjoining_ends _ _ e)) (conj_c n h f))

  conj_c : (n : ℕ) {ts rest : List Token} {x : Expr} (d : g.IsConj ts x rest) → Free more_conj rest → Leads ts x rest (sd.at_conj n d) (λ y. pure y) (ex.conj (nested n) Fresh ts)
  conj_c n (g.conj d) f = placed (sym (eq.is_conj _ _ _ _ _ _)) (c.c_conj n d f (ands_c n d (free_right (finds conjoining) more_rel _ f)))

  ands_c : (n : ℕ) {ts rest : List Token} {x : Expr} {ss : List Operation} (d : g.IsAnds ts x ss rest) → Free more_rel rest → Leads ts ss rest (sd.at_ands n d) (Made (Ands n) x) (ex.conj (nested n) Fresh ts)
  ands_c n (g.conjunct d) f = placed (sym (eq.is_conjunct _ _ _ _ _)) (c.c_conjunct n d f (neg_c n d f))
  ands_c n (g.ands d e h) f = placed (sym (eq.is_ands _ _ _ _ _ _ _ _ _ _ _ _ _)) (c.c_ands n d e h f (ands_c n d (fo.conjoining_ends _ _ e)) (neg_c n h f))

  neg_c : (n : ℕ) {ts rest : List Token} {x : Expr} (d : g.IsNeg ts x rest) → Free more_rel rest → Leads ts x rest (sd.at_neg n d) (λ y. pure y) (ex.neg (nested n) Fresh ts)
  neg_c n (g.rel d) f = placed (sym (eq.is_rel _ _ _ _ _)) (c.c_rel n d f (rel_c n d f))
  neg_c n (g.not e d) f = placed (sym (eq.is_not _ _ _ _ _ _ _ _)) (c.c_not n e d f (rel_c n d f))

  rel_c : (n : ℕ) {ts rest : List Token} {x : Expr} (d : g.IsRel ts x rest) → Free more_rel rest → Leads ts x rest (sd.at_rel n d) (λ y. pure y) (ex.rel (nested n) None ts)
  rel_c n (g.alone d) f = placed (sym (eq.is_alone _ _ _ _ _)) (c.c_alone n d f (sum_c n d (sum_free _ f)))
  rel_c n (g.compare d z1 e h) f = placed (sym (eq.is_compare _ _ _ _ _ _ _ _ _ _ _ _ _ _ _)) (c.c_compare n d z1 e h f (sum_c n d (not_relating z1 e)) (sum_c n h (sum_free _ f)))
  rel_c n (g.within d z1 h) f = placed (sym (eq.is_within _ _ _ _ _ _ _ _ _ _ _ _)) (c.c_within n d z1 h f (sum_c n d (not_in z1)) (interval_c n h))

  sum_c : (n : ℕ) {ts rest : List Token} {x : Expr} (d : g.IsSum ts x rest) → Free more_sum rest → Leads ts x rest (sd.at_sum n d) (λ y. pure y) (ex.sum (nested n) None ts)
  sum_c n (g.sum d) f = placed (sym (eq.is_sum _ _ _ _ _ _)) (c.c_sum n d f (sums_c n d (free_right (finds adding) more_product _ f)))

  sums_c : (n : ℕ) {ts rest : List Token} {x : Expr} {ss : List Operation} (d : g.IsSums ts x ss rest) → Free more_product rest → Leads ts ss rest (sd.at_sums n d) (Made (Sums n) x) (ex.sum (nested n) None ts)
  sums_c n (g.summand d) f = placed (sym (eq.is_summand _ _ _ _ _)) (c.c_summand n d f (product_c n d f))
  sums_c n (g.sums d e h) f = placed (sym (eq.is_sums _ _ _ _ _ _ _ _ _ _ _ _ _)) (c.c_sums n d e h f (sums_c n d (fo.adding_ends _ _ e)) (product_c n h f))

  product_c : (n : ℕ) {ts rest : List Token} {x : Expr} (d : g.IsProduct ts x rest) → Free more_product rest → Leads ts x rest (sd.at_product n d) (λ y. pure y) (ex.product (nested n) None ts)
  product_c n (g.product d) f = placed (sym (eq.is_product _ _ _ _ _ _)) (c.c_product n d f (products_c n d (free_right (finds multiplying) more_primary _ f)))

  products_c : (n : ℕ) {ts rest : List Token} {x : Expr} {ss : List Operation} (d : g.IsProducts ts x ss rest) → Free more_primary rest → Leads ts ss rest (sd.at_products n d) (Made (Products n) x) (ex.product (nested n) None ts)
  products_c n (g.factor d) f = placed (sym (eq.is_factor _ _ _ _ _)) (c.c_factor n d f (factor_c n d f))
  products_c n (g.products d e h) f = placed (sym (eq.is_products _ _ _ _ _ _ _ _ _ _ _ _ _)) (c.c_products n d e h f (products_c n d (fo.multiplying_ends _ _ e)) (factor_c n h f))

  factor_c : (n : ℕ) {ts rest : List Token} {x : Expr} (d : g.IsFactor ts x rest) → Free more_primary rest → Leads ts x rest (sd.at_factor n d) (λ y. pure y) (ex.factor (nested n) None ts)
  factor_c n (g.primary d) f = placed (sym (eq.is_primary _ _ _ _ _)) (c.c_primary n d f (primary_c n d f))
  factor_c n (g.signed e d) f = placed (sym (eq.is_signed _ _ _ _ _ _ _ _ _)) (c.c_signed n e d f (primary_c n d f))

  primary_c : (n : ℕ) {ts rest : List Token} {x : Expr} (d : g.IsPrimary ts x rest) → Free more_primary rest → Leads ts x rest (sd.at_primary n d) (λ y. pure y) (ex.primary (nested n) None ts)
  primary_c n g.number f = placed (sym (eq.is_number _ _ _ _)) (c.c_number n f)
  primary_c n g.char f = placed (sym (eq.is_char _ _ _ _)) (c.c_char n f)
  primary_c n g.text f = placed (sym (eq.is_text _ _ _ _)) (c.c_text n f)
  primary_c n g.true_word f = placed (sym (eq.is_true_word _ _ _)) (c.c_true_word n f)
  primary_c n g.false_word f = placed (sym (eq.is_false_word _ _ _)) (c.c_false_word n f)
  primary_c n (g.parens d) f = placed (sym (eq.is_parens _ _ _ _ _ _ _)) (c.c_parens n d f (lift_expr n d (λ m. expr_c m d refl)))
  primary_c n (g.reference d) f = placed (sym (eq.is_reference _ _ _ _ _ _)) (c.c_reference n d f (left_c n d))
  primary_c n (g.constructor (g.list d)) f = placed (sym ((eq.is_constructor _ _ _ _ _) ∙ ap (λ z. first z None) (eq.is_list _ _ _ _ _ _ _))) (c.c_constructor n _ (args_c n d (record { token = _; back = _; is = refl; begins = refl })))
  primary_c n (g.raised d) f = placed (sym (eq.is_raised _ _ _ _ _)) (c.c_raised n d f (raise_c n d f))

  left_c : (n : ℕ) {ts rest : List Token} {i : Identifier} {ss : List Suffix} (d : g.IsLeft ts i ss rest) → Leads ts ss rest (sd.at_left n d) (Suffixes n) (ex.suffixes (nested n) (behind_first ts))
  left_c n g.named = placed (sym (eq.is_named _ _ _)) (c.c_named n)
  left_c n (g.field d) = placed (sym (eq.is_field _ _ _ _ _ _ _ _)) (c.c_field n d (left_c n d))
  left_c n (g.applied d (g.bracketed {p = p} h i)) = placed (sym (eq.is_applied n _ _ _ _ _ _ d (g.bracketed h i) ∙ ap (λ z. first (sd.at_left n d) (first z None)) (eq.is_bracketed n _ _ _ _ _ _ _ h i))) (c.c_applied n p (left_c n d) (args_c n h (catch_closes i)) (catch_c n i refl))

  args_c : (n : ℕ) {ts rest : List Token} {x : Entries Expr} (d : g.IsArgs ts x rest) → Begins (among closers) rest → Leads ts x rest (sd.at_args n d) (λ y. pure y) (ex.args (nested n) ts)
  args_c n g.no_args b = placed (sym (eq.is_no_args _ _)) (c.c_no_args n b)
  args_c n (g.in_order d) b = placed (sym (eq.is_in_order _ _ _ _ _)) (c.c_in_order n d b (exprs_c n d (closers_expr _ b)))
  args_c n (g.by_key d) b = placed (sym (eq.is_by_key _ _ _ _ _)) (c.c_by_key n d b (keys_c n d (closers_expr _ b)))

  exprs_c : (n : ℕ) {ts rest : List Token} {x : List Expr} (d : g.IsExprs ts x rest) → Free more_expr rest → Leads ts x rest (sd.at_exprs n d) (Exprs n) (ex.in_order (nested n) Fresh ts)
  exprs_c n (g.an_expr d) f = placed (sym (eq.is_an_expr _ _ _ _ _)) (c.c_an_expr n d f (lift_expr n d (λ m. expr_c m d f)))
  exprs_c n (g.exprs d h) f = placed (sym (eq.is_exprs _ _ _ _ _ _ _ _ _)) (c.c_exprs n d h f (exprs_c n d refl) (lift_expr n h (λ m. expr_c m h f)))

  keys_c : (n : ℕ) {ts rest : List Token} {x : List (Keyed Expr)} (d : g.IsKeys ts x rest) → Free more_expr rest → Leads ts x rest (sd.at_keys n d) (Keys n) (ex.args (nested n) ts)
  keys_c n (g.key d) f = placed (sym (eq.is_key _ _ _ _ _ _ _)) (c.c_key n d f (lift_expr n d (λ m. expr_c m d f)))
  keys_c n (g.keys d h) f = placed (sym (eq.is_keys _ _ _ _ _ _ _ _ _ _ _)) (c.c_keys n d h f (keys_c n d refl) (lift_expr n h (λ m. expr_c m h f)))

  catch_c : (n : ℕ) {ts rest : List Token} {c : Option (Placed (List Arm))} {p : Place} (d : g.IsCatch ts c (mark RightBracket p ∷ rest)) → Free (more_items begins_arm) (mark RightBracket p ∷ rest) → Leads ts c (mark RightBracket p ∷ rest) (sd.at_catch n d) (λ y. pure y) (ex.catch (nested n) ts)
  catch_c n g.no_catch f = placed (sym (eq.is_no_catch _ _)) (c.c_no_catch n f)
  catch_c n (g.catch d) f = placed (sym (eq.is_catch _ _ _ _ _ _)) (c.c_catch n d f (arm_list_c n d f))

  arm_list_c : (n : ℕ) {ts rest : List Token} {x : List Arm} (d : g.IsArmList ts x rest) → Free (more_items begins_arm) rest → Leads ts x rest (sd.at_arm_list n d) (λ y. pure y) (ex.arm_list (nested n) ts)
  arm_list_c n (g.open_arms d) f = placed (sym (eq.is_open_arms _ _ _ _ _)) (c.c_open_arms n d f (arms_c n d (stmt_free begins_arm _ f)))
  arm_list_c n (g.closed_arms d) f = placed (sym (eq.is_closed_arms _ _ _ _ _ _)) (c.c_closed_arms n d f (arms_c n d refl))

  arms_c : (n : ℕ) {ts rest : List Token} {x : List Arm} (d : g.IsArms ts x rest) → Free more_stmt rest → Leads ts x rest (sd.at_arms n d) (Arms n) (ex.arm_list (nested n) ts)
  arms_c n (g.an_arm d) f = placed (sym (eq.is_an_arm _ _ _ _ _)) (c.c_an_arm n d f (arm_c n d f))
  arms_c n (g.arms d h) f = placed (sym (eq.is_arms _ _ _ _ _ _ _ _ _)) (c.c_arms n d h f (arms_c n d refl) (arm_c n h f))

  arm_c : (n : ℕ) {ts rest : List Token} {x : Arm} (d : g.IsArm ts x rest) → Free more_stmt rest → Leads ts x rest (sd.at_arm n d) (λ y. pure y) (ex.arm (nested n) ts)
  arm_c n (g.an_arm_of d h) f = placed (sym (eq.is_an_arm_of _ _ _ _ _ _ _ _ _)) (c.c_an_arm_of n d h f (lift_stmt n h (λ m. stmt_c m h f)))

  raise_c : (n : ℕ) {ts rest : List Token} {x : Raise} (d : g.IsRaise ts x rest) → Free more_primary rest → Leads ts x rest (sd.at_raise n d) (λ y. pure y) (ex.raise (nested n) ts)
  raise_c n (g.signal d h) f = placed (sym (eq.is_signal _ _ _ _ _ _ _ _ _)) (c.c_signal n d h f (brackets_option_c n h (bracket_free _ f)))
  raise_c n (g.error d h) f = placed (sym (eq.is_error _ _ _ _ _ _ _ _ _)) (c.c_error n d h f (brackets_option_c n h (bracket_free _ f)))
  raise_c n g.unnamed_error f = placed (sym (eq.is_unnamed_error _ _ _)) (c.c_unnamed_error n f)

  brackets_option_c : (n : ℕ) {ts rest : List Token} {x : Option Brackets} (d : g.IsBracketsOption ts x rest) → Free (finds (exactly (k.Mark LeftBracket))) rest → Leads ts x rest (sd.at_brackets_option n d) (λ y. pure y) (ex.brackets_option (nested n) ts)
  brackets_option_c n g.no_brackets f = placed (sym (eq.is_no_brackets _ _)) (c.c_no_brackets n f)
  brackets_option_c n (g.some_brackets (g.bracketed d h)) f = placed (sym ((eq.is_some_brackets _ _ _ _ _) ∙ ap (λ z. first z None) (eq.is_bracketed _ _ _ _ _ _ _ _ _ _))) (c.c_some_brackets n _ (args_c n d (catch_closes h)) (catch_c n h refl))

  list_option_c : (n : ℕ) {ts rest : List Token} {x : Option (Placed (Entries Expr))} (d : g.IsListOption ts x rest) → Free (finds (exactly (k.Mark LeftBracket))) rest → Leads ts x rest (sd.at_list_option n d) (λ y. pure y) (ex.list_option (nested n) ts)
  list_option_c n g.no_list f = placed (sym (eq.is_no_list _ _)) (c.c_no_list n f)
  list_option_c n (g.a_list (g.list d)) f = placed (sym ((eq.is_a_list _ _ _ _ _) ∙ ap (λ z. first z None) (eq.is_list _ _ _ _ _ _ _))) (c.c_a_list n _ (args_c n d (record { token = _; back = _; is = refl; begins = refl })))

  pub stmt_c : (n : ℕ) {ts rest : List Token} {x : Statement} (d : g.IsStmt ts x rest) → Free more_stmt rest → Leads ts x rest (sd.at_stmt (suc n) d) (λ y. pure y) (st.statement (nested n) None ts)
  stmt_c n g.null f = placed (sym (eq.is_null _ _ _)) (c.c_null n f)
  stmt_c n (g.nested (g.begin_end a b h e)) f = placed (sym ((eq.is_nested _ _ _ _ _) ∙ ap (λ z. first z None) (eq.is_begin_end _ _ _ _ _ _ _ _ _ _ _ _ _ _ _ _))) (c.c_begin n _ (enabling_c n a (enables b h (exits_tail_of (k.Word EndWord) refl e))) (locals_c n b) (body_second h (exits_tail_of (k.Word EndWord) refl e)) (body_c n h (exits_tail_of (k.Word EndWord) refl e)) (exit_part_c n (k.Word EndWord) _ refl e))
  stmt_c n (g.nested (g.braces a b h e)) f = placed (sym ((eq.is_nested _ _ _ _ _) ∙ ap (λ z. first z None) (eq.is_braces _ _ _ _ _ _ _ _ _ _ _ _ _ _ _ _))) (c.c_brace n _ (enabling_c n a (enables b h (exits_tail_of (k.Mark RightBrace) refl e))) (locals_c n b) (body_second h (exits_tail_of (k.Mark RightBrace) refl e)) (body_c n h (exits_tail_of (k.Mark RightBrace) refl e)) (exit_part_c n (k.Mark RightBrace) _ refl e))
  stmt_c n (g.assign d h) f = placed (sym (eq.is_assign _ _ _ _ _ _ _ _ _ _)) (c.c_assign n d h f (left_c n d) (lift_expr n h (λ m. expr_c m h (expr_free _ f))))
  stmt_c n (g.extract d h) f = placed (sym (eq.is_extract _ _ _ _ _ _ _ _ _ _ _)) (c.c_extract n d h f (targets_c n d) (lift_expr n h (λ m. expr_c m h (expr_free _ f))))
  stmt_c n (g.call d) f = placed (sym (eq.is_call _ _ _ _ _ _)) (c.c_call n d f (left_c n d))
  stmt_c n (g.raise d) f = placed (sym (eq.is_raise _ _ _ _ _)) (c.c_raise n d f (raise_c n d (stmt_primary _ f)))
  stmt_c n (g.if_then d h i) f = placed (sym (eq.is_if_then _ _ _ _ _ _ _ _ _ _ _)) (c.c_if_then n d h i f (lift_expr n d (λ m. expr_c m d refl)) (lift_stmt n h (λ m. stmt_c m h f)))
  stmt_c n (g.if_else d h i) f = placed (sym (eq.is_if_else _ _ _ _ _ _ _ _ _ _ _ _ _ _)) (c.c_if_else n d h i f (lift_expr n d (λ m. expr_c m d refl)) (lift_stmt n h (λ m. stmt_c m h refl)) (lift_stmt n i (λ m. stmt_c m i f)))
  stmt_c n (g.select d h i) f = placed (sym (eq.is_select _ _ _ _ _ _ _ _ _ _ _ _ _ _)) (c.c_select n d h i f (lift_expr n d (λ m. expr_c m d refl)) (case_list_c n h) (otherwise_c n i f))
  stmt_c n (g.loop d h i j) f = placed (sym (eq.is_loop _ _ _ _ _ _ _ _ _ _ _ _ _ _ _ _)) (c.c_loop n d h i j f (control_c n d) (enabling_c n h (fo.body_enables i (fo.repeats_tail j))) (body_c n i (fo.repeats_tail j)) (repeat_part_c n j))
  stmt_c n g.exit_loop f = placed (sym (eq.is_exit_loop _ _ _)) (c.c_exit_loop n f)
  stmt_c n g.next_turn f = placed (sym (eq.is_next_turn _ _ _)) (c.c_next_turn n f)
  stmt_c n g.goto f = placed (sym (eq.is_goto _ _ _ _)) (c.c_goto n f)
  stmt_c n g.go_to f = placed (sym (eq.is_go_to _ _ _ _ _)) (c.c_go_to n f)
  stmt_c n (g.return d) f = placed (sym (eq.is_return _ _ _ _ _ _)) (c.c_return n d f (list_option_c n d (bracket_free _ (stmt_primary _ f))))
  stmt_c n (g.resume d) f = placed (sym (eq.is_resume _ _ _ _ _ _)) (c.c_resume n d f (list_option_c n d (bracket_free _ (stmt_primary _ f))))
  stmt_c n g.reject f = placed (sym (eq.is_reject _ _ _)) (c.c_reject n f)
  stmt_c n g.retry f = placed (sym (eq.is_retry _ _ _)) (c.c_retry n f)
  stmt_c n g.continue f = placed (sym (eq.is_continue _ _ _)) (c.c_continue n f)

  pub locals_c : (n : ℕ) {ts rest : List Token} {x : List Local} (d : g.IsLocals ts x rest) → Leads ts x rest (sd.at_locals n d) (repeat (st.head_turn (nested n))) (repeat (st.head_turn (nested n)) [] ts)
  locals_c n g.no_locals = placed (sym (eq.is_no_locals _ _)) (stand _ [] (repeat (st.head_turn (nested n))))
  locals_c n (g.locals {all = all} d h) = placed (sym (eq.is_locals _ _ _ _ _ _ _ _ _)) (comp (locals_c n d) (placed (sym (first_none _)) (turn_leads (st.head_turn (nested n)) (head_eats n) all _ _ _ _ (local_c n all h))))

  local_c : (n : ℕ) (all : List Local) {ts rest : List Token} {x : Local} {p : Place} (d : g.IsLocal ts x (mark Semicolon p ∷ rest)) → Leads {X = Turned (List Local) (Head Local)} ts (Again (all ++ x ∷ [])) rest (sd.at_local n d) (λ y. pure y) (st.head_turn (nested n) all ts)
  local_c n all (g.local_of d h) = placed (sym (eq.is_local_of _ _ _ _ _ _ _ _ _)) (c.c_local n all d (plain_c n h refl))

  pub plain_c : (n : ℕ) {ts rest : List Token} {x : PlainItem} (d : g.IsPlain ts x rest) → Free more_plain rest → Leads ts x rest (sd.at_plain n d) (λ y. pure y) (st.plain (nested n) ts)
  plain_c n (g.type_is d) f = placed (sym (eq.is_type_is _ _ _ _ _ _ _)) (c.c_type_is n d f (lift_type n d (λ m. type_c m d (plain_type _ f))))
  plain_c n (g.variable d) f = placed (sym (eq.is_variable _ _ _ _ _)) (c.c_variable n d f (lift_type n d (λ m. type_c m d (plain_type _ f))))
  plain_c n (g.initial d h) f = placed (sym (eq.is_initial _ _ _ _ _ _ _ _ _)) (c.c_initial n d h f (lift_type n d (λ m. type_c m d refl)) (lift_expr n h (λ m. expr_c m h (plain_expr _ f))))
  plain_c n (g.constant d h) f = placed (sym (eq.is_constant _ _ _ _ _ _ _ _ _)) (c.c_constant n d h f (lift_type n d (λ m. type_c m d refl)) (lift_expr n h (λ m. expr_c m h (plain_expr _ f))))

  pub enabling_c : (n : ℕ) {ts rest : List Token} {x : Option (Placed (List Arm))} (d : g.IsEnabling ts x rest) → Free (finds (exactly (k.Word EnableWord))) rest → Leads ts x rest (sd.at_enabling n d) (λ y. pure y) (st.enabling (nested n) ts)
  enabling_c n g.no_enable f = placed (sym (eq.is_no_enable _ _)) (c.c_no_enable n f)
  enabling_c n (g.enable_one d) f = placed (sym (eq.is_enable_one _ _ _ _ _ _ _)) (c.c_enable_one n d f (arm_c n d refl))
  enabling_c n (g.enable_many d) f = placed (sym (eq.is_enable_many _ _ _ _ _ _ _ _ _)) (c.c_enable_many n d f (arm_list_c n d refl))

  pub body_c : (n : ℕ) {ts rest : List Token} {x : List Statement} (d : g.IsBody ts x rest) → Begins (among tails) rest → Leads ts x rest (sd.at_body n d) (λ y. pure y) (st.body (nested n) ts)
  body_c n g.no_stmts b = placed (sym (eq.is_no_stmts _ _)) (c.c_no_stmts n b)
  body_c n (g.open_stmts d) b = placed (sym (eq.is_open_stmts _ _ _ _ _)) (c.c_open_stmts n d b (stmts_c n d (stmt_free begins_stmt _ (fo.tail_ends _ b))))
  body_c n (g.closed_stmts d) b = placed (sym (eq.is_closed_stmts _ _ _ _ _ _)) (c.c_closed_stmts n d b (stmts_c n d refl))

  stmts_c : (n : ℕ) {ts rest : List Token} {x : List Statement} (d : g.IsStmts ts x rest) → Free more_stmt rest → Leads ts x rest (sd.at_stmts n d) (Stmts n) (st.stmts (nested n) None ts)
  stmts_c n (g.a_stmt d) f = placed (sym (eq.is_a_stmt _ _ _ _ _)) (c.c_a_stmt n d f (lift_stmt n d (λ m. stmt_c m d f)))
  stmts_c n (g.stmts d h) f = placed (sym (eq.is_stmts _ _ _ _ _ _ _ _ _)) (c.c_stmts n d h f (stmts_c n d refl) (lift_stmt n h (λ m. stmt_c m h f)))

  pub exit_part_c : (n : ℕ) (end : Kind) (r : Place) → among ends end ≡ true → {ts rest : List Token} {x : List Exit} (d : g.IsExitPart ts x (token end r ∷ rest)) → Leads ts x (token end r ∷ rest) (sd.at_exit_part n d) (λ y. pure y) (st.exit_part (nested n) ts)
  exit_part_c n end r tail g.no_exits = placed (sym (eq.is_no_exits _ _)) (via (exits_none n end r _ tail) (stand _ _ (λ y. pure y)))
  exit_part_c n end r tail (g.open_exits d) = placed (sym (eq.is_open_exits _ _ _ _ _ _)) (c.c_open_exits n end r tail (exits_c n d (end_stmt end (ends_tail end tail))))
  exit_part_c n end r tail (g.closed_exits d) = placed (sym (eq.is_closed_exits _ _ _ _ _ _ _)) (c.c_closed_exits n end r tail (exits_c n d refl))

  exits_c : (n : ℕ) {ts rest : List Token} {x : List Exit} (d : g.IsExits ts x rest) → Free more_stmt rest → Leads ts x rest (sd.at_exits n d) (Exits n) (st.exits (nested n) ts)
  exits_c n (g.an_exit d) f = placed (sym (eq.is_an_exit _ _ _ _ _)) (c.c_an_exit n d f (exit_c n d f))
  exits_c n (g.exits d h) f = placed (sym (eq.is_exits _ _ _ _ _ _ _ _ _)) (c.c_exits n d h f (exits_c n d refl) (exit_c n h f))

  exit_c : (n : ℕ) {ts rest : List Token} {x : Exit} (d : g.IsExit ts x rest) → Free more_stmt rest → Leads ts x rest (sd.at_exit n d) (λ y. pure y) (st.exit (nested n) ts)
  exit_c n (g.exit_of d h) f = placed (sym (eq.is_exit_of _ _ _ _ _ _ _ _ _)) (c.c_exit_of n d h f (lift_stmt n h (λ m. stmt_c m h f)))

  repeat_part_c : (n : ℕ) {ts rest : List Token} {x : List Repeat} {p : Place} (d : g.IsRepeatPart ts x (w.word EndloopWord p ∷ rest)) → Leads ts x (w.word EndloopWord p ∷ rest) (sd.at_repeat_part n d) (λ y. pure y) (st.repeat_part (nested n) ts)
  repeat_part_c n g.no_repeats = placed (sym (eq.is_no_repeats _ _)) (c.c_no_repeats n)
  repeat_part_c n (g.open_repeats d) = placed (sym (eq.is_open_repeats _ _ _ _ _ _)) (c.c_open_repeats n d (repeats_c n d refl))
  repeat_part_c n (g.closed_repeats d) = placed (sym (eq.is_closed_repeats _ _ _ _ _ _ _)) (c.c_closed_repeats n d (repeats_c n d refl))

  repeats_c : (n : ℕ) {ts rest : List Token} {x : List Repeat} (d : g.IsRepeats ts x rest) → Free more_stmt rest → Leads ts x rest (sd.at_repeats n d) (Repeats n) (st.repeats (nested n) ts)
  repeats_c n (g.a_repeat d) f = placed (sym (eq.is_a_repeat _ _ _ _ _)) (c.c_a_repeat n d f (repeat_c n d f))
  repeats_c n (g.repeats d h) f = placed (sym (eq.is_repeats _ _ _ _ _ _ _ _ _)) (c.c_repeats n d h f (repeats_c n d refl) (repeat_c n h f))

  repeat_c : (n : ℕ) {ts rest : List Token} {x : Repeat} (d : g.IsRepeat ts x rest) → Free more_stmt rest → Leads ts x rest (sd.at_repeat n d) (λ y. pure y) (st.an_end (nested n) ts)
  repeat_c n (g.repeat_of d h) f = placed (sym (eq.is_repeat_of _ _ _ _ _ _ _ _ _)) (c.c_repeat_of n d h f (lift_stmt n h (λ m. stmt_c m h f)))

  otherwise_c : (n : ℕ) {ts rest : List Token} {x : Option Statement} (d : g.IsOtherwise ts x rest) → Free more_stmt rest → Leads ts x rest (sd.at_otherwise n d) (λ y. pure y) (st.otherwise (nested n) ts)
  otherwise_c n g.no_otherwise f = placed (sym (eq.is_no_otherwise _ _)) (c.c_no_otherwise n f)
  otherwise_c n (g.otherwise d) f = placed (sym (eq.is_otherwise _ _ _ _ _ _)) (c.c_otherwise n d f (lift_stmt n d (λ m. stmt_c m d f)))

  case_list_c : (n : ℕ) {ts rest : List Token} {x : List Case} {p : Place} (d : g.IsCaseList ts x (w.word EndcaseWord p ∷ rest)) → Leads ts x (w.word EndcaseWord p ∷ rest) (sd.at_case_list n d) (λ y. pure y) (st.case_list (nested n) ts)
  case_list_c n g.no_cases = placed (sym (eq.is_no_cases _ _)) (c.c_no_cases n)
  case_list_c n (g.open_cases d) = placed (sym (eq.is_open_cases _ _ _ _ _)) (c.c_open_cases n d (cases_c n d refl))
  case_list_c n (g.closed_cases d) = placed (sym (eq.is_closed_cases _ _ _ _ _ _)) (c.c_closed_cases n d (cases_c n d refl))

  cases_c : (n : ℕ) {ts rest : List Token} {x : List Case} (d : g.IsCases ts x rest) → Free more_stmt rest → Leads ts x rest (sd.at_cases n d) (Cases n) (st.cases (nested n) ts)
  cases_c n (g.a_case d) f = placed (sym (eq.is_a_case _ _ _ _ _)) (c.c_a_case n d f (case_c n d f))
  cases_c n (g.cases d h) f = placed (sym (eq.is_cases _ _ _ _ _ _ _ _ _)) (c.c_cases n d h f (cases_c n d refl) (case_c n h f))

  case_c : (n : ℕ) {ts rest : List Token} {x : Case} (d : g.IsCase ts x rest) → Free more_stmt rest → Leads ts x rest (sd.at_case n d) (λ y. pure y) (st.case (nested n) ts)
  case_c n (g.case_of d h) f = placed (sym (eq.is_case_of _ _ _ _ _ _ _ _ _)) (c.c_case_of n d h f (tests_c n d refl) (lift_stmt n h (λ m. stmt_c m h f)))

  tests_c : (n : ℕ) {ts rest : List Token} {x : List TestTree} (d : g.IsTests ts x rest) → Free more_expr rest → Leads ts x rest (sd.at_tests n d) (Tests n) (st.case (nested n) ts)
  tests_c n (g.a_test d) f = placed (sym (eq.is_a_test _ _ _ _ _)) (c.c_a_test n d f (test_c n d f))
  tests_c n (g.tests d h) f = placed (sym (eq.is_tests _ _ _ _ _ _ _ _ _)) (c.c_tests n d h f (tests_c n d refl) (test_c n h f))

  test_c : (n : ℕ) {ts rest : List Token} {x : TestTree} (d : g.IsTest ts x rest) → Free more_expr rest → Leads ts x rest (sd.at_test n d) (λ y. pure y) (st.test (nested n) ts)
  test_c n (g.value d) f = placed (sym (eq.is_value _ _ _ _ _)) (c.c_value n d f (lift_expr n d (λ m. expr_c m d f)))
  test_c n (g.compared z1 e d) f = placed (sym (eq.is_compared _ _ _ _ _ _ _ _ _ _ _ _)) (c.c_compared n z1 e d f (sum_c n d (sum_free _ (rel_free _ f))))
  test_c n (g.inside z1 d) f = placed (sym (eq.is_inside _ _ _ _ _ _ _ _ _)) (c.c_inside n z1 d f (interval_c n d))

  control_c : (n : ℕ) {ts rest : List Token} {x : Control} {p : Place} (d : g.IsControl ts x (w.word DoWord p ∷ rest)) → Leads ts x (w.word DoWord p ∷ rest) (sd.at_control n d) (λ y. pure y) (st.control (nested n) ts)
  control_c n (g.controlled d h) = placed (sym (eq.is_controlled _ _ _ _ _ _ _ _)) (c.c_controlled n d h (count_c n d (condition_starts h)) (condition_c n h))

  count_c : (n : ℕ) {ts rest : List Token} {x : Option Count} (d : g.IsCount ts x rest) → Begins (among conditions) rest → Leads ts x rest (sd.at_count n d) (λ y. pure y) (st.count (nested n) ts)
  count_c n g.no_count b = placed (sym (eq.is_no_count _ _)) (c.c_no_count n b)
  count_c n (g.for z1 d) b = placed (sym (eq.is_for _ _ _ _ _ _ _ _ _ _ _)) (c.c_for n z1 d b (interval_c n d))
  count_c n (g.through d) b = placed (sym (eq.is_through _ _ _ _ _ _)) (c.c_through n d b (interval_c n d))

  condition_c : (n : ℕ) {ts rest : List Token} {x : Option Condition} {p : Place} (d : g.IsCondition ts x (w.word DoWord p ∷ rest)) → Leads ts x (w.word DoWord p ∷ rest) (sd.at_condition n d) (λ y. pure y) (st.condition (nested n) ts)
  condition_c n g.no_condition = placed (sym (eq.is_no_condition _ _)) (c.c_no_condition n)
  condition_c n (g.while d) = placed (sym (eq.is_while _ _ _ _ _ _)) (c.c_while n d (lift_expr n d (λ m. expr_c m d refl)))
  condition_c n (g.until d) = placed (sym (eq.is_until _ _ _ _ _ _)) (c.c_until n d (lift_expr n d (λ m. expr_c m d refl)))

  targets_c : (n : ℕ) {ts rest : List Token} {x : Entries Left} {p : Place} (d : g.IsTargets ts x (mark RightBracket p ∷ rest)) → Leads ts x (mark RightBracket p ∷ rest) (sd.at_targets n d) (λ y. pure y) (st.targets (nested n) ts)
  targets_c n g.no_targets = placed (sym (eq.is_no_targets _ _)) (c.c_no_targets n)
  targets_c n (g.targets d) = placed (sym (eq.is_targets _ _ _ _ _)) (c.c_targets n d (lefts_c n d refl))
  targets_c n (g.key_targets d) = placed (sym (eq.is_key_targets _ _ _ _ _)) (c.c_key_targets n d (key_lefts_c n d refl))

  lefts_c : (n : ℕ) {ts rest : List Token} {x : List Left} (d : g.IsLefts ts x rest) → Free (finds suffixing) rest → Leads ts x rest (sd.at_lefts n d) (Lefts n) (first_lefts n ts)
  lefts_c n (g.a_left d) f = placed (sym (eq.is_a_left _ _ _ _ _ _)) (c.c_a_left n d f (left_c n d))
  lefts_c n (g.lefts d h) f = placed (sym (eq.is_lefts _ _ _ _ _ _ _ _ _ _)) (c.c_lefts n d h f (lefts_c n d refl) (left_c n h))

  key_lefts_c : (n : ℕ) {ts rest : List Token} {x : List (Keyed Left)} (d : g.IsKeyLefts ts x rest) → Free (finds suffixing) rest → Leads ts x rest (sd.at_key_lefts n d) (KeyLefts n) (st.targets (nested n) ts)
  key_lefts_c n (g.key_left d) f = placed (sym (eq.is_key_left _ _ _ _ _ _ _ _)) (c.c_key_left n d f (left_c n d))
  key_lefts_c n (g.key_lefts d h) f = placed (sym (eq.is_key_lefts _ _ _ _ _ _ _ _ _ _ _ _)) (c.c_key_lefts n d h f (key_lefts_c n d refl) (left_c n h))
