-- The blocks of a sound construct are steady.
use Rattle.std.proofs.Common.{◌≡◌, refl, sym, ap, ◌∙◌, subst, ℕ, ◌+◌, ◌-◌, ◌≤◌, inl, inr, List, [], ◌∷◌, Bool, true, false, not, if◌then◌else◌, arith}
use Rattle.mesa_types.specs.declared.typed_parts.Home.{Home}
use Rattle.mesa_types.specs.Counts.{hidden, hidden_expr, hidden_exprs, hidden_interval, hidden_phrase, hidden_stmts, hidden_targets, hidden_tests, hidden_exits, hidden_condition, words_of, words_given, words_before, last_words}
use Rattle.mesa_types.specs.Nodes.{count_of}
use Rattle.mesa_types.specs.Operators.{differ}
use Rattle.mesa_types.specs.Plain.{kinds_of}
use Rattle.mesa_types.specs.Shapes.{words_in, words_in_all, one}
use Rattle.mesa_types.specs.Sound as sound
use Rattle.mesa_types.specs.Sound.{Scope, AllDiffer, a_word, a_long, TestsTake, CasesTake, taken, ExprIn, ExprsIn, WordsIn, SuffixesIn, OperationsIn, LongOperationsIn, IntervalIn, LongIntervalIn, PhraseIn, ArmsIn, StmtIn, StmtsIn, TargetsIn, CasesIn, TestsIn, ExitsIn, LoopIn, FinishIn, ConditionIn}
use Rattle.mesa_types.specs.Typed.{Kind, Texts, Ordinal, Longs, Record, Kinds, NoKinds, Expr, Number, LongNumber, Literal, Variable, FieldOf, LengthOf, ByteOf, Checked, Converted, Operate, OperateLong, Negate, NegateLong, Relate, RelateLong, Within, WithinLong, Not, AllOf, SomeOf, Construct, Call, Raise, Exprs, NoExprs, AndExpr, Suffixes, NoSuffix, Field, Index, Operations, NoOperation, Then, Interval, Between, Phrase, NoPhrase, Catch, Arms, NoArms, AndArm, Stmt, Null, Marked, Declare, DeclareAs, Assign, Extract, Perform, If, Select, SelectLong, Block, Repeat, For, Jump, ReturnWith, Resume, Reject, Retry, Continue, Stmts, NoStmts, AndStmt, Targets, NoTargets, AndTarget, AndConverted, Cases, Otherwise, AndCase, Tests, NoTests, IfRelated, IfWithin, IfRelatedLong, IfWithinLong, Exits, NoExits, AndExit, Loop, LoopOf, Finish, NoFinish, Finished, Condition, Always, While, Until}
use Rattle.mesa_types.proofs.Arranged.{arranged_words}
use Rattle.mesa_types.proofs.WordSizes.{sizes_agree}
use Rattle.code_forms.specs.declared.instruction.Instruction.TheVariants as i
use Rattle.code_forms.specs.Routine.{Routine}
use Rattle.code_rules.specs.CodeFor.{words_before_last}
use Rattle.code_rules.specs.Links.{call_code, raise_code}
use Rattle.code_rules.specs.Loops.{Counter, NoCounter, CountedIn, step_code}
use Rattle.code_rules.specs.Modules.{words_of_fields}
use Rattle.code_rules.specs.OwnCode.{field_code, check_code, conversion_code, index_code, comparison, long_comparison, relation_code, long_relation_code, operator_code, long_operator_code, arrange_code}
use Rattle.code_rules.specs.Reading.{Coded, scratch}
use Rattle.code_rules.specs.Slots.{load, load_within, fields_of, local_slot, sizes, zero_code}
use Rattle.code_rules.proofs.Depths.{own_code_keeps_words}
use Rattle.code_blocks.specs.Blocks as tree
use Rattle.code_blocks.specs.Blocks.{Labels, Here, Where, Does, Ends, Out, Rounds, ◌▹◌}
use Rattle.code_blocks.specs.Own.{left_of}
use Rattle.code_blocks.specs.Sizes.{depth_behind}
use Rattle.code_blocks.specs.Translation.{has_index, at_element, within_of, long_within_of, start_of, where_related, where_long_related, head_code, gives_next, past_else, past_cases, past_exits, enabled, is_last, if_last, a_case, is_endless, unless, forms, values, operands, bounds, operations, long_operations, path, caught_by, arm_blocks, block, blocks, targets, selected, cases, tests, exits, loop, condition, finish}
use Rattle.code_blocks.specs.Writing.{end_at}
use Rattle.code_blocks.proofs.ExtractRows.{HaveWords, check_left, none_taken_yet}
use Rattle.code_blocks.proofs.Fine.{Plain, fine_at, fine_both}
use Rattle.code_blocks.proofs.FineCode.{pop_fine, field_fine, check_fine, conversion_fine, index_fine, comparison_fine, long_comparison_fine, relation_fine, long_relation_fine, operator_fine, long_operator_fine, within_of_fine, long_within_of_fine, arrange_fine, start_of_fine, load_fine, load_within_fine, zero_fine, spread_fine}
use Rattle.code_blocks.proofs.Keeping.{selects_take, record_words, Holds, selects_held, selects_long, keeps}
use Rattle.code_blocks.proofs.StatementDepths.{pop_left, start_left, zero_left}
use Rattle.code_blocks.proofs.Steady.{HasOut, Steady, ArmsSteady}
use Rattle.code_blocks.proofs.SteadyParts.{word_behind, long_behind, past_else_rests, past_cases_rests, past_exits_rests, unless_rests, a_case_rests, head_rests, step_rests, gives_rests, stored_steady, related_rests, long_related_rests, within_rests, long_within_rests, PathsSteady, targets_steady}
use Rattle.code_blocks.proofs.SteadyRows.{Named, call_plain, raise_plain, at, turned_steady, turned_out, answer_steady, Rests, rest_both, rest_here, rest_out, rest_labels, rest_rounds, rest_enabled}
use Rattle.code_blocks.proofs.Values.{none, text_is, long_is, one_is, words_converted, makes_long, fields_fit, behind, own_left, comparison_left, long_comparison_left, arranged, value_depth, values_depth, bounds_depth, long_bounds_depth, path_depth, two_values, two_longs, jump_depth, operands_depth}

word_some : (ks : Kinds) → ks ≡ a_word → ks ≡ NoKinds → ⊥
unfolding a_word one
word_some ks e f = let g : a_word ≡ NoKinds = sym e ∙ f in cc

long_some : a_long ≡ NoKinds → ⊥
unfolding a_long one
long_some e = cc

one_some : (k : Kind) → one k ≡ NoKinds → ⊥
unfolding one
one_some k e = cc

module _ (U : Coded) (r : Routine) where
  -- the procedure's code may name what the scope names
  abbrev pub Names : Scope → Type 0
  Names Γ = Named r U.imports Γ.procedures Γ.signals Γ.imports

  -- Jumps by a value lead out to the end of a part.

  mutual
    unfolding ExprIn WordsIn count_of

    jump_out : (Γ : Scope) (e : Expr) (ks : Kinds) → ExprIn Γ e ks → (sense : Bool) (part z : ℕ) → HasOut ((forms U z e).jump sense part) part
    jump_out Γ (Number n) ks h sense part z = inr refl
    jump_out Γ (LongNumber n) ks h sense part z = inr refl
    jump_out Γ (Literal k) ks h sense part z = inr refl
    jump_out Γ (Variable v s words) ks h sense part z = inr refl
    jump_out Γ (FieldOf e parts) ks h sense part z = inr refl
    jump_out Γ (LengthOf e) ks h sense part z = inr refl
    jump_out Γ (ByteOf e index) ks h sense part z = inr refl
    jump_out Γ (Checked g e) ks h sense part z = inr refl
    jump_out Γ (Converted c e) ks h sense part z = inr refl
    jump_out Γ (Operate e os) ks h sense part z = inr refl
    jump_out Γ (OperateLong e os) ks h sense part z = inr refl
    jump_out Γ (Negate e) ks h sense part z = inr refl
    jump_out Γ (NegateLong e) ks h sense part z = inr refl
    jump_out Γ (Relate b o x y) ks h sense part z = inr (inr (inr refl))
    jump_out Γ (RelateLong b o x y) ks h sense part z = inr (inr (inr refl))
    jump_out Γ (Within bases e range) ks h sense part z = inr refl
    jump_out Γ (WithinLong bases e range) ks h sense part z = inr refl
    jump_out Γ (Not e) ks h sense part z = jump_out Γ e a_word h.0 (not sense) part z
    jump_out Γ (AllOf es) ks h sense part z = turned_out r sense (operands U z es false) part (operands_out Γ es h.1 h.0 false part z)
    jump_out Γ (SomeOf es) ks h sense part z = turned_out r (not sense) (operands U z es true) part (operands_out Γ es h.1 h.0 true part z)
    jump_out Γ (Construct places es) ks h sense part z = inr refl
    jump_out Γ (Call c places es words ph) ks h sense part z = inr refl
    jump_out Γ (Raise x places es words ph) ks h sense part z = inr refl

    operands_out : (Γ : Scope) (es : Exprs) → WordsIn Γ es → 2 ≤ count_of es → (sense : Bool) (part z : ℕ) → HasOut (operands U z es sense part) part
    operands_out Γ NoExprs h some sense part z = absurd (omega (arith, some))
    operands_out Γ (AndExpr e es) h some sense part z = inl (jump_out Γ e a_word h.0 sense part z)

  -- what gives no words may be a raise that does not go on; so it stands where there are none
  abbrev Value : Expr → Kinds → Type 0
  Value e ks = (z d : ℕ) (ends : List ℕ) → (ks ≡ NoKinds → d ≡ 0) → Steady r (forms U z e).value d ends

  -- a value, and the jump by it
  record Both (e : Expr) (ks : Kinds) : Type 0 where
    value : Value e ks
    jump : ks ≡ a_word → (sense : Bool) (part z d : ℕ) (ends : List ℕ) → end_at ends part ≡ d → Steady r ((forms U z e).jump sense part) d ends

  jump_by : (Γ : Scope) (e : Expr) (ks : Kinds) → ExprIn Γ e ks → Value e ks → ks ≡ a_word → (sense : Bool) (part z d : ℕ) (ends : List ℕ)
      → end_at ends part ≡ d → Steady r ((forms U z e).value ▹ Out (Where sense) part) d ends
  jump_by Γ e ks h v is sense part z d ends same =
      let w = word_behind U Γ e (subst (λ js. ExprIn Γ e js) is h) z d in
      (v z d ends (λ f. absurd (word_some ks is f)), (omega (arith, w), omega (arith, w, same)))

  variable_steady : (h : Home) (s : Suffixes) (words z d : ℕ) (ends : List ℕ) → Steady r (path U z s) (d + 1) ends → depth_behind (path U z s) (d + 1) ≡ d + 1
      → (b : Bool)
      → Steady r (if b then at_element s (path U z s ▹ Does (load_within U h words ∷ [])) else Does (load U h (fields_of s) words ∷ [])) d ends
  variable_steady h s words z d ends p e true =
      let start : d - 0 + 1 ≡ d + 1 = omega arith in (
        (omega arith, tt),
        (
          at r (path U z s) ends start p,
          fine_at (load_within U h words ∷ []) (behind (path U z s) start e) (load_within_fine U h words (d + 1) (omega arith)),
        ),
      )
  variable_steady h s words z d ends p e false = load_fine U h (fields_of s) words d

  -- an extractor: its value, then its targets
  extract_steady : (Γ : Scope) → HaveWords Γ → (ts : Targets) (e : Expr) (ks js : Kinds) → words_of e ≡ words_in_all ks → AllDiffer (taken ts)
      → ExprIn Γ e js → TargetsIn Γ ts ks → PathsSteady r U ts → (z : ℕ) (ends : List ℕ) → Steady r (forms U (z + hidden_targets ts) e).value 0 ends
      → Steady r ((forms U (z + hidden_targets ts) e).value ▹ targets U z (words_of e) [] ts) 0 ends
  extract_steady Γ g ts e ks js size_is differ h t paths z ends v =
      let value = (forms U (z + hidden_targets ts) e).value in (
        v,
        subst (λ n. Steady r (targets U z n [] ts) (depth_behind value 0) ends) (sym size_is)
            (at r (targets U z (words_in_all ks) [] ts) ends {n = 0 + (words_in_all ks - 0)}
            (value_depth U Γ e js h (z + hidden_targets ts) 0 ∙ omega (arith, size_is))
            (targets_steady r U Γ g ks ts t paths [] tt (none_taken_yet ts differ) z 0 ends)),
      )

  -- one case, then the others
  case_rest : (ts : Tests) (s : Stmt) (cs : Cases) (z x : ℕ) (ends : List ℕ) → Rests r (tests U z x ts) (0 ∷ 0 ∷ 0 ∷ ends)
      → Rests r (block U (z + hidden_tests ts) s) (0 ∷ 0 ∷ ends) → Rests r (cases U (z + (hidden_tests ts + hidden s)) x cs) (0 ∷ ends)
      → Rests r (a_case (tests U z x ts) (block U (z + hidden_tests ts) s) (past_cases cs 1) ▹ cases U (z + (hidden_tests ts + hidden s)) x cs) (0 ∷ ends)
  case_rest ts s cs z x ends t b more =
      let test = tests U z x ts in
      let yes = block U (z + hidden_tests ts) s in
      rest_both r (a_case test yes (past_cases cs 1)) (cases U (z + (hidden_tests ts + hidden s)) x cs) (0 ∷ ends)
      (a_case_rests r test yes (past_cases cs 1) (0 ∷ ends) t b (past_cases_rests r cs 1 (0 ∷ 0 ∷ ends) refl)) more

  mutual
    unfolding ExprIn ExprsIn WordsIn SuffixesIn OperationsIn LongOperationsIn IntervalIn LongIntervalIn PhraseIn ArmsIn StmtIn StmtsIn TargetsIn CasesIn TestsIn ExitsIn LoopIn FinishIn ConditionIn CasesTake TestsTake sound.in_arm sound.in_marked sound.in_labelled

    forms_steady : (Γ : Scope) → Names Γ → HaveWords Γ → (e : Expr) (ks : Kinds) → ExprIn Γ e ks → Both e ks
    forms_steady Γ t g (Number n) ks h =
        let v : Value (Number n) ks = λ z d ends safe. (omega arith, tt) in
        record { value = v; jump = jump_by Γ (Number n) ks h v }
    forms_steady Γ t g (LongNumber n) ks h =
        let v : Value (LongNumber n) ks = λ z d ends safe. (omega arith, (omega arith, tt)) in
        record { value = v; jump = jump_by Γ (LongNumber n) ks h v }
    forms_steady Γ t g (Literal k) ks h =
        let v : Value (Literal k) ks = λ z d ends safe. (omega arith, tt) in
        record { value = v; jump = jump_by Γ (Literal k) ks h v }
    forms_steady Γ t g (Variable x s words) ks h =
        let p = path_steady Γ t g s h.0 h.1 h.3 in
        let v : Value (Variable x s words) ks = λ z d ends safe.
        variable_steady x s words z d ends (p z d ends) (path_depth U Γ s h.0 h.1 h.3 z d) (has_index s) in
        record { value = v; jump = jump_by Γ (Variable x s words) ks h v }
    forms_steady Γ t g (FieldOf e parts) ks h =
        let f = forms_steady Γ t g e (one h.1) h.3 in
        let before = words_before_last parts in
        let last = last_words parts in
        let after = words_of e - (before + last) in
        let v : Value (FieldOf e parts) ks = λ z d ends safe. (
          f.value z d ends (λ y. absurd (one_some h.1 y)),
          fine_at (field_code before last after) {n = d + before + last + after}
              (value_depth U Γ e (one h.1) h.3 z d ∙ omega (arith, one_is Γ e h.1 h.3, fields_fit parts h.1 h.2 h.4)) (field_fine before last after d),
        ) in
        record { value = v; jump = jump_by Γ (FieldOf e parts) ks h v }
    forms_steady Γ t g (LengthOf e) ks h =
        let f = forms_steady Γ t g e (one Texts) h.0 in
        let v : Value (LengthOf e) ks = λ z d ends safe. (
          f.value z d ends (λ y. absurd (one_some Texts y)),
          (omega (arith, value_depth U Γ e (one Texts) h.0 z d, text_is Γ e h.0), tt),
        ) in
        record { value = v; jump = jump_by Γ (LengthOf e) ks h v }
    forms_steady Γ t g (ByteOf e index) ks h =
        let f = forms_steady Γ t g e (one Texts) h.0 in
        let n = forms_steady Γ t g index a_word h.1 in
        let v : Value (ByteOf e index) ks = λ z d ends safe.
        let y = z + hidden_expr e in
        let p : depth_behind (forms U z e).value d ≡ d + 2 = value_depth U Γ e (one Texts) h.0 z d ∙ ap (λ m. d + m) (text_is Γ e h.0) in (
          f.value z d ends (λ x. absurd (one_some Texts x)),
          (
            at r (forms U y index).value ends p (n.value y (d + 2) ends (λ x. absurd (word_some a_word refl x))),
            (omega (arith, behind (forms U y index).value p (word_behind U Γ index h.1 y (d + 2))), tt),
          ),
        ) in
        record { value = v; jump = jump_by Γ (ByteOf e index) ks h v }
    forms_steady Γ t g (Checked c e) ks h =
        let f = forms_steady Γ t g e a_word h.1 in
        let v : Value (Checked c e) ks = λ z d ends safe. (
          f.value z d ends (λ x. absurd (word_some a_word refl x)),
          check_fine c (depth_behind (forms U z e).value d) (omega (arith, word_behind U Γ e h.1 z d)),
        ) in
        record { value = v; jump = jump_by Γ (Checked c e) ks h v }
    forms_steady Γ t g (Converted c e) ks h =
        let f = forms_steady Γ t g e (one h.1) h.4 in
        let v : Value (Converted c e) ks = λ z d ends safe. (
          f.value z d ends (λ x. absurd (one_some h.1 x)),
          conversion_fine c (depth_behind (forms U z e).value d)
              (omega (arith, value_depth U Γ e (one h.1) h.4 z d, one_is Γ e h.1 h.4, (words_converted c h.1 h.2 h.3).0)),
        ) in
        record { value = v; jump = jump_by Γ (Converted c e) ks h v }
    forms_steady Γ t g (Operate e os) ks h =
        let f = forms_steady Γ t g e a_word h.0 in
        let run = run_steady Γ t g os h.1 in
        let v : Value (Operate e os) ks = λ z d ends safe. (
          f.value z d ends (λ x. absurd (word_some a_word refl x)),
          at r (operations U (z + hidden_expr e) os) ends (word_behind U Γ e h.0 z d) (run (z + hidden_expr e) d ends),
        ) in
        record { value = v; jump = jump_by Γ (Operate e os) ks h v }
    forms_steady Γ t g (OperateLong e os) ks h =
        let f = forms_steady Γ t g e a_long h.0 in
        let run = long_run_steady Γ t g os h.1 in
        let v : Value (OperateLong e os) ks = λ z d ends safe. (
          f.value z d ends (λ x. absurd (long_some x)),
          at r (long_operations U (z + hidden_expr e) os) ends (long_behind U Γ e h.0 z d) (run (z + hidden_expr e) d ends),
        ) in
        record { value = v; jump = jump_by Γ (OperateLong e os) ks h v }
    forms_steady Γ t g (NegateLong e) ks h =
        let f = forms_steady Γ t g e a_long h.0 in
        let v : Value (NegateLong e) ks = λ z d ends safe. (
          f.value z d ends (λ x. absurd (long_some x)),
          (omega (arith, long_behind U Γ e h.0 z d), tt),
        ) in
        record { value = v; jump = jump_by Γ (NegateLong e) ks h v }
    forms_steady Γ t g (Negate e) ks h =
        let f = forms_steady Γ t g e a_word h.0 in
        let v : Value (Negate e) ks = λ z d ends safe. (
          f.value z d ends (λ x. absurd (word_some a_word refl x)),
          (omega (arith, word_behind U Γ e h.0 z d), tt),
        ) in
        record { value = v; jump = jump_by Γ (Negate e) ks h v }
    forms_steady Γ t g (Relate b o x y) ks h =
        let f = forms_steady Γ t g x a_word h.0 in
        let n = forms_steady Γ t g y a_word h.1 in
        record {
          value = λ z d ends safe. (
            f.value z d ends (λ q. absurd (word_some a_word refl q)),
            (
              at r (forms U (z + hidden_expr x) y).value ends (word_behind U Γ x h.0 z d)
                  (n.value (z + hidden_expr x) (d + 1) ends (λ q. absurd (word_some a_word refl q))),
              fine_at (relation_code b o) (two_values U Γ x y h.0 h.1 z d) (relation_fine b o d),
            ),
          );
          jump = λ is sense part z d ends same.
              let both = two_values U Γ x y h.0 h.1 z d in
              let left = ap (left_of (comparison b o)) both ∙ comparison_left U b o d in (
                f.value z d ends (λ q. absurd (word_some a_word refl q)),
                (
                  at r (forms U (z + hidden_expr x) y).value ends (word_behind U Γ x h.0 z d)
                      (n.value (z + hidden_expr x) (d + 1) ends (λ q. absurd (word_some a_word refl q))),
                  (fine_at (comparison b o) both (comparison_fine b o d), (omega (arith, left), omega (arith, left, same))),
                ),
              );
        }
    forms_steady Γ t g (Within bases e range) ks h =
        let f = forms_steady Γ t g e a_word h.0 in
        let s = bounds_steady Γ t g range h.1 in
        let v : Value (Within bases e range) ks = λ z d ends safe.
        let y = z + hidden_expr e in
        let first = word_behind U Γ e h.0 z d in (
          f.value z d ends (λ q. absurd (word_some a_word refl q)),
          (
            at r (bounds U y range) ends first (s y (d + 1) ends),
            fine_at (within_of (scratch U) bases range) {n = d + 3} (behind (bounds U y range) first (bounds_depth U Γ range h.1 y (d + 1)) ∙ omega arith)
                (within_of_fine (scratch U) bases range d),
          ),
        ) in
        record { value = v; jump = jump_by Γ (Within bases e range) ks h v }
    forms_steady Γ t g (RelateLong b o x y) ks h =
        let f = forms_steady Γ t g x a_long h.0 in
        let n = forms_steady Γ t g y a_long h.1 in
        record {
          value = λ z d ends safe. (
            f.value z d ends (λ q. absurd (long_some q)),
            (
              at r (forms U (z + hidden_expr x) y).value ends (long_behind U Γ x h.0 z d)
                  (n.value (z + hidden_expr x) (d + 2) ends (λ q. absurd (long_some q))),
              fine_at (long_relation_code b o) (two_longs U Γ x y h.0 h.1 z d) (long_relation_fine b o d),
            ),
          );
          jump = λ is sense part z d ends same.
              let both = two_longs U Γ x y h.0 h.1 z d in
              let left = ap (left_of (long_comparison b o)) both ∙ long_comparison_left U b o d in (
                f.value z d ends (λ q. absurd (long_some q)),
                (
                  at r (forms U (z + hidden_expr x) y).value ends (long_behind U Γ x h.0 z d)
                      (n.value (z + hidden_expr x) (d + 2) ends (λ q. absurd (long_some q))),
                  (fine_at (long_comparison b o) both (long_comparison_fine b o d), (omega (arith, left), omega (arith, left, same))),
                ),
              );
        }
    forms_steady Γ t g (WithinLong bases e range) ks h =
        let f = forms_steady Γ t g e a_long h.0 in
        let s = long_bounds_steady Γ t g range h.1 in
        let v : Value (WithinLong bases e range) ks = λ z d ends safe.
        let y = z + hidden_expr e in
        let first = long_behind U Γ e h.0 z d in (
          f.value z d ends (λ q. absurd (long_some q)),
          (
            at r (bounds U y range) ends first (s y (d + 2) ends),
            fine_at (long_within_of (scratch U) bases range) {n = d + 6}
                (behind (bounds U y range) first (long_bounds_depth U Γ range h.1 y (d + 2)) ∙ omega arith) (long_within_of_fine (scratch U) bases range d),
          ),
        ) in
        record { value = v; jump = jump_by Γ (WithinLong bases e range) ks h v }
    forms_steady Γ t g (Not e) ks h =
        let f = forms_steady Γ t g e a_word h.0 in
        record {
          value = λ z d ends safe. (f.value z d ends (λ q. absurd (word_some a_word refl q)), (omega (arith, word_behind U Γ e h.0 z d), tt));
          jump = λ is sense part z d ends same. f.jump refl (not sense) part z d ends same;
        }
    forms_steady Γ t g (AllOf es) ks h =
        let s = operands_steady Γ t g es h.1 in
        record {
          value = λ z d ends safe. answer_steady r (operands U z es false 0) 1 0 d ends (s false 0 z d (d ∷ (d + 1) ∷ ends) refl) (operands_out Γ es h.1 h.0 false 0 z)
              (operands_depth U Γ es h.1 false 0 z d);
          jump = λ is sense part z d ends same. turned_steady r sense (operands U z es false) part d ends same (λ p ns e. s false p z d ns e)
              (operands_out Γ es h.1 h.0 false 0 z) (operands_depth U Γ es h.1 false 0 z d);
        }
    forms_steady Γ t g (SomeOf es) ks h =
        let s = operands_steady Γ t g es h.1 in
        record {
          value = λ z d ends safe. answer_steady r (operands U z es true 0) 0 1 d ends (s true 0 z d (d ∷ (d + 1) ∷ ends) refl) (operands_out Γ es h.1 h.0 true 0 z)
              (operands_depth U Γ es h.1 true 0 z d);
          jump = λ is sense part z d ends same. turned_steady r (not sense) (operands U z es true) part d ends same (λ p ns e. s true p z d ns e)
              (operands_out Γ es h.1 h.0 true 0 z) (operands_depth U Γ es h.1 true 0 z d);
        }
    forms_steady Γ t g (Construct places es) ks h =
        let s = values_steady Γ t g es h.1 h.5 in
        let v : Value (Construct places es) ks = λ z d ends safe.
        (s z d ends, arrange_fine places es (depth_behind (values U z es) d) (omega (arith, values_depth U Γ es h.1 h.5 z d))) in
        record { value = v; jump = jump_by Γ (Construct places es) ks h v }
    forms_steady Γ t g (Call c places es words ph) ks h =
        let s = values_steady Γ t g es h.1 h.3 in
        let a = phrase_steady Γ t g ph h.7 in
        let x = call_code U.imports c in
        let given : words_given es ≡ words_of_fields (h.0).takes = sizes_agree.of_values Γ es h.1 h.3 ∙ arranged_words places h.1 (kinds_of (h.0).takes) h.4 in
        let got : words ≡ words_of_fields (h.0).gives = h.6 ∙ ap words_in_all h.5 in
        let v : Value (Call c places es words ph) ks = λ z d ends safe.
        let left = values_depth U Γ es h.1 h.3 z d in
        let n = left_of (arrange_code places (sizes es)) (depth_behind (values U z es) d) in
        let there : n ≡ d + words_given es = arranged U places es (depth_behind (values U z es) d) d left in (
          s z d ends,
          (
            arrange_fine places es (depth_behind (values U z es) d) (omega (arith, left)),
            (
              subst (λ m. Plain r x n (n - m + words)) (sym given)
                  (subst (λ m. Plain r x n (n - words_of_fields (h.0).takes + m)) (sym got)
                  (call_plain r U.imports Γ t c h.0 n h.2 (omega (arith, there, given)))),
              a (z + hidden_exprs es),
            ),
          ),
        ) in
        record { value = v; jump = jump_by Γ (Call c places es words ph) ks h v }
    forms_steady Γ t g (Raise c places es words ph) ks h =
        let s = values_steady Γ t g es h.1 h.3 in
        let a = phrase_steady Γ t g ph h.6 in
        let x = raise_code U.imports c in
        let given : words_given es ≡ words_in_all h.0 = sizes_agree.of_values Γ es h.1 h.3 ∙ arranged_words places h.1 h.0 h.4 in
        let v : Value (Raise c places es words ph) ks = λ z d ends safe.
        let left = values_depth U Γ es h.1 h.3 z d in
        let n = left_of (arrange_code places (sizes es)) (depth_behind (values U z es) d) in
        let there : n ≡ d + words_given es = arranged U places es (depth_behind (values U z es) d) d left in (
          s z d ends,
          (
            arrange_fine places es (depth_behind (values U z es) d) (omega (arith, left)),
            (
              subst (λ m. Plain r x n (n - m + words)) (sym given)
                  (subst (λ m. Plain r x n (n - words_in_all h.0 + m)) (sym h.5)
                  (raise_plain r U.imports Γ t c h.0 ks n d h.2 safe (there ∙ ap (λ m. d + m) given))),
              a (z + hidden_exprs es),
            ),
          ),
        ) in
        record { value = v; jump = jump_by Γ (Raise c places es words ph) ks h v }

    values_steady : (Γ : Scope) → Names Γ → HaveWords Γ → (es : Exprs) (ks : Kinds) → ExprsIn Γ es ks
        → (z d : ℕ) (ends : List ℕ) → Steady r (values U z es) d ends
    values_steady Γ t g NoExprs ks h = λ z d ends. tt
    values_steady Γ t g (AndExpr e es) ks h =
        let f = forms_steady Γ t g e (one h.0) h.2 in
        let s = values_steady Γ t g es h.1 h.3 in
        λ z d ends. (
          f.value z d ends (λ x. absurd (one_some h.0 x)),
          at r (values U (z + hidden_expr e) es) ends (value_depth U Γ e (one h.0) h.2 z d) (s (z + hidden_expr e) (d + words_of e) ends),
        )

    operands_steady : (Γ : Scope) → Names Γ → HaveWords Γ → (es : Exprs) → WordsIn Γ es
        → (sense : Bool) (part z d : ℕ) (ends : List ℕ) → end_at ends part ≡ d → Steady r (operands U z es sense part) d ends
    operands_steady Γ t g NoExprs h = λ sense part z d ends same. tt
    operands_steady Γ t g (AndExpr e es) h =
        let f = forms_steady Γ t g e a_word h.0 in
        let s = operands_steady Γ t g es h.1 in
        λ sense part z d ends same. (
          f.jump refl sense part z d ends same,
          at r (operands U (z + hidden_expr e) es sense part) ends (jump_depth U Γ e h.0 sense part z d) (s sense part (z + hidden_expr e) d ends same),
        )

    bounds_steady : (Γ : Scope) → Names Γ → HaveWords Γ → (range : Interval) → IntervalIn Γ range
        → (z d : ℕ) (ends : List ℕ) → Steady r (bounds U z range) d ends
    bounds_steady Γ t g (Between x p y q) h =
        let f = forms_steady Γ t g x a_word h.0 in
        let n = forms_steady Γ t g y a_word h.1 in
        λ z d ends. (
          f.value z d ends (λ e. absurd (word_some a_word refl e)),
          at r (forms U (z + hidden_expr x) y).value ends (word_behind U Γ x h.0 z d)
              (n.value (z + hidden_expr x) (d + 1) ends (λ e. absurd (word_some a_word refl e))),
        )

    long_bounds_steady : (Γ : Scope) → Names Γ → HaveWords Γ → (range : Interval) → LongIntervalIn Γ range
        → (z d : ℕ) (ends : List ℕ) → Steady r (bounds U z range) d ends
    long_bounds_steady Γ t g (Between x p y q) h =
        let f = forms_steady Γ t g x a_long h.0 in
        let n = forms_steady Γ t g y a_long h.1 in
        λ z d ends. (
          f.value z d ends (λ e. absurd (long_some e)),
          at r (forms U (z + hidden_expr x) y).value ends (long_behind U Γ x h.0 z d)
              (n.value (z + hidden_expr x) (d + 2) ends (λ e. absurd (long_some e))),
        )

    long_run_steady : (Γ : Scope) → Names Γ → HaveWords Γ → (os : Operations) → LongOperationsIn Γ os
        → (z d : ℕ) (ends : List ℕ) → Steady r (long_operations U z os) (d + 2) ends
    long_run_steady Γ t g NoOperation h = λ z d ends. tt
    long_run_steady Γ t g (Then c o e os) h =
        let f = forms_steady Γ t g e a_long h.2 in
        let s = long_run_steady Γ t g os h.3 in
        λ z d ends.
        let w : depth_behind (forms U z e).value (d + 2) ≡ d + 4 = long_behind U Γ e h.2 z (d + 2) ∙ omega arith in (
          f.value z (d + 2) ends (λ x. absurd (long_some x)),
          (
            fine_at (long_operator_code o) w (long_operator_fine o d),
            at r (long_operations U (z + hidden_expr e) os) ends (own_left (long_operator_code o) w (own_code_keeps_words.long_operator none o d))
                (s (z + hidden_expr e) d ends),
          ),
        )

    run_steady : (Γ : Scope) → Names Γ → HaveWords Γ → (os : Operations) → OperationsIn Γ os
        → (z d : ℕ) (ends : List ℕ) → Steady r (operations U z os) (d + 1) ends
    run_steady Γ t g NoOperation h = λ z d ends. tt
    run_steady Γ t g (Then c o e os) h =
        let f = forms_steady Γ t g e a_word h.1 in
        let s = run_steady Γ t g os h.2 in
        λ z d ends.
        let p : left_of (check_code c) (d + 1) ≡ d + 1 = check_left c (d + 1) (omega arith) in
        let w : depth_behind (forms U z e).value (left_of (check_code c) (d + 1)) ≡ d + 2 =
        behind (forms U z e).value p (word_behind U Γ e h.1 z (d + 1) ∙ omega arith) in (
          check_fine c (d + 1) (omega arith),
          (
            at r (forms U z e).value ends p (f.value z (d + 1) ends (λ x. absurd (word_some a_word refl x))),
            (
              fine_at (operator_code (scratch U) o) w (operator_fine (scratch U) o d),
              at r (operations U (z + hidden_expr e) os) ends (own_left (operator_code (scratch U) o) w (own_code_keeps_words.operator none (scratch U) o d))
                  (s (z + hidden_expr e) d ends),
            ),
          ),
        )

    path_steady : (Γ : Scope) → Names Γ → HaveWords Γ → (s : Suffixes) (j k : Kind) → SuffixesIn Γ s j k
        → (z d : ℕ) (ends : List ℕ) → Steady r (path U z s) (d + 1) ends
    path_steady Γ t g NoSuffix j k h = λ z d ends. tt
    path_steady Γ t g (Field n offset s) j k h = path_steady Γ t g s h.1 k h.4
    path_steady Γ t g (Index c first n words e s) j k h =
        let f = forms_steady Γ t g e a_word h.6 in
        let p = path_steady Γ t g s h.0 k h.7 in
        λ z d ends.
        let w : depth_behind (forms U z e).value (d + 1) ≡ d + 2 = word_behind U Γ e h.6 z (d + 1) ∙ omega arith in (
          f.value z (d + 1) ends (λ x. absurd (word_some a_word refl x)),
          (
            fine_at (index_code c first n words) w (index_fine c first n words d),
            at r (path U (z + hidden_expr e) s) ends (own_left (index_code c first n words) w (own_code_keeps_words.index none c first n words d))
                (p (z + hidden_expr e) d ends),
          ),
        )

    phrase_steady : (Γ : Scope) → Names Γ → HaveWords Γ → (ph : Phrase) → PhraseIn Γ ph → (z : ℕ)
        → ArmsSteady r (caught_by U z ph)
    phrase_steady Γ t g NoPhrase h = λ z. tt
    phrase_steady Γ t g (Catch n arms) h = arms_steady Γ t g n arms h.3

    arms_steady : (Γ : Scope) → Names Γ → HaveWords Γ → (n : ℕ) (arms : Arms) → ArmsIn Γ n arms → (z : ℕ)
        → ArmsSteady r (arm_blocks U z arms)
    arms_steady Γ t g n NoArms h = λ z. tt
    arms_steady Γ t g n (AndArm labels first count s arms) h =
        let b = rests (sound.in_arm n labels Γ) t g s h.5 in
        let a = arms_steady Γ t g n arms h.6 in
        λ z. ((b z []).0, (b z []).1, a (z + hidden s))

    pub rests : (Γ : Scope) → Names Γ → HaveWords Γ → (s : Stmt) → StmtIn Γ s → (z : ℕ) (ends : List ℕ)
        → Rests r (block U z s) ends
    rests Γ t g Null h = λ z ends. (tt, refl)
    rests Γ t g (Marked n s) h =
        let x = rests (sound.in_marked n Γ) t g s h.1 in
        λ z ends. ((refl, (x z ends).0, (x z ends).1), refl)
    rests Γ t g (Declare hs k) h = λ z ends. (zero_fine U hs (words_in k) 0, keeps U Γ g (Declare hs k) h z 0)
    rests Γ t g (DeclareAs hs k e) h =
        let f = forms_steady Γ t g e (one k) h.3 in
        λ z ends.
        let zeros = zero_code U hs (words_in k) in
        let cleared = zero_left U hs (words_in k) 0 in
        let value = (forms U z e).value in
        let left = behind value cleared (value_depth U Γ e (one k) h.3 z 0) in (
          (
            zero_fine U hs (words_in k) 0,
            (
              at r value ends cleared (f.value z 0 ends (λ x. refl)),
              spread_fine U hs (words_in k) (depth_behind value (left_of zeros 0)) (omega (arith, left, one_is Γ e k h.3)),
            ),
          ),
          keeps U Γ g (DeclareAs hs k e) h z 0,
        )
    rests Γ t g (Assign v s e) h =
        let f = forms_steady Γ t g e (one h.2) h.5 in
        let p = path_steady Γ t g s h.1 h.2 h.4 in
        λ z ends. (
          stored_steady r U v s e z ends (at r (path U z s) ends {n = 0 + 1} (omega arith) (p z 0 ends))
              (behind (path U z s) {n = 0 + 1} (omega arith) (path_depth U Γ s h.1 h.2 h.4 z 0) ∙ omega arith)
              (λ y d. f.value y d ends (λ x. absurd (one_some h.2 x))) (λ y d. value_depth U Γ e (one h.2) h.5 y d) (has_index s),
          keeps U Γ g (Assign v s e) h z 0,
        )
    rests Γ t g (Extract true ts e) h =
        let f = forms_steady Γ t g e (one (Record h.2)) h.3 in
        let ps = paths_steady Γ t g ts h.2 h.4 in
        λ z ends. (
          extract_steady Γ g ts e h.2 (one (Record h.2)) (record_words U Γ e h.2 h.3) h.1 h.3 h.4 ps z ends
              (f.value (z + hidden_targets ts) 0 ends (λ x. refl)),
          keeps U Γ g (Extract true ts e) h z 0,
        )
    rests Γ t g (Extract false ts e) h =
        let f = forms_steady Γ t g e h.3 h.4 in
        let ps = paths_steady Γ t g ts h.3 h.5 in
        λ z ends. (
          extract_steady Γ g ts e h.3 h.3 (sizes_agree.of_expression Γ e h.3 h.4) h.1 h.4 h.5 ps z ends
              (f.value (z + hidden_targets ts) 0 ends (λ x. refl)),
          keeps U Γ g (Extract false ts e) h z 0,
        )
    rests Γ t g (Perform e) h =
        let f = forms_steady Γ t g e h.2 h.3 in
        λ z ends. (
          (
            f.value z 0 ends (λ x. refl),
            pop_fine (words_of e) (depth_behind (forms U z e).value 0) (omega (arith, value_depth U Γ e h.2 h.3 z 0)),
          ),
          keeps U Γ g (Perform e) h z 0,
        )
    rests Γ t g (If e s n) h =
        let f = forms_steady Γ t g e a_word h.1 in
        let x = rests Γ t g s h.2 in
        let y = rests Γ t g n h.3 in
        λ z ends.
        let jump = (forms U z e).jump false 0 in
        let yes = block U (z + hidden_expr e) s in
        let other = block U (z + (hidden_expr e + hidden s)) n in
        let two = 0 ∷ 0 ∷ ends in
        let first = jump ▹ yes ▹ past_else n 1 in
        rest_here r (Ends (Here 0) first ▹ other) ends
        (rest_both r (Ends (Here 0) first) other (0 ∷ ends)
        (rest_here r first (0 ∷ ends)
        (rest_both r jump (yes ▹ past_else n 1) two (f.jump refl false 0 z 0 two refl, jump_depth U Γ e h.1 false 0 z 0)
        (rest_both r yes (past_else n 1) two (x (z + hidden_expr e) two) (past_else_rests r n 1 two refl))))
        (y (z + (hidden_expr e + hidden s)) (0 ∷ ends)))
    rests Γ t g (Select e cs) h =
        let f = forms_steady Γ t g e (one h.0) h.2 in
        let x = selected_rests Γ t g 1 (words_of e) Ordinal cs (selects_held U Γ e h.0 cs h.2 h.3) (selects_take h.0 cs h.3) h.4 in
        λ z ends. (
          (
            f.value (z + 1) 0 ends (λ y. refl),
            at r (selected U (z + (1 + hidden_expr e)) z 1 (words_of e) cs) ends (value_depth U Γ e (one h.0) h.2 (z + 1) 0)
                (x (z + (1 + hidden_expr e)) z ends),
          ),
          keeps U Γ g (Select e cs) h z 0,
        )
    rests Γ t g (SelectLong e cs) h =
        let f = forms_steady Γ t g e a_long h.1 in
        let x = selected_rests Γ t g 2 (words_of e) Longs cs (selects_long U cs (long_is Γ e h.1)) h.2 h.3 in
        λ z ends. (
          (
            f.value (z + 2) 0 ends (λ y. refl),
            at r (selected U (z + (2 + hidden_expr e)) z 2 (words_of e) cs) ends (value_depth U Γ e a_long h.1 (z + 2) 0)
                (x (z + (2 + hidden_expr e)) z ends),
          ),
          keeps U Γ g (SelectLong e cs) h z 0,
        )
    rests Γ t g (Block ph ss es) h =
        let Γ1 = sound.in_labelled h.0 es Γ in
        let a = phrase_steady Γ1 t g ph h.2 in
        let x = all_rest Γ1 t g ss h.3 in
        let y = exits_rest Γ t g es h.4 in
        λ z ends.
        let body = blocks U (z + hidden_phrase ph) ss in
        let arms = caught_by U z ph in
        let n = z + (hidden_phrase ph + hidden_stmts ss) in
        let before = enabled arms body ▹ past_exits es 0 in
        rest_here r (exits U n es before) ends
        (y n before ends
        (rest_both r (enabled arms body) (past_exits es 0) (0 ∷ ends) (rest_enabled r arms body (0 ∷ ends) (a z) (x (z + hidden_phrase ph) (0 ∷ ends)))
        (past_exits_rests r es 0 (0 ∷ ends) refl)))
    rests Γ t g (Repeat c l) h = loop_rests Γ t g NoCounter l h.2
    rests Γ t g (For v down base range l) h =
        let s = bounds_steady Γ t g range h.2 in
        let x = λ (z : ℕ). loop_rests Γ t g (CountedIn z v down) l h.3 in
        λ z ends.
        let n = z + (3 + hidden_interval range) in
        let count = CountedIn z v down in
        let two = bounds_depth U Γ range h.2 (z + 3) 0 in (
          (
            s (z + 3) 0 ends,
            (
              fine_at (start_of z base range) two (start_of_fine z base range 0),
              at r (loop U n count l) ends (ap (left_of (start_of z base range)) two ∙ start_left z base range 0) (x z n ends).0,
            ),
          ),
          keeps U Γ g (For v down base range l) h z 0,
        )
    rests Γ t g (Jump arms goal) h = λ z ends. (refl, refl)
    rests Γ t g (ReturnWith arms first places es) h =
        let s = values_steady Γ t g es h.2 h.5 in
        λ z ends.
        let d = depth_behind (values U z es) 0 in
        let left = values_depth U Γ es h.2 h.5 z 0 in
        let kept = keeps U Γ g (ReturnWith arms first places es) h z 0 in (
          (
            s z 0 ends,
            (
              fine_both (arrange_code places (sizes es)) (i.StoreL (local_slot U first) (words_given es) ∷ []) d
                  (arrange_fine places es d (omega (arith, left))) (omega (arith, arranged U places es d 0 left), tt),
              kept,
            ),
          ),
          kept,
        )
    rests Γ t g (Resume places es) h =
        let s = values_steady Γ t g es h.1 h.5 in
        λ z ends.
        let d = depth_behind (values U z es) 0 in
        let left = values_depth U Γ es h.1 h.5 z 0 in (
          (
            s z 0 ends,
            fine_both (arrange_code places (sizes es)) (i.Resume (words_given es) ∷ []) d (arrange_fine places es d (omega (arith, left)))
                (omega (arith, arranged U places es d 0 left), tt),
          ),
          keeps U Γ g (Resume places es) h z 0,
        )
    rests Γ t g Reject h = λ z ends. ((refl, tt), omega arith)
    rests Γ t g (Retry n) h = λ z ends. (refl, refl)
    rests Γ t g (Continue n) h = λ z ends. (refl, refl)

    all_rest : (Γ : Scope) → Names Γ → HaveWords Γ → (ss : Stmts) → StmtsIn Γ ss → (z : ℕ) (ends : List ℕ)
        → Rests r (blocks U z ss) ends
    all_rest Γ t g NoStmts h = λ z ends. (tt, refl)
    all_rest Γ t g (AndStmt s ss) h =
        let x = rests Γ t g s h.0 in
        let y = all_rest Γ t g ss h.1 in
        λ z ends. rest_both r (block U z s) (blocks U (z + hidden s) ss) ends (x z ends) (y (z + hidden s) ends)

    paths_steady : (Γ : Scope) → Names Γ → HaveWords Γ → (ts : Targets) (ks : Kinds) → TargetsIn Γ ts ks
        → PathsSteady r U ts
    paths_steady Γ t g NoTargets ks h = tt
    paths_steady Γ t g (AndTarget p v s c ts) ks h = (path_steady Γ t g s h.1 h.0 h.5, paths_steady Γ t g ts ks h.7)
    paths_steady Γ t g (AndConverted p v s c ts) ks h = (path_steady Γ t g s h.2 h.1 h.8, paths_steady Γ t g ts ks h.9)

    selected_rests : (Γ : Scope) → Names Γ → HaveWords Γ → (held words : ℕ) (k : Kind) (cs : Cases) → Holds U held words cs
        → CasesTake k cs → CasesIn Γ cs → (z x : ℕ) (ends : List ℕ) → Steady r (selected U z x held words cs) (0 + words) ends
    selected_rests Γ t g held words k (Otherwise s) is take c =
        let y = rests Γ t g s c in
        λ z x ends. (pop_fine words (0 + words) (omega arith), at r (block U z s) ends (pop_left words 0) (y z ends).0)
    selected_rests Γ t g held words k (AndCase ts s cs) is take c =
        let y = tests_rest Γ t g k ts take.0 c.1 in
        let b = rests Γ t g s c.2 in
        let more = cases_rest Γ t g k cs take.1 c.3 in
        λ z x ends.
        let inner = a_case (tests U z x ts) (block U (z + hidden_tests ts) s) (past_cases cs 1) ▹ cases U (z + (hidden_tests ts + hidden s)) x cs in (
          (omega (arith, is), tt),
          at r (Ends (Here 0) inner) ends (omega (arith, is))
              (rest_here r inner ends (case_rest ts s cs z x ends (y z x (0 ∷ ends)) (b (z + hidden_tests ts) (0 ∷ 0 ∷ ends)) (more (z + (hidden_tests ts + hidden s)) x ends))).0,
        )

    cases_rest : (Γ : Scope) → Names Γ → HaveWords Γ → (k : Kind) (cs : Cases) → CasesTake k cs → CasesIn Γ cs → (z x : ℕ) (ends : List ℕ)
        → Rests r (cases U z x cs) (0 ∷ ends)
    cases_rest Γ t g k (Otherwise s) take h =
        let y = rests Γ t g s h in
        λ z x ends. y z (0 ∷ ends)
    cases_rest Γ t g k (AndCase ts s cs) take h =
        let y = tests_rest Γ t g k ts take.0 h.1 in
        let b = rests Γ t g s h.2 in
        let more = cases_rest Γ t g k cs take.1 h.3 in
        λ z x ends.
        case_rest ts s cs z x ends (y z x (0 ∷ ends)) (b (z + hidden_tests ts) (0 ∷ 0 ∷ ends)) (more (z + (hidden_tests ts + hidden s)) x ends)

    tests_rest : (Γ : Scope) → Names Γ → HaveWords Γ → (k : Kind) (ts : Tests) → TestsTake k ts → TestsIn Γ ts → (z x : ℕ) (ends : List ℕ)
        → Rests r (tests U z x ts) (0 ∷ 0 ∷ ends)
    tests_rest Γ t g k NoTests take h = λ z x ends. rest_out r 1 (0 ∷ 0 ∷ ends) refl
    tests_rest Γ t g k (IfRelated c base o e ts) take h =
        let f = forms_steady Γ t g e a_word h.1 in
        let y = tests_rest Γ t g k ts take.1 h.2 in
        λ z x ends.
        let two = 0 ∷ 0 ∷ ends in
        let more = tests U (z + hidden_expr e) x ts in
        rest_both r (Does (i.LoadL x 1 ∷ check_code c) ▹ (forms U z e).value ▹ where_related base o (not (is_last ts)) (if_last ts)) (unless (is_last ts) more) two
        (related_rests r U Γ z x c base o e (not (is_last ts)) (is_last ts) ends h.1 (f.value z 1 two (λ q. absurd (word_some a_word refl q))))
        (unless_rests r (is_last ts) more two (y (z + hidden_expr e) x ends))
    tests_rest Γ t g k (IfWithin negated bases range ts) take h =
        let s = bounds_steady Γ t g range h.0 in
        let y = tests_rest Γ t g k ts take.1 h.1 in
        λ z x ends.
        let two = 0 ∷ 0 ∷ ends in
        let more = tests U (z + hidden_interval range) x ts in
        let sense = differ negated (not (is_last ts)) in
        rest_both r (Does (i.LoadL x 1 ∷ []) ▹ bounds U z range ▹ Does (within_of (scratch U) bases range) ▹ Out (Where sense) (if_last ts))
        (unless (is_last ts) more) two (within_rests r U Γ z x bases range sense (is_last ts) ends h.0 (s z 1 two))
        (unless_rests r (is_last ts) more two (y (z + hidden_interval range) x ends))
    tests_rest Γ t g k (IfRelatedLong c base o e ts) take h =
        let f = forms_steady Γ t g e a_long h.0 in
        let y = tests_rest Γ t g k ts take.1 h.1 in
        λ z x ends.
        let two = 0 ∷ 0 ∷ ends in
        let more = tests U (z + hidden_expr e) x ts in
        rest_both r (Does (i.LoadL x (words_before c) ∷ conversion_code c) ▹ (forms U z e).value ▹ where_long_related base o (not (is_last ts)) (if_last ts))
        (unless (is_last ts) more) two
        (long_related_rests r U Γ z x c base o e (not (is_last ts)) (is_last ts) ends (makes_long c k take.0) h.0 (f.value z 2 two (λ q. absurd (long_some q))))
        (unless_rests r (is_last ts) more two (y (z + hidden_expr e) x ends))
    tests_rest Γ t g k (IfWithinLong negated c bases range ts) take h =
        let s = long_bounds_steady Γ t g range h.0 in
        let y = tests_rest Γ t g k ts take.1 h.1 in
        λ z x ends.
        let two = 0 ∷ 0 ∷ ends in
        let more = tests U (z + hidden_interval range) x ts in
        let sense = differ negated (not (is_last ts)) in
        rest_both r (Does (i.LoadL x (words_before c) ∷ conversion_code c) ▹ bounds U z range ▹ Does (long_within_of (scratch U) bases range)
        ▹ Out (Where sense) (if_last ts))
        (unless (is_last ts) more) two (long_within_rests r U Γ z x c bases range sense (is_last ts) ends (makes_long c k take.0) h.0 (s z 2 two))
        (unless_rests r (is_last ts) more two (y (z + hidden_interval range) x ends))

    exits_rest : (Γ : Scope) → Names Γ → HaveWords Γ → (es : Exits) → ExitsIn Γ es
        → (z : ℕ) (before : tree.Block) (ends : List ℕ) → Rests r before (0 ∷ ends) → Rests r (exits U z es before) (0 ∷ ends)
    exits_rest Γ t g NoExits h = λ z before ends x. x
    exits_rest Γ t g (AndExit ls s es) h =
        let b = rests Γ t g s h.1 in
        let more = exits_rest Γ t g es h.2 in
        λ z before ends x.
        let labelled = Ends (Labels ls) before in
        let does = block U z s in
        more (z + hidden s) (labelled ▹ does ▹ past_exits es 0) ends
        (rest_both r labelled (does ▹ past_exits es 0) (0 ∷ ends) (rest_labels r ls before (0 ∷ ends) x)
        (rest_both r does (past_exits es 0) (0 ∷ ends) (b z (0 ∷ ends)) (past_exits_rests r es 0 (0 ∷ ends) refl)))

    loop_rests : (Γ : Scope) → Names Γ → HaveWords Γ → (k : Counter) (l : Loop) → LoopIn Γ l
        → (z : ℕ) (ends : List ℕ) → Rests r (loop U z k l) ends
    loop_rests Γ t g k (LoopOf cond s es fin) h =
        let c = condition_rests Γ t g cond h.2 in
        let b = rests (sound.in_labelled h.0 es Γ) t g s h.3 in
        let x = exits_rest Γ t g es h.4 in
        let f = finish_rests Γ t g es fin h.5 in
        λ z ends.
        let two = 0 ∷ 0 ∷ ends in
        let test = condition U z cond in
        let does = block U (z + hidden_condition cond) s in
        let step = Does (step_code k) in
        let round = head_code k ▹ gives_next U k ▹ test ▹ does ▹ step in
        let n = z + (hidden_condition cond + hidden s + hidden_exits es) in
        let done = unless (is_endless k cond) (finish U n es fin) in
        let whole = Ends (Here 0) (Rounds round) ▹ done in
        rest_here r (exits U (z + (hidden_condition cond + hidden s)) es whole) ends
        (x (z + (hidden_condition cond + hidden s)) whole ends
        (rest_both r (Ends (Here 0) (Rounds round)) done (0 ∷ ends)
        (rest_here r (Rounds round) (0 ∷ ends)
        (rest_rounds r round two
        (rest_both r (head_code k) (gives_next U k ▹ test ▹ does ▹ step) two (head_rests r k (0 ∷ ends))
        (rest_both r (gives_next U k) (test ▹ does ▹ step) two (gives_rests r U k two)
        (rest_both r test (does ▹ step) two (c z (0 ∷ ends)) (rest_both r does step two (b (z + hidden_condition cond) two) (step_rests r k two)))))))
        (unless_rests r (is_endless k cond) (finish U n es fin) (0 ∷ ends) (f n ends))))

    condition_rests : (Γ : Scope) → Names Γ → HaveWords Γ → (cond : Condition) → ConditionIn Γ cond
        → (z : ℕ) (ends : List ℕ) → Rests r (condition U z cond) (0 ∷ ends)
    condition_rests Γ t g Always h = λ z ends. (tt, refl)
    condition_rests Γ t g (While e) h =
        let f = forms_steady Γ t g e a_word h in
        λ z ends. (f.jump refl false 0 z 0 (0 ∷ ends) refl, jump_depth U Γ e h false 0 z 0)
    condition_rests Γ t g (Until e) h =
        let f = forms_steady Γ t g e a_word h in
        λ z ends. (f.jump refl true 0 z 0 (0 ∷ ends) refl, jump_depth U Γ e h true 0 z 0)

    finish_rests : (Γ : Scope) → Names Γ → HaveWords Γ → (es : Exits) (fin : Finish) → FinishIn Γ fin
        → (z : ℕ) (ends : List ℕ) → Rests r (finish U z es fin) (0 ∷ ends)
    finish_rests Γ t g es NoFinish h = λ z ends. past_exits_rests r es 0 (0 ∷ ends) refl
    finish_rests Γ t g es (Finished s) h =
        let b = rests Γ t g s h in
        λ z ends. rest_both r (block U z s) (past_exits es 0) (0 ∷ ends) (b z (0 ∷ ends)) (past_exits_rests r es 0 (0 ∷ ends) refl)
