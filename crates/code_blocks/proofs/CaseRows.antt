-- The rows of SELECT: its cases and their tests.
use Rattle.std.proofs.Common.{◌≡◌, refl, ap, ◌∙◌, ℕ, ◌+◌, ◌-◌, [], ◌∷◌, Bool, true, false, arith}
use Rattle.mesa_types.specs.declared.typed_parts.Base.{Base}
use Rattle.mesa_types.specs.declared.typed_parts.Bases.{Bases}
use Rattle.mesa_types.specs.declared.typed_parts.Conversion.{Conversion}
use Rattle.mesa_types.specs.declared.typed_parts.Range.{Range}
use Rattle.mesa_base.specs.declared.relation.Relation.{Relation}
use Rattle.mesa_types.specs.Typed.{Kinds, Expr, Interval, Between, Stmt, Select, SelectLong, Cases, Otherwise, AndCase, Tests, NoTests, IfRelated, IfWithin, IfRelatedLong, IfWithinLong}
use Rattle.mesa_types.specs.Operators.{differ}
use Rattle.mesa_types.specs.Counts.{hidden, hidden_expr, hidden_interval, hidden_tests, words_of, words_before, words_after}
use Rattle.mesa_types.specs.Sound.{Scope, a_word, a_long, ExprIn}
use Rattle.code_forms.specs.declared.instruction.Instruction.TheVariants as i
use Rattle.code_rules.specs.CodeFor.{CasesCode, TestsCode, RelatedCode, LiesCode, LongRelatedCode, LongLiesCode, Onward, select, select_long, select_none, select_long_none, otherwise, and_case, no_test, related, related_last, lies, lies_last, long_related, long_related_last, long_lies, long_lies_last, relates, lies_within, long_relates, lies_within_long}
use Rattle.code_rules.specs.OwnCode.{pop_code, check_code, conversion_code, comparison, long_comparison, is_opposite, within_code, long_within_code}
use Rattle.code_rules.specs.Reading.{Coded, Place, past, deeper, beyond, scratch}
use Rattle.code_rules.proofs.Depths.{own_code_keeps_words}
use Rattle.code_blocks.specs.Blocks as tree
use Rattle.code_blocks.specs.Blocks.{Here, Anyhow, Where, Does, Ends, Out, nothing, ◌▹◌}
use Rattle.code_blocks.specs.Own.{bytes_in, left_of}
use Rattle.code_blocks.specs.Sizes.{size, depth_behind}
use Rattle.code_blocks.specs.Translation.{within_of, long_within_of, where_related, where_long_related, past_cases, forms, block, cases, tests}
use Rattle.code_blocks.specs.Translation as t
use Rattle.code_blocks.specs.Writing.{Env, in_part, end_at}
use Rattle.code_blocks.proofs.Known.{Known}
use Rattle.code_blocks.proofs.Lying.{Laid, laid, both_lie, part_lies, own_lies, out_lies}
use Rattle.code_blocks.proofs.Own.{pop_own, check_own, conversion_own, comparison_own, long_comparison_own, within_own, long_within_own}
use Rattle.code_blocks.proofs.StatementDepths.{pop_left}
use Rattle.code_blocks.proofs.Values.{none, word_is, long_is, own_left, behind, value_depth, comparison_left, long_comparison_left}
use Rattle.code_blocks.proofs.ExpressionRows.{L, next, Value, past_value, past_bounds, bounds_row}
use Rattle.code_blocks.proofs.ConditionRows.{own_then_out}
use Rattle.code_blocks.proofs.StatementRows.{Stands, Keeps, jumps_there, past_else_row}

module _ (S : Laid) where
  abbrev pub U : Coded
  U = S.names

  abbrev pub P : Coded
  P = laid S

  -- a test that compares

  abbrev compares : (z x : ℕ) → Range → Base → Relation → Expr → Bool → (part : ℕ) → tree.Block
  compares z x r base o e sense part = Does (i.LoadL x 1 ∷ check_code r) ▹ (forms U z e).value ▹ where_related base o sense part

  selector_left : (x : ℕ) (r : Range) (d : ℕ) → left_of (i.LoadL x 1 ∷ check_code r) d ≡ d + 1
  selector_left x r d = own_left (check_code r) {n = d + 1} (omega arith) (own_code_keeps_words.check none r d)

  compares_depth : (Γ : Scope) (z x : ℕ) (r : Range) (base : Base) (o : Relation) (e : Expr) (sense : Bool) (part d : ℕ) → ExprIn Γ e a_word
      → depth_behind (compares z x r base o e sense part) d ≡ d
  compares_depth Γ z x r base o e sense part d h =
      ap (λ n. n - 1)
      (ap (left_of (comparison base o)) (behind (forms U z e).value (selector_left x r d)
      (value_depth U Γ e a_word h z (d + 1) ∙ ap (λ n. d + 1 + n) (word_is Γ e h) ∙ omega arith))
      ∙ comparison_left U base o d)
      ∙ omega arith

  compares_row : (Γ : Scope) (x : ℕ) (r : Range) (base : Base) (o : Relation) (e : Expr) → ExprIn Γ e a_word → Value S Γ e
      → (sense : Bool) (part target : ℕ) (E : Env)
      (w : Place) → Known Γ E.points w.points → (a b : ℕ) → end_at E.ends part ≡ target → L S (compares w.slot x r base o e sense part) E w a
      → b ≡ a + size (compares w.slot x r base o e sense part) → RelatedCode P w x r base o e sense target a b
  compares_row Γ x r base o e h v sense part target E w known a b at l eq =
      let is = i.LoadL x 1 ∷ check_code r in
      let jump = where_related base o sense part in
      let m = next S (Does is) ((forms U w.slot e).value ▹ jump) E w a (w.depth + 1) l (selector_left x r w.depth) in
      let c = a + bytes_in is in
      let n = past_value S Γ e a_word h jump E (deeper 1 w) c m.1 in
      let d = c + size (forms U w.slot e).value in
      relates c d (own_lies S w is E a c (tt, check_own r) m.0 refl) (v E (deeper 1 w) known c d n.0 refl)
      (own_then_out S (past e (deeper 1 w)) (comparison base o) (Where (differ (is_opposite o) sense)) part target E d b (comparison_own base o) at n.1
      (omega (arith, eq)))

  -- a test that an interval takes the selector

  abbrev takes : (z x : ℕ) → Bool → Bases → Interval → Bool → (part : ℕ) → tree.Block
  takes z x negated bases range sense part =
      Does (i.LoadL x 1 ∷ []) ▹ t.bounds U z range ▹ Does (within_of (scratch U) bases range) ▹ Out (Where (differ negated sense)) part

  takes_depth : (Γ : Scope) (z x : ℕ) (negated : Bool) (bases : Bases) (d e : Expr) (p q : Bool) (sense : Bool) (part n : ℕ) → ExprIn Γ d a_word
      → ExprIn Γ e a_word
      → depth_behind (takes z x negated bases (Between d p e q) sense part) n ≡ n
  takes_depth Γ z x negated bases d e p q sense part n h g =
      let two : depth_behind (t.bounds U z (Between d p e q)) (n + 1) ≡ n + 1 + 2 = bounds_both Γ d e p q h g z (n + 1) in
      ap (λ m. m - 1)
      (own_left (within_code (scratch U) bases p q) {n = n + 3}
      (behind (t.bounds U z (Between d p e q)) {m = n - 0 + 1} {n = n + 1} (omega arith) two ∙ omega arith)
      (own_code_keeps_words.within none (scratch U) bases p q n))
      ∙ omega arith
    where
      bounds_both : (Γ : Scope) (d e : Expr) (p q : Bool) → ExprIn Γ d a_word → ExprIn Γ e a_word → (z n : ℕ)
          → depth_behind (t.bounds U z (Between d p e q)) n ≡ n + 2
      bounds_both Γ d e p q h g z n =
          behind (forms U (z + hidden_expr d) e).value (value_depth U Γ d a_word h z n ∙ ap (λ m. n + m) (word_is Γ d h))
          (value_depth U Γ e a_word g (z + hidden_expr d) (n + 1) ∙ ap (λ m. n + 1 + m) (word_is Γ e g) ∙ omega arith)

  takes_row : (Γ : Scope) (x : ℕ) (negated : Bool) (bases : Bases) (d e : Expr) (p q : Bool) → ExprIn Γ d a_word → ExprIn Γ e a_word → Value S Γ d → Value S Γ e
      → (sense : Bool) (part target : ℕ) (E : Env) (w : Place) → Known Γ E.points w.points → (a b : ℕ) → end_at E.ends part ≡ target
      → L S (takes w.slot x negated bases (Between d p e q) sense part) E w a → b ≡ a + size (takes w.slot x negated bases (Between d p e q) sense part)
      → LiesCode P w x negated bases (Between d p e q) sense target a b
  takes_row Γ x negated bases d e p q h g v u sense part target E w known a b at l eq =
      let is = i.LoadL x 1 ∷ [] in
      let range = t.bounds U w.slot (Between d p e q) in
      let last = Does (within_code (scratch U) bases p q) ▹ Out (Where (differ negated sense)) part in
      let m = next S (Does is) (range ▹ last) E w a (w.depth + 1) l (omega arith) in
      let c = a + bytes_in is in
      let n = past_bounds S Γ d e p q a_word h g last E (deeper 1 w) c m.1 in
      let f = c + size range in
      lies_within c f (own_lies S w is E a c (tt, tt) m.0 refl) (bounds_row S Γ d e p q a_word h v u E (deeper 1 w) known c f n.0 refl)
      (own_then_out S (past e (past d (deeper 1 w))) (within_code (scratch U) bases p q) (Where (differ negated sense)) part target E f b
      (within_own (scratch U) bases p q) at n.1 (omega (arith, eq)))

  -- the same over LONG numbers

  abbrev long_compares : (z x : ℕ) → Conversion → Base → Relation → Expr → Bool → (part : ℕ) → tree.Block
  long_compares z x c base o e sense part = Does (i.LoadL x (words_before c) ∷ conversion_code c) ▹ (forms U z e).value ▹ where_long_related base o sense part

  -- what makes a LONG number gives two words
  abbrev pub MakesLong : Conversion → Type 0
  MakesLong c = words_after c ≡ 2

  made_left : (x : ℕ) (c : Conversion) (d : ℕ) → MakesLong c → left_of (i.LoadL x (words_before c) ∷ conversion_code c) d ≡ d + 2
  made_left x c d long = own_left (conversion_code c) {n = d + words_before c} (omega arith) (own_code_keeps_words.conversion none c d) ∙ ap (λ n. d + n) long

  long_compares_depth : (Γ : Scope) (z x : ℕ) (c : Conversion) (base : Base) (o : Relation) (e : Expr) (sense : Bool) (part d : ℕ) → MakesLong c → ExprIn Γ e a_long
      → depth_behind (long_compares z x c base o e sense part) d ≡ d
  long_compares_depth Γ z x c base o e sense part d long h =
      ap (λ n. n - 1)
      (ap (left_of (long_comparison base o)) (behind (forms U z e).value (made_left x c d long)
      (value_depth U Γ e a_long h z (d + 2) ∙ ap (λ n. d + 2 + n) (long_is Γ e h) ∙ omega arith))
      ∙ long_comparison_left U base o d)
      ∙ omega arith

  long_compares_row : (Γ : Scope) (x : ℕ) (conversion : Conversion) (base : Base) (o : Relation) (e : Expr) → MakesLong conversion → ExprIn Γ e a_long → Value S Γ e
      → (sense : Bool) (part target : ℕ) (E : Env)
      (w : Place) → Known Γ E.points w.points → (a b : ℕ) → end_at E.ends part ≡ target → L S (long_compares w.slot x conversion base o e sense part) E w a
      → b ≡ a + size (long_compares w.slot x conversion base o e sense part) → LongRelatedCode P w x conversion base o e sense target a b
  long_compares_row Γ x conversion base o e long h v sense part target E w known a b at l eq =
      let is = i.LoadL x (words_before conversion) ∷ conversion_code conversion in
      let jump = where_long_related base o sense part in
      let m = next S (Does is) ((forms U w.slot e).value ▹ jump) E w a (w.depth + 2) l (made_left x conversion w.depth long) in
      let c = a + bytes_in is in
      let n = past_value S Γ e a_long h jump E (deeper 2 w) c m.1 in
      let d = c + size (forms U w.slot e).value in
      long_relates c d (own_lies S w is E a c (tt, conversion_own conversion) m.0 refl) (v E (deeper 2 w) known c d n.0 refl)
      (own_then_out S (past e (deeper 2 w)) (long_comparison base o) (Where (differ (is_opposite o) sense)) part target E d b (long_comparison_own base o) at n.1
      (omega (arith, eq)))

  abbrev long_takes : (z x : ℕ) → Bool → Conversion → Bases → Interval → Bool → (part : ℕ) → tree.Block
  long_takes z x negated c bases range sense part =
      Does (i.LoadL x (words_before c) ∷ conversion_code c) ▹ t.bounds U z range ▹ Does (long_within_of (scratch U) bases range) ▹ Out (Where (differ negated sense)) part

  long_takes_depth : (Γ : Scope) (z x : ℕ) (negated : Bool) (c : Conversion) (bases : Bases) (d e : Expr) (p q : Bool) (sense : Bool) (part n : ℕ) → MakesLong c → ExprIn Γ d a_long
      → ExprIn Γ e a_long
      → depth_behind (long_takes z x negated c bases (Between d p e q) sense part) n ≡ n
  long_takes_depth Γ z x negated c bases d e p q sense part n long h g =
      let two : depth_behind (t.bounds U z (Between d p e q)) (n + 2) ≡ n + 2 + 4 = bounds_both Γ d e p q h g z (n + 2) in
      ap (λ m. m - 1)
      (own_left (long_within_code (scratch U) bases p q) {n = n + 6}
      (behind (t.bounds U z (Between d p e q)) (made_left x c n long) two ∙ omega arith)
      (own_code_keeps_words.long_within none (scratch U) bases p q n))
      ∙ omega arith
    where
      bounds_both : (Γ : Scope) (d e : Expr) (p q : Bool) → ExprIn Γ d a_long → ExprIn Γ e a_long → (z n : ℕ)
          → depth_behind (t.bounds U z (Between d p e q)) n ≡ n + 4
      bounds_both Γ d e p q h g z n =
          behind (forms U (z + hidden_expr d) e).value (value_depth U Γ d a_long h z n ∙ ap (λ m. n + m) (long_is Γ d h))
          (value_depth U Γ e a_long g (z + hidden_expr d) (n + 2) ∙ ap (λ m. n + 2 + m) (long_is Γ e g) ∙ omega arith)

  long_takes_row : (Γ : Scope) (x : ℕ) (negated : Bool) (conversion : Conversion) (bases : Bases) (d e : Expr) (p q : Bool) → MakesLong conversion → ExprIn Γ d a_long → ExprIn Γ e a_long
      → Value S Γ d → Value S Γ e
      → (sense : Bool) (part target : ℕ) (E : Env) (w : Place) → Known Γ E.points w.points → (a b : ℕ) → end_at E.ends part ≡ target
      → L S (long_takes w.slot x negated conversion bases (Between d p e q) sense part) E w a
      → b ≡ a + size (long_takes w.slot x negated conversion bases (Between d p e q) sense part)
      → LongLiesCode P w x negated conversion bases (Between d p e q) sense target a b
  long_takes_row Γ x negated conversion bases d e p q long h g v u sense part target E w known a b at l eq =
      let is = i.LoadL x (words_before conversion) ∷ conversion_code conversion in
      let range = t.bounds U w.slot (Between d p e q) in
      let last = Does (long_within_code (scratch U) bases p q) ▹ Out (Where (differ negated sense)) part in
      let m = next S (Does is) (range ▹ last) E w a (w.depth + 2) l (made_left x conversion w.depth long) in
      let c = a + bytes_in is in
      let n = past_bounds S Γ d e p q a_long h g last E (deeper 2 w) c m.1 in
      let f = c + size range in
      lies_within_long c f (own_lies S w is E a c (tt, conversion_own conversion) m.0 refl) (bounds_row S Γ d e p q a_long h v u E (deeper 2 w) known c f n.0 refl)
      (own_then_out S (past e (past d (deeper 2 w))) (long_within_code (scratch U) bases p q) (Where (differ negated sense)) part target E f b
      (long_within_own (scratch U) bases p q) at n.1 (omega (arith, eq)))

  module _ (Γ : Scope) where
    -- part 0 ends behind the tests, part 1 behind the case
    abbrev pub Tested : Tests → Type 0
    Tested ts = (x miss : ℕ) (E : Env) (w : Place) → Known Γ E.points w.points → (a b : ℕ) → end_at E.ends 0 ≡ b → end_at E.ends 1 ≡ miss
        → L S (tests U w.slot x ts) E w a
        → b ≡ a + size (tests U w.slot x ts) → TestsCode P w x ts b miss a b

    pub no_test_row : Tested NoTests
    no_test_row x miss E w known a b fit at l eq = no_test (out_lies S w Anyhow 1 miss E a b at l eq)

    pub related_last_row : (r : Range) (base : Base) (o : Relation) (e : Expr) → ExprIn Γ e a_word → Value S Γ e → Tested (IfRelated r base o e NoTests)
    related_last_row r base o e h v x miss E w known a b fit at l eq =
        let m = both_lie S (compares w.slot x r base o e false 1) nothing E w.around w.depth a l in
        related_last (compares_row Γ x r base o e h v false 1 miss E w known a b at m.0 (omega (arith, eq)))

    pub lies_last_row : (negated : Bool) (bases : Bases) (d e : Expr) (p q : Bool) → ExprIn Γ d a_word → ExprIn Γ e a_word → Value S Γ d → Value S Γ e
        → Tested (IfWithin negated bases (Between d p e q) NoTests)
    lies_last_row negated bases d e p q h g v u x miss E w known a b fit at l eq =
        let m = both_lie S (takes w.slot x negated bases (Between d p e q) false 1) nothing E w.around w.depth a l in
        lies_last (takes_row Γ x negated bases d e p q h g v u false 1 miss E w known a b at m.0 (omega (arith, eq)))

    long_related_last_row : (c : Conversion) (base : Base) (o : Relation) (e : Expr) → MakesLong c → ExprIn Γ e a_long → Value S Γ e → Tested (IfRelatedLong c base o e NoTests)
    long_related_last_row c base o e long h v x miss E w known a b fit at l eq =
        let m = both_lie S (long_compares w.slot x c base o e false 1) nothing E w.around w.depth a l in
        long_related_last (long_compares_row Γ x c base o e long h v false 1 miss E w known a b at m.0 (omega (arith, eq)))

    long_lies_last_row : (negated : Bool) (c : Conversion) (bases : Bases) (d e : Expr) (p q : Bool) → MakesLong c → ExprIn Γ d a_long → ExprIn Γ e a_long → Value S Γ d → Value S Γ e
        → Tested (IfWithinLong negated c bases (Between d p e q) NoTests)
    long_lies_last_row negated c bases d e p q long h g v u x miss E w known a b fit at l eq =
        let m = both_lie S (long_takes w.slot x negated c bases (Between d p e q) false 1) nothing E w.around w.depth a l in
        long_lies_last (long_takes_row Γ x negated c bases d e p q long h g v u false 1 miss E w known a b at m.0 (omega (arith, eq)))

    -- with further tests
    related_more : (r : Range) (base : Base) (o : Relation) (e : Expr) (ts : Tests) → ExprIn Γ e a_word → Value S Γ e → Tested ts
        → (x miss : ℕ) (E : Env) (w : Place)
        → Known Γ E.points w.points → (a b : ℕ) → end_at E.ends 0 ≡ b → end_at E.ends 1 ≡ miss
        → L S (compares w.slot x r base o e true 0 ▹ tests U (w.slot + hidden_expr e) x ts) E w a
        → b ≡ a + size (compares w.slot x r base o e true 0 ▹ tests U (w.slot + hidden_expr e) x ts) → TestsCode P w x (IfRelated r base o e ts) b miss a b
    related_more r base o e ts h v rest x miss E w known a b fit at l eq =
        let first = compares w.slot x r base o e true 0 in
        let m = next S first (tests U (w.slot + hidden_expr e) x ts) E w a w.depth l (compares_depth Γ w.slot x r base o e true 0 w.depth h) in
        let c = a + size first in
        related c (compares_row Γ x r base o e h v true 0 b E w known a c fit m.0 refl)
        (rest x miss E (beyond (hidden_expr e) w) known c b fit at m.1 (omega (arith, eq)))

    lies_more : (negated : Bool) (bases : Bases) (d e : Expr) (p q : Bool) (ts : Tests) → ExprIn Γ d a_word → ExprIn Γ e a_word → Value S Γ d → Value S Γ e
        → Tested ts
        → (x miss : ℕ) (E : Env) (w : Place) → Known Γ E.points w.points → (a b : ℕ) → end_at E.ends 0 ≡ b → end_at E.ends 1 ≡ miss
        → L S (takes w.slot x negated bases (Between d p e q) true 0 ▹ tests U (w.slot + hidden_interval (Between d p e q)) x ts) E w a
        → b ≡ a + size (takes w.slot x negated bases (Between d p e q) true 0 ▹ tests U (w.slot + hidden_interval (Between d p e q)) x ts)
        → TestsCode P w x (IfWithin negated bases (Between d p e q) ts) b miss a b
    lies_more negated bases d e p q ts h g v u rest x miss E w known a b fit at l eq =
        let range = Between d p e q in
        let first = takes w.slot x negated bases range true 0 in
        let m = next S first (tests U (w.slot + hidden_interval range) x ts) E w a w.depth l (takes_depth Γ w.slot x negated bases d e p q true 0 w.depth h g) in
        let c = a + size first in
        lies c (takes_row Γ x negated bases d e p q h g v u true 0 b E w known a c fit m.0 refl)
        (rest x miss E (beyond (hidden_interval range) w) known c b fit at m.1 (omega (arith, eq)))

    long_related_more : (conversion : Conversion) (base : Base) (o : Relation) (e : Expr) (ts : Tests) → MakesLong conversion → ExprIn Γ e a_long → Value S Γ e → Tested ts
        → (x miss : ℕ) (E : Env) (w : Place)
        → Known Γ E.points w.points → (a b : ℕ) → end_at E.ends 0 ≡ b → end_at E.ends 1 ≡ miss
        → L S (long_compares w.slot x conversion base o e true 0 ▹ tests U (w.slot + hidden_expr e) x ts) E w a
        → b ≡ a + size (long_compares w.slot x conversion base o e true 0 ▹ tests U (w.slot + hidden_expr e) x ts)
        → TestsCode P w x (IfRelatedLong conversion base o e ts) b miss a b
    long_related_more conversion base o e ts long h v rest x miss E w known a b fit at l eq =
        let first = long_compares w.slot x conversion base o e true 0 in
        let m = next S first (tests U (w.slot + hidden_expr e) x ts) E w a w.depth l (long_compares_depth Γ w.slot x conversion base o e true 0 w.depth long h) in
        let c = a + size first in
        long_related c (long_compares_row Γ x conversion base o e long h v true 0 b E w known a c fit m.0 refl)
        (rest x miss E (beyond (hidden_expr e) w) known c b fit at m.1 (omega (arith, eq)))

    long_lies_more : (negated : Bool) (conversion : Conversion) (bases : Bases) (d e : Expr) (p q : Bool) (ts : Tests) → MakesLong conversion → ExprIn Γ d a_long → ExprIn Γ e a_long
        → Value S Γ d → Value S Γ e → Tested ts
        → (x miss : ℕ) (E : Env) (w : Place) → Known Γ E.points w.points → (a b : ℕ) → end_at E.ends 0 ≡ b → end_at E.ends 1 ≡ miss
        → L S (long_takes w.slot x negated conversion bases (Between d p e q) true 0 ▹ tests U (w.slot + hidden_interval (Between d p e q)) x ts) E w a
        → b ≡ a + size (long_takes w.slot x negated conversion bases (Between d p e q) true 0 ▹ tests U (w.slot + hidden_interval (Between d p e q)) x ts)
        → TestsCode P w x (IfWithinLong negated conversion bases (Between d p e q) ts) b miss a b
    long_lies_more negated conversion bases d e p q ts long h g v u rest x miss E w known a b fit at l eq =
        let range = Between d p e q in
        let first = long_takes w.slot x negated conversion bases range true 0 in
        let m = next S first (tests U (w.slot + hidden_interval range) x ts) E w a w.depth l (long_takes_depth Γ w.slot x negated conversion bases d e p q true 0 w.depth long h g) in
        let c = a + size first in
        long_lies c (long_takes_row Γ x negated conversion bases d e p q long h g v u true 0 b E w known a c fit m.0 refl)
        (rest x miss E (beyond (hidden_interval range) w) known c b fit at m.1 (omega (arith, eq)))

    pub related_row : (r : Range) (base : Base) (o : Relation) (e : Expr) (ts : Tests) → ExprIn Γ e a_word → Value S Γ e → Tested ts
        → Tested (IfRelated r base o e ts)
    related_row r base o e NoTests h v rest = related_last_row r base o e h v
    related_row r base o e (IfRelated r2 base2 o2 e2 ts) h v rest = related_more r base o e (IfRelated r2 base2 o2 e2 ts) h v rest
    related_row r base o e (IfWithin negated bases range ts) h v rest = related_more r base o e (IfWithin negated bases range ts) h v rest
    related_row r base o e (IfRelatedLong c base2 o2 e2 ts) h v rest = related_more r base o e (IfRelatedLong c base2 o2 e2 ts) h v rest
    related_row r base o e (IfWithinLong negated c bases range ts) h v rest = related_more r base o e (IfWithinLong negated c bases range ts) h v rest

    pub lies_row : (negated : Bool) (bases : Bases) (d e : Expr) (p q : Bool) (ts : Tests) → ExprIn Γ d a_word → ExprIn Γ e a_word → Value S Γ d → Value S Γ e
        → Tested ts
        → Tested (IfWithin negated bases (Between d p e q) ts)
    lies_row negated bases d e p q NoTests h g v u rest = lies_last_row negated bases d e p q h g v u
    lies_row negated bases d e p q (IfRelated r base o e2 ts) h g v u rest = lies_more negated bases d e p q (IfRelated r base o e2 ts) h g v u rest
    lies_row negated bases d e p q (IfWithin negated2 bases2 range ts) h g v u rest = lies_more negated bases d e p q (IfWithin negated2 bases2 range ts) h g
        v u rest
    lies_row negated bases d e p q (IfRelatedLong c base o e2 ts) h g v u rest = lies_more negated bases d e p q (IfRelatedLong c base o e2 ts) h g v u rest
    lies_row negated bases d e p q (IfWithinLong negated2 c bases2 range ts) h g v u rest = lies_more negated bases d e p q (IfWithinLong negated2 c bases2 range ts) h g
        v u rest

    pub long_related_row : (c : Conversion) (base : Base) (o : Relation) (e : Expr) (ts : Tests) → MakesLong c → ExprIn Γ e a_long → Value S Γ e → Tested ts
        → Tested (IfRelatedLong c base o e ts)
    long_related_row c base o e NoTests long h v rest = long_related_last_row c base o e long h v
    long_related_row c base o e (IfRelated r base2 o2 e2 ts) long h v rest = long_related_more c base o e (IfRelated r base2 o2 e2 ts) long h v rest
    long_related_row c base o e (IfWithin negated bases range ts) long h v rest = long_related_more c base o e (IfWithin negated bases range ts) long h v rest
    long_related_row c base o e (IfRelatedLong c2 base2 o2 e2 ts) long h v rest = long_related_more c base o e (IfRelatedLong c2 base2 o2 e2 ts) long h v rest
    long_related_row c base o e (IfWithinLong negated c2 bases range ts) long h v rest = long_related_more c base o e (IfWithinLong negated c2 bases range ts) long h v rest

    pub long_lies_row : (negated : Bool) (c : Conversion) (bases : Bases) (d e : Expr) (p q : Bool) (ts : Tests) → MakesLong c → ExprIn Γ d a_long → ExprIn Γ e a_long → Value S Γ d
        → Value S Γ e → Tested ts
        → Tested (IfWithinLong negated c bases (Between d p e q) ts)
    long_lies_row negated c bases d e p q NoTests long h g v u rest = long_lies_last_row negated c bases d e p q long h g v u
    long_lies_row negated c bases d e p q (IfRelated r base o e2 ts) long h g v u rest = long_lies_more negated c bases d e p q (IfRelated r base o e2 ts) long h g v u rest
    long_lies_row negated c bases d e p q (IfWithin negated2 bases2 range ts) long h g v u rest = long_lies_more negated c bases d e p q (IfWithin negated2 bases2 range ts) long h g
        v u rest
    long_lies_row negated c bases d e p q (IfRelatedLong c2 base o e2 ts) long h g v u rest = long_lies_more negated c bases d e p q (IfRelatedLong c2 base o e2 ts) long h g v u rest
    long_lies_row negated c bases d e p q (IfWithinLong negated2 c2 bases2 range ts) long h g v u rest = long_lies_more negated c bases d e p q (IfWithinLong negated2 c2 bases2 range ts) long h g
        v u rest

    -- the innermost part ends behind the cases
    abbrev pub Cased : Cases → Type 0
    Cased cs = (x : ℕ) (E : Env) (w : Place) → Known Γ E.points w.points → (a b : ℕ) → end_at E.ends 0 ≡ b → L S (cases U w.slot x cs) E w a
        → b ≡ a + size (cases U w.slot x cs) → CasesCode P w x cs a b

    pub otherwise_row : (s : Stmt) → Stands S Γ s → Cased (Otherwise s)
    otherwise_row s stands x E w known a b at l eq = otherwise (stands E w known a b l eq)

    past_cases_row : (cs : Cases) (z x part : ℕ) (E : Env) (w : Place) (b d miss : ℕ) → end_at E.ends part ≡ b → L S (past_cases cs part) E w d
        → miss ≡ d + size (past_cases cs part) → b ≡ miss + size (cases U z x cs) → Onward P w b d miss
    past_cases_row (Otherwise s) z x part E w b d miss at l eq end = past_else_row S s z part E w b d miss at l eq end
    past_cases_row (AndCase ts s cs) z x part E w b d miss at l eq end = jumps_there S w part b E d miss at l eq

    pub and_case_row : (ts : Tests) (s : Stmt) (cs : Cases) → Tested ts → Keeps S s → Stands S Γ s → Cased cs → Cased (AndCase ts s cs)
    and_case_row ts s cs tested keeps stands rest x E w known a b at l eq =
        let T = tests U w.slot x ts in
        let B = block U (w.slot + hidden_tests ts) s in
        let inner = Ends (Here 0) T ▹ B ▹ past_cases cs 1 in
        let more = cases U (w.slot + (hidden_tests ts + hidden s)) x cs in
        let E1 = in_part (Here 0) a (a + size inner) E in
        let E2 = in_part (Here 0) a (a + size T) E1 in
        let m = next S (Ends (Here 0) inner) more E w a w.depth l refl in
        let n = next S (Ends (Here 0) T) (B ▹ past_cases cs 1) E1 w a w.depth (part_lies S (Here 0) inner E w.around w.depth a m.0) refl in
        let c = a + size T in
        let u = next S B (past_cases cs 1) E1 (beyond (hidden_tests ts) w) c w.depth n.1 (keeps (w.slot + hidden_tests ts) w.depth) in
        let d = c + size B in
        let miss = a + size inner in
        and_case c d miss (tested x miss E2 w known a c refl refl (part_lies S (Here 0) T E1 w.around w.depth a n.0) refl)
        (stands E1 (beyond (hidden_tests ts) w) known c d u.0 refl)
        (past_cases_row cs (w.slot + (hidden_tests ts + hidden s)) x 1 E1 w b d miss at u.1 (omega arith) (omega (arith, eq)))
        (rest x E (beyond (hidden_tests ts + hidden s) w) known miss b at m.1 (omega (arith, eq)))

    pub select_row : (e : Expr) (ts : Tests) (s : Stmt) (cs : Cases) → ExprIn Γ e a_word → Value S Γ e → Cased (AndCase ts s cs)
        → Stands S Γ (Select e (AndCase ts s cs))
    select_row e ts s cs h v rest E w known a b l eq =
        let z = w.slot in
        let inner = cases U (z + (1 + hidden_expr e)) z (AndCase ts s cs) in
        let m = past_value S Γ e a_word h (Does (i.StoreL z 1 ∷ []) ▹ Ends (Here 0) inner) E (beyond 1 w) a l in
        let c = a + size (forms U (z + 1) e).value in
        let n = next S (Does (i.StoreL z 1 ∷ [])) (Ends (Here 0) inner) E (past e w) c w.depth m.1 (omega (arith, word_is Γ e h)) in
        let d = c + bytes_in (i.StoreL z 1 ∷ []) in
        let E1 = in_part (Here 0) d (d + size inner) E in
        select c d (v E (beyond 1 w) known a c m.0 refl) (own_lies S (past e w) (i.StoreL z 1 ∷ []) E c d (tt, tt) n.0 refl)
        (rest z E1 (beyond (1 + hidden_expr e) w) known d b (omega (arith, eq)) (part_lies S (Here 0) inner E w.around w.depth d n.1) (omega (arith, eq)))

    pub select_none_row : (e : Expr) (ks : Kinds) (s : Stmt) → ExprIn Γ e ks → Value S Γ e → Stands S Γ s → Stands S Γ (Select e (Otherwise s))
    select_none_row e ks s h v stands E w known a b l eq =
        let z = w.slot in
        let inner = block U (z + (1 + hidden_expr e)) s in
        let m = past_value S Γ e ks h (Does (pop_code (words_of e)) ▹ inner) E (beyond 1 w) a l in
        let c = a + size (forms U (z + 1) e).value in
        let n = next S (Does (pop_code (words_of e))) inner E (past e w) c w.depth m.1 (pop_left (words_of e) w.depth) in
        let d = c + bytes_in (pop_code (words_of e)) in
        select_none c d (v E (beyond 1 w) known a c m.0 refl) (own_lies S (past e w) (pop_code (words_of e)) E c d (pop_own (words_of e)) n.0 refl)
        (stands E (beyond (1 + hidden_expr e) w) known d b n.1 (omega (arith, eq)))

    pub select_long_row : (e : Expr) (ts : Tests) (s : Stmt) (cs : Cases) → ExprIn Γ e a_long → Value S Γ e → Cased (AndCase ts s cs)
        → Stands S Γ (SelectLong e (AndCase ts s cs))
    select_long_row e ts s cs h v rest E w known a b l eq =
        let z = w.slot in
        let inner = cases U (z + (2 + hidden_expr e)) z (AndCase ts s cs) in
        let m = past_value S Γ e a_long h (Does (i.StoreL z 2 ∷ []) ▹ Ends (Here 0) inner) E (beyond 2 w) a l in
        let c = a + size (forms U (z + 2) e).value in
        let n = next S (Does (i.StoreL z 2 ∷ [])) (Ends (Here 0) inner) E (past e w) c w.depth m.1 (omega (arith, long_is Γ e h)) in
        let d = c + bytes_in (i.StoreL z 2 ∷ []) in
        let E1 = in_part (Here 0) d (d + size inner) E in
        select_long c d (v E (beyond 2 w) known a c m.0 refl) (own_lies S (past e w) (i.StoreL z 2 ∷ []) E c d (tt, tt) n.0 refl)
        (rest z E1 (beyond (2 + hidden_expr e) w) known d b (omega (arith, eq)) (part_lies S (Here 0) inner E w.around w.depth d n.1) (omega (arith, eq)))

    pub select_long_none_row : (e : Expr) (ks : Kinds) (s : Stmt) → ExprIn Γ e ks → Value S Γ e → Stands S Γ s → Stands S Γ (SelectLong e (Otherwise s))
    select_long_none_row e ks s h v stands E w known a b l eq =
        let z = w.slot in
        let inner = block U (z + (2 + hidden_expr e)) s in
        let m = past_value S Γ e ks h (Does (pop_code (words_of e)) ▹ inner) E (beyond 2 w) a l in
        let c = a + size (forms U (z + 2) e).value in
        let n = next S (Does (pop_code (words_of e))) inner E (past e w) c w.depth m.1 (pop_left (words_of e) w.depth) in
        let d = c + bytes_in (pop_code (words_of e)) in
        select_long_none c d (v E (beyond 2 w) known a c m.0 refl) (own_lies S (past e w) (pop_code (words_of e)) E c d (pop_own (words_of e)) n.0 refl)
        (stands E (beyond (2 + hidden_expr e) w) known d b n.1 (omega (arith, eq)))
