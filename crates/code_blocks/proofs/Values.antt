-- The words on the operand stack behind the block of a value are those of the value.
use Rattle.std.proofs.Common.{◌≡◌, refl, sym, ap, ◌∙◌, ℕ, zero, suc, ◌+◌, ◌-◌, ◌≤◌, List, [], ◌∷◌, Bool, true, false, not, if◌then◌else◌, arith}
use Rattle.mesa_types.specs.declared.typed_parts.Base.{Base}
use Rattle.mesa_types.specs.declared.typed_parts.Base.TheVariants.{Signed, Unsigned}
use Rattle.mesa_types.specs.declared.typed_parts.Bases.{Bases}
use Rattle.mesa_types.specs.declared.typed_parts.Conversion.{Conversion}
use Rattle.mesa_types.specs.declared.typed_parts.Conversion.TheVariants as conversion
use Rattle.mesa_base.specs.declared.relation.Relation.{Relation}
use Rattle.mesa_base.specs.declared.relation.Relation.TheVariants.{Equal, NotEqual, Less, AtMost, Greater, AtLeast}
use Rattle.mesa_types.specs.declared.typed_parts.Home.{Home}
use Rattle.mesa_types.specs.declared.typed_parts.Home.TheVariants.{Global, Local}
use Rattle.mesa_types.specs.declared.typed_parts.Part.{Part}
use Rattle.mesa_types.specs.Typed.{Kind, Longs, Kinds, NoKinds, AndKind, Expr, Number, LongNumber, Literal, Variable, FieldOf, LengthOf, ByteOf, Checked, Converted, Operate, OperateLong, Negate, NegateLong, Relate, RelateLong, Within, WithinLong, Not, AllOf, SomeOf, Construct, Call, Raise, Exprs, NoExprs, AndExpr, Suffixes, NoSuffix, Field, Index, Operations, NoOperation, Then, Interval, Between, Texts}
use Rattle.mesa_types.specs.Counts.{hidden_expr, words_of, words_given, last_words}
use Rattle.mesa_types.specs.Counts as counts
use Rattle.mesa_types.specs.Shapes.{words_in, words_in_all, words_before, one, KindAt}
use Rattle.mesa_types.specs.Sound.{Scope, a_word, a_long, FieldsIn, ExprIn, ExprsIn, WordsIn, SuffixesIn, OperationsIn, LongOperationsIn, IntervalIn, LongIntervalIn, Converts}
use Rattle.mesa_types.proofs.WordSizes.{sizes_agree}
use Rattle.code_forms.specs.declared.instruction.Instruction.{Instruction}
use Rattle.code_forms.specs.Depths.{depth_after}
use Rattle.code_rules.specs.CodeFor.{words_before_last}
use Rattle.code_rules.specs.Laws.{left_by}
use Rattle.code_rules.specs.OwnCode.{check_code, conversion_code, field_code, comparison, long_comparison, relation_code, long_relation_code, operator_code, long_operator_code, within_code, long_within_code, arrange_code, index_code, total}
use Rattle.code_rules.specs.Reading.{Coded, scratch}
use Rattle.code_rules.specs.Slots.{load, load_within, fields_of, sizes}
use Rattle.code_rules.proofs.Depths.{own_code_keeps_words}
use Rattle.code_blocks.specs.Blocks.{Block, Where, Does, Out, ◌▹◌}
use Rattle.code_blocks.specs.Own.{alone, left_of}
use Rattle.code_blocks.specs.Sizes.{depth_behind}
use Rattle.code_blocks.specs.Translation.{without_code, has_index, at_element, within_of, long_within_of, turned, forms, values, operands, bounds, operations, long_operations, path}

-- Sizes.

pub word_is : (Γ : Scope) (e : Expr) → ExprIn Γ e a_word → words_of e ≡ 1
unfolding words_in_all words_in one a_word
word_is Γ e h = sizes_agree.of_expression Γ e a_word h

pub long_is : (Γ : Scope) (e : Expr) → ExprIn Γ e a_long → words_of e ≡ 2
unfolding words_in_all words_in one a_long
long_is Γ e h = sizes_agree.of_expression Γ e a_long h

-- the words that a conversion takes and gives are those of its kinds
pub words_converted : (c : Conversion) (j k : Kind) → Converts c j k → (words_in j ≡ counts.words_before c) × (words_in k ≡ counts.words_after c)
unfolding Converts words_in counts.words_before counts.words_after
words_converted conversion.Kept j k h = (ap words_in h.0, ap words_in h.1)
words_converted (conversion.Widened from to) j k h = (ap words_in h.0, ap words_in h.1)
words_converted (conversion.Narrowed from to r) j k h = (ap words_in h.1, ap words_in h.2)
words_converted conversion.InCommon j k h = (ap words_in h.0, ap words_in h.1)

pub makes_long : (c : Conversion) (j : Kind) → Converts c j Longs → counts.words_after c ≡ 2
unfolding words_in
makes_long c j h = sym (words_converted c j Longs h).1

pub text_is : (Γ : Scope) (e : Expr) → ExprIn Γ e (one Texts) → words_of e ≡ 2
unfolding words_in_all words_in one
text_is Γ e h = sizes_agree.of_expression Γ e (one Texts) h

pub one_is : (Γ : Scope) (e : Expr) (k : Kind) → ExprIn Γ e (one k) → words_of e ≡ words_in k
unfolding words_in_all one
one_is Γ e k h = sizes_agree.of_expression Γ e (one k) h ∙ omega arith

part_fits : (ks : Kinds) (n : ℕ) (k : Kind) → KindAt ks n k → words_before ks n + words_in k ≤ words_in_all ks
unfolding KindAt words_before words_in_all
part_fits NoKinds n k h = absurd h
part_fits (AndKind j ks) zero k h = omega (arith, ap words_in h)
part_fits (AndKind j ks) (suc n) k h = omega (arith, part_fits ks n k h)

pub fields_fit : (parts : List Part) (j k : Kind) → FieldsIn parts j k → words_before_last parts + last_words parts ≤ words_in j
unfolding FieldsIn last_words words_in
fields_fit [] j k h = omega arith
fields_fit (p ∷ []) j k h = omega (arith, ap words_in h.2, (h.3).lies, h.4, part_fits h.0 p.field h.1 (h.3).is_there)
fields_fit (p ∷ q ∷ qs) j k h =
    omega (arith, ap words_in h.2, (h.3).lies, part_fits h.0 p.field h.1 (h.3).is_there, fields_fit (q ∷ qs) h.1 k h.5)

pub total_given : (es : Exprs) → total (sizes es) ≡ words_given es
unfolding words_given
total_given NoExprs = refl
total_given (AndExpr e es) = ap (λ n. words_of e + n) (total_given es)

-- what own code does to the operand stack is known of any procedure
abbrev pub none : Coded
none = without_code [] NoKinds NoKinds

left_alone : (is : List Instruction) (d : ℕ) → left_of is d ≡ left_by none is d
left_alone [] d = refl
left_alone (i ∷ is) d = left_alone is (depth_after alone i d)

-- own code in which the words before it are known
pub own_left : (is : List Instruction) {m n k : ℕ} → m ≡ n → left_by none is n ≡ k → left_of is m ≡ k
own_left is {n = n} p q = ap (left_of is) p ∙ (left_alone is n ∙ q)

pub behind : (b : Block) {m n k : ℕ} → m ≡ n → depth_behind b n ≡ k → depth_behind b m ≡ k
behind b p q = ap (depth_behind b) p ∙ q

module _ (U : Coded) where
  load_left : (h : Home) (offset words d : ℕ) → left_of (load U h offset words ∷ []) d ≡ d + words
  load_left (Local n) offset words d = omega arith
  load_left (Global n) offset words d = omega arith

  load_within_left : (h : Home) (words d : ℕ) → left_of (load_within U h words ∷ []) (d + 1) ≡ d + words
  load_within_left (Local n) words d = omega arith
  load_within_left (Global n) words d = omega arith

  variable_depth : (h : Home) (s : Suffixes) (words z d : ℕ) → depth_behind (path U z s) (d + 1) ≡ d + 1 → (b : Bool)
      → depth_behind (if b then at_element s (path U z s ▹ Does (load_within U h words ∷ [])) else Does (load U h (fields_of s) words ∷ [])) d ≡ d + words
  variable_depth h s words z d p true =
      ap (left_of (load_within U h words ∷ [])) (behind (path U z s) {m = d - 0 + 1} {n = d + 1} (omega arith) p) ∙ load_within_left h words d
  variable_depth h s words z d p false = load_left h (fields_of s) words d

  pub arranged : (places : List ℕ) (es : Exprs) (m d : ℕ) → m ≡ d + words_given es → left_of (arrange_code places (sizes es)) m ≡ d + words_given es
  arranged places es m d p =
      own_left (arrange_code places (sizes es)) (p ∙ ap (λ n. d + n) (sym (total_given es)))
      (own_code_keeps_words.arranged none places (sizes es) d ∙ ap (λ n. d + n) (total_given es))

  field_left : (e : Expr) (parts : List Part) (m d : ℕ) → m ≡ d + words_of e → words_before_last parts + last_words parts ≤ words_of e
      → left_of (field_code (words_before_last parts) (last_words parts) (words_of e - (words_before_last parts + last_words parts))) m ≡ d + last_words parts
  field_left e parts m d p fits =
      let before = words_before_last parts in
      let words = last_words parts in
      let after = words_of e - (before + words) in
      own_left (field_code before words after) {n = d + before + words + after} (p ∙ omega (arith, fits)) (own_code_keeps_words.field none before words after d)

  pub within_left : (bases : Bases) (range : Interval) (m d : ℕ) → m ≡ d + 3 → left_of (within_of (scratch U) bases range) m ≡ d + 1
  within_left bases (Between x p y q) m d e = own_left (within_code (scratch U) bases p q) e (own_code_keeps_words.within none (scratch U) bases p q d)

  pub comparison_left : (b : Base) (o : Relation) (d : ℕ) → left_of (comparison b o) (d + 2) ≡ d + 1
  comparison_left Signed Equal d = omega arith
  comparison_left Signed NotEqual d = omega arith
  comparison_left Signed Less d = omega arith
  comparison_left Signed AtMost d = omega arith
  comparison_left Signed Greater d = omega arith
  comparison_left Signed AtLeast d = omega arith
  comparison_left Unsigned Equal d = omega arith
  comparison_left Unsigned NotEqual d = omega arith
  comparison_left Unsigned Less d = omega arith
  comparison_left Unsigned AtMost d = omega arith
  comparison_left Unsigned Greater d = omega arith
  comparison_left Unsigned AtLeast d = omega arith

  pub long_within_left : (bases : Bases) (range : Interval) (m d : ℕ) → m ≡ d + 6 → left_of (long_within_of (scratch U) bases range) m ≡ d + 1
  long_within_left bases (Between x p y q) m d e = own_left (long_within_code (scratch U) bases p q) e (own_code_keeps_words.long_within none (scratch U) bases p q d)

  pub long_comparison_left : (b : Base) (o : Relation) (d : ℕ) → left_of (long_comparison b o) (d + 4) ≡ d + 1
  long_comparison_left Signed Equal d = omega arith
  long_comparison_left Signed NotEqual d = omega arith
  long_comparison_left Signed Less d = omega arith
  long_comparison_left Signed AtMost d = omega arith
  long_comparison_left Signed Greater d = omega arith
  long_comparison_left Signed AtLeast d = omega arith
  long_comparison_left Unsigned Equal d = omega arith
  long_comparison_left Unsigned NotEqual d = omega arith
  long_comparison_left Unsigned Less d = omega arith
  long_comparison_left Unsigned AtMost d = omega arith
  long_comparison_left Unsigned Greater d = omega arith
  long_comparison_left Unsigned AtLeast d = omega arith

  module _ (Γ : Scope) where
    mutual
      unfolding ExprIn ExprsIn SuffixesIn OperationsIn LongOperationsIn IntervalIn LongIntervalIn words_of words_given

      pub value_depth : (e : Expr) (ks : Kinds) → ExprIn Γ e ks → (z d : ℕ) → depth_behind (forms U z e).value d ≡ d + words_of e
      value_depth (Number n) ks h z d = omega arith
      value_depth (LongNumber n) ks h z d = omega arith
      value_depth (Literal k) ks h z d = omega arith
      value_depth (Variable v s words) ks h z d = variable_depth v s words z d (path_depth s h.0 h.1 h.3 z d) (has_index s)
      value_depth (FieldOf e parts) ks h z d =
          field_left e parts _ d (value_depth e (one h.1) h.3 z d) (omega (arith, one_is Γ e h.1 h.3, fields_fit parts h.1 h.2 h.4))
      value_depth (LengthOf e) ks h z d = omega (arith, value_depth e (one Texts) h.0 z d, text_is Γ e h.0)
      value_depth (ByteOf e i) ks h z d =
          let p : depth_behind (forms U z e).value d ≡ d + 2 = value_depth e (one Texts) h.0 z d ∙ ap (λ n. d + n) (text_is Γ e h.0) in
          let q : depth_behind (forms U (z + hidden_expr e) i).value (d + 2) ≡ d + 2 + 1 =
          value_depth i a_word h.1 (z + hidden_expr e) (d + 2) ∙ ap (λ n. d + 2 + n) (word_is Γ i h.1) in
          ap (λ n. n - 3 + 1) (behind (forms U (z + hidden_expr e) i).value p q) ∙ omega arith
      value_depth (Checked r e) ks h z d =
          own_left (check_code r) (value_depth e a_word h.1 z d ∙ ap (λ n. d + n) (word_is Γ e h.1)) (own_code_keeps_words.check none r d)
      value_depth (Converted c e) ks h z d =
          own_left (conversion_code c) (value_depth e (one h.1) h.4 z d ∙ ap (λ n. d + n) (one_is Γ e h.1 h.4 ∙ (words_converted c h.1 h.2 h.3).0))
          (own_code_keeps_words.conversion none c d)
      value_depth (Operate e os) ks h z d =
          behind (operations U (z + hidden_expr e) os) (value_depth e a_word h.0 z d ∙ ap (λ n. d + n) (word_is Γ e h.0))
          (operations_depth os h.1 (z + hidden_expr e) d)
      value_depth (OperateLong e os) ks h z d =
          behind (long_operations U (z + hidden_expr e) os) (value_depth e a_long h.0 z d ∙ ap (λ n. d + n) (long_is Γ e h.0))
          (long_operations_depth os h.1 (z + hidden_expr e) d)
      value_depth (Negate e) ks h z d = omega (arith, value_depth e a_word h.0 z d, word_is Γ e h.0)
      value_depth (NegateLong e) ks h z d = omega (arith, value_depth e a_long h.0 z d, long_is Γ e h.0)
      value_depth (Relate b o x y) ks h z d =
          let p : depth_behind (forms U z x).value d ≡ d + 1 = value_depth x a_word h.0 z d ∙ ap (λ n. d + n) (word_is Γ x h.0) in
          let q : depth_behind (forms U (z + hidden_expr x) y).value (d + 1) ≡ d + 1 + 1 =
          value_depth y a_word h.1 (z + hidden_expr x) (d + 1) ∙ ap (λ n. d + 1 + n) (word_is Γ y h.1) in
          own_left (relation_code b o) {n = d + 2} (behind (forms U (z + hidden_expr x) y).value p q ∙ omega arith) (own_code_keeps_words.relation none b o d)
      value_depth (RelateLong b o x y) ks h z d =
          let p : depth_behind (forms U z x).value d ≡ d + 2 = value_depth x a_long h.0 z d ∙ ap (λ n. d + n) (long_is Γ x h.0) in
          let q : depth_behind (forms U (z + hidden_expr x) y).value (d + 2) ≡ d + 2 + 2 =
          value_depth y a_long h.1 (z + hidden_expr x) (d + 2) ∙ ap (λ n. d + 2 + n) (long_is Γ y h.1) in
          own_left (long_relation_code b o) {n = d + 4} (behind (forms U (z + hidden_expr x) y).value p q ∙ omega arith) (own_code_keeps_words.long_relation none b o d)
      value_depth (Within bases e range) ks h z d =
          let first : depth_behind (forms U z e).value d ≡ d + 1 = value_depth e a_word h.0 z d ∙ ap (λ n. d + n) (word_is Γ e h.0) in
          within_left bases range _ d
          (behind (bounds U (z + hidden_expr e) range) first (bounds_depth range h.1 (z + hidden_expr e) (d + 1)) ∙ omega arith)
      value_depth (WithinLong bases e range) ks h z d =
          let first : depth_behind (forms U z e).value d ≡ d + 2 = value_depth e a_long h.0 z d ∙ ap (λ n. d + n) (long_is Γ e h.0) in
          long_within_left bases range _ d
          (behind (bounds U (z + hidden_expr e) range) first (long_bounds_depth range h.1 (z + hidden_expr e) (d + 2)) ∙ omega arith)
      value_depth (Not e) ks h z d = omega (arith, value_depth e a_word h.0 z d, word_is Γ e h.0)
      value_depth (AllOf es) ks h z d = refl
      value_depth (SomeOf es) ks h z d = refl
      value_depth (Construct places es) ks h z d = arranged places es _ d (values_depth es h.1 h.5 z d)
      value_depth (Call c places es words ph) ks h z d =
          ap (λ n. n - words_given es + words) (arranged places es _ d (values_depth es h.1 h.3 z d)) ∙ omega arith
      value_depth (Raise r places es words ph) ks h z d =
          ap (λ n. n - words_given es + words) (arranged places es _ d (values_depth es h.1 h.3 z d)) ∙ omega arith

      pub values_depth : (es : Exprs) (ks : Kinds) → ExprsIn Γ es ks → (z d : ℕ) → depth_behind (values U z es) d ≡ d + words_given es
      values_depth NoExprs ks h z d = omega arith
      values_depth (AndExpr e es) ks h z d =
          behind (values U (z + hidden_expr e) es) (value_depth e (one h.0) h.2 z d) (values_depth es h.1 h.3 (z + hidden_expr e) (d + words_of e))
          ∙ omega arith

      pub bounds_depth : (range : Interval) → IntervalIn Γ range → (z d : ℕ) → depth_behind (bounds U z range) d ≡ d + 2
      bounds_depth (Between x p y q) h z d =
          let first : depth_behind (forms U z x).value d ≡ d + 1 = value_depth x a_word h.0 z d ∙ ap (λ n. d + n) (word_is Γ x h.0) in
          behind (forms U (z + hidden_expr x) y).value first
          (value_depth y a_word h.1 (z + hidden_expr x) (d + 1) ∙ ap (λ n. d + 1 + n) (word_is Γ y h.1) ∙ omega arith)

      pub long_bounds_depth : (range : Interval) → LongIntervalIn Γ range → (z d : ℕ) → depth_behind (bounds U z range) d ≡ d + 4
      long_bounds_depth (Between x p y q) h z d =
          let first : depth_behind (forms U z x).value d ≡ d + 2 = value_depth x a_long h.0 z d ∙ ap (λ n. d + n) (long_is Γ x h.0) in
          behind (forms U (z + hidden_expr x) y).value first
          (value_depth y a_long h.1 (z + hidden_expr x) (d + 2) ∙ ap (λ n. d + 2 + n) (long_is Γ y h.1) ∙ omega arith)

      pub long_operations_depth : (os : Operations) → LongOperationsIn Γ os → (z d : ℕ) → depth_behind (long_operations U z os) (d + 2) ≡ d + 2
      long_operations_depth NoOperation h z d = refl
      long_operations_depth (Then r o e os) h z d =
          let q : depth_behind (forms U z e).value (d + 2) ≡ d + 4 = value_depth e a_long h.2 z (d + 2) ∙ ap (λ n. d + 2 + n) (long_is Γ e h.2) ∙ omega arith in
          behind (long_operations U (z + hidden_expr e) os)
          (own_left (long_operator_code o) q (own_code_keeps_words.long_operator none o d))
          (long_operations_depth os h.3 (z + hidden_expr e) d)

      pub operations_depth : (os : Operations) → OperationsIn Γ os → (z d : ℕ) → depth_behind (operations U z os) (d + 1) ≡ d + 1
      operations_depth NoOperation h z d = refl
      operations_depth (Then r o e os) h z d =
          let p : left_of (check_code r) (d + 1) ≡ d + 1 = own_left (check_code r) refl (own_code_keeps_words.check none r d) in
          let q : depth_behind (forms U z e).value (d + 1) ≡ d + 2 = value_depth e a_word h.1 z (d + 1) ∙ ap (λ n. d + 1 + n) (word_is Γ e h.1) ∙ omega arith in
          behind (operations U (z + hidden_expr e) os)
          (own_left (operator_code (scratch U) o) (behind (forms U z e).value p q) (own_code_keeps_words.operator none (scratch U) o d))
          (operations_depth os h.2 (z + hidden_expr e) d)

      pub path_depth : (s : Suffixes) (j k : Kind) → SuffixesIn Γ s j k → (z d : ℕ) → depth_behind (path U z s) (d + 1) ≡ d + 1
      path_depth NoSuffix j k h z d = refl
      path_depth (Field n offset s) j k h z d = path_depth s h.1 k h.4 z d
      path_depth (Index r first n words e s) j k h z d =
          let p : depth_behind (forms U z e).value (d + 1) ≡ d + 2 = value_depth e a_word h.6 z (d + 1) ∙ ap (λ n. d + 1 + n) (word_is Γ e h.6) ∙ omega arith in
          behind (path U (z + hidden_expr e) s) (own_left (index_code r first n words) p (own_code_keeps_words.index none r first n words d))
          (path_depth s h.0 k h.7 (z + hidden_expr e) d)

    pub two_values : (x y : Expr) → ExprIn Γ x a_word → ExprIn Γ y a_word → (z d : ℕ)
        → depth_behind (forms U (z + hidden_expr x) y).value (depth_behind (forms U z x).value d) ≡ d + 2
    two_values x y h g z d =
        behind (forms U (z + hidden_expr x) y).value (value_depth x a_word h z d ∙ ap (λ n. d + n) (word_is Γ x h))
        (value_depth y a_word g (z + hidden_expr x) (d + 1) ∙ ap (λ n. d + 1 + n) (word_is Γ y g) ∙ omega arith)

    pub two_longs : (x y : Expr) → ExprIn Γ x a_long → ExprIn Γ y a_long → (z d : ℕ)
        → depth_behind (forms U (z + hidden_expr x) y).value (depth_behind (forms U z x).value d) ≡ d + 4
    two_longs x y h g z d =
        behind (forms U (z + hidden_expr x) y).value (value_depth x a_long h z d ∙ ap (λ n. d + n) (long_is Γ x h))
        (value_depth y a_long g (z + hidden_expr x) (d + 2) ∙ ap (λ n. d + 2 + n) (long_is Γ y g) ∙ omega arith)

    -- a condition takes its words

    by_value_depth : (e : Expr) → ExprIn Γ e a_word → (sense : Bool) (part z d : ℕ)
        → depth_behind ((forms U z e).value ▹ Out (Where sense) part) d ≡ d
    by_value_depth e h sense part z d =
        ap (λ n. n - 1) (value_depth e a_word h z d ∙ ap (λ n. d + n) (word_is Γ e h)) ∙ omega arith

    turned_depth : (b : Bool) (jumps : ℕ → Block) (part d : ℕ) → depth_behind (jumps part) d ≡ d → depth_behind (turned b jumps part) d ≡ d
    turned_depth false jumps part d e = e
    turned_depth true jumps part d e = refl

    mutual
      unfolding ExprIn WordsIn

      pub jump_depth : (e : Expr) → ExprIn Γ e a_word → (sense : Bool) (part z d : ℕ) → depth_behind ((forms U z e).jump sense part) d ≡ d
      jump_depth (Number n) h sense part z d = by_value_depth (Number n) h sense part z d
      jump_depth (LongNumber n) h sense part z d = by_value_depth (LongNumber n) h sense part z d
      jump_depth (Literal k) h sense part z d = by_value_depth (Literal k) h sense part z d
      jump_depth (Variable v s words) h sense part z d = by_value_depth (Variable v s words) h sense part z d
      jump_depth (FieldOf e parts) h sense part z d = by_value_depth (FieldOf e parts) h sense part z d
      jump_depth (LengthOf e) h sense part z d = by_value_depth (LengthOf e) h sense part z d
      jump_depth (ByteOf e i) h sense part z d = by_value_depth (ByteOf e i) h sense part z d
      jump_depth (Checked r e) h sense part z d = by_value_depth (Checked r e) h sense part z d
      jump_depth (Converted c e) h sense part z d = by_value_depth (Converted c e) h sense part z d
      jump_depth (Operate e os) h sense part z d = by_value_depth (Operate e os) h sense part z d
      jump_depth (OperateLong e os) h sense part z d = by_value_depth (OperateLong e os) h sense part z d
      jump_depth (Negate e) h sense part z d = by_value_depth (Negate e) h sense part z d
      jump_depth (NegateLong e) h sense part z d = by_value_depth (NegateLong e) h sense part z d
      jump_depth (Relate b o x y) h sense part z d =
          ap (λ n. n - 1)
          (ap (left_of (comparison b o)) (two_values x y h.0 h.1 z d) ∙ comparison_left b o d)
          ∙ omega arith
      jump_depth (RelateLong b o x y) h sense part z d =
          ap (λ n. n - 1)
          (ap (left_of (long_comparison b o)) (two_longs x y h.0 h.1 z d) ∙ long_comparison_left b o d)
          ∙ omega arith
      jump_depth (Within bases e range) h sense part z d = by_value_depth (Within bases e range) h sense part z d
      jump_depth (WithinLong bases e range) h sense part z d = by_value_depth (WithinLong bases e range) h sense part z d
      jump_depth (Not e) h sense part z d = jump_depth e h.0 (not sense) part z d
      jump_depth (AllOf es) h sense part z d = turned_depth sense (operands U z es false) part d (operands_depth es h.1 false part z d)
      jump_depth (SomeOf es) h sense part z d = turned_depth (not sense) (operands U z es true) part d (operands_depth es h.1 true part z d)
      jump_depth (Construct places es) h sense part z d = by_value_depth (Construct places es) h sense part z d
      jump_depth (Call c places es words ph) h sense part z d = by_value_depth (Call c places es words ph) h sense part z d
      jump_depth (Raise r places es words ph) h sense part z d = by_value_depth (Raise r places es words ph) h sense part z d

      pub operands_depth : (es : Exprs) → WordsIn Γ es → (sense : Bool) (part z d : ℕ) → depth_behind (operands U z es sense part) d ≡ d
      operands_depth NoExprs h sense part z d = refl
      operands_depth (AndExpr e es) h sense part z d =
          behind (operands U (z + hidden_expr e) es sense part) (jump_depth e h.0 sense part z d) (operands_depth es h.1 sense part (z + hidden_expr e) d)
