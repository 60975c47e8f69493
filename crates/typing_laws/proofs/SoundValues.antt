-- Rules on values that look at no part of the text: what they give is sound.
use Rattle.std.proofs.Common.{◌≡◌, ℕ, ◌+◌, refl, sym, ◌∙◌, ap, subst, arith}
use Rattle.std.specs.Prelude.{◌≤◌, ◌<◌, Bool, true, false, not, ◌&&◌, ◌||◌, Option, Some, None, Ok, IfOk, nat_le, min, if◌then◌else◌}
use Rattle.std.proofs.lemmas.Bool.{leb-true}
use Rattle.mesa_base.specs.declared.place.Place.{Place}
use Rattle.mesa_types.specs.Sound as sound
use Rattle.mesa_types.specs.Operators as words
use Rattle.mesa_types.specs.Counts.{operands, operands_of_interval, operands_of_run, hidden_expr, hidden_interval, hidden_operations}
use Rattle.mesa_types.specs.Shapes.{one, words_in, words_in_all}
use Rattle.syntax_trees.specs.declared.syntax.Operator.{Operator}
use Rattle.syntax_trees.specs.declared.syntax.Sign.{Sign}
use Rattle.syntax_trees.specs.declared.syntax.Sign.TheVariants.{Positive, Negative}
use Rattle.mesa_base.specs.declared.relation.Relation.{Relation}
use Rattle.mesa_types.specs.declared.typed_parts.Range.{Range}
use Rattle.mesa_types.specs.declared.typed_parts.Range.TheVariants.{Every, From}
use Rattle.mesa_types.specs.declared.typed_parts.Conversion.{Conversion}
use Rattle.mesa_types.specs.declared.typed_parts.Conversion.TheVariants.{Kept, Widened, Narrowed, InCommon}
use Rattle.check_rules.specs.Typed as t
use Rattle.interface_records.specs.PlainTypes as v
use Rattle.interface_records.specs.PlainTypes.{PlainType, kind_of, conforms, is_long, words_of}
use Rattle.check_rules.specs.declared.fault.Cause.{Cause}
use Rattle.check_rules.specs.Steps.{Checked, and_then, only, refuse, or_refuse}
use Rattle.check_rules.specs.Ranges.{Typed, typed, Aim, Free, Into, Several, checked, range_for, conversion_for, converted, given_as, fitted_if, finish}
use Rattle.check_rules.specs.Parts.{and_operation}
use Rattle.check_rules.specs.Operators.{Sort, Number, LongNumber, Letter, Truth, Other, Fit, AsLiteral, By, Application, OfWords, OfLongs, Relating, Longs, Words, sort_of, operation, relating, number_type, long_type, lengthened, made_by, fitted, longer, by_itself, beside, turned}
use Rattle.check_rules.specs.Statements.{Ends, between, is_meeting, are_related, meets_bounds, is_long_interval, by_itself_of, long_between, lengthening, lengthening_if, longer_number, longer_bounds}
use Rattle.check_rules.specs.Values.{literal_of, number, letter, truth, is_truth_sort, is_truth, not_of, signed_by, signed, related_value, compared, negated_by, within_by, within, Sum, Begun, InWords, InLongs, closed, then_word, then_long, Done, done_by, step, truth_operand}
use Rattle.check_rules.proofs.SoundTypes.{TypeIn, no_truth, both_left, both_right}
use Rattle.typing_laws.proofs.SoundOperators.{word_sort, number_kind, short_sort, FitsSort, extra, itself_in, GoodFor, operation_in, RelatesFor, relating_in, left_word, right_word, three_numbers, number_word, plain_words, plain_types, given_range, given_words, OnlyWords, ConversionIn, conversion_in}
use Rattle.typing_laws.proofs.SoundOperators as operators
use Rattle.typing_laws.proofs.SoundSteps.{World, Spot, at}
use Rattle.typing_laws.proofs.SoundnessStatements.{IsLiteral, ValueIn, SeveralIn, CheckedIn, FreshIn, AimIn, GaveIn, SumIn, EndsIn}

-- ---- tests

pub where_true : {A : Type 0} (b : Bool) (x : A) (cause : Cause) (place : Place) (P : A → Type 0) → (b ≡ true → P x)
    → IfOk (if b then Ok x else refuse cause place) P
where_true true x cause place P h = h refl
where_true false x cause place P h = tt

pub only_where : {A : Type 0} (b : Bool) (cause : Cause) (place : Place) (x : A) (P : A → Type 0) → (b ≡ true → P x)
    → IfOk (and_then (only b cause place) (λ u. Ok x)) P
only_where true cause place x P h = h refl
only_where false cause place x P h = tt

pub behind_only : {A : Type 0} (b : Bool) (cause : Cause) (place : Place) (r : Checked A) (P : A → Type 0) → IfOk r P
    → IfOk (and_then (only b cause place) (λ u. r)) P
behind_only true cause place r P h = h
behind_only false cause place r P h = tt

pub two_where : {A : Type 0} (b c : Bool) (cause : Cause) (p q : Place) (x : A) (P : A → Type 0) → (b ≡ true → c ≡ true → P x)
    → IfOk (and_then (and_then (only b cause p) (λ u. only c cause q)) (λ u. Ok x)) P
two_where true true cause p q x P h = h refl refl
two_where true false cause p q x P h = tt
two_where false c cause p q x P h = tt

pub where_some : {A B : Type 0} (o : Option A) (cause : Cause) (place : Place) (f : A → B) (P : B → Type 0) → ((a : A) → o ≡ Some a → P (f a))
    → IfOk (and_then (or_refuse o cause place) (λ a. Ok (f a))) P
where_some (Some a) cause place f P h = h a refl
where_some None cause place f P h = tt

abbrev numbered : ℕ → Bool → Bool → Bool → Typed
numbered n a b c =
    if a then literal_of v.Integer (t.Number n)
    else (if b then literal_of v.Cardinal (t.Number n)
    else (if c then literal_of v.LongInteger (t.LongNumber n)
    else typed v.LongCardinal (t.LongNumber (min n 4294967295))))

-- ---- words

module _ (W : World) (p : Spot) where
  pub checked_word : (r : Range) (e : t.Expr) → sound.RangeIn r → sound.ExprIn (at W p) e sound.a_word → sound.ExprIn (at W p) (checked r e) sound.a_word
  unfolding sound.ExprIn sound.RangeIn
  checked_word Every e h k = k
  checked_word (From b first last) e h k = (h, k, refl)

  pub checked_operands : (r : Range) (e : t.Expr) → operands (checked r e) ≡ operands e
  unfolding operands
  checked_operands Every e = refl
  checked_operands (From b first last) e = refl

  pub checked_hidden : (r : Range) (e : t.Expr) → hidden_expr (checked r e) ≡ hidden_expr e
  unfolding hidden_expr
  checked_hidden Every e = refl
  checked_hidden (From b first last) e = refl

  pub as_word : (e : t.Expr) (k : PlainType) → kind_of k ≡ t.Ordinal → sound.ExprIn (at W p) e (one (kind_of k)) → sound.ExprIn (at W p) e sound.a_word
  unfolding sound.a_word
  as_word e k d h = subst (λ j. sound.ExprIn (at W p) e (one j)) d h

  pub of_word : (e : t.Expr) (k : PlainType) → kind_of k ≡ t.Ordinal → sound.ExprIn (at W p) e sound.a_word → sound.ExprIn (at W p) e (one (kind_of k))
  unfolding sound.a_word
  of_word e k d h = subst (λ j. sound.ExprIn (at W p) e (one j)) (sym d) h

  -- a word of a type, from no call
  pub word_value : (k : PlainType) (e : t.Expr) (s h : ℕ) → kind_of k ≡ t.Ordinal → TypeIn k → sound.ExprIn (at W p) e sound.a_word → operands e ≤ s
      → hidden_expr e ≤ h
      → ValueIn W p (typed k e) s h
  unfolding GaveIn
  word_value k e s h d i x o n = record { value = of_word e k d x; kind = i; operands_are = o; hidden_are = n; gave = tt; literal = λ l. no_truth l }

  -- what a value is for
  pub several_of : (r : Typed) (s h : ℕ) → ValueIn W p r s h → SeveralIn W p r s h
  several_of r s h x = record { single = λ e. x.value; kind = x.kind; operands_are = x.operands_are; hidden_are = x.hidden_are; gave = x.gave }

  -- a LONG number of a type, from no call
  pub as_long : (e : t.Expr) (k : PlainType) → kind_of k ≡ t.Longs → sound.ExprIn (at W p) e (one (kind_of k)) → sound.ExprIn (at W p) e sound.a_long
  unfolding sound.a_long
  as_long e k d h = subst (λ j. sound.ExprIn (at W p) e (one j)) d h

  pub of_long : (e : t.Expr) (k : PlainType) → kind_of k ≡ t.Longs → sound.ExprIn (at W p) e sound.a_long → sound.ExprIn (at W p) e (one (kind_of k))
  unfolding sound.a_long
  of_long e k d h = subst (λ j. sound.ExprIn (at W p) e (one j)) (sym d) h

  pub long_value : (k : PlainType) (e : t.Expr) (s h : ℕ) → kind_of k ≡ t.Longs → TypeIn k → sound.ExprIn (at W p) e sound.a_long → operands e ≤ s
      → hidden_expr e ≤ h
      → ValueIn W p (typed k e) s h
  unfolding GaveIn
  long_value k e s h d i x o n = record { value = of_long e k d x; kind = i; operands_are = o; hidden_are = n; gave = tt; literal = λ l. no_truth l }

  -- ---- what is given to a target

  converted_value : (c : Conversion) (i j : t.Kind) (e : t.Expr) → sound.IsConversion c → sound.Converts c i j → sound.ExprIn (at W p) e (one i)
      → sound.ExprIn (at W p) (t.Converted c e) (one j)
  unfolding sound.ExprIn
  converted_value c i j e n h x = (n, i, j, h, x, refl)

  checked_value : (r : Range) (i j : t.Kind) (e : t.Expr) → i ≡ j → sound.RangeIn r → OnlyWords r j → sound.ExprIn (at W p) e (one i)
      → sound.ExprIn (at W p) (checked r e) (one j)
  unfolding sound.ExprIn sound.RangeIn OnlyWords sound.a_word
  checked_value Every i j e d h w x = subst (λ y. sound.ExprIn (at W p) e (one y)) d x
  checked_value (From b first last) i j e d h w x = (h, subst (λ y. sound.ExprIn (at W p) e (one y)) (d ∙ w) x, ap one w)

  by_conversion : (c : Conversion) (r : Range) (i j : t.Kind) (e : t.Expr) → ConversionIn c i j → sound.RangeIn r → OnlyWords r j
      → sound.ExprIn (at W p) e (one i)
      → sound.ExprIn (at W p) (converted c r e) (one j)
  unfolding sound.IsConversion
  by_conversion Kept r i j e h k w x = checked_value r i j e h k w x
  by_conversion (Widened from to) r i j e h k w x = converted_value (Widened from to) i j e tt h x
  by_conversion (Narrowed from to q) r i j e h k w x = converted_value (Narrowed from to q) i j e tt h x
  by_conversion InCommon r i j e h k w x = converted_value InCommon i j e tt h x

  pub given_value : (j k : PlainType) (e : t.Expr) → conforms j k ≡ true → TypeIn k → sound.ExprIn (at W p) e (one (kind_of j))
      → sound.ExprIn (at W p) (given_as j k e) (one (kind_of k))
  unfolding given_as
  given_value j k e c i x = by_conversion (conversion_for j k) (range_for j k) (kind_of j) (kind_of k) e (conversion_in j k c i) (given_range j k i) (given_words j k) x

  converted_counts : (c : Conversion) (r : Range) (e : t.Expr) → (operands (converted c r e) ≡ operands e) × (hidden_expr (converted c r e) ≡ hidden_expr e)
  unfolding operands hidden_expr
  converted_counts Kept r e = (checked_operands r e, checked_hidden r e)
  converted_counts (Widened from to) r e = (refl, refl)
  converted_counts (Narrowed from to q) r e = (refl, refl)
  converted_counts InCommon r e = (refl, refl)

  pub given_counts : (j k : PlainType) (e : t.Expr) → (operands (given_as j k e) ≡ operands e) × (hidden_expr (given_as j k e) ≡ hidden_expr e)
  unfolding given_as
  given_counts j k e = converted_counts (conversion_for j k) (range_for j k) e

  pub fitted_if_in : (b : Bool) (k : PlainType) (q : Place) (r : Typed) (s h : ℕ) → (b ≡ true → conforms r.kind k ≡ true) → TypeIn k → ValueIn W p r s h
      → IfOk (fitted_if b k q r) (λ y. ValueIn W p y s h × (y.kind ≡ k))
  unfolding GaveIn
  fitted_if_in true k q r s h e i x = (
    record {
      value = given_value r.kind k r.value (e refl) i x.value;
      kind = i;
      operands_are = omega (arith, (given_counts r.kind k r.value).0, x.operands_are);
      hidden_are = omega (arith, (given_counts r.kind k r.value).1, x.hidden_are);
      gave = tt;
      literal = λ l. no_truth l;
    },
    refl,
  )
  fitted_if_in false k q r s h e i x = tt

  pub fitted_in : (k : PlainType) (q : Place) (r : Typed) (s h : ℕ) → TypeIn k → ValueIn W p r s h
      → IfOk (fitted_if (conforms r.kind k) k q r) (λ y. ValueIn W p y s h × (y.kind ≡ k))
  fitted_in k q r s h i x = fitted_if_in (conforms r.kind k) k q r s h (λ e. e) i x

  pub finished : (aim : Aim) (r : Typed) (s h : ℕ) → AimIn aim → ValueIn W p r s h → IfOk (finish aim r) (λ y. CheckedIn W p aim y s h)
  unfolding finish AimIn CheckedIn
  finished (Free q) r s h i x = x
  finished (Into k q) r s h i x = fitted_in k q r s h i x
  finished (Several q) r s h i x = several_of r s h x

  pub finished_several : (aim : Aim) (r : Typed) (s h : ℕ) → AimIn aim → FreshIn W p aim r s h → IfOk (finish aim r) (λ y. CheckedIn W p aim y s h)
  unfolding finish AimIn CheckedIn FreshIn
  finished_several (Free q) r s h i x = x
  finished_several (Into k q) r s h i x = fitted_in k q r s h i x
  finished_several (Several q) r s h i x = x

  -- with more words counted
  pub more : (r : Typed) (s h s' h' : ℕ) → s ≤ s' → h ≤ h' → ValueIn W p r s h → ValueIn W p r s' h'
  more r s h s' h' m n x = record {
    value = x.value;
    kind = x.kind;
    operands_are = omega (arith, m, x.operands_are);
    hidden_are = omega (arith, n, x.hidden_are);
    gave = x.gave;
    literal = x.literal;
  }

  pub more_fresh : (aim : Aim) (r : Typed) (s h s' h' : ℕ) → s ≤ s' → h ≤ h' → FreshIn W p aim r s h → FreshIn W p aim r s' h'
  unfolding FreshIn
  more_fresh (Free q) r s h s' h' m n x = more r s h s' h' m n x
  more_fresh (Into k q) r s h s' h' m n x = more r s h s' h' m n x
  more_fresh (Several q) r s h s' h' m n x = record {
    single = x.single;
    kind = x.kind;
    operands_are = omega (arith, m, x.operands_are);
    hidden_are = omega (arith, n, x.hidden_are);
    gave = x.gave;
  }

  -- ---- literals

  pub number_expr : (n : ℕ) → n < 65536 → sound.ExprIn (at W p) (t.Number n) sound.a_word
  unfolding sound.ExprIn
  number_expr n h = (h, refl)

  pub number_counts : (n : ℕ) → (operands (t.Number n) ≡ 1) × (hidden_expr (t.Number n) ≡ 0)
  unfolding operands hidden_expr
  number_counts n = (refl, refl)

  long_number_expr : (n : ℕ) → n < 4294967296 → sound.ExprIn (at W p) (t.LongNumber n) sound.a_long
  unfolding sound.ExprIn
  long_number_expr n h = (h, refl)

  long_number_counts : (n : ℕ) → (operands (t.LongNumber n) ≡ 2) × (hidden_expr (t.LongNumber n) ≡ 0)
  unfolding operands hidden_expr
  long_number_counts n = (refl, refl)

  word_literal : (k : PlainType) (n s h : ℕ) → kind_of k ≡ t.Ordinal → TypeIn k → n < 65536 → 1 ≤ s → ValueIn W p (literal_of k (t.Number n)) s h
  unfolding GaveIn IsLiteral
  word_literal k n s h d i b o = record {
    value = of_word (t.Number n) k d (number_expr n b);
    kind = i;
    operands_are = omega (arith, (number_counts n).0, o);
    hidden_are = omega (arith, (number_counts n).1);
    gave = tt;
    literal = λ l. tt;
  }

  long_literal : (n s h : ℕ) → n < 4294967296 → 2 ≤ s → ValueIn W p (literal_of v.LongInteger (t.LongNumber n)) s h
  unfolding GaveIn IsLiteral kind_of TypeIn
  long_literal n s h b o = record {
    value = of_long (t.LongNumber n) v.LongInteger refl (long_number_expr n b);
    kind = tt;
    operands_are = omega (arith, (long_number_counts n).0, o);
    hidden_are = omega (arith, (long_number_counts n).1);
    gave = tt;
    literal = λ l. tt;
  }

  long_cardinal : (n s h : ℕ) → n < 4294967296 → 2 ≤ s → ValueIn W p (typed v.LongCardinal (t.LongNumber n)) s h
  unfolding kind_of TypeIn
  long_cardinal n s h b o = long_value v.LongCardinal (t.LongNumber n) s h refl tt (long_number_expr n b) (omega (arith, (long_number_counts n).0, o))
      (omega (arith, (long_number_counts n).1))

  number_by : (n s h : ℕ) (a b c : Bool) → a ≡ nat_le n 32767 → b ≡ nat_le n 65535 → c ≡ nat_le n 2147483647 → words_of (numbered n a b c).kind ≤ s
      → ValueIn W p (numbered n a b c) s h
  unfolding words_of
  number_by n s h true b c e f g o = word_literal v.Integer n s h plain_words.0 plain_types.0 (omega (arith, leb-true n 32767 (sym e))) o
  number_by n s h false true c e f g o = word_literal v.Cardinal n s h plain_words.3 plain_types.3 (omega (arith, leb-true n 65535 (sym f))) o
  number_by n s h false false true e f g o = long_literal n s h (omega (arith, leb-true n 2147483647 (sym g))) o
  number_by n s h false false false e f g o = long_cardinal (min n 4294967295) s h (omega arith) o

  pub number_value : (n s h : ℕ) → words_of (number n).kind ≤ s → ValueIn W p (number n) s h
  unfolding number
  number_value n s h o = number_by n s h (nat_le n 32767) (nat_le n 65535) (nat_le n 2147483647) refl refl refl o

  pub letter_value : (n s h : ℕ) → 1 ≤ s → ValueIn W p (letter n) s h
  unfolding letter
  letter_value n s h o = word_value v.Character (t.Number (min n 255)) s h plain_words.1 plain_types.1 (number_expr (min n 255) (omega arith))
      (omega (arith, (number_counts (min n 255)).0, o)) (omega (arith, (number_counts (min n 255)).1))

  pub bit_small : (b : Bool) → words.truth b < 65536
  unfolding words.truth
  bit_small true = omega arith
  bit_small false = omega arith

  pub truth_value : (b : Bool) (s h : ℕ) → 1 ≤ s → ValueIn W p (truth (t.Number (words.truth b))) s h
  truth_value b s h o = word_value v.Boolean (t.Number (words.truth b)) s h plain_words.2 plain_types.2 (number_expr (words.truth b) (bit_small b))
      (omega (arith, (number_counts (words.truth b)).0, o)) (omega (arith, (number_counts (words.truth b)).1))

  pub text_value : (n s h : ℕ) → n < W.strings → 2 ≤ s → ValueIn W p (typed v.String (t.Literal n)) s h
  unfolding sound.ExprIn operands hidden_expr GaveIn kind_of
  text_value n s h i o = record { value = (i, refl); kind = plain_types.4; operands_are = o; hidden_are = omega arith; gave = tt; literal = λ l. no_truth l }

  -- ---- NOT, signs, relations, IN

  pub truth_word : (k : PlainType) → is_truth k ≡ true → kind_of k ≡ t.Ordinal
  unfolding is_truth
  truth_word k e = word_sort k (by (sort_of k) e)
    where
      by : (x : Sort) → is_truth_sort x ≡ true → operators.IsWord x
      by (Number b) e = tt
      by (LongNumber b) e = no_truth e
      by Letter e = tt
      by Truth e = tt
      by Other e = no_truth e

  pub not_in : (q : Place) (r : Typed) (s h : ℕ) → ValueIn W p r s h → IfOk (not_of q r) (λ y. ValueIn W p y s h)
  unfolding not_of sound.ExprIn operands hidden_expr
  not_in q r s h x = where_true (is_truth r.kind) (truth (t.Not r.value)) _ q (λ y. ValueIn W p y s h) (λ e.
      word_value v.Boolean (t.Not r.value) s h plain_words.2 plain_types.2 (as_word r.value r.kind (truth_word r.kind e) x.value, refl) x.operands_are
      x.hidden_are)

  pub signed_in : (sign : Sign) (q : Place) (r : Typed) (s h : ℕ) → ValueIn W p r s h → IfOk (signed sign q r) (λ y. ValueIn W p y s h)
  unfolding signed sound.ExprIn operands hidden_expr
  signed_in sign q r s h x = by sign (sort_of r.kind) (word_sort r.kind) (number_kind r.kind x.kind)
    where
      by : (sign : Sign) (o : Sort) → (operators.IsWord o → kind_of r.kind ≡ t.Ordinal) → (operators.IsNumber o → kind_of r.kind ≡ operators.kind_by o)
          → IfOk (signed_by sign q r.value o) (λ y. ValueIn W p y s h)
      by Positive (Number b) d l = word_value (number_type b) r.value s h (number_word b) (operators.number_in b) (as_word r.value r.kind (d tt) x.value)
          x.operands_are x.hidden_are
      by Positive (LongNumber b) d l = long_value (long_type b) r.value s h (operators.long_type_kind b) (operators.long_type_in b)
          (as_long r.value r.kind (l tt) x.value) x.operands_are x.hidden_are
      by Negative (Number b) d l = word_value (number_type b) (t.Negate r.value) s h (number_word b) (operators.number_in b)
          (as_word r.value r.kind (d tt) x.value, refl) x.operands_are x.hidden_are
      by Negative (LongNumber b) d l = long_value (long_type b) (t.NegateLong r.value) s h (operators.long_type_kind b) (operators.long_type_in b)
          (as_long r.value r.kind (l tt) x.value, refl) x.operands_are x.hidden_are
      by Positive Letter d l = tt
      by Positive Truth d l = tt
      by Positive Other d l = tt
      by Negative Letter d l = tt
      by Negative Truth d l = tt
      by Negative Other d l = tt

  -- ---- operands that are made LONG

  lengthened_counts : (e : t.Expr) → (operands (lengthened e) ≤ operands e + 1) × (hidden_expr (lengthened e) ≡ hidden_expr e)
  unfolding operands hidden_expr
  lengthened_counts (t.Number n) = (omega arith, refl)
  lengthened_counts e = (omega arith, refl)

  made_counts : (c : Conversion) (e : t.Expr) → (operands (made_by c e) ≡ operands e) × (hidden_expr (made_by c e) ≡ hidden_expr e)
  unfolding operands hidden_expr
  made_counts Kept e = (refl, refl)
  made_counts (Widened from to) e = (refl, refl)
  made_counts (Narrowed from to r) e = (refl, refl)
  made_counts InCommon e = (refl, refl)

  pub fitted_counts : (f : Fit) (e : t.Expr) → (operands (fitted f e) ≤ operands e + extra f) × (hidden_expr (fitted f e) ≡ hidden_expr e)
  unfolding fitted
  fitted_counts AsLiteral e = lengthened_counts e
  fitted_counts (By c) e = (omega (arith, (made_counts c e).0), (made_counts c e).1)

  no_length : {A : Type 0} → sound.a_word ≡ sound.a_long → A
  unfolding sound.a_word sound.a_long one words_in words_in_all
  no_length e = absurd (omega (arith, apart e))
    where
      apart : sound.a_word ≡ sound.a_long → (let a : ℕ = 1 in let b : ℕ = 2 in a ≡ b)
      apart e = ap words_in_all e

  lengthened_in : (e : t.Expr) → IsLiteral e → sound.ExprIn (at W p) e sound.a_word → sound.ExprIn (at W p) (lengthened e) sound.a_long
  unfolding sound.ExprIn IsLiteral
  lengthened_in (t.Number n) l x = (omega (arith, x.0), refl)
  lengthened_in (t.LongNumber n) l x = no_length x.1
  lengthened_in e l x = absurd l

  made_in : (c : Conversion) (j : t.Kind) (e : t.Expr) → sound.Converts c j t.Longs → sound.ExprIn (at W p) e (one j)
      → sound.ExprIn (at W p) (made_by c e) sound.a_long
  unfolding sound.Converts sound.IsConversion sound.a_long
  made_in Kept j e h x = subst (λ y. sound.ExprIn (at W p) e (one y)) h.0 x
  made_in (Widened from to) j e h x = converted_value (Widened from to) j t.Longs e tt h x
  made_in (Narrowed from to r) j e h x = converted_value (Narrowed from to r) j t.Longs e tt h x
  made_in InCommon j e h x = converted_value InCommon j t.Longs e tt h x

  -- an operand of a LONG operation
  pub long_operand : (f : Fit) (k : PlainType) (l : Bool) (e : t.Expr) → TypeIn k → operators.IsNumber (sort_of k) → FitsSort f (sort_of k) l → (l ≡ true → IsLiteral e)
      → sound.ExprIn (at W p) e (one (kind_of k))
      → sound.ExprIn (at W p) (fitted f e) sound.a_long
  unfolding fitted
  long_operand AsLiteral k l e i n h literal x = by (sort_of k) l h (number_kind k i n) literal
    where
      by : (o : Sort) (l : Bool) → FitsSort AsLiteral o l → kind_of k ≡ operators.kind_by o → (l ≡ true → IsLiteral e) → sound.ExprIn (at W p) (lengthened e) sound.a_long
      by (Number b) true h d literal = lengthened_in e (literal refl) (as_word e k d x)
      by (Number b) false h d literal = absurd h
      by (LongNumber b) l h d literal = absurd h
      by Letter l h d literal = absurd h
      by Truth l h d literal = absurd h
      by Other l h d literal = absurd h
  long_operand (By c) k l e i n h literal x =
      made_in c (operators.kind_by (sort_of k)) e h (subst (λ y. sound.ExprIn (at W p) e (one y)) (number_kind k i n) x)

  -- ---- relations, IN

  pub compared_in : (negated : Bool) (o : Relation) (q lx : Place) (x : Typed) (ly : Place) (y : Typed) (s h m n : ℕ) → ValueIn W p x s h → ValueIn W p y m n
      → IfOk (compared negated o q lx x ly y) (λ z. ValueIn W p z (s + m + longer (sort_of x.kind) x.literal (sort_of y.kind) y.literal) (h + n))
  unfolding compared sound.ExprIn operands hidden_expr
  compared_in negated o q lx x ly y s h m n d e =
      where_some (relating x.kind x.literal y.kind y.literal) _ (beside q lx (sort_of x.kind) ly (sort_of y.kind)) (related_value (turned negated o) x.value y.value)
      (λ z. ValueIn W p z (s + m + longer (sort_of x.kind) x.literal (sort_of y.kind) y.literal) (h + n))
      (λ a f. by a (relating_in x.kind y.kind x.literal y.literal a f))
    where
      by : (a : Relating) → RelatesFor x.kind x.literal y.kind y.literal a
          → ValueIn W p (related_value (turned negated o) x.value y.value a) (s + m + longer (sort_of x.kind) x.literal (sort_of y.kind) y.literal) (h + n)
      by (Words a) r = word_value v.Boolean _ (s + m + longer (sort_of x.kind) x.literal (sort_of y.kind) y.literal) (h + n) plain_words.2 plain_types.2 (
        checked_word a.left x.value (r.met).left (as_word x.value x.kind r.left d.value),
        checked_word a.right y.value (r.met).right
            (as_word y.value y.kind r.right e.value),
        refl,
      )
          (omega (arith, checked_operands a.left x.value, checked_operands a.right y.value, d.operands_are, e.operands_are))
          (omega (arith, checked_hidden a.left x.value, checked_hidden a.right y.value, d.hidden_are, e.hidden_are))
      by (Longs a) r = word_value v.Boolean _ (s + m + longer (sort_of x.kind) x.literal (sort_of y.kind) y.literal) (h + n) plain_words.2 plain_types.2 (
        long_operand a.left x.kind x.literal x.value d.kind r.left_number r.left d.literal d.value,
        long_operand a.right y.kind y.literal y.value e.kind r.right_number r.right e.literal e.value,
        refl,
      )
          (omega (arith, (fitted_counts a.left x.value).0, (fitted_counts a.right y.value).0, r.words, d.operands_are, e.operands_are))
          (omega (arith, (fitted_counts a.left x.value).1, (fitted_counts a.right y.value).1, d.hidden_are, e.hidden_are))

  pub negated_value : (negated : Bool) (e : t.Expr) (s h : ℕ) → sound.ExprIn (at W p) e sound.a_word → operands e ≤ s → hidden_expr e ≤ h
      → ValueIn W p (truth (negated_by negated e)) s h
  unfolding sound.ExprIn operands hidden_expr
  negated_value true e s h x o n = word_value v.Boolean (t.Not e) s h plain_words.2 plain_types.2 (x, refl) o n
  negated_value false e s h x o n = word_value v.Boolean e s h plain_words.2 plain_types.2 x o n

  -- two that are related
  record AreRelated (x y : Typed) : Type 0 where
    how : Relating
    are : RelatesFor x.kind x.literal y.kind y.literal how

  related_so : (x y : Typed) → are_related x y ≡ true → AreRelated x y
  related_so x y e = by (relating x.kind x.literal y.kind y.literal) refl e
    where
      by : (o : Option Relating) → relating x.kind x.literal y.kind y.literal ≡ o → is_meeting o ≡ true → AreRelated x y
      by None d e = no_truth e
      by (Some a) d e = record { how = a; are = relating_in x.kind y.kind x.literal y.literal a d }

  pub record WordBoundsIn (x : Typed) (i : Ends) (s h : ℕ) : Type 0 where
    pub word : kind_of x.kind ≡ t.Ordinal
    pub interval : sound.IntervalIn (at W p) (between i)
    pub operands_are : operands_of_interval (between i) ≤ s
    pub hidden_are : hidden_interval (between i) ≤ h

  -- the bounds of an interval of words
  pub words_between : (x : Typed) (i : Ends) (s h : ℕ) → is_long_interval x i ≡ false → are_related x i.low ≡ true → are_related x i.high ≡ true → EndsIn W p i s h
      → WordBoundsIn x i s h
  unfolding sound.IntervalIn operands_of_interval hidden_interval is_long_interval
  words_between x i s h e f g ends =
      let a = related_so x i.low f in
      let b = related_so x i.high g in
      let r = neither (is_long x.kind) (is_long (i.low).kind || is_long (i.high).kind) e in
      let q = neither (is_long (i.low).kind) (is_long (i.high).kind) r.1 in
      record {
        word = left_word x.kind (i.low).kind x.literal (i.low).literal a.how a.are r.0;
        interval = (
          as_word (i.low).value (i.low).kind (right_word x.kind (i.low).kind x.literal (i.low).literal a.how a.are q.0) ends.low,
          as_word (i.high).value (i.high).kind (right_word x.kind (i.high).kind x.literal (i.high).literal b.how b.are q.1) ends.high,
        );
        operands_are = ends.operands_are;
        hidden_are = ends.hidden_are;
      }
    where
      neither : (a b : Bool) → (a || b) ≡ false → (a ≡ false) × (b ≡ false)
      neither true b e = no_truth (sym e)
      neither false b e = (refl, e)

  itself_extra : (r : Typed) → extra (by_itself (sort_of r.kind) r.literal) ≤ lengthening r
  itself_extra r = by (sort_of r.kind) r.literal (is_long r.kind) (short_sort r.kind)
    where
      by : (o : Sort) (l long : Bool) → (operators.IsWord o → long ≡ false) → extra (by_itself o l) ≤ (if l && not long then 1 else 0)
      by (Number b) true long h = subst (λ (x : Bool). 1 ≤ (if not x then 1 else 0)) (sym (h tt)) (omega arith)
      by (Number b) false long h = omega arith
      by (LongNumber b) l long h = omega arith
      by Letter l long h = omega arith
      by Truth l long h = omega arith
      by Other l long h = omega arith

  pub record Long (e : t.Expr) (s h : ℕ) : Type 0 where
    pub value : sound.ExprIn (at W p) e sound.a_long
    pub operands_are : operands e ≤ s
    pub hidden_are : hidden_expr e ≤ h

  itself_long : (r : Typed) → TypeIn r.kind → operators.IsNumber (sort_of r.kind) → (r.literal ≡ true → IsLiteral r.value)
      → sound.ExprIn (at W p) r.value (one (kind_of r.kind))
      → Long (by_itself_of r) (operands r.value + lengthening r) (hidden_expr r.value)
  unfolding by_itself_of
  itself_long r i n l x = record {
    value = long_operand (by_itself (sort_of r.kind) r.literal) r.kind r.literal r.value i n (itself_in (sort_of r.kind) r.literal n) l x;
    operands_are = omega (arith, (fitted_counts (by_itself (sort_of r.kind) r.literal) r.value).0, itself_extra r);
    hidden_are = omega (arith, (fitted_counts (by_itself (sort_of r.kind) r.literal) r.value).1);
  }

  pub record LongBounds (x : Typed) (i : Ends) (s h : ℕ) : Type 0 where
    pub number : operators.IsNumber (sort_of x.kind)
    pub interval : sound.LongIntervalIn (at W p) (long_between i)
    pub operands_are : operands_of_interval (long_between i) ≤ s + longer_bounds x i
    pub hidden_are : hidden_interval (long_between i) ≤ h

  -- the bounds of an interval of LONG numbers
  pub longs_between : (x : Typed) (i : Ends) (s h : ℕ) → is_long_interval x i ≡ true → are_related x i.low ≡ true → are_related x i.high ≡ true → EndsIn W p i s h
      → LongBounds x i s h
  unfolding sound.LongIntervalIn operands_of_interval hidden_interval is_long_interval longer_bounds
  longs_between x i s h e f g ends =
      let a = related_so x i.low f in
      let b = related_so x i.high g in
      let n = three_numbers x.kind (i.low).kind (i.high).kind x.literal (i.low).literal (i.high).literal a.how b.how a.are b.are e in
      let c = itself_long i.low ends.low_kind n.first ends.low_literal ends.low in
      let d = itself_long i.high ends.high_kind n.last ends.high_literal ends.high in
      record {
        number = n.number;
        interval = (c.value, d.value);
        operands_are = subst (λ (l : Bool). operands_of_interval (long_between i) ≤ s + lengthening_if l (lengthening i.low + lengthening i.high)) (sym e)
            (omega (arith, c.operands_are, d.operands_are, ends.operands_are));
        hidden_are = omega (arith, c.hidden_are, d.hidden_are, ends.hidden_are);
      }

  pub within_in : (negated : Bool) (q lx : Place) (x : Typed) (i : Ends) (s h m n : ℕ) → ValueIn W p x s h → EndsIn W p i m n
      → IfOk (within negated q lx x i) (λ z. ValueIn W p z (s + m + (longer_number x i + longer_bounds x i)) (h + n))
  unfolding within meets_bounds sound.ExprIn operands hidden_expr longer_number is_long_interval
  within_in negated q lx x i s h m n d ends =
      two_where (are_related x i.low) (are_related x i.high) _ _ _ (truth (negated_by negated (within_by (is_long_interval x i) x i)))
      (λ z. ValueIn W p z (s + m + (longer_number x i + longer_bounds x i)) (h + n)) (λ f g. by (is_long_interval x i) refl f g)
    where
      by : (l : Bool) → is_long_interval x i ≡ l → are_related x i.low ≡ true → are_related x i.high ≡ true
          → ValueIn W p (truth (negated_by negated (within_by l x i))) (s + m + (longer_number x i + longer_bounds x i)) (h + n)
      by false e f g =
          let a = words_between x i m n e f g ends in
          negated_value negated _ (s + m + (longer_number x i + longer_bounds x i)) (h + n) (as_word x.value x.kind a.word d.value, a.interval, refl)
          (omega (arith, d.operands_are, a.operands_are)) (omega (arith, d.hidden_are, a.hidden_are))
      by true e f g =
          let a = longs_between x i m n e f g ends in
          let c = itself_long x d.kind a.number d.literal d.value in
          let more : longer_number x i ≡ lengthening x = ap (λ (l : Bool). lengthening_if l (lengthening x)) e in
          negated_value negated _ (s + m + (longer_number x i + longer_bounds x i)) (h + n) (c.value, a.interval, refl)
          (omega (arith, d.operands_are, a.operands_are, c.operands_are, more)) (omega (arith, d.hidden_are, a.hidden_are, c.hidden_are))

  -- ---- runs of operators

  word_more : (os : t.Operations) (r : Range) (o : t.Operator) (e : t.Expr) → sound.OperationsIn (at W p) os → sound.RangeIn r → sound.ExprIn (at W p) e sound.a_word
      → sound.OperationsIn (at W p) (and_operation os (t.Then r o e))
  unfolding sound.OperationsIn and_operation
  word_more t.NoOperation r o e h l x = (l, x, tt)
  word_more (t.Then q i d os) r o e h l x = (h.0, h.1, word_more os r o e h.2 l x)

  long_more : (os : t.Operations) (o : t.Operator) (e : t.Expr) → sound.LongOperationsIn (at W p) os → sound.IsOnNumbers o → sound.ExprIn (at W p) e sound.a_long
      → sound.LongOperationsIn (at W p) (and_operation os (t.Then Every o e))
  unfolding sound.LongOperationsIn and_operation
  long_more t.NoOperation o e h i x = (refl, i, x, tt)
  long_more (t.Then q j d os) o e h i x = (h.0, h.1, h.2, long_more os o e h.3 i x)

  run_counts : (os : t.Operations) (r : Range) (o : t.Operator) (e : t.Expr)
      → (operands_of_run (and_operation os (t.Then r o e)) ≡ operands_of_run os + operands e)
      × (hidden_operations (and_operation os (t.Then r o e)) ≡ hidden_operations os + hidden_expr e)
  unfolding operands_of_run hidden_operations and_operation
  run_counts t.NoOperation r o e = (omega arith, omega arith)
  run_counts (t.Then q i d os) r o e = let c = run_counts os r o e in (omega (arith, c.0), omega (arith, c.1))

  -- a run with one operator more
  record RunIn (before : t.Expr) (after : t.Expr) (ks : t.Kinds) (s h : ℕ) : Type 0 where
    value : sound.ExprIn (at W p) after ks
    operands_are : operands after ≤ operands before + s
    hidden_are : hidden_expr after ≤ hidden_expr before + h

  word_step : (done : Sum) (r : Range) (o : t.Operator) (e : t.Expr) → sound.ExprIn (at W p) (closed done) sound.a_word → sound.RangeIn r
      → sound.ExprIn (at W p) e sound.a_word
      → RunIn (closed done) (closed (then_word done (t.Then r o e))) sound.a_word (operands e) (hidden_expr e)
  unfolding sound.ExprIn sound.OperationsIn operands hidden_expr operands_of_run hidden_operations
  word_step (Begun d) r o e h l x = record { value = (h, (l, x, tt), refl); operands_are = omega arith; hidden_are = omega arith }
  word_step (InWords d os) r o e h l x = record {
    value = (h.0, word_more os r o e h.1 l x, refl);
    operands_are = omega (arith, (run_counts os r o e).0);
    hidden_are = omega (arith, (run_counts os r o e).1);
  }
  word_step (InLongs d os) r o e h l x = record { value = (h, (l, x, tt), refl); operands_are = omega arith; hidden_are = omega arith }

  -- a run over LONG numbers that begins here
  begun_long : (f : Fit) (d : t.Expr) (o : t.Operator) (e : t.Expr) → sound.ExprIn (at W p) (fitted f d) sound.a_long → sound.IsOnNumbers o
      → sound.ExprIn (at W p) e sound.a_long
      → RunIn d (t.OperateLong (fitted f d) (t.Then Every o e t.NoOperation)) sound.a_long (extra f + operands e) (hidden_expr e)
  unfolding sound.ExprIn sound.LongOperationsIn operands hidden_expr operands_of_run hidden_operations
  begun_long f d o e h i x = record {
    value = (h, (refl, i, x, tt), refl);
    operands_are = omega (arith, (fitted_counts f d).0);
    hidden_are = omega (arith, (fitted_counts f d).1);
  }

  long_step : (done : Sum) (f : Fit) (o : t.Operator) (e : t.Expr) → sound.ExprIn (at W p) (fitted f (closed done)) sound.a_long → sound.IsOnNumbers o
      → sound.ExprIn (at W p) e sound.a_long
      → RunIn (closed done) (closed (then_long done f (t.Then Every o e))) sound.a_long (extra f + operands e) (hidden_expr e)
  unfolding fitted sound.ExprIn sound.LongOperationsIn operands hidden_expr operands_of_run hidden_operations
  long_step (Begun d) f o e h i x = begun_long f d o e h i x
  long_step (InWords d os) f o e h i x = begun_long f (t.Operate d os) o e h i x
  long_step (InLongs d os) AsLiteral o e h i x = begun_long AsLiteral (t.OperateLong d os) o e h i x
  long_step (InLongs d os) (By Kept) o e h i x = record {
    value = (h.0, long_more os o e h.1 i x, refl);
    operands_are = omega (arith, (run_counts os Every o e).0);
    hidden_are = omega (arith, (run_counts os Every o e).1);
  }
  long_step (InLongs d os) (By (Widened from to)) o e h i x = begun_long (By (Widened from to)) (t.OperateLong d os) o e h i x
  long_step (InLongs d os) (By (Narrowed from to r)) o e h i x = begun_long (By (Narrowed from to r)) (t.OperateLong d os) o e h i x
  long_step (InLongs d os) (By InCommon) o e h i x = begun_long (By InCommon) (t.OperateLong d os) o e h i x

  pub record StepIn (before : t.Expr) (x : Done) (s h : ℕ) : Type 0 where
    pub sum : SumIn W p x.done x.kind false
    pub operands_are : operands (closed x.done) ≤ operands before + s
    pub hidden_are : hidden_expr (closed x.done) ≤ hidden_expr before + h

  pub step_in : (o : Operator) (q l : Place) (done : Sum) (k : PlainType) (literal : Bool) (place : Place) (r : Typed) (s h : ℕ) → SumIn W p done k literal
      → ValueIn W p r s h
      → IfOk (step o q l done k literal place r) (λ x. StepIn (closed done) x (s + longer (sort_of k) literal (sort_of r.kind) r.literal) h)
  unfolding step
  step_in o q l done k literal place r s h u x =
      where_some (operation o (sort_of k) literal (sort_of r.kind) r.literal) _ (beside q l (sort_of k) place (sort_of r.kind)) (done_by done r.value)
      (λ y. StepIn (closed done) y (s + longer (sort_of k) literal (sort_of r.kind) r.literal) h)
      (λ a e. by a (operation_in o (sort_of k) literal (sort_of r.kind) r.literal a e))
    where
      by : (a : Application) → GoodFor (sort_of k) literal (sort_of r.kind) r.literal a
          → StepIn (closed done) (done_by done r.value a) (s + longer (sort_of k) literal (sort_of r.kind) r.literal) h
      by (OfWords a) g =
          let c = word_step done a.left a.operator (checked a.right r.value) (as_word (closed done) k (word_sort k g.left) u.value) (g.good).left
          (checked_word a.right r.value (g.good).right (as_word r.value r.kind (word_sort r.kind g.right) x.value)) in
          record {
            sum = record { value = of_word _ a.kind (g.good).word c.value; kind_in = (g.good).kind; literal_is = λ e. no_truth e };
            operands_are = omega (arith, c.operands_are, checked_operands a.right r.value, x.operands_are);
            hidden_are = omega (arith, c.hidden_are, checked_hidden a.right r.value, x.hidden_are);
          }
      by (OfLongs a) g =
          let c = long_step done a.left a.operator (fitted a.right r.value)
          (long_operand a.left k literal (closed done) u.kind_in (g.met).left_number (g.met).left u.literal_is u.value) g.on_numbers
          (long_operand a.right r.kind r.literal r.value x.kind (g.met).right_number (g.met).right x.literal x.value) in
          record {
            sum = record { value = of_long _ a.kind g.long c.value; kind_in = g.kind; literal_is = λ e. no_truth e };
            operands_are = omega (arith, c.operands_are, (fitted_counts a.right r.value).0, (g.met).words, x.operands_are);
            hidden_are = omega (arith, c.hidden_are, (fitted_counts a.right r.value).1, x.hidden_are);
          }

  pub record TruthIn (fits : Bool) (e : t.Expr) (s h : ℕ) : Type 0 where
    pub fit : fits ≡ true
    pub word : sound.ExprIn (at W p) e sound.a_word
    pub operands_are : operands e ≤ s
    pub hidden_are : hidden_expr e ≤ h

  pub truth_in : (fits : Bool) (q : Place) (r : Typed) (s h : ℕ) → ValueIn W p r s h → IfOk (truth_operand fits q r) (λ e. TruthIn fits e s h)
  truth_in fits q r s h x = where_true (fits && is_truth r.kind) r.value _ q (λ e. TruthIn fits e s h) (λ e. record {
    fit = both_left fits (is_truth r.kind) e;
    word = as_word r.value r.kind (truth_word r.kind (both_right fits (is_truth r.kind) e)) x.value;
    operands_are = x.operands_are;
    hidden_are = x.hidden_are;
  })
