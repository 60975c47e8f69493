-- A sound expression has the words of the kinds that it gives; each value has words.
use Rattle.std.proofs.Common.{◌≡◌, ℕ, zero, suc, ◌+◌, ◌*◌, ◌<◌, ◌≤◌, List, [], ◌∷◌, length, refl, sym, ap, ◌∙◌, arith}
use Rattle.std.specs.Prelude.{◌≢◌}
use Rattle.mesa_types.specs.Typed.{Part, Kind, Ordinal, Texts, Array, Record, Kinds, NoKinds, AndKind, Expr, Number, Literal, Variable, FieldOf, LengthOf, ByteOf, Checked, Operate, Negate, Relate, Within, Not, AllOf, SomeOf, Construct, Call, Raise, Exprs, NoExprs, AndExpr, LongNumber, Converted, OperateLong, NegateLong, RelateLong, WithinLong, Longs, Conversion, Kept, Widened, Narrowed, InCommon}
use Rattle.mesa_types.specs.Shapes.{words_in, words_in_all, one, copies, HasWords}
use Rattle.mesa_types.specs.Counts.{words_of, words_given, last_words, words_after}
use Rattle.mesa_types.specs.Sound.{Scope, a_word, Constructs, FieldsIn, ExprIn, ExprsIn, a_long, Converts}
use Rattle.mesa_types.specs.Laws.{SizesAgree, ValuesHaveWords}
use Rattle.mesa_types.proofs.Arranged.{arranged_words}

-- ---- each value has words

as_many : (n w : ℕ) → 0 < w → n ≤ n * w
as_many zero w h = omega arith
as_many (suc n) w h = let e : suc n * w ≡ w + n * w = grind arith in omega (arith, as_many n w h)

kind_has_words : (k : Kind) → HasWords k → 0 < words_in k
unfolding HasWords words_in
kind_has_words Ordinal h = omega arith
kind_has_words Longs h = omega arith
kind_has_words Texts h = omega arith
kind_has_words (Array n k) h = omega (arith, h.0, as_many n (words_in k) (kind_has_words k h.1))
kind_has_words (Record NoKinds) h = absurd h
kind_has_words (Record (AndKind k ks)) h = omega (arith, kind_has_words k h.0)

pub values_have_words : ValuesHaveWords
unfolding HasWords words_in
values_have_words = record { of_kind = kind_has_words; of_array = λ n k h. as_many n (words_in k) (kind_has_words k h.1) }

-- ---- sizes

one_words : (k : Kind) → words_in_all (one k) ≡ words_in k
unfolding words_in_all one
one_words k = omega arith

a_word_words : words_in_all a_word ≡ 1
unfolding words_in_all words_in one a_word
a_word_words = refl

a_long_words : words_in_all a_long ≡ 2
unfolding words_in_all words_in one a_long
a_long_words = refl

text_words : words_in_all (one Texts) ≡ 2
unfolding words_in_all words_in one
text_words = refl

copies_words : (n : ℕ) (k : Kind) → words_in_all (copies n k) ≡ n * words_in k
unfolding words_in_all copies
copies_words zero k = omega arith
copies_words (suc n) k = let e : suc n * words_in k ≡ words_in k + n * words_in k = grind arith in omega (arith, copies_words n k)

built_words : (k : Kind) (places : List ℕ) (all : Kinds) → Constructs k places all → words_in_all all ≡ words_in k
unfolding Constructs words_in
built_words Ordinal places all h = absurd h
built_words Longs places all h = absurd h
built_words Texts places all h = absurd h
built_words (Array n k) places all h = ap words_in_all h.1 ∙ copies_words n k
built_words (Record ks) places all h = ap words_in_all h

as_word : (ks : Kinds) → ks ≡ a_word → 1 ≡ words_in_all ks
as_word ks e = sym (ap words_in_all e ∙ a_word_words)

as_long : (ks : Kinds) → ks ≡ a_long → 2 ≡ words_in_all ks
as_long ks e = sym (ap words_in_all e ∙ a_long_words)

as_one : (ks : Kinds) (k : Kind) (n : ℕ) → ks ≡ one k → n ≡ words_in k → n ≡ words_in_all ks
as_one ks k n e d = d ∙ sym (ap words_in_all e ∙ one_words k)

fields_words : (parts : List Part) (j k : Kind) → parts ≢ [] → FieldsIn parts j k → last_words parts ≡ words_in k
unfolding FieldsIn last_words
fields_words [] j k some h = absurd (some refl)
fields_words (p ∷ []) j k some h = h.4 ∙ ap words_in h.5
fields_words (p ∷ q ∷ qs) j k some h = fields_words (q ∷ qs) h.1 k (λ e. omega (arith, ap length e)) h.5

-- a conversion gives a value of the words of its kind
pub conversion_words : (c : Conversion) (j k : Kind) → Converts c j k → words_after c ≡ words_in k
unfolding Converts words_after words_in
conversion_words Kept j k h = sym (ap words_in h.1)
conversion_words (Widened from to) j k h = sym (ap words_in h.1)
conversion_words (Narrowed from to r) j k h = sym (ap words_in h.2)
conversion_words InCommon j k h = sym (ap words_in h.1)

none_given : (ks : Kinds) → ks ≡ NoKinds → 0 ≡ words_in_all ks
unfolding words_in_all
none_given ks e = sym (ap words_in_all e)

both_words : (m n : ℕ) (j : Kind) (js ks : Kinds) → ks ≡ AndKind j js → m ≡ words_in_all (one j) → n ≡ words_in_all js → m + n ≡ words_in_all ks
unfolding words_in_all
both_words m n j js ks e a b = omega (arith, ap words_in_all e, one_words j, a, b)

module _ (Γ : Scope) where
  mutual
    unfolding ExprIn ExprsIn words_of words_given

    words_are : (e : Expr) (ks : Kinds) → ExprIn Γ e ks → words_of e ≡ words_in_all ks
    words_are (Number n) ks h = as_word ks h.1
    words_are (LongNumber n) ks h = as_long ks h.1
    words_are (Literal k) ks h = sym (ap words_in_all h.1 ∙ text_words)
    words_are (Variable v s words) ks h = as_one ks h.1 words h.5 h.4
    words_are (FieldOf e parts) ks h = as_one ks h.2 (last_words parts) h.5 (fields_words parts h.1 h.2 h.0 h.4)
    words_are (LengthOf e) ks h = as_word ks h.1
    words_are (ByteOf e i) ks h = as_word ks h.2
    words_are (Checked r e) ks h = as_word ks h.2
    words_are (Converted c e) ks h = as_one ks h.2 (words_after c) h.5 (conversion_words c h.1 h.2 h.3)
    words_are (Operate e os) ks h = as_word ks h.2
    words_are (OperateLong e os) ks h = as_long ks h.2
    words_are (Negate e) ks h = as_word ks h.1
    words_are (NegateLong e) ks h = as_long ks h.1
    words_are (Relate b o d e) ks h = as_word ks h.2
    words_are (RelateLong b o d e) ks h = as_word ks h.2
    words_are (Within b e i) ks h = as_word ks h.2
    words_are (WithinLong b e i) ks h = as_word ks h.2
    words_are (Not e) ks h = as_word ks h.1
    words_are (AllOf es) ks h = as_word ks h.2
    words_are (SomeOf es) ks h = as_word ks h.2
    words_are (Construct places es) ks h = as_one ks h.0 (words_given es) h.7 (given_are es h.1 h.5 ∙ arranged_words places h.1 h.2 h.6 ∙ built_words h.0 places h.2 h.4)
    words_are (Call c places es words ph) ks h = h.6
    words_are (Raise r places es words ph) ks h = h.5

    given_are : (es : Exprs) (ks : Kinds) → ExprsIn Γ es ks → words_given es ≡ words_in_all ks
    given_are NoExprs ks h = none_given ks h
    given_are (AndExpr e es) ks h = both_words (words_of e) (words_given es) h.0 h.1 ks h.4 (words_are e (one h.0) h.2) (given_are es h.1 h.3)

pub sizes_agree : SizesAgree
sizes_agree = record { of_expression = words_are; of_values = given_are }
