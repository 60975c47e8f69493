-- A sound expression has at most two words for each of its operands: a widened value has two of an operand of one.
use Rattle.std.proofs.Common.{◌≡◌, ◌-◌, ◌*◌, ◌≤◌, arith}
use Rattle.mesa_types.specs.declared.typed_parts.Conversion.{Conversion}
use Rattle.mesa_types.specs.declared.typed_parts.Conversion.TheVariants.{Kept, Widened, Narrowed, InCommon}
use Rattle.mesa_types.specs.Counts.{words_of, words_given, words_before, words_after, operands, operands_of, operands_in, operands_of_run, operands_of_interval, unnamed}
use Rattle.mesa_types.specs.Nodes.{count_of}
use Rattle.mesa_types.specs.Shapes.{one}
use Rattle.mesa_types.specs.Sound.{Scope, a_word, a_long, ExprIn, ExprsIn, WordsIn}
use Rattle.mesa_types.specs.Typed.{Kinds, Expr, Number, LongNumber, Literal, Variable, FieldOf, LengthOf, ByteOf, Checked, Converted, Operate, OperateLong, Negate, NegateLong, Relate, RelateLong, Within, WithinLong, Not, AllOf, SomeOf, Construct, Call, Raise, Exprs, NoExprs, AndExpr, Texts}
use Rattle.code_blocks.proofs.Values.{one_is, word_is, long_is, text_is, fields_fit, words_converted}

-- at most one of the words of a string's name is not counted
pub unnamed_few : (e : Expr) → unnamed e ≤ 1
unfolding unnamed
unnamed_few (Number n) = omega arith
unnamed_few (LongNumber n) = omega arith
unnamed_few (Literal k) = omega arith
unnamed_few (Variable h s words) = omega arith
unnamed_few (FieldOf e parts) = omega arith
unnamed_few (LengthOf e) = omega arith
unnamed_few (ByteOf e i) = omega arith
unnamed_few (Checked r e) = omega arith
unnamed_few (Converted c e) = omega arith
unnamed_few (Operate e os) = omega arith
unnamed_few (OperateLong e os) = omega arith
unnamed_few (Negate e) = omega arith
unnamed_few (NegateLong e) = omega arith
unnamed_few (Relate b o d e) = omega arith
unnamed_few (RelateLong b o d e) = omega arith
unnamed_few (Within b e i) = omega arith
unnamed_few (WithinLong b e i) = omega arith
unnamed_few (Not e) = omega arith
unnamed_few (AllOf es) = omega arith
unnamed_few (SomeOf es) = omega arith
unnamed_few (Construct places es) = omega arith
unnamed_few (Call c places es words ph) = omega arith
unnamed_few (Raise r places es words ph) = omega arith

-- of two words or more, a name or another value, one operand is always counted
pub still_named : (e : Expr) → words_of e ≡ 2 → words_of e ≤ 2 * operands e → 1 ≤ operands e - unnamed e
unfolding unnamed words_of operands
still_named (Number n) two named = omega (arith, two, named)
still_named (LongNumber n) two named = omega (arith, two, named)
still_named (Literal k) two named = omega (arith, two, named)
still_named (Variable h s words) two named = omega (arith, two, named)
still_named (FieldOf e parts) two named = omega (arith, two, named)
still_named (LengthOf e) two named = omega (arith, two, named)
still_named (ByteOf e i) two named = omega (arith, two, named)
still_named (Checked r e) two named = omega (arith, two, named)
still_named (Converted c e) two named = omega (arith, two, named)
still_named (Operate e os) two named = omega (arith, two, named)
still_named (OperateLong e os) two named = omega (arith, two, named)
still_named (Negate e) two named = omega (arith, two, named)
still_named (NegateLong e) two named = omega (arith, two, named)
still_named (Relate b o d e) two named = omega (arith, two, named)
still_named (RelateLong b o d e) two named = omega (arith, two, named)
still_named (Within b e i) two named = omega (arith, two, named)
still_named (WithinLong b e i) two named = omega (arith, two, named)
still_named (Not e) two named = omega (arith, two, named)
still_named (AllOf es) two named = omega (arith, two, named)
still_named (SomeOf es) two named = omega (arith, two, named)
still_named (Construct places es) two named = omega (arith, two, named)
still_named (Call c places es words ph) two named = omega (arith, two, named)
still_named (Raise r places es words ph) two named = omega (arith, two, named)

-- a conversion takes and gives a word or two
pub words_converted_few : (c : Conversion) → (1 ≤ words_before c) × (words_before c ≤ 2) × (words_after c ≤ 2) × (1 ≤ words_after c)
unfolding words_before words_after
words_converted_few Kept = (omega arith, omega arith, omega arith, omega arith)
words_converted_few (Widened a b) = (omega arith, omega arith, omega arith, omega arith)
words_converted_few (Narrowed a b r) = (omega arith, omega arith, omega arith, omega arith)
words_converted_few InCommon = (omega arith, omega arith, omega arith, omega arith)

module _ (Γ : Scope) where
  mutual
    unfolding ExprIn ExprsIn WordsIn words_of words_given operands operands_of operands_in operands_of_run operands_of_interval count_of

    pub words_named : (e : Expr) (ks : Kinds) → ExprIn Γ e ks → words_of e ≤ 2 * operands e
    words_named (Number n) ks h = omega arith
    words_named (LongNumber n) ks h = omega arith
    words_named (Literal k) ks h = omega arith
    words_named (Variable v s words) ks h = omega arith
    words_named (FieldOf e parts) ks h = omega (arith, words_named e (one h.1) h.3, one_is Γ e h.1 h.3, fields_fit parts h.1 h.2 h.4)
    words_named (LengthOf e) ks h = omega (arith, still_named e (text_is Γ e h.0) (words_named e (one Texts) h.0))
    words_named (ByteOf e i) ks h = omega (arith, still_named e (text_is Γ e h.0) (words_named e (one Texts) h.0))
    words_named (Checked r e) ks h = omega (arith, words_named e a_word h.1, word_is Γ e h.1)
    words_named (Converted c e) ks h =
        omega (
          arith,
          words_named e (one h.1) h.4,
          one_is Γ e h.1 h.4,
          (words_converted c h.1 h.2 h.3).0,
          (words_converted_few c).0,
          (words_converted_few c).2,
        )
    words_named (Operate e os) ks h = omega (arith, words_named e a_word h.0, word_is Γ e h.0)
    words_named (OperateLong e os) ks h = omega (arith, words_named e a_long h.0, long_is Γ e h.0)
    words_named (Negate e) ks h = omega (arith, words_named e a_word h.0, word_is Γ e h.0)
    words_named (NegateLong e) ks h = omega (arith, words_named e a_long h.0, long_is Γ e h.0)
    words_named (Relate b o d e) ks h = omega (arith, words_named d a_word h.0, word_is Γ d h.0)
    words_named (RelateLong b o d e) ks h = omega (arith, words_named d a_long h.0, long_is Γ d h.0)
    words_named (Within b e i) ks h = omega (arith, words_named e a_word h.0, word_is Γ e h.0)
    words_named (WithinLong b e i) ks h = omega (arith, words_named e a_long h.0, long_is Γ e h.0)
    words_named (Not e) ks h = omega (arith, words_named e a_word h.0, word_is Γ e h.0)
    words_named (AllOf es) ks h = omega (arith, some_named es h.0 h.1)
    words_named (SomeOf es) ks h = omega (arith, some_named es h.0 h.1)
    words_named (Construct places es) ks h = omega arith
    words_named (Call c places es words ph) ks h = omega arith
    words_named (Raise r places es words ph) ks h = omega arith

    some_named : (es : Exprs) → 2 ≤ count_of es → WordsIn Γ es → 1 ≤ operands_of es
    some_named NoExprs many h = absurd (omega (arith, many))
    some_named (AndExpr e es) many h = omega (arith, words_named e a_word h.0, word_is Γ e h.0)

    pub values_named : (es : Exprs) (ks : Kinds) → ExprsIn Γ es ks → words_given es ≤ 2 * operands_of es
    values_named NoExprs ks h = omega arith
    values_named (AndExpr e es) ks h = omega (arith, words_named e (one h.0) h.2, values_named es h.1 h.3)

  -- a number is one operand at least

  pub word_named : (e : Expr) → ExprIn Γ e a_word → 1 ≤ operands e
  word_named e h = omega (arith, words_named e a_word h, word_is Γ e h)

  pub long_named : (e : Expr) → ExprIn Γ e a_long → 1 ≤ operands e
  long_named e h = omega (arith, words_named e a_long h, long_is Γ e h)
