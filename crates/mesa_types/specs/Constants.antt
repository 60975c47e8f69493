-- Which expressions are constant (Language Manual, chapter 2): a literal, and an operator over constants that raises nothing.
-- A constant's name, TRUE and FALSE are numbers in the typed tree already; a string's literal has no word. The value of an
-- ordinal constant is its word, that of a LONG one its number as its two words spell it. An operator on words has a value
-- over words alone; a sound tree has no others there.
use Rattle.std.specs.Prelude.{ℕ, Bool, true, false, nat_lt, if◌then◌else◌, not, ◌&&◌, ◌||◌, Option, Some, None}
use Rattle.mesa_types.specs.declared.typed_parts.Conversion.{Conversion}
use Rattle.mesa_types.specs.declared.typed_parts.Conversion.TheVariants.{Widened}
use Rattle.mesa_types.specs.Typed.{Expr, Number, LongNumber, Checked, Converted, Operate, OperateLong, Negate, NegateLong, Relate, RelateLong, Within, WithinLong, Not, AllOf, SomeOf, Exprs, NoExprs, AndExpr, Operations, NoOperation, Then, Between}
use Rattle.mesa_types.specs.Operators.{Tried, Fine, Faulty, opposite, truth, is_true, related, lies_in, checked, tried}
use Rattle.mesa_types.specs.Longs.{opposite_long, related_long, lies_in_long, tried_long, converted}

infixl 10 ◌>>=◌
abbrev pub ◌>>=◌ : {A B : Type 0} → Option A → (A → Option B) → Option B
None >>= k = None
Some a >>= k = k a

-- what raises has no value
abbrev pub fine : Tried → Option ℕ
fine (Fine n) = Some n
fine (Faulty f) = None

-- a value that is one word
abbrev pub as_word : ℕ → Option ℕ
as_word n = if nat_lt n 65536 then Some n else None

abbrev pub converted_constant : Conversion → ℕ → Option ℕ
converted_constant (Widened from to) n = as_word n >>= λ w. fine (converted (Widened from to) w)
converted_constant c n = fine (converted c n)

unfoldable mutual
  pub constant : Expr → Option ℕ
  constant (Number n) = Some n
  constant (LongNumber n) = Some n
  constant (Checked r e) = constant e >>= as_word >>= λ x. fine (checked r x)
  constant (Converted c e) = constant e >>= converted_constant c
  constant (Operate e os) = constant e >>= as_word >>= constant_run os
  constant (OperateLong e os) = constant e >>= constant_long_run os
  constant (Negate e) = constant e >>= as_word >>= λ x. Some (opposite x)
  constant (NegateLong e) = constant e >>= λ x. Some (opposite_long x)
  constant (Relate b o d e) = constant d >>= as_word >>= λ x. constant e >>= as_word >>= λ y. Some (truth (related o b x y))
  constant (RelateLong b o d e) = constant d >>= λ x. constant e >>= λ y. Some (truth (related_long o b x y))
  constant (Within b e (Between f p g q)) = do
    x ← constant e >>= as_word
    y ← constant f >>= as_word
    z ← constant g >>= as_word
    Some (truth (lies_in b x p y q z))
  constant (WithinLong b e (Between f p g q)) = do
    x ← constant e
    y ← constant f
    z ← constant g
    Some (truth (lies_in_long b x p y q z))
  constant (Not e) = constant e >>= as_word >>= λ x. Some (truth (not (is_true x)))
  constant (AllOf es) = all_true es >>= λ b. Some (truth b)
  constant (SomeOf es) = some_true es >>= λ b. Some (truth b)
  constant _ = None

  -- of a run, behind the value of what stands to the left
  pub constant_run : Operations → ℕ → Option ℕ
  constant_run NoOperation x = Some x
  constant_run (Then r o e os) x = do
    x ← fine (checked r x)
    y ← constant e >>= as_word
    z ← fine (tried o x y)
    constant_run os z

  -- of a run over LONG numbers, in which nothing is checked
  pub constant_long_run : Operations → ℕ → Option ℕ
  constant_long_run NoOperation x = Some x
  constant_long_run (Then r o e os) x = do
    y ← constant e
    z ← fine (tried_long o x y)
    constant_long_run os z

  -- AND and OR are over constants too, so that each of their operands is one
  pub all_true : Exprs → Option Bool
  all_true NoExprs = Some true
  all_true (AndExpr e es) = constant e >>= as_word >>= λ x. all_true es >>= λ b. Some (is_true x && b)

  pub some_true : Exprs → Option Bool
  some_true NoExprs = Some false
  some_true (AndExpr e es) = constant e >>= as_word >>= λ x. some_true es >>= λ b. Some (is_true x || b)

-- one operand more of an AND, and of an OR
abbrev pub and_true : Bool → Expr → Option Bool
and_true b e = constant e >>= as_word >>= λ x. Some (b && is_true x)

abbrev pub or_true : Bool → Expr → Option Bool
or_true b e = constant e >>= as_word >>= λ x. Some (b || is_true x)
