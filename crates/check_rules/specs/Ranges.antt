-- What checking finds of an expression, what its value is for, and the check or conversion of a value that is given to a target
-- (rule of this project: a number that is not among those of the target's number type, and a value outside a subrange).
use Rattle.std.specs.Prelude.{ℕ, Bool, true, false, ◌||◌, List, Option, Some, None, Ok, if◌then◌else◌, nat_le, min}
use Rattle.mesa_base.specs.declared.place.Place.{Place}
use Rattle.check_rules.specs.Typed as t
use Rattle.check_rules.specs.Typed.{Base, Signed, Unsigned, Range, Every, From, Conversion, Kept, Widened, Narrowed, InCommon}
use Rattle.check_rules.specs.Steps.{Checked, refuse}
use Rattle.check_rules.specs.declared.fault.Cause.TheVariants.{TypeMismatch}
-- an expression's value and type, whether it is a number literal that may take the type of another operand, and what it gave
-- where it is a call or raise
use Rattle.interface_records.specs.PlainTypes.{PlainField, PlainType, base_of, bounds, conforms, is_cardinal, is_integer, is_long, sign_of}

pub record Typed : Type 0 where
  pub value : t.Expr
  pub kind : PlainType
  pub literal : Bool
  pub gave : Option (List PlainField)

abbrev pub typed : PlainType → t.Expr → Typed
typed kind value = record { value = value; kind = kind; literal = false; gave = None }

-- what a value is for, and where it begins as it is written, its parentheses included: it stands free; or goes to a target of
-- this type; or to an extractor, which takes what a call gives, one result or more or none
pub data Aim : Type 0 where
  Free : Place → Aim
  Into : PlainType → Place → Aim
  Several : Place → Aim

-- the values of a list, and which parameter, result or field each is for; without places they stand in order
pub record Arguments : Type 0 where
  pub places : List ℕ
  pub values : t.Exprs

abbrev pub checked : Range → t.Expr → t.Expr
checked Every e = e
checked (From base first last) e = t.Checked (From base first last) e

-- numbers from 0 to 32767, which INTEGER and CARDINAL have in common
abbrev pub in_common : Base → Range
in_common base = From base 0 32767

-- the word that a number of a base has at a bound, where the other base holds the bound: past its numbers it is clipped
abbrev pub range_between : Base → Base → ℕ → ℕ → Range
range_between Signed Signed first last = From Signed first last
range_between Unsigned Unsigned first last = From Unsigned first last
-- a CARDINAL for numbers with a sign: from 0 on, and none where the last is below 0
range_between Unsigned Signed first last =
    if nat_le 32768 last then From Unsigned 1 0 else From Unsigned (if nat_le 32768 first then 0 else first) last
-- an INTEGER for numbers without a sign: up to 32767, and none where the first is above
range_between Signed Unsigned first last =
    if nat_le 32768 first then From Signed 1 0 else From Signed first (min last 32767)

abbrev pub range_by : Option (ℕ × ℕ) → Base → Base → Bool → Range
range_by (Some b) from to number = range_between from to b.0 b.1
range_by None Signed Unsigned true = in_common Signed
range_by None Unsigned Signed true = in_common Unsigned
range_by None from to number = Every

abbrev pub is_number_base : Option PlainType → Bool
is_number_base (Some b) = is_integer b || is_cardinal b
is_number_base None = false

-- the check of a value of a type that goes to a target: where the target is a subrange, or has another number type
unfoldable pub range_for : PlainType → PlainType → Range
range_for from to = range_by (bounds to) (sign_of from) (sign_of to) (is_number_base (base_of to))

-- Where one of the two types is LONG the value is converted, unless both are the same. From a LONG type to another one it is
-- checked by its own base, then made a word, and that is checked by the target's.
abbrev pub crossing : Base → Base → Conversion
crossing Signed Signed = Kept
crossing Unsigned Unsigned = Kept
crossing _ _ = InCommon

abbrev pub subrange_of : Base → Option (ℕ × ℕ) → Range
subrange_of base (Some b) = From base b.0 b.1
subrange_of base None = Every

abbrev pub conversion_by : (from_long to_long : Bool) → PlainType → PlainType → Conversion
conversion_by false false from to = Kept
conversion_by false true from to = Widened (sign_of from) (sign_of to)
conversion_by true false from to = Narrowed (sign_of from) (sign_of to) (subrange_of (sign_of to) (bounds to))
conversion_by true true from to = crossing (sign_of from) (sign_of to)

unfoldable pub conversion_for : PlainType → PlainType → Conversion
conversion_for from to = conversion_by (is_long from) (is_long to) from to

-- a value with its conversion; where it is not converted, with its check
abbrev pub converted : Conversion → Range → t.Expr → t.Expr
converted Kept r e = checked r e
converted (Widened from to) r e = t.Converted (Widened from to) e
converted (Narrowed from to range) r e = t.Converted (Narrowed from to range) e
converted InCommon r e = t.Converted InCommon e

unfoldable pub given_as : PlainType → PlainType → t.Expr → t.Expr
given_as from to e = converted (conversion_for from to) (range_for from to) e

abbrev pub fitted_if : Bool → PlainType → Place → Typed → Checked Typed
fitted_if true target place r = Ok (typed target (given_as r.kind target r.value))
fitted_if false target place r = refuse TypeMismatch place

-- a value that must conform to its target, with its check or conversion
unfoldable pub finish : Aim → Typed → Checked Typed
finish (Into target place) r = fitted_if (conforms r.kind target) target place r
finish _ r = Ok r
