-- Types as they are written (Language Manual, chapter 3): subranges, elements, limits, origins by number.
use Rattle.std.specs.Prelude.{ℕ, ◌+◌, ◌-◌, Bool, true, false, ◌&&◌, List, [], ◌∷◌, length, filter, Option, Some, None, Ok, if◌then◌else◌, nat_le, nat_lt, not}
use Rattle.mesa_base.specs.declared.limits.TheConstants.{TYPE_WORDS, TYPE_DEPTH, ENUMERATION_ELEMENTS}
use Rattle.mesa_base.specs.declared.place.Place.{Place}
use Rattle.check_rules.specs.Typed as t
use Rattle.check_rules.specs.Typed.{Base, Signed, Unsigned}
use Rattle.interface_records.specs.PlainTypes as v
use Rattle.mesa_types.specs.declared.types.Origin.{Origin}
use Rattle.mesa_base.specs.declared.identifier.Identifier.{Identifier}
use Rattle.check_rules.specs.Operators.{Sort, Number, sort_of}
pub use Rattle.interface_records.specs.Sorts.{is_index_by}
unfoldable pub use Rattle.interface_records.specs.Sorts.{is_index}
use Rattle.mesa_types.specs.Constants.{constant}
use Rattle.mesa_types.specs.Operators.{shifted, truth, wrap}
use Rattle.check_rules.specs.Ranges.{Typed}
use Rattle.check_rules.specs.Around.{Around, Known}
use Rattle.check_rules.specs.Meanings.{Constant}
use Rattle.check_rules.specs.Names.{is_declared, element_in}
use Rattle.check_rules.specs.Steps.{Check, Checked, and_then, pure, refuse, only, or_refuse}
use Rattle.check_rules.specs.declared.fault.Cause.TheVariants.{TwiceDeclared, TypeMismatch, NotConstant, TypeTooLarge}
-- a record or enumeration is that of its declaration: how many of them begin before it in the text
use Rattle.interface_records.specs.PlainTypes.{PlainType, base_of, depth_of, is_text, same, sign_of, words_of}

abbrev pub origin : Known → Place → Origin
origin known p = record { «module» = known.name; stamp = known.stamp; number = length (filter (λ n. nat_lt n p.token) known.origins) }

-- the words and the depth of a type are limited (rule of this project)
unfoldable pub limited : Place → PlainType → Checked PlainType
limited p k = and_then (only (nat_le (words_of k) TYPE_WORDS && nat_le (depth_of k) TYPE_DEPTH) TypeTooLarge p) (λ _. Ok k)

-- the elements of an enumeration are constants of the scope in which it stands
unfoldable pub elements : Around → PlainType → ℕ → List Identifier → Check (Unit {0})
elements a k n [] = pure tt
elements a k n (x ∷ xs) = λ s.
    and_then (only (not (is_declared x.name s)) TwiceDeclared x.place) (λ _.
    elements a k (n + 1) xs (element_in a.is_outermost x.name (Constant k n) s))

-- and so are the elements of an enumeration
unfoldable pub few : Place → List Identifier → Checked (Unit {0})
few p xs = only (nat_le (length xs) ENUMERATION_ELEMENTS) TypeTooLarge p

abbrev pub literal_word : Bool → t.Expr → Option ℕ
literal_word true (t.Literal n) = Some 0
literal_word _ e = constant e

-- the word of a bound; a string literal is a constant too, and of no interval, and neither is a LONG value
unfoldable pub bound : Place → Typed → Checked ℕ
bound p x = or_refuse (literal_word (is_text x.kind) x.value) NotConstant p

abbrev pub fits_integer : Base → ℕ → Bool
fits_integer Signed w = true
fits_integer Unsigned w = nat_lt w 32768

abbrev pub fits_cardinal : Base → ℕ → Bool
fits_cardinal Signed w = nat_lt w 32768
fits_cardinal Unsigned w = true

abbrev pub number_base : Bool → Bool → Option PlainType
number_base true cardinal = Some v.Integer
number_base false true = Some v.Cardinal
number_base false false = None

abbrev pub same_base : Option PlainType → Option PlainType → Option PlainType
same_base (Some a) (Some b) = if same a b then Some a else None
same_base _ _ = None

abbrev pub bounds_base : Sort → ℕ → Sort → ℕ → Option PlainType → Option PlainType
bounds_base (Number a) x (Number b) y other = number_base (fits_integer a x && fits_integer b y) (fits_cardinal a x && fits_cardinal b y)
bounds_base _ x _ y other = other

-- the base of an interval without a word: that of its bounds, INTEGER where both numbers are one, else CARDINAL
unfoldable pub base_of_bounds : PlainType → ℕ → PlainType → ℕ → Option PlainType
base_of_bounds j x k y = bounds_base (sort_of j) x (sort_of k) y (same_base (base_of j) (base_of k))

-- a bound that is left out leaves the next one; an empty interval makes no type
abbrev pub subrange_if : Bool → Place → PlainType → Bool → ℕ → ℕ → Bool → Checked PlainType
subrange_if true p k open_low x y open_high = Ok (v.Subrange k (wrap (x + truth open_low)) (wrap (y + 65536 - truth open_high)))
subrange_if false p k open_low x y open_high = refuse TypeMismatch p

unfoldable pub subrange : Place → PlainType → Bool → ℕ → ℕ → Bool → Checked PlainType
subrange p k open_low x y open_high =
    subrange_if (nat_le (shifted (sign_of k) x + truth open_low + truth open_high) (shifted (sign_of k) y)) p k open_low x y open_high

abbrev pub interval_base : Option PlainType → PlainType → ℕ → PlainType → ℕ → Option PlainType
interval_base (Some k) i x j y = base_of k
interval_base None i x j y = base_of_bounds i x j y
