-- Which operands an operator takes, and what it then is (Language Manual, chapter 2; the checks of mixed operands, and what is LONG,
-- are rules of this project).
use Rattle.std.specs.Prelude.{ℕ, Bool, true, false, Option, Some, None, if◌then◌else◌}
use Rattle.mesa_base.specs.declared.place.Place.{Place}
use Rattle.check_rules.specs.Typed as t
use Rattle.check_rules.specs.Typed.{Base, Signed, Unsigned, Range, Every, Conversion, Kept, Widened, Narrowed, InCommon, Relation}
use Rattle.interface_records.specs.PlainTypes as v
use Rattle.syntax_trees.specs.declared.syntax.Operator.{Operator}
use Rattle.syntax_trees.specs.declared.syntax.Operator.TheVariants.{Or, And, Add, Subtract, Multiply, Divide, Modulo}
use Rattle.check_rules.specs.Ranges.{in_common, crossing}
-- what operators see of a type: its base
use Rattle.interface_records.specs.PlainTypes.{PlainType, base_of, same}
pub use Rattle.interface_records.specs.Sorts.{Sort, Number, LongNumber, Letter, Truth, Other, sort_of_base}
unfoldable pub use Rattle.interface_records.specs.Sorts.{sort_of}

-- two operands that meet: how both are read as numbers, and the checks of the two
pub record Meeting : Type 0 where
  pub base : Base
  pub left : Range
  pub right : Range

-- what makes an operand of a LONG operation LONG: as a literal it takes the operation's type, else it is converted
pub data Fit : Type 0 where
  AsLiteral : Fit
  By : Conversion → Fit

-- two numbers that meet in a LONG operation: how both are read, and what makes the two LONG
pub record LongMeeting : Type 0 where
  pub base : Base
  pub left : Fit
  pub right : Fit

-- an operator between two operands, with their checks and the type that it gives
pub record Applied : Type 0 where
  pub left : Range
  pub operator : t.Operator
  pub right : Range
  pub kind : PlainType

pub record LongApplied : Type 0 where
  pub left : Fit
  pub operator : t.Operator
  pub right : Fit
  pub kind : PlainType

-- over words, or over LONG numbers
pub data Application : Type 0 where
  OfWords : Applied → Application
  OfLongs : LongApplied → Application

-- two numbers in one operation: a literal takes the other's type; of a mixed operation, which is INTEGER, the CARDINAL is checked
unfoldable pub meet : Base → Bool → Base → Bool → Meeting
meet Signed la Signed lb = record { base = Signed; left = Every; right = Every }
meet Unsigned la Unsigned lb = record { base = Unsigned; left = Every; right = Every }
meet Signed true Unsigned lb = record { base = Unsigned; left = Every; right = Every }
meet Signed false Unsigned lb = record { base = Signed; left = Every; right = in_common Unsigned }
meet Unsigned la Signed true = record { base = Unsigned; left = Every; right = Every }
meet Unsigned la Signed false = record { base = Signed; left = in_common Unsigned; right = Every }

-- Two numbers of which one is LONG. The operation is LONG INTEGER where an operand is INTEGER or LONG INTEGER, else LONG CARDINAL; a
-- literal below 65536 takes the type of a LONG operand, and one of LONG INTEGER that of a LONG CARDINAL operand.
abbrev pub either_signed : Base → Base → Base
either_signed Unsigned Unsigned = Unsigned
either_signed _ _ = Signed

abbrev pub long_base : Sort → Bool → Sort → Bool → Option Base
long_base (Number a) true (LongNumber b) lb = Some b
long_base (Number a) false (LongNumber b) lb = Some (either_signed a b)
long_base (LongNumber a) la (Number b) true = Some a
long_base (LongNumber a) la (Number b) false = Some (either_signed a b)
long_base (LongNumber Signed) true (LongNumber Unsigned) lb = Some Unsigned
long_base (LongNumber Unsigned) la (LongNumber Signed) true = Some Unsigned
long_base (LongNumber a) la (LongNumber b) lb = Some (either_signed a b)
long_base _ la _ lb = None

-- a LONG INTEGER literal is below 2147483648, so that it is one of LONG CARDINAL without a check
abbrev pub crossing_of : Bool → Base → Base → Conversion
crossing_of true from to = Kept
crossing_of false from to = crossing from to

-- what makes an operand LONG, for an operation of this base
abbrev pub fit_of : Base → Sort → Bool → Fit
fit_of to (Number b) true = AsLiteral
fit_of to (Number b) false = By (Widened b to)
fit_of to (LongNumber b) literal = By (crossing_of literal b to)
fit_of to _ literal = By Kept

abbrev pub long_meeting : Sort → Bool → Sort → Bool → Option Base → Option LongMeeting
long_meeting a la b lb (Some base) = Some (record { base = base; left = fit_of base a la; right = fit_of base b lb })
long_meeting a la b lb None = None

unfoldable pub meet_long : Sort → Bool → Sort → Bool → Option LongMeeting
meet_long a la b lb = long_meeting a la b lb (long_base a la b lb)

abbrev pub lengthened : t.Expr → t.Expr
lengthened (t.Number n) = t.LongNumber n
lengthened e = e

abbrev pub made_by : Conversion → t.Expr → t.Expr
made_by Kept e = e
made_by (Widened from to) e = t.Converted (Widened from to) e
made_by (Narrowed from to r) e = t.Converted (Narrowed from to r) e
made_by InCommon e = t.Converted InCommon e

unfoldable pub fitted : Fit → t.Expr → t.Expr
fitted AsLiteral e = lengthened e
fitted (By c) e = made_by c e

-- a literal of one word that takes a LONG type counts one word more
abbrev pub longer : Sort → Bool → Sort → Bool → ℕ
longer (Number a) true (LongNumber b) lb = 1
longer (LongNumber a) la (Number b) true = 1
longer _ la _ lb = 0

-- The selector of a SELECT is not written again for each test: as a literal it is widened too, without a sign.
abbrev pub selecting : Base → Sort → Bool → Conversion
selecting to (Number b) true = Widened Unsigned to
selecting to (Number b) false = Widened b to
selecting to (LongNumber b) literal = crossing_of literal b to
selecting to _ literal = Kept

-- IN compares plain numbers: a word that meets a LONG number is widened by its own base
abbrev pub by_itself : Sort → Bool → Fit
by_itself (Number b) true = AsLiteral
by_itself (Number b) false = By (Widened b b)
by_itself _ literal = By Kept

abbrev pub selecting_itself : Sort → Conversion
selecting_itself (Number b) = Widened b b
selecting_itself _ = Kept

-- where operands do not fit: at the operator, or at a LONG value that stands beside a character
unfoldable pub beside : Place → Place → Sort → Place → Sort → Place
beside operator left (LongNumber b) right Letter = left
beside operator left Letter right (LongNumber b) = right
beside operator left _ right _ = operator

abbrev pub long_type : Base → PlainType
long_type Signed = v.LongInteger
long_type Unsigned = v.LongCardinal

abbrev pub number_type : Base → PlainType
number_type Signed = v.Integer
number_type Unsigned = v.Cardinal

abbrev pub on_numbers : t.Operator → Meeting → Option Applied
on_numbers o m = Some (record { left = m.left; operator = o; right = m.right; kind = number_type m.base })

abbrev pub arithmetic : Operator → Meeting → Option Applied
arithmetic Add m = on_numbers t.Add m
arithmetic Subtract m = on_numbers t.Subtract m
arithmetic Multiply m = on_numbers t.Multiply m
arithmetic Divide m = on_numbers (t.Divide m.base) m
arithmetic Modulo m = on_numbers (t.Modulo m.base) m
arithmetic Or m = None
arithmetic And m = None

abbrev pub on_longs : t.Operator → LongMeeting → Option LongApplied
on_longs o m = Some (record { left = m.left; operator = o; right = m.right; kind = long_type m.base })

abbrev pub long_arithmetic : Operator → Option LongMeeting → Option LongApplied
long_arithmetic Add (Some m) = on_longs t.Add m
long_arithmetic Subtract (Some m) = on_longs t.Subtract m
long_arithmetic Multiply (Some m) = on_longs t.Multiply m
long_arithmetic Divide (Some m) = on_longs (t.Divide m.base) m
long_arithmetic Modulo (Some m) = on_longs (t.Modulo m.base) m
long_arithmetic Or m = None
long_arithmetic And m = None
long_arithmetic _ None = None

abbrev pub unchecked : t.Operator → PlainType → Option Applied
unchecked o kind = Some (record { left = Every; operator = o; right = Every; kind = kind })

-- a character and a number of one word, in that order, or two characters
abbrev pub on_letter : Operator → Sort → Option Applied
on_letter Add (Number b) = unchecked (t.AddToCharacter b) v.Character
on_letter Subtract (Number b) = unchecked (t.SubtractFromCharacter b) v.Character
on_letter Subtract Letter = unchecked t.Subtract v.Integer
on_letter _ _ = None

-- `la` and `lb` say which operand is a literal; none where the operands do not fit
unfoldable pub word_operation : Operator → Sort → Bool → Sort → Bool → Option Applied
word_operation o (Number a) la (Number b) lb = arithmetic o (meet a la b lb)
word_operation o Letter la b lb = on_letter o b
word_operation o _ la _ lb = None

-- over LONG numbers, or over words, by what the operands show
abbrev pub by_length : Option LongApplied → Option Applied → Option Application
by_length (Some x) other = Some (OfLongs x)
by_length None (Some x) = Some (OfWords x)
by_length None None = None

unfoldable pub operation : Operator → Sort → Bool → Sort → Bool → Option Application
operation o a la b lb = by_length (long_arithmetic o (meet_long a la b lb)) (word_operation o a la b lb)

abbrev pub of_one_base : Option PlainType → Option PlainType → Option Meeting
of_one_base (Some a) (Some b) = if same a b then Some (record { base = Unsigned; left = Every; right = Every }) else None
of_one_base _ _ = None

-- two ordinals of one base in a relation; numbers of one word meet
abbrev pub related_by : Sort → Bool → Sort → Bool → Option Meeting → Option Meeting
related_by (Number a) la (Number b) lb other = Some (meet a la b lb)
related_by (LongNumber a) la b lb other = None
related_by a la (LongNumber b) lb other = None
related_by _ la _ lb other = other

unfoldable pub related : PlainType → Bool → PlainType → Bool → Option Meeting
related a la b lb = related_by (sort_of a) la (sort_of b) lb (of_one_base (base_of a) (base_of b))

-- two operands of a relation or of IN: numbers of which one is LONG, or two of one word
pub data Relating : Type 0 where
  Longs : LongMeeting → Relating
  Words : Meeting → Relating

abbrev pub relating_by : Option LongMeeting → Option Meeting → Option Relating
relating_by (Some m) other = Some (Longs m)
relating_by None (Some m) = Some (Words m)
relating_by None None = None

unfoldable pub relating : PlainType → Bool → PlainType → Bool → Option Relating
relating a la b lb = relating_by (meet_long (sort_of a) la (sort_of b) lb) (related a la b lb)

-- NOT or ~ before a relation turns it
abbrev pub turned : Bool → Relation → Relation
turned false r = r
turned true t.Equal = t.NotEqual
turned true t.NotEqual = t.Equal
turned true t.Less = t.AtLeast
turned true t.AtLeast = t.Less
turned true t.AtMost = t.Greater
turned true t.Greater = t.AtMost
