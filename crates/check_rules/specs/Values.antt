-- Values: literals, NOT, signs, relations, runs of operators, constructors, raises (Language Manual, chapters 2, 3 and 8).
use Rattle.std.specs.Prelude.{ℕ, suc, Bool, true, false, ◌&&◌, List, [], ◌∷◌, Option, Some, None, Ok, if◌then◌else◌, nat_eq, nat_le, bytes_eq, min}
use Rattle.syntax_trees.specs.Syntax as s
use Rattle.mesa_base.specs.declared.limits.TheConstants.{GREATEST_NUMBER, GREATEST_CHARACTER, DISTINCT_STRINGS}
use Rattle.mesa_base.specs.declared.place.Place.{Place}
use Rattle.check_rules.specs.Typed as t
use Rattle.check_rules.specs.Typed.{Every, Kept, Relation}
use Rattle.interface_records.specs.PlainTypes as v
use Rattle.mesa_types.specs.declared.faces.ItemKind.{ItemKind}
use Rattle.mesa_types.specs.declared.faces.ItemKind.TheVariants as item
use Rattle.mesa_base.specs.declared.identifier.Identifier.{Identifier}
use Rattle.syntax_trees.specs.declared.syntax.Operator.{Operator}
use Rattle.syntax_trees.specs.declared.syntax.Operator.TheVariants.{Or, And}
use Rattle.syntax_trees.specs.declared.syntax.Sign.{Sign}
use Rattle.syntax_trees.specs.declared.syntax.Sign.TheVariants.{Positive, Negative}
use Rattle.check_rules.specs.Meanings.{Meaning}
use Rattle.check_rules.specs.Meanings as m
use Rattle.check_rules.specs.Operators.{Sort, Number, LongNumber, Truth, Fit, By, Application, OfWords, OfLongs, Relating, Longs, Words, sort_of, operation, relating, turned, number_type, long_type, fitted, beside}
use Rattle.check_rules.specs.Ranges.{Typed, typed, Aim, Free, Into, Several, checked, finish, Arguments}
use Rattle.check_rules.specs.Parts.{and_operation, complete, places_of}
use Rattle.check_rules.specs.Reached.{Reached, Results, Shape, OfFields, OfElements, NoShape, shape_of}
use Rattle.check_rules.specs.Statements.{Ends, not_long, bases, between, long_between, is_long_interval, by_itself_of, meets_bounds}
use Rattle.check_rules.specs.Steps.{Check, Checked, and_then, ◌>>=◌, pure, fail, refuse, or_refuse, ensure, spend}
use Rattle.check_rules.specs.declared.fault.Cause.TheVariants.{TypeMismatch, WrongCount, GlobalsTooLarge}
use Rattle.interface_records.specs.PlainTypes.{PlainField, PlainItem, PlainType, words_of, words_of_fields}

abbrev pub literal_of : PlainType → t.Expr → Typed
literal_of kind value = record { value = value; kind = kind; literal = true; gave = None }

-- A literal by itself: up to 32767 it is INTEGER, up to 65535 CARDINAL, up to 2147483647 LONG INTEGER, above LONG CARDINAL. Where it
-- meets another operand it may take that one's type: up to 32767 that of any number, up to 65535 that of a LONG one, up to
-- 2147483647 LONG CARDINAL.
unfoldable pub number : ℕ → Typed
number n =
    if nat_le n 32767 then literal_of v.Integer (t.Number n)
    else (if nat_le n 65535 then literal_of v.Cardinal (t.Number n)
    else (if nat_le n 2147483647 then literal_of v.LongInteger (t.LongNumber n)
    else typed v.LongCardinal (t.LongNumber (min n GREATEST_NUMBER))))

-- a character, by its code
unfoldable pub letter : ℕ → Typed
letter n = typed v.Character (t.Number (min n GREATEST_CHARACTER))

-- the number of a string literal among those of the module, of which so many are numbered as it may have
unfoldable pub number_in : List ℕ → ℕ → List (List ℕ) → Option ℕ
number_in bytes n [] = None
number_in bytes n (x ∷ xs) = if bytes_eq bytes x then (if nat_le (suc n) DISTINCT_STRINGS then Some n else None) else number_in bytes (suc n) xs

unfoldable pub string : List (List ℕ) → Place → List ℕ → Checked Typed
string literals p bytes = and_then (or_refuse (number_in bytes 0 literals) GlobalsTooLarge p) (λ n. Ok (typed v.String (t.Literal n)))

abbrev pub truth : t.Expr → Typed
truth e = typed v.Boolean e

abbrev pub is_truth_sort : Sort → Bool
is_truth_sort Truth = true
is_truth_sort _ = false

unfoldable pub is_truth : PlainType → Bool
is_truth k = is_truth_sort (sort_of k)

unfoldable pub not_of : Place → Typed → Checked Typed
not_of p a = if is_truth a.kind then Ok (truth (t.Not a.value)) else refuse TypeMismatch p

abbrev pub signed_by : Sign → Place → t.Expr → Sort → Checked Typed
signed_by Positive p e (Number b) = Ok (typed (number_type b) e)
signed_by Negative p e (Number b) = Ok (typed (number_type b) (t.Negate e))
signed_by Positive p e (LongNumber b) = Ok (typed (long_type b) e)
signed_by Negative p e (LongNumber b) = Ok (typed (long_type b) (t.NegateLong e))
signed_by _ p e _ = refuse TypeMismatch p

unfoldable pub signed : Sign → Place → Typed → Checked Typed
signed sign p a = signed_by sign p a.value (sort_of a.kind)

abbrev pub related_value : Relation → t.Expr → t.Expr → Relating → Typed
related_value o d e (Words m) = truth (t.Relate m.base o (checked m.left d) (checked m.right e))
related_value o d e (Longs m) = truth (t.RelateLong m.base o (fitted m.left d) (fitted m.right e))

-- a relation at p between operands that begin at l and at r
unfoldable pub compared : Bool → Relation → Place → Place → Typed → Place → Typed → Checked Typed
compared negated o p l d r e =
    and_then (or_refuse (relating d.kind d.literal e.kind e.literal) TypeMismatch (beside p l (sort_of d.kind) r (sort_of e.kind))) (λ m.
    Ok (related_value (turned negated o) d.value e.value m))

abbrev pub negated_by : Bool → t.Expr → t.Expr
negated_by true e = t.Not e
negated_by false e = e

-- IN takes ordinals of one base, or numbers of any type, and checks no mixed operation; a number that begins at l
abbrev pub within_by : Bool → Typed → Ends → t.Expr
within_by false a i = t.Within (bases a.kind i) a.value (between i)
within_by true a i = t.WithinLong (bases a.kind i) (by_itself_of a) (long_between i)

unfoldable pub within : Bool → Place → Place → Typed → Ends → Checked Typed
within negated p l a i =
    and_then (meets_bounds p l a i) (λ _. Ok (truth (negated_by negated (within_by (is_long_interval a i) a i))))

-- the level of a run: sums and products, AND, or OR; a run of a text has a step
pub data Level : Type 0 where
  Bare : Level
  Sums : Level
  Alls : Level
  Somes : Level

abbrev pub level : Operator → Level
level Or = Somes
level And = Alls
level _ = Sums

abbrev pub level_of : s.Operations → Level
level_of s.NoOperation = Bare
level_of (s.AndOperation o p e ss) = level o

abbrev pub by_level : {A : Type 0} → Level → A → A → A → A → A
by_level Bare w x y z = w
by_level Sums w x y z = x
by_level Alls w x y z = y
by_level Somes w x y z = z

-- A run of sums or products so far: its first operand, or a run over words or over LONG numbers. An operator over numbers of the other
-- length, or one for which what stands to the left must be converted, begins a run with that as its first operand.
pub data Sum : Type 0 where
  Begun : t.Expr → Sum
  InWords : t.Expr → t.Operations → Sum
  InLongs : t.Expr → t.Operations → Sum

abbrev pub closed : Sum → t.Expr
closed (Begun e) = e
closed (InWords e os) = t.Operate e os
closed (InLongs e os) = t.OperateLong e os

abbrev pub then_word : Sum → (t.Operations → t.Operations) → Sum
then_word (InWords e os) f = InWords e (and_operation os f)
then_word (Begun e) f = InWords e (f t.NoOperation)
then_word (InLongs e os) f = InWords (t.OperateLong e os) (f t.NoOperation)

abbrev pub then_long : Sum → Fit → (t.Operations → t.Operations) → Sum
then_long (InLongs e os) (By Kept) f = InLongs e (and_operation os f)
then_long done fit f = InLongs (fitted fit (closed done)) (f t.NoOperation)

-- with the type of it all
pub record Done : Type 0 where
  pub done : Sum
  pub kind : PlainType

abbrev pub done_by : Sum → t.Expr → Application → Done
done_by done e (OfWords x) = record { done = then_word done (t.Then x.left x.operator (checked x.right e)); kind = x.kind }
done_by done e (OfLongs x) = record { done = then_long done x.left (t.Then Every x.operator (fitted x.right e)); kind = x.kind }

-- an operator at p behind a run that begins at l; its right side begins at q
unfoldable pub step : Operator → Place → Place → Sum → PlainType → Bool → Place → Typed → Checked Done
step o p l done kind literal q r =
    and_then (or_refuse (operation o (sort_of kind) literal (sort_of r.kind) r.literal) TypeMismatch (beside p l (sort_of kind) q (sort_of r.kind))) (λ x.
    Ok (done_by done r.value x))

abbrev pub summed : t.Expr × PlainType → Typed
summed r = typed r.1 r.0

-- an operand of AND or OR
abbrev pub truth_operand : Bool → Place → Typed → Checked t.Expr
truth_operand fits p r = if fits && is_truth r.kind then Ok r.value else refuse TypeMismatch p

-- no phrase stands in the brackets of an index or a constructor
abbrev pub no_phrase : s.Phrase → Checked (Unit {0})
no_phrase s.NoPhrase = Ok tt
no_phrase (s.Catch p arms) = refuse TypeMismatch p

abbrev pub in_order : t.Exprs → Arguments
in_order es = record { places = []; values = es }

abbrev pub by_shape : {A : Type 0} → Shape → (List PlainField → A) → (ℕ → PlainType → A) → A → A
by_shape (OfFields fs) x y z = x fs
by_shape (OfElements n k) x y z = y n k
by_shape NoShape x y z = z

abbrev pub by_aim : {A : Type 0} → Aim → (Place → A) → (PlainType → Place → A) → A
by_aim (Into k p) x y = y k p
by_aim (Free p) x y = x p
by_aim (Several p) x y = x p

abbrev pub made : PlainType → Arguments → Typed
made k a = typed k (t.Construct a.places a.values)

-- a constructor counts its own size, and what stands in its brackets besides
abbrev pub in_fields : PlainType → Place → ℕ → ℕ → Check t.Exprs → Check Typed
in_fields k p given wanted values = do
  _ ← ensure (nat_eq given wanted) WrongCount p
  _ ← spend (words_of k)
  vs ← values
  pure (made k (in_order vs))

abbrev pub by_keys : PlainType → Place → List PlainField → List Identifier → Check t.Exprs → Check Typed
by_keys k p fs xs values = do
  _ ← ensure (complete fs xs) WrongCount p
  _ ← spend (words_of k)
  vs ← values
  pure (made k (record { places = places_of fs xs; values = vs }))

abbrev pub construct_shape : {A : Type 0} → PlainType → Place → Check A → Check A
construct_shape k q other = by_shape (shape_of k) (λ fs. other) (λ n j. other) (fail TypeMismatch q)

-- a type's name that stands before brackets is that of a record or an array
abbrev pub has_parts : PlainType → Place → Checked (Unit {0})
has_parts k q = by_shape (shape_of k) (λ fs. Ok tt) (λ n j. Ok tt) (refuse TypeMismatch q)

-- a bound is one of the type that a word before its interval says
abbrev pub bound_aim : Option PlainType → Place → Aim
bound_aim (Some k) p = Into k p
bound_aim None p = Free p

-- no bound of a type is LONG, also where a LONG value would conform to that word's type
unfoldable pub bound_of : Option PlainType → Place → Typed → Checked Typed
bound_of base p x = and_then (not_long p x) (λ _. finish (bound_aim base p) x)

-- a signal or error that is raised by the word of its declaration
pub record Raises : Type 0 where
  pub raised : t.Raised
  pub head : PlainItem

abbrev pub is_kind : ItemKind → ItemKind → Bool
is_kind item.Signal item.Signal = true
is_kind item.Error item.Error = true
is_kind _ _ = false

abbrev pub raises_by : ItemKind → Place → Meaning → Checked Raises
raises_by kind p (m.Signal r i) = if is_kind kind i.kind then Ok (record { raised = r; head = i }) else refuse TypeMismatch p
raises_by kind p _ = refuse TypeMismatch p

abbrev pub raised : Raises → Arguments → t.Phrase → Reached
raised r a ph = Results (t.Raise r.raised a.places a.values (words_of_fields r.head.gives) ph) r.head.gives
