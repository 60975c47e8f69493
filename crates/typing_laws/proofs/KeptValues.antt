-- Rules of values: how many nodes they give, and where their faults stand.
use Rattle.std.specs.Prelude.{ℕ, ◌≡◌, ◌+◌, ◌*◌, ◌≤◌, Bool, true, false, not, ◌&&◌, Option, Some, None, List, [], ◌∷◌, length, if◌then◌else◌, nat_eq, nat_le, min}
use Rattle.std.proofs.Common.{refl, arith}
use Rattle.mesa_base.specs.declared.limits.TheConstants.{GREATEST_NUMBER}
use Rattle.mesa_base.specs.declared.place.Place.{Place}
use Rattle.mesa_base.specs.declared.identifier.Identifier.{Identifier}
use Rattle.syntax_trees.specs.Syntax as s
use Rattle.mesa_types.specs.Nodes as tn
use Rattle.mesa_types.specs.declared.faces.ItemKind.{ItemKind}
use Rattle.syntax_trees.specs.declared.syntax.Operator.{Operator}
use Rattle.syntax_trees.specs.declared.syntax.Operator.TheVariants.{Or, And, Add, Subtract, Multiply, Divide, Modulo}
use Rattle.syntax_trees.specs.declared.syntax.Sign.{Sign}
use Rattle.syntax_trees.specs.declared.syntax.Sign.TheVariants.{Positive, Negative}
use Rattle.check_rules.specs.Typed as t
use Rattle.check_rules.specs.Typed.{Base, Signed, Unsigned, Range, Every, From, Relation, Home}
use Rattle.interface_records.specs.PlainTypes as v
use Rattle.interface_records.specs.PlainTypes.{PlainType, PlainField, words_of_fields, elements_of, base_of, bounds, conforms, fields, is_text, array_parts, words_of, is_long, one_ordinal_base, same}
use Rattle.check_rules.specs.Meanings as m
use Rattle.check_rules.specs.Meanings.{Meaning}
use Rattle.check_rules.specs.Steps.{Check, Checked, ◌>>=◌, pure, lift}
use Rattle.check_rules.specs.Around.{Around}
use Rattle.check_rules.specs.Parts.{Found, field_named, and_operation, and_suffix, and_part, complete, places_of}
use Rattle.check_rules.specs.Operators.{Sort, Number, LongNumber, Letter, Truth, Other, Meeting, LongMeeting, Fit, AsLiteral, By, Applied, LongApplied, Application, OfWords, OfLongs, Relating, Longs, Words, sort_of, meet, meet_long, arithmetic, long_arithmetic, on_letter, word_operation, by_length, operation, of_one_base, related_by, related, relating_by, relating, lengthened, made_by, fitted, by_itself, beside, turned}
use Rattle.check_rules.specs.Ranges.{Typed, typed, Aim, Free, Into, Several, Arguments, checked, range_for, conversion_for, converted, given_as, fitted_if, finish}
use Rattle.check_rules.specs.Values.{literal_of, number, string, number_in, is_truth, not_of, signed, signed_by, related_value, compared, within_by, within, negated_by, Sum, Begun, InWords, InLongs, closed, then_word, then_long, Done, done_by, step, bound_aim, bound_of, truth_operand, no_phrase, in_order, by_shape, made, in_fields, by_keys, Raises, is_kind, raises_by, raised}
use Rattle.check_rules.specs.Reached.{Reached, Results, Value, Variable, Named, constant_value, reached, settled, results, value, is_length, length_of, field_of_fields, field_in, field_of_variable, part_of, field_of_value, field, Bracketed, InArray, InText, text_at, indexed_by, indexed, index_range, first_word, at_index, Shape, OfFields, OfElements, NoShape, Target, stored, performed}
use Rattle.check_rules.specs.Statements.{Ends, not_long, are_related, meets_bounds, is_long_interval, by_itself_of}
use Rattle.check_rules.specs.declared.fault.Cause.TheVariants.{UnknownName, TypeMismatch, WrongCount, GlobalsTooLarge}
use Rattle.check_rules.specs.Places as places
use Rattle.typing_laws.proofs.Keeping.{OfSome, by_if, or_refused, Gives, Keeps, Anything, Have, bind, give, refusing, lifting, and_gives, all_right, refused, only_if, ensured, after_spending}
use Rattle.typing_laws.proofs.KeptNames.{ConstantStands, of_interface_kept}

-- a check of a target leaves room for one node
abbrev pub spare : Aim → ℕ
spare (Into k p) = 0
spare (Free p) = 1
spare (Several p) = 1

abbrev pub AimStands : (Place → Type 0) → Aim → Type 0
AimStands Stands (Into k p) = Stands p
AimStands Stands (Free p) = Stands p
AimStands Stands (Several p) = Stands p

abbrev pub Fits : Aim → ℕ → Typed → Type 0
Fits aim n x = tn.expr_nodes x.value + spare aim ≤ 2 * n

abbrev pub UpTo : ℕ → Typed → Type 0
UpTo n x = tn.expr_nodes x.value ≤ n

-- the nodes of what a name led to
abbrev pub size : Reached → ℕ
size (Variable h ss k) = 1 + tn.suffixes_nodes ss
size (Value n e k) = tn.expr_nodes e
size (Results e fs) = tn.expr_nodes e
size (Named m) = 1

abbrev pub size_of_bracketed : Bracketed → ℕ
size_of_bracketed (InArray h ss i e) = 1 + tn.suffixes_nodes ss
size_of_bracketed (InText n e) = tn.expr_nodes e

-- one of two operands at most is checked
abbrev pub Once : Meeting → Type 0
Once x = tn.check_nodes x.left + tn.check_nodes x.right ≤ 1

abbrev pub OneCheck : Option Meeting → Type 0
OneCheck = OfSome Once

abbrev pub AppliedOnce : Applied → Type 0
AppliedOnce x = tn.check_nodes x.left + tn.check_nodes x.right ≤ 1

abbrev pub OneCheckApplied : Option Applied → Type 0
OneCheckApplied = OfSome AppliedOnce

pub a_check : (r : Range) → tn.check_nodes r ≤ 1
unfolding tn.check_nodes
a_check Every = omega arith
a_check (From b x y) = omega arith

pub with_check : (r : Range) (e : t.Expr) → tn.expr_nodes (checked r e) ≤ tn.check_nodes r + tn.expr_nodes e
unfolding tn.check_nodes tn.expr_nodes
with_check Every e = omega arith
with_check (From b x y) e = omega arith

meet_once : (a : Base) (la : Bool) (b : Base) (lb : Bool) → tn.check_nodes (meet a la b lb).left + tn.check_nodes (meet a la b lb).right ≤ 1
unfolding meet tn.check_nodes
meet_once Signed la Signed lb = omega arith
meet_once Unsigned la Unsigned lb = omega arith
meet_once Signed true Unsigned lb = omega arith
meet_once Signed false Unsigned lb = omega arith
meet_once Unsigned la Signed true = omega arith
meet_once Unsigned la Signed false = omega arith

one_base_once : (a b : Option PlainType) → OneCheck (of_one_base a b)
unfolding tn.check_nodes
one_base_once (Some a) (Some b) = by_same (same a b)
  where
    by_same : (c : Bool) → OneCheck (if c then Some (record { base = Unsigned; left = Every; right = Every }) else None)
    by_same true = omega arith
    by_same false = tt
one_base_once None b = tt
one_base_once (Some a) None = tt

related_by_once : (x : Sort) (la : Bool) (y : Sort) (lb : Bool) (other : Option Meeting) → OneCheck other → OneCheck (related_by x la y lb other)
related_by_once (Number a) la (Number b) lb other h = meet_once a la b lb
related_by_once (Number a) la (LongNumber b) lb other h = tt
related_by_once (Number a) la Letter lb other h = h
related_by_once (Number a) la Truth lb other h = h
related_by_once (Number a) la Other lb other h = h
related_by_once (LongNumber a) la y lb other h = tt
related_by_once Letter la (LongNumber b) lb other h = tt
related_by_once Letter la (Number b) lb other h = h
related_by_once Letter la Letter lb other h = h
related_by_once Letter la Truth lb other h = h
related_by_once Letter la Other lb other h = h
related_by_once Truth la (LongNumber b) lb other h = tt
related_by_once Truth la (Number b) lb other h = h
related_by_once Truth la Letter lb other h = h
related_by_once Truth la Truth lb other h = h
related_by_once Truth la Other lb other h = h
related_by_once Other la (LongNumber b) lb other h = tt
related_by_once Other la (Number b) lb other h = h
related_by_once Other la Letter lb other h = h
related_by_once Other la Truth lb other h = h
related_by_once Other la Other lb other h = h

pub related_once : (a : PlainType) (la : Bool) (b : PlainType) (lb : Bool) → OneCheck (related a la b lb)
unfolding related
related_once a la b lb = related_by_once (sort_of a) la (sort_of b) lb (of_one_base (base_of a) (base_of b)) (one_base_once (base_of a) (base_of b))

arithmetic_once : (o : Operator) (x : Meeting) → tn.check_nodes x.left + tn.check_nodes x.right ≤ 1 → OneCheckApplied (arithmetic o x)
arithmetic_once Add x h = h
arithmetic_once Subtract x h = h
arithmetic_once Multiply x h = h
arithmetic_once Divide x h = h
arithmetic_once Modulo x h = h
arithmetic_once Or x h = tt
arithmetic_once And x h = tt

letter_once : (o : Operator) (b : Sort) → OneCheckApplied (on_letter o b)
unfolding tn.check_nodes
letter_once Add (Number b) = omega arith
letter_once Subtract (Number b) = omega arith
letter_once Subtract Letter = omega arith
letter_once Add (LongNumber b) = tt
letter_once Subtract (LongNumber b) = tt
letter_once Add Letter = tt
letter_once Add Truth = tt
letter_once Add Other = tt
letter_once Subtract Truth = tt
letter_once Subtract Other = tt
letter_once Multiply b = tt
letter_once Divide b = tt
letter_once Modulo b = tt
letter_once Or b = tt
letter_once And b = tt

words_once : (o : Operator) (a : Sort) (la : Bool) (b : Sort) (lb : Bool) → OneCheckApplied (word_operation o a la b lb)
unfolding word_operation
words_once o (Number a) la (Number b) lb = arithmetic_once o (meet a la b lb) (meet_once a la b lb)
words_once o (Number a) la (LongNumber b) lb = tt
words_once o (Number a) la Letter lb = tt
words_once o (Number a) la Truth lb = tt
words_once o (Number a) la Other lb = tt
words_once o (LongNumber a) la b lb = tt
words_once o Letter la b lb = letter_once o b
words_once o Truth la b lb = tt
words_once o Other la b lb = tt

abbrev pub ApplicationOnce : Application → Type 0
ApplicationOnce (OfWords x) = AppliedOnce x
ApplicationOnce (OfLongs x) = Unit {0}

lengths_once : (p : Option LongApplied) (q : Option Applied) → OneCheckApplied q → OfSome ApplicationOnce (by_length p q)
lengths_once (Some x) q h = tt
lengths_once None (Some x) h = h
lengths_once None None h = tt

operation_once : (o : Operator) (a : Sort) (la : Bool) (b : Sort) (lb : Bool) → OfSome ApplicationOnce (operation o a la b lb)
unfolding operation
operation_once o a la b lb = lengths_once (long_arithmetic o (meet_long a la b lb)) (word_operation o a la b lb) (words_once o a la b lb)

abbrev pub RelatingOnce : Relating → Type 0
RelatingOnce (Words m) = Once m
RelatingOnce (Longs m) = Unit {0}

pub relating_once : (a : PlainType) (la : Bool) (b : PlainType) (lb : Bool) → OfSome RelatingOnce (relating a la b lb)
unfolding relating
relating_once a la b lb = by (meet_long (sort_of a) la (sort_of b) lb) (related a la b lb) (related_once a la b lb)
  where
    by : (p : Option LongMeeting) (q : Option Meeting) → OneCheck q → OfSome RelatingOnce (relating_by p q)
    by (Some m) q h = tt
    by None (Some m) h = h
    by None None h = tt

-- an operand that is made LONG has one node more
lengthened_size : (e : t.Expr) → tn.expr_nodes (lengthened e) ≡ tn.expr_nodes e
unfolding tn.expr_nodes
lengthened_size (t.Number n) = refl
lengthened_size e = refl

made_size : (c : t.Conversion) (e : t.Expr) → tn.expr_nodes (made_by c e) ≤ 1 + tn.expr_nodes e
unfolding tn.expr_nodes
made_size t.Kept e = omega arith
made_size (t.Widened from to) e = omega arith
made_size (t.Narrowed from to r) e = omega arith
made_size t.InCommon e = omega arith

pub fitted_size : (f : Fit) (e : t.Expr) → tn.expr_nodes (fitted f e) ≤ 1 + tn.expr_nodes e
unfolding fitted
fitted_size AsLiteral e = omega (arith, lengthened_size e)
fitted_size (By c) e = made_size c e

pub given_size : (j k : PlainType) (e : t.Expr) → tn.expr_nodes (given_as j k e) ≤ 1 + tn.expr_nodes e
unfolding given_as tn.expr_nodes
given_size j k e = by (conversion_for j k) (range_for j k)
  where
    by : (c : t.Conversion) (r : Range) → tn.expr_nodes (converted c r e) ≤ 1 + tn.expr_nodes e
    by t.Kept r = omega (arith, with_check r e, a_check r)
    by (t.Widened from to) r = omega arith
    by (t.Narrowed from to q) r = omega arith
    by t.InCommon r = omega arith

pub a_conversion : (c : t.Conversion) → tn.conversion_nodes c ≤ 1
unfolding tn.conversion_nodes
a_conversion t.Kept = omega arith
a_conversion (t.Widened from to) = omega arith
a_conversion (t.Narrowed from to r) = omega arith
a_conversion t.InCommon = omega arith

-- a run with one operator more
run_more : (os : t.Operations) (r : Range) (o : t.Operator) (e : t.Expr)
    → tn.operations_nodes (and_operation os (t.Then r o e)) ≡ tn.operations_nodes os + (1 + tn.check_nodes r + tn.expr_nodes e)
unfolding and_operation tn.operations_nodes
run_more t.NoOperation r o e = omega arith
run_more (t.Then q p d os) r o e = omega (arith, run_more os r o e)

word_step_size : (done : Sum) (r : Range) (o : t.Operator) (e : t.Expr)
    → tn.expr_nodes (closed (then_word done (t.Then r o e))) ≤ tn.expr_nodes (closed done) + (1 + tn.check_nodes r + tn.expr_nodes e)
unfolding tn.expr_nodes tn.operations_nodes
word_step_size (Begun d) r o e = omega arith
word_step_size (InWords d os) r o e = omega (arith, run_more os r o e)
word_step_size (InLongs d os) r o e = omega arith

long_step_size : (done : Sum) (f : Fit) (o : t.Operator) (e : t.Expr)
    → tn.expr_nodes (closed (then_long done f (t.Then Every o e))) ≤ tn.expr_nodes (closed done) + (2 + tn.expr_nodes e)
unfolding tn.expr_nodes tn.operations_nodes tn.check_nodes
long_step_size (Begun d) f o e = omega (arith, fitted_size f d)
long_step_size (InWords d os) f o e = omega (arith, fitted_size f (t.Operate d os))
long_step_size (InLongs d os) AsLiteral o e = omega (arith, fitted_size AsLiteral (t.OperateLong d os))
long_step_size (InLongs d os) (By t.Kept) o e = omega (arith, run_more os Every o e)
long_step_size (InLongs d os) (By (t.Widened from to)) o e = omega (arith, fitted_size (By (t.Widened from to)) (t.OperateLong d os))
long_step_size (InLongs d os) (By (t.Narrowed from to r)) o e = omega (arith, fitted_size (By (t.Narrowed from to r)) (t.OperateLong d os))
long_step_size (InLongs d os) (By t.InCommon) o e = omega (arith, fitted_size (By t.InCommon) (t.OperateLong d os))

suffix_more : (ss : t.Suffixes) (n o : ℕ) → tn.suffixes_nodes (and_suffix ss (t.Field n o)) ≡ tn.suffixes_nodes ss
unfolding and_suffix tn.suffixes_nodes
suffix_more t.NoSuffix n o = refl
suffix_more (t.Field k p ss) n o = suffix_more ss n o
suffix_more (t.Index r x y w e ss) n o = let h : tn.suffixes_nodes (and_suffix ss (t.Field n o)) ≡ tn.suffixes_nodes ss = suffix_more ss n o in omega arith

index_more : (ss : t.Suffixes) (r : Range) (x y w : ℕ) (e : t.Expr)
    → tn.suffixes_nodes (and_suffix ss (t.Index r x y w e)) ≡ tn.suffixes_nodes ss + tn.check_nodes r + tn.expr_nodes e
unfolding and_suffix tn.suffixes_nodes
index_more t.NoSuffix r x y w e = omega arith
index_more (t.Field k p ss) r x y w e = index_more ss r x y w e
index_more (t.Index q i j v d ss) r x y w e = let h : tn.suffixes_nodes (and_suffix ss (t.Index r x y w e))
    ≡ tn.suffixes_nodes ss + tn.check_nodes r + tn.expr_nodes e = index_more ss r x y w e in omega arith

part_more : (e : t.Expr) (p : t.Part) → tn.expr_nodes (and_part e p) ≤ 1 + tn.expr_nodes e
unfolding tn.expr_nodes
part_more (t.FieldOf e ps) p = omega arith
part_more _ p = omega arith

number_if_size : (a b c : Bool) (n : ℕ) → tn.expr_nodes (if a then literal_of v.Integer (t.Number n) else (if b then literal_of v.Cardinal (t.Number n)
    else (if c then literal_of v.LongInteger (t.LongNumber n) else typed v.LongCardinal (t.LongNumber (min n GREATEST_NUMBER))))).value + 1 ≤ 2 * 1
unfolding tn.expr_nodes
number_if_size true b c n = omega arith
number_if_size false true c n = omega arith
number_if_size false false true n = omega arith
number_if_size false false false n = omega arith

pub number_size : (n : ℕ) → tn.expr_nodes (number n).value + 1 ≤ 2 * 1
unfolding number
number_size n = number_if_size (nat_le n 32767) (nat_le n 65535) (nat_le n 2147483647) n

constant_size : (l : Bool) (n : ℕ) → tn.expr_nodes (constant_value l n) ≡ 1
unfolding tn.expr_nodes
constant_size true n = refl
constant_size false n = refl

pub reached_size : (x : Meaning) → size (reached x) ≡ 1
unfolding reached tn.expr_nodes tn.suffixes_nodes
reached_size (m.Variable h k) = refl
reached_size (m.Constant k n) = constant_size (is_long k) n
reached_size (m.TextConstant n) = refl
reached_size _ = refl

pub settled_size : (r : Reached) → size (settled r) ≡ size r
settled_size (Results e (f ∷ [])) = refl
settled_size (Results e []) = refl
settled_size (Results e (f ∷ (g ∷ fs))) = refl
settled_size (Variable h ss k) = refl
settled_size (Value n e k) = refl
settled_size (Named x) = refl

pub anything : {A : Type 0} (o : Option A) → OfSome Anything o
anything None = tt
anything (Some a) = tt

-- What rules of values give.
module _ (Stands : Place → Type 0) where
  fitted_kept : (b : Bool) (k : PlainType) (p : Place) → Stands p → (n : ℕ) (x : Typed) → tn.expr_nodes x.value + 1 ≤ 2 * n
      → Gives Stands (Fits (Into k p) n) (fitted_if b k p x)
  fitted_kept true k p a n x h = all_right (omega (arith, given_size x.kind k x.value))
  fitted_kept false k p a n x h = refused a

  pub finished : (aim : Aim) → AimStands Stands aim → (n : ℕ) (x : Typed) → tn.expr_nodes x.value + 1 ≤ 2 * n → Keeps Stands (Fits aim n) (lift (finish aim x))
  unfolding finish
  finished (Free p) a n x h = lifting (all_right h)
  finished (Several p) a n x h = lifting (all_right h)
  finished (Into k p) a n x h = lifting (fitted_kept (conforms x.kind k) k p a n x h)

  pub not_kept : (p : Place) → Stands p → (x : Typed) → Gives Stands (UpTo (1 + tn.expr_nodes x.value)) (not_of p x)
  unfolding not_of tn.expr_nodes
  not_kept p h x = by_if (is_truth x.kind) (all_right (omega arith)) (refused h)

  signed_by_kept : (sign : Sign) (p : Place) → Stands p → (e : t.Expr) (a : Sort) → Gives Stands (UpTo (1 + tn.expr_nodes e)) (signed_by sign p e a)
  unfolding tn.expr_nodes
  signed_by_kept Positive p h e (Number b) = all_right (omega arith)
  signed_by_kept Negative p h e (Number b) = all_right (omega arith)
  signed_by_kept Positive p h e (LongNumber b) = all_right (omega arith)
  signed_by_kept Negative p h e (LongNumber b) = all_right (omega arith)
  signed_by_kept Positive p h e Letter = refused h
  signed_by_kept Positive p h e Truth = refused h
  signed_by_kept Positive p h e Other = refused h
  signed_by_kept Negative p h e Letter = refused h
  signed_by_kept Negative p h e Truth = refused h
  signed_by_kept Negative p h e Other = refused h

  pub signed_kept : (sign : Sign) (p : Place) → Stands p → (x : Typed) → Gives Stands (UpTo (1 + tn.expr_nodes x.value)) (signed sign p x)
  unfolding signed
  signed_kept sign p h x = signed_by_kept sign p h x.value (sort_of x.kind)

  pub beside_stands : (p l q : Place) (a b : Sort) → Stands p → Stands l → Stands q → Stands (beside p l a q b)
  unfolding beside
  beside_stands p l q (LongNumber a) Letter h i j = i
  beside_stands p l q (LongNumber a) (Number b) h i j = h
  beside_stands p l q (LongNumber a) (LongNumber b) h i j = h
  beside_stands p l q (LongNumber a) Truth h i j = h
  beside_stands p l q (LongNumber a) Other h i j = h
  beside_stands p l q Letter (LongNumber b) h i j = j
  beside_stands p l q Letter (Number b) h i j = h
  beside_stands p l q Letter Letter h i j = h
  beside_stands p l q Letter Truth h i j = h
  beside_stands p l q Letter Other h i j = h
  beside_stands p l q (Number a) b h i j = h
  beside_stands p l q Truth b h i j = h
  beside_stands p l q Other b h i j = h

  pub compared_kept : (b : Bool) (o : Relation) (p l q : Place) → Stands p → Stands l → Stands q → (x y : Typed)
      → Gives Stands (UpTo (3 + tn.expr_nodes x.value + tn.expr_nodes y.value)) (compared b o p l x q y)
  unfolding compared tn.expr_nodes
  compared_kept b o p l q h i j x y = and_gives (or_refused {P = RelatingOnce} (relating x.kind x.literal y.kind y.literal) TypeMismatch
      (beside p l (sort_of x.kind) q (sort_of y.kind)) (beside_stands p l q (sort_of x.kind) (sort_of y.kind) h i j)
      (relating_once x.kind x.literal y.kind y.literal)) (λ m one. all_right (related_size (turned b o) x.value y.value m one))
    where
      related_size : (o : Relation) (d e : t.Expr) (m : Relating) → RelatingOnce m
          → tn.expr_nodes (related_value o d e m).value ≤ 3 + tn.expr_nodes d + tn.expr_nodes e
      related_size o d e (Words m) one = omega (arith, one, with_check m.left d, with_check m.right e)
      related_size o d e (Longs m) one = omega (arith, fitted_size m.left d, fitted_size m.right e)

  negated_size : (b : Bool) (e : t.Expr) → tn.expr_nodes (negated_by b e) ≤ 1 + tn.expr_nodes e
  unfolding tn.expr_nodes
  negated_size true e = omega arith
  negated_size false e = omega arith

  within_size : (l : Bool) (x : Typed) (i : Ends) → tn.expr_nodes (within_by l x i) ≤ 5 + tn.expr_nodes x.value + tn.expr_nodes i.low.value + tn.expr_nodes i.high.value
  unfolding tn.expr_nodes tn.interval_nodes by_itself_of
  within_size false x i = omega arith
  within_size true x i = omega (
    arith,
    fitted_size (by_itself (sort_of x.kind) x.literal) x.value,
    fitted_size (by_itself (sort_of i.low.kind) i.low.literal) i.low.value,
    fitted_size (by_itself (sort_of i.high.kind) i.high.literal) i.high.value,
  )

  -- two bounds beside a number
  pub bounds_kept : (p l : Place) → Stands p → Stands l → (x : Typed) (i : Ends) → Stands i.low_place → Stands i.high_place → Gives Stands Anything (meets_bounds p l x i)
  unfolding meets_bounds
  bounds_kept p l h k x i m n =
      and_gives (only_if (are_related x i.low) TypeMismatch (beside p l (sort_of x.kind) i.low_place (sort_of i.low.kind))
      (beside_stands p l i.low_place (sort_of x.kind) (sort_of i.low.kind) h k m)) (λ u w.
      only_if (are_related x i.high) TypeMismatch (beside p l (sort_of x.kind) i.high_place (sort_of i.high.kind))
      (beside_stands p l i.high_place (sort_of x.kind) (sort_of i.high.kind) h k n))

  pub within_kept : (b : Bool) (p l : Place) → Stands p → Stands l → (x : Typed) (i : Ends) → Stands i.low_place → Stands i.high_place
      → Gives Stands (UpTo (6 + tn.expr_nodes x.value + tn.expr_nodes i.low.value + tn.expr_nodes i.high.value)) (within b p l x i)
  unfolding within
  within_kept b p l h k x i m n = and_gives (bounds_kept p l h k x i m n) (λ u w.
      all_right (omega (arith, negated_size b (within_by (is_long_interval x i) x i), within_size (is_long_interval x i) x i)))

  pub step_kept : (o : Operator) (p l q : Place) → Stands p → Stands l → Stands q → (done : Sum) (k : PlainType) (literal : Bool) (r : Typed)
      → Gives Stands (λ (d : Done). tn.expr_nodes (closed d.done) ≤ tn.expr_nodes (closed done) + (3 + tn.expr_nodes r.value)) (step o p l done k literal q r)
  unfolding step
  step_kept o p l q h i j done k literal r = and_gives
      (or_refused {P = ApplicationOnce} (operation o (sort_of k) literal (sort_of r.kind) r.literal) TypeMismatch (beside p l (sort_of k) q (sort_of r.kind))
      (beside_stands p l q (sort_of k) (sort_of r.kind) h i j)
      (operation_once o (sort_of k) literal (sort_of r.kind) r.literal)) (λ x one. all_right (by x one))
    where
      by : (x : Application) → ApplicationOnce x → tn.expr_nodes (closed (done_by done r.value x).done) ≤ tn.expr_nodes (closed done) + (3 + tn.expr_nodes r.value)
      by (OfWords x) one = omega (arith, one, word_step_size done x.left x.operator (checked x.right r.value), with_check x.right r.value)
      by (OfLongs x) one = omega (arith, long_step_size done x.left x.operator (fitted x.right r.value), fitted_size x.right r.value)

  -- a bound of a type
  pub bound_of_kept : (base : Option PlainType) (p : Place) → Stands p → (x : Typed) → Gives Stands Anything (bound_of base p x)
  unfolding bound_of not_long finish
  bound_of_kept base p h x = and_gives (only_if (not (is_long x.kind)) TypeMismatch p h) (λ u w. by base)
    where
      fit : (b : Bool) (k : PlainType) → Gives Stands Anything (fitted_if b k p x)
      fit true k = all_right tt
      fit false k = refused h

      by : (base : Option PlainType) → Gives Stands Anything (finish (bound_aim base p) x)
      by None = all_right tt
      by (Some k) = fit (conforms x.kind k) k

  pub operand_kept : (fits : Bool) (p : Place) → Stands p → (r : Typed) → Gives Stands (λ (e : t.Expr). e ≡ r.value) (truth_operand fits p r)
  operand_kept fits p h r = by_if (fits && is_truth r.kind) (all_right refl) (refused h)

  pub string_kept : (known : List (List ℕ)) (p : Place) → Stands p → (bytes : List ℕ) → Gives Stands (UpTo 1) (string known p bytes)
  unfolding string tn.expr_nodes
  string_kept known p h bytes = and_gives (or_refused {P = Anything} (number_in bytes 0 known) GlobalsTooLarge p h (anything (number_in bytes 0 known)))
      (λ n w. all_right (omega arith))

  pub no_phrase_kept : (ph : s.Phrase) → Have Stands (places.of_phrase ph) → Gives Stands Anything (no_phrase ph)
  unfolding places.of_phrase
  no_phrase_kept s.NoPhrase h = all_right tt
  no_phrase_kept (s.Catch p arms) h = refused h.0

  -- the value of what was reached
  results_kept : (aim : Aim) → AimStands Stands aim → (e : t.Expr) (fs : List PlainField) → Gives Stands (UpTo (tn.expr_nodes e)) (results aim e fs)
  results_kept aim h e (f ∷ []) = all_right (omega arith)
  results_kept (Several p) h e [] = all_right (omega arith)
  results_kept (Free p) h e [] = refused h
  results_kept (Into k p) h e [] = refused h
  results_kept (Several p) h e (f ∷ (g ∷ fs)) = all_right (omega arith)
  results_kept (Free p) h e (f ∷ (g ∷ fs)) = refused h
  results_kept (Into k p) h e (f ∷ (g ∷ fs)) = refused h

  pub value_kept : (aim : Aim) → AimStands Stands aim → (last : Place) → Stands last → (r : Reached) → Keeps Stands (UpTo (size r)) (value aim last r)
  unfolding value tn.expr_nodes
  value_kept aim h last k (Variable x ss j) = after_spending (words_of j) (λ u. pure (typed j (t.Variable x ss (words_of j)))) (give (omega arith))
  value_kept aim h last k (Value n e j) = after_spending n (λ u. pure (typed j e)) (give (omega arith))
  value_kept aim h last k (Results e fs) = lifting (results_kept aim h e fs)
  value_kept aim h last k (Named x) = refusing k

  length_kept : (x : Identifier) → Stands x.place → (n : ℕ) (e : t.Expr) → Gives Stands (λ r. size r ≤ 1 + tn.expr_nodes e) (length_of x n e)
  unfolding tn.expr_nodes
  length_kept x h n e = by_if (is_length x) (all_right (omega arith)) (refused h)

  fields_kept : (make : Found → Reached) (z : ℕ) → ((f : Found) → size (make f) ≤ z) → (x : Identifier) → Stands x.place
      → (fs : Option (List PlainField)) (other : Checked Reached)
      → Gives Stands (λ r. size r ≤ z) other → Gives Stands (λ r. size r ≤ z) (field_of_fields make x fs other)
  fields_kept make z g x h (Some fs) other o =
      and_gives (or_refused {P = Anything} (field_named fs x) UnknownName x.place h (anything (field_named fs x))) (λ f w. all_right (g f))
  fields_kept make z g x h None other o = o

  field_in_kept : (last : Place) → Stands last → (make : Found → Reached) (n : ℕ) (e : t.Expr) → ((f : Found) → size (make f) ≤ 1 + tn.expr_nodes e)
      → (k : PlainType) (x : Identifier) → Stands x.place
      → Gives Stands (λ r. size r ≤ 1 + tn.expr_nodes e) (field_in last make n e k x)
  unfolding field_in
  field_in_kept last l make n e g k x h = fields_kept make (1 + tn.expr_nodes e) g x h (fields k) _ (by_if (is_text k) (length_kept x h n e) (refused l))

  variable_size : (h : Home) (ss : t.Suffixes) (w : ℕ) → tn.expr_nodes (t.Variable h ss w) ≡ 1 + tn.suffixes_nodes ss
  unfolding tn.expr_nodes
  variable_size h ss w = refl

  pub field_kept : (a : Around) → ConstantStands Stands a.constant → (last : Place) → Stands last → (r : Reached) (x : Identifier) → Stands x.place
      → Keeps Stands (λ y. size y ≤ 1 + size r) (field a last r x)
  unfolding field tn.expr_nodes
  field_kept a c last l (Variable h ss k) x g =
      lifting (field_in_kept last l (field_of_variable h ss) 1 (t.Variable h ss (words_of k))
      (λ f. omega (arith, suffix_more ss f.number f.offset, variable_size h ss (words_of k))) k x g)
  field_kept a c last l (Value n e k) x g = lifting (field_in_kept last l (field_of_value n e) (min n 1) e (λ f. part_more e (part_of f)) k x g)
  field_kept a c last l (Named (m.Interface n)) x g = bind (of_interface_kept Stands a c n x g) (λ y w. give (omega (arith, reached_size y)))
  field_kept a c last l _ x g = refusing l

  -- indexes
  pub text_kept : (last : Place) → Stands last → (k : PlainType) (n : ℕ) (e : t.Expr)
      → Gives Stands (λ b. size_of_bracketed b ≤ tn.expr_nodes e) (text_at last k n e)
  text_kept last h k n e = by_if (is_text k) (all_right (omega arith)) (refused h)

  indexed_by_kept : (last : Place) → Stands last → (h : Home) (ss : t.Suffixes) (k : PlainType) (o : Option (PlainType × PlainType))
      → Gives Stands (λ b. size_of_bracketed b ≤ 1 + tn.suffixes_nodes ss) (indexed_by last h ss k o)
  unfolding tn.expr_nodes
  indexed_by_kept last l h ss k (Some p) = all_right (omega arith)
  indexed_by_kept last l h ss k None = text_kept last l k 1 (t.Variable h ss (words_of k))

  pub indexed_kept : (last : Place) → Stands last → (h : Home) (ss : t.Suffixes) (k : PlainType)
      → Gives Stands (λ b. size_of_bracketed b ≤ 1 + tn.suffixes_nodes ss) (indexed last h ss k)
  unfolding indexed
  indexed_kept last l h ss k = indexed_by_kept last l h ss k (array_parts k)

  pub at_index_kept : (b : Bracketed) (start : Place) → Stands start → (i : Typed)
      → Gives Stands (λ r. size r ≤ 1 + size_of_bracketed b + tn.expr_nodes i.value) (at_index b start i)
  unfolding at_index tn.expr_nodes
  at_index_kept (InArray h ss index element) start l i = and_gives (only_if (one_ordinal_base (base_of i.kind) (base_of index)) TypeMismatch start l) (λ u w.
      all_right (omega (
        arith,
        index_more ss (index_range i.kind index) (first_word (bounds index)) (elements_of index) (words_of element) i.value,
        a_check
            (index_range i.kind index),
      )))
  at_index_kept (InText n e) start l i = and_gives (only_if (one_ordinal_base (base_of i.kind) (Some v.Integer)) TypeMismatch start l) (λ u w. all_right (omega arith))

  -- constructors
  pub shape_kept : {A : Type 0} {P : A → Type 0} (sh : Shape) {x : List PlainField → Check A} {y : ℕ → PlainType → Check A} {z : Check A}
      → ((fs : List PlainField) → Keeps Stands P (x fs)) → ((n : ℕ) (k : PlainType) → Keeps Stands P (y n k)) → Keeps Stands P z
      → Keeps Stands P (by_shape sh x y z)
  shape_kept (OfFields fs) f g h = f fs
  shape_kept (OfElements n k) f g h = g n k
  shape_kept NoShape f g h = h

  pub in_fields_kept : (k : PlainType) (p : Place) → Stands p → (given wanted n : ℕ) {c : Check t.Exprs} → Keeps Stands (λ es. tn.exprs_nodes es ≤ n) c
      → Keeps Stands (UpTo (1 + n)) (in_fields k p given wanted c)
  unfolding tn.expr_nodes
  in_fields_kept k p h given wanted n {c} g = bind (ensured (nat_eq given wanted) WrongCount p h) (λ u w.
      after_spending (words_of k) (λ u. c >>= (λ vs. pure (made k (in_order vs)))) (bind g (λ es q. give (omega (arith, q)))))

  pub by_keys_kept : (k : PlainType) (p : Place) → Stands p → (fs : List PlainField) (xs : List Identifier) (n : ℕ) {c : Check t.Exprs}
      → Keeps Stands (λ es. tn.exprs_nodes es ≤ n) c → Keeps Stands (UpTo (1 + n)) (by_keys k p fs xs c)
  unfolding tn.expr_nodes
  by_keys_kept k p h fs xs n {c} g = bind (ensured (complete fs xs) WrongCount p h) (λ u w.
      after_spending (words_of k) (λ u. c >>= (λ vs. pure (made k (record { places = places_of fs xs; values = vs }))))
      (bind g (λ es q. give (omega (arith, q)))))

  -- raises
  pub raises_kept : (kind : ItemKind) (p : Place) → Stands p → (x : Meaning) → Gives Stands Anything (raises_by kind p x)
  raises_kept kind p h (m.Signal r i) = by_if (is_kind kind i.kind) (all_right tt) (refused h)
  raises_kept kind p h _ = refused h

  pub raised_size : (r : Raises) (x : Arguments) (ph : t.Phrase) → size (raised r x ph) ≡ 1 + tn.exprs_nodes x.values + tn.phrase_nodes ph
  unfolding tn.expr_nodes
  raised_size r x ph = refl

  -- targets and calls
  pub stored_kept : (last : Place) → Stands last → (r : Reached) → Keeps Stands (λ (x : Target). 1 + tn.suffixes_nodes x.suffixes ≤ size r) (stored last r)
  unfolding stored
  stored_kept last h (Variable x ss k) = after_spending (words_of k) (λ u. pure (record { home = x; suffixes = ss; kind = k })) (give (omega arith))
  stored_kept last h _ = refusing h

  pub performed_kept : (start last : Place) → Stands start → Stands last → (r : Reached)
      → Keeps Stands (λ (e : t.Expr). tn.expr_nodes e ≤ size r) (performed start last r)
  unfolding performed tn.expr_nodes tn.exprs_nodes tn.phrase_nodes
  performed_kept start last h k (Results e fs) = give (omega arith)
  performed_kept start last h k (Named (m.Procedure c i)) = bind (ensured (nat_eq 0 (length i.takes)) WrongCount start h) (λ u w.
      after_spending (words_of_fields i.gives) (λ u. pure (t.Call c [] t.NoExprs (words_of_fields i.gives) t.NoPhrase)) (give (omega arith)))
  performed_kept start last h k _ = refusing k
