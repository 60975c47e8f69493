-- Rules of values: what they give names the items that their parts name.
use Rattle.std.specs.Prelude.{ℕ, ◌≡◌, ◌+◌, ◌≤◌, Bool, true, false, not, ◌&&◌, Option, Some, None, Ok, List, [], ◌∷◌, length, nat_eq, min}
use Rattle.std.proofs.Common.{refl, arith}
use Rattle.mesa_base.specs.declared.place.Place.{Place}
use Rattle.mesa_base.specs.declared.identifier.Identifier.{Identifier}
use Rattle.syntax_trees.specs.Syntax as s
use Rattle.mesa_types.specs.declared.faces.ItemKind.{ItemKind}
use Rattle.syntax_trees.specs.declared.syntax.Operator.{Operator}
use Rattle.syntax_trees.specs.declared.syntax.Sign.{Sign}
use Rattle.syntax_trees.specs.declared.syntax.Sign.TheVariants.{Positive, Negative}
use Rattle.check_rules.specs.Typed as t
use Rattle.check_rules.specs.Typed.{Range, Every, From, Relation, Home}
use Rattle.interface_records.specs.PlainTypes as v
use Rattle.interface_records.specs.PlainTypes.{PlainType, PlainField, words_of_fields, elements_of, base_of, bounds, conforms, fields, is_text, array_parts, words_of, is_long, one_ordinal_base}
use Rattle.check_rules.specs.Meanings as m
use Rattle.check_rules.specs.Meanings.{Meaning}
use Rattle.check_rules.specs.Steps.{Check, Checked, ◌>>=◌, pure, refuse}
use Rattle.check_rules.specs.Around.{Around}
use Rattle.check_rules.specs.Parts.{Found, field_named, and_operation, and_suffix, and_part, complete, places_of}
use Rattle.check_rules.specs.Operators.{Sort, Number, LongNumber, Letter, Truth, Other, Fit, AsLiteral, By, Application, OfWords, OfLongs, Relating, Words, Longs, beside, fitted, lengthened, sort_of, operation, relating, turned}
use Rattle.check_rules.specs.Ranges.{Typed, typed, Aim, Free, Into, Several, Arguments, checked, conversion_for, converted, given_as, range_for, fitted_if, finish}
use Rattle.check_rules.specs.Values.{string, number_in, is_truth, not_of, signed, signed_by, compared, related_value, within, within_by, negated_by, Done, Sum, Begun, InWords, InLongs, closed, done_by, then_long, then_word, bound_aim, bound_of, step, truth_operand, no_phrase, has_parts, in_order, by_shape, made, in_fields, by_keys, Raises, is_kind, raises_by, raised}
use Rattle.check_rules.specs.Reached.{Reached, Results, Value, Variable, Named, constant_value, reached, settled, results, value, is_length, length_of, field_of_fields, field_in, field_of_variable, part_of, field_of_value, field, Bracketed, InArray, InText, text_at, indexed_by, indexed, index_range, first_word, at_index, Shape, OfFields, OfElements, NoShape, shape_of, Target, stored, performed}
use Rattle.check_rules.specs.Statements.{Ends, are_related, between, bases, by_itself_of, is_long_interval, long_between, meets_bounds, not_long}
use Rattle.check_rules.specs.declared.fault.Cause.TheVariants.{UnknownName, TypeMismatch, WrongCount, GlobalsTooLarge}
use Rattle.checking_laws.proofs.Uses as u
use Rattle.checking_laws.proofs.Names.{linked, of_interface_used}
use Rattle.checking_laws.proofs.Using.{by_if, some_or_refused, Gives, Uses, Anything, bind, give, refusing, lifting, after, and_gives, all_right, refused, only_if, after_spending}

-- a value that names so many
abbrev pub Names : ℕ → Typed → Type 0
Names n x = u.in_expr x.value ≡ n

-- those that what a name led to names
abbrev pub weight : Reached → ℕ
weight (Variable h ss k) = u.in_suffixes ss
weight (Value n e k) = u.in_expr e
weight (Results e fs) = u.in_expr e
weight (Named x) = linked x

abbrev pub weight_of_bracketed : Bracketed → ℕ
weight_of_bracketed (InArray h ss i e) = u.in_suffixes ss
weight_of_bracketed (InText n e) = u.in_expr e

pub with_check : (r : Range) (e : t.Expr) → u.in_expr (checked r e) ≡ u.in_expr e
unfolding u.in_expr
with_check Every e = refl
with_check (From b x y) e = refl

-- a conversion names what its operand names, and so does what makes an operand LONG
with_conversion : (c : t.Conversion) (r : Range) (e : t.Expr) → u.in_expr (converted c r e) ≡ u.in_expr e
unfolding u.in_expr
with_conversion t.Kept r e = with_check r e
with_conversion (t.Widened x y) r e = refl
with_conversion (t.Narrowed x y z) r e = refl
with_conversion t.InCommon r e = refl

given_same : (from to : PlainType) (e : t.Expr) → u.in_expr (given_as from to e) ≡ u.in_expr e
unfolding given_as
given_same from to e = with_conversion (conversion_for from to) (range_for from to) e

lengthened_same : (e : t.Expr) → u.in_expr (lengthened e) ≡ u.in_expr e
unfolding u.in_expr
lengthened_same (t.Number n) = refl
lengthened_same _ = refl

pub with_fit : (f : Fit) (e : t.Expr) → u.in_expr (fitted f e) ≡ u.in_expr e
unfolding fitted u.in_expr
with_fit AsLiteral e = lengthened_same e
with_fit (By t.Kept) e = refl
with_fit (By (t.Widened x y)) e = refl
with_fit (By (t.Narrowed x y z)) e = refl
with_fit (By t.InCommon) e = refl

itself_same : (x : Typed) → u.in_expr (by_itself_of x) ≡ u.in_expr x.value
unfolding by_itself_of
itself_same x = with_fit _ x.value

pub long_ends : (i : Ends) → u.in_interval (long_between i) ≡ u.in_expr i.low.value + u.in_expr i.high.value
unfolding u.in_interval
long_ends i = omega (arith, itself_same i.low, itself_same i.high)

-- suffixes and parts, and one more behind them
suffix_more : (ss : t.Suffixes) (n o : ℕ) → u.in_suffixes (and_suffix ss (t.Field n o)) ≡ u.in_suffixes ss
unfolding and_suffix u.in_suffixes
suffix_more t.NoSuffix n o = refl
suffix_more (t.Field k p ss) n o = suffix_more ss n o
suffix_more (t.Index r x y w e ss) n o = omega (arith, suffix_more ss n o)

index_more : (ss : t.Suffixes) (r : Range) (x y w : ℕ) (e : t.Expr)
    → u.in_suffixes (and_suffix ss (t.Index r x y w e)) ≡ u.in_suffixes ss + u.in_expr e
unfolding and_suffix u.in_suffixes
index_more t.NoSuffix r x y w e = omega arith
index_more (t.Field k p ss) r x y w e = index_more ss r x y w e
index_more (t.Index q i j v d ss) r x y w e = omega (arith, index_more ss r x y w e)

part_more : (e : t.Expr) (p : t.Part) → u.in_expr (and_part e p) ≡ u.in_expr e
unfolding u.in_expr
part_more (t.FieldOf e ps) p = refl
part_more _ p = refl

value_weight : (b : Bool) (n : ℕ) → u.in_expr (constant_value b n) ≡ 0
unfolding u.in_expr
value_weight true n = refl
value_weight false n = refl

pub reached_weight : (x : Meaning) → weight (reached x) ≡ linked x
unfolding reached u.in_expr u.in_suffixes
reached_weight (m.Variable h k) = refl
reached_weight (m.Constant k n) = value_weight (is_long k) n
reached_weight (m.TextConstant n) = refl
reached_weight _ = refl

pub settled_weight : (r : Reached) → weight (settled r) ≡ weight r
settled_weight (Results e (f ∷ [])) = refl
settled_weight (Results e []) = refl
settled_weight (Results e (f ∷ (g ∷ fs))) = refl
settled_weight (Variable h ss k) = refl
settled_weight (Value n e k) = refl
settled_weight (Named x) = refl

-- what is finished for its aim
fitted_given : (b : Bool) (k : PlainType) (p : Place) (x : Typed) → Gives (Names (u.in_expr x.value)) (fitted_if b k p x)
fitted_given true k p x = all_right (given_same x.kind k x.value)
fitted_given false k p x = refused tt

pub finished : (aim : Aim) (x : Typed) → Gives (Names (u.in_expr x.value)) (finish aim x)
unfolding finish
finished (Free p) x = all_right refl
finished (Several p) x = all_right refl
finished (Into k p) x = fitted_given (conforms x.kind k) k p x

pub not_given : (p : Place) (x : Typed) → Gives (Names (u.in_expr x.value)) (not_of p x)
unfolding not_of u.in_expr
not_given p x = by_if (is_truth x.kind) (all_right refl) (refused tt)

signed_by_given : (sign : Sign) (p : Place) (e : t.Expr) (a : Sort) → Gives (Names (u.in_expr e)) (signed_by sign p e a)
unfolding u.in_expr
signed_by_given Positive p e (Number b) = all_right refl
signed_by_given Negative p e (Number b) = all_right refl
signed_by_given Positive p e (LongNumber b) = all_right refl
signed_by_given Negative p e (LongNumber b) = all_right refl
signed_by_given Positive p e Letter = refused tt
signed_by_given Positive p e Truth = refused tt
signed_by_given Positive p e Other = refused tt
signed_by_given Negative p e Letter = refused tt
signed_by_given Negative p e Truth = refused tt
signed_by_given Negative p e Other = refused tt

pub signed_given : (sign : Sign) (p : Place) (x : Typed) → Gives (Names (u.in_expr x.value)) (signed sign p x)
unfolding signed
signed_given sign p x = signed_by_given sign p x.value (sort_of x.kind)

related_given : (o : Relation) (d e : t.Expr) (m : Relating) → Gives (Names (u.in_expr d + u.in_expr e)) (Ok (related_value o d e m))
unfolding u.in_expr
related_given o d e (Words m) = all_right (omega (arith, with_check m.left d, with_check m.right e))
related_given o d e (Longs m) = all_right (omega (arith, with_fit m.left d, with_fit m.right e))

pub compared_given : (b : Bool) (o : Relation) (p l : Place) (x : Typed) (r : Place) (y : Typed)
    → Gives (Names (u.in_expr x.value + u.in_expr y.value)) (compared b o p l x r y)
unfolding compared
compared_given b o p l x r y =
    and_gives (some_or_refused (relating x.kind x.literal y.kind y.literal) TypeMismatch (beside p l (sort_of x.kind) r (sort_of y.kind)) tt) (λ m w.
    related_given (turned b o) x.value y.value m)

negated_same : (b : Bool) (e : t.Expr) → u.in_expr (negated_by b e) ≡ u.in_expr e
unfolding u.in_expr
negated_same true e = refl
negated_same false e = refl

within_same : (b : t.Bases) (e : t.Expr) (i : Ends)
    → u.in_expr (t.Within b e (between i)) ≡ u.in_expr e + (u.in_expr i.low.value + u.in_expr i.high.value)
unfolding u.in_expr u.in_interval
within_same b e i = refl

by_length_same : (b : Bool) (x : Typed) (i : Ends)
    → u.in_expr (within_by b x i) ≡ u.in_expr x.value + (u.in_expr i.low.value + u.in_expr i.high.value)
unfolding u.in_expr
by_length_same false x i = within_same (bases x.kind i) x.value i
by_length_same true x i = omega (arith, itself_same x, long_ends i)

pub meets_given : (p l : Place) (x : Typed) (i : Ends) → Gives Anything (meets_bounds p l x i)
unfolding meets_bounds
meets_given p l x i = and_gives (only_if (are_related x i.low) TypeMismatch (beside p l (sort_of x.kind) i.low_place (sort_of i.low.kind)) tt) (λ k w.
    only_if (are_related x i.high) TypeMismatch (beside p l (sort_of x.kind) i.high_place (sort_of i.high.kind)) tt)

pub within_given : (b : Bool) (p l : Place) (x : Typed) (i : Ends)
    → Gives (Names (u.in_expr x.value + (u.in_expr i.low.value + u.in_expr i.high.value))) (within b p l x i)
unfolding within
within_given b p l x i = and_gives (meets_given p l x i) (λ k w.
    all_right (omega (arith, negated_same b (within_by (is_long_interval x i) x i), by_length_same (is_long_interval x i) x i)))

-- operations done, and more behind them
operations_more : (os : t.Operations) (r : t.Range) (o : t.Operator) (e : t.Expr)
    → u.in_operations (and_operation os (t.Then r o e)) ≡ u.in_operations os + u.in_expr e
unfolding and_operation u.in_operations
operations_more t.NoOperation r o e = omega arith
operations_more (t.Then q p d os) r o e = omega (arith, operations_more os r o e)

word_more : (done : Sum) (r : Range) (o : t.Operator) (e : t.Expr) → u.in_expr (closed (then_word done (t.Then r o e))) ≡ u.in_expr (closed done) + u.in_expr e
unfolding u.in_expr
word_more (Begun d) r o e = omega arith
word_more (InWords d os) r o e = omega (arith, operations_more os r o e)
word_more (InLongs d os) r o e = omega arith

fresh_long : (d : t.Expr) (f : Fit) (o : t.Operator) (e : t.Expr) → u.in_expr (t.OperateLong (fitted f d) (t.Then Every o e t.NoOperation)) ≡ u.in_expr d + u.in_expr e
unfolding u.in_expr
fresh_long d f o e = omega (arith, with_fit f d)

long_more : (done : Sum) (f : Fit) (o : t.Operator) (e : t.Expr) → u.in_expr (closed (then_long done f (t.Then Every o e))) ≡ u.in_expr (closed done) + u.in_expr e
unfolding u.in_expr
long_more (Begun d) f o e = fresh_long d f o e
long_more (InWords d os) f o e = fresh_long (t.Operate d os) f o e
long_more (InLongs d os) AsLiteral o e = fresh_long (t.OperateLong d os) AsLiteral o e
long_more (InLongs d os) (By t.Kept) o e = omega (arith, operations_more os Every o e)
long_more (InLongs d os) (By (t.Widened x y)) o e = fresh_long (t.OperateLong d os) (By (t.Widened x y)) o e
long_more (InLongs d os) (By (t.Narrowed x y z)) o e = fresh_long (t.OperateLong d os) (By (t.Narrowed x y z)) o e
long_more (InLongs d os) (By t.InCommon) o e = fresh_long (t.OperateLong d os) (By t.InCommon) o e

done_same : (done : Sum) (e : t.Expr) (x : Application) → u.in_expr (closed (done_by done e x).done) ≡ u.in_expr (closed done) + u.in_expr e
done_same done e (OfWords x) = omega (arith, word_more done x.left x.operator (checked x.right e), with_check x.right e)
done_same done e (OfLongs x) = omega (arith, long_more done x.left x.operator (fitted x.right e), with_fit x.right e)

pub step_given : (o : Operator) (p l : Place) (done : Sum) (k : PlainType) (literal : Bool) (q : Place) (r : Typed)
    → Gives (λ (d : Done). u.in_expr (closed d.done) ≡ u.in_expr (closed done) + u.in_expr r.value) (step o p l done k literal q r)
unfolding step
step_given o p l done k literal q r =
    and_gives (some_or_refused (operation o (sort_of k) literal (sort_of r.kind) r.literal) TypeMismatch (beside p l (sort_of k) q (sort_of r.kind)) tt) (λ x w.
    all_right (done_same done r.value x))

-- a bound of a type
pub not_long_given : (p : Place) (x : Typed) → Gives Anything (not_long p x)
unfolding not_long
not_long_given p x = only_if (not (is_long x.kind)) TypeMismatch p tt

pub bound_of_given : (base : Option PlainType) (p : Place) (x : Typed) → Gives (Names (u.in_expr x.value)) (bound_of base p x)
unfolding bound_of
bound_of_given base p x = and_gives (not_long_given p x) (λ k w. finished (bound_aim base p) x)

pub operand_given : (fits : Bool) (p : Place) (r : Typed) → Gives (λ (e : t.Expr). u.in_expr e ≡ u.in_expr r.value) (truth_operand fits p r)
operand_given fits p r = by_if (fits && is_truth r.kind) (all_right refl) (refused tt)

pub string_given : (known : List (List ℕ)) (p : Place) (bytes : List ℕ) → Gives Anything (string known p bytes)
unfolding string
string_given known p bytes = and_gives (some_or_refused (number_in bytes 0 known) GlobalsTooLarge p tt) (λ n w. all_right tt)

pub no_phrase_given : (ph : s.Phrase) → Gives Anything (no_phrase ph)
no_phrase_given s.NoPhrase = all_right tt
no_phrase_given (s.Catch p arms) = refused tt

-- the value of what was reached
results_given : (aim : Aim) (e : t.Expr) (fs : List PlainField) → Gives (Names (u.in_expr e)) (results aim e fs)
results_given aim e (f ∷ []) = all_right refl
results_given (Several p) e [] = all_right refl
results_given (Free p) e [] = refused tt
results_given (Into k p) e [] = refused tt
results_given (Several p) e (f ∷ (g ∷ fs)) = all_right refl
results_given (Free p) e (f ∷ (g ∷ fs)) = refused tt
results_given (Into k p) e (f ∷ (g ∷ fs)) = refused tt

abbrev pub Keeps : ℕ → Typed → ℕ → Type 0
Keeps w x n = (n ≡ 0) × (u.in_expr x.value ≡ w)

pub value_used : (aim : Aim) (last : Place) (r : Reached) → Uses (Keeps (weight r)) (value aim last r)
unfolding value u.in_expr
value_used aim last (Variable x ss j) = after_spending (words_of j) (λ w. pure (typed j (t.Variable x ss (words_of j)))) (give (refl, refl))
value_used aim last (Value n e j) = after_spending n (λ w. pure (typed j e)) (give (refl, refl))
value_used aim last (Results e fs) = lifting (results_given aim e fs) (λ x w. (refl, w))
value_used aim last (Named x) = refusing tt

-- a field of what was reached
length_given : (x : Identifier) (n : ℕ) (e : t.Expr) → Gives (λ r. weight r ≡ u.in_expr e) (length_of x n e)
unfolding u.in_expr
length_given x n e = by_if (is_length x) (all_right refl) (refused tt)

fields_given : (make : Found → Reached) (z : ℕ) → ((f : Found) → weight (make f) ≡ z) → (x : Identifier)
    → (fs : Option (List PlainField)) (other : Checked Reached) → Gives (λ r. weight r ≡ z) other
    → Gives (λ r. weight r ≡ z) (field_of_fields make x fs other)
fields_given make z g x (Some fs) other o = and_gives (some_or_refused (field_named fs x) UnknownName x.place tt) (λ f w. all_right (g f))
fields_given make z g x None other o = o

field_in_given : (last : Place) (make : Found → Reached) (n : ℕ) (e : t.Expr) → ((f : Found) → weight (make f) ≡ u.in_expr e)
    → (k : PlainType) (x : Identifier) → Gives (λ r. weight r ≡ u.in_expr e) (field_in last make n e k x)
unfolding field_in
field_in_given last make n e g k x = fields_given make (u.in_expr e) g x (fields k) _ (by_if (is_text k) (length_given x n e) (refused tt))

variable_same : (h : Home) (ss : t.Suffixes) (w : ℕ) → u.in_expr (t.Variable h ss w) ≡ u.in_suffixes ss
unfolding u.in_expr
variable_same h ss w = refl

-- what comes behind what was reached: so many names in the text, and all that is marked is named in it
abbrev pub Behind : ℕ → ℕ → Reached → ℕ → Type 0
Behind names w r n = (n ≤ names) × (w + n ≤ weight r)

pub field_used : (a : Around) (last : Place) (r : Reached) (x : Identifier) → Uses (Behind 1 (weight r)) (field a last r x)
unfolding field u.in_expr
field_used a last (Variable h ss k) x =
    lifting (field_in_given last (field_of_variable h ss) 1 (t.Variable h ss (words_of k)) (λ f. suffix_more ss f.number f.offset) k x)
    (λ r e. (omega arith, omega arith))
field_used a last (Value n e k) x =
    lifting (field_in_given last (field_of_value n e) (min n 1) e (λ f. part_more e (part_of f)) k x) (λ r e. (omega arith, omega arith))
field_used a last (Named (m.Interface n)) x = bind (of_interface_used a n x) (λ y n w. give (omega arith, omega (arith, reached_weight y)))
field_used a last _ x = refusing tt

-- indexes
pub text_given : (last : Place) (k : PlainType) (n : ℕ) (e : t.Expr) → Gives (λ b. weight_of_bracketed b ≡ u.in_expr e) (text_at last k n e)
text_given last k n e = by_if (is_text k) (all_right refl) (refused tt)

indexed_by_given : (last : Place) (h : Home) (ss : t.Suffixes) (k : PlainType) (o : Option (PlainType × PlainType))
    → Gives (λ b. weight_of_bracketed b ≡ u.in_suffixes ss) (indexed_by last h ss k o)
unfolding u.in_expr
indexed_by_given last h ss k (Some p) = all_right refl
indexed_by_given last h ss k None = text_given last k 1 (t.Variable h ss (words_of k))

pub indexed_given : (last : Place) (h : Home) (ss : t.Suffixes) (k : PlainType)
    → Gives (λ b. weight_of_bracketed b ≡ u.in_suffixes ss) (indexed last h ss k)
unfolding indexed
indexed_given last h ss k = indexed_by_given last h ss k (array_parts k)

pub at_index_given : (b : Bracketed) (start : Place) (i : Typed)
    → Gives (λ r. weight r ≡ weight_of_bracketed b + u.in_expr i.value) (at_index b start i)
unfolding at_index u.in_expr
at_index_given (InArray h ss index element) start i = and_gives (only_if (one_ordinal_base (base_of i.kind) (base_of index)) TypeMismatch start tt) (λ k w.
    all_right (index_more ss (index_range i.kind index) (first_word (bounds index)) (elements_of index) (words_of element) i.value))
at_index_given (InText n e) start i = and_gives (only_if (one_ordinal_base (base_of i.kind) (Some v.Integer)) TypeMismatch start tt) (λ k w. all_right refl)

-- constructors
pub shape_used : {A : Type 0} {P : A → ℕ → Type 0} (sh : Shape) {x : List PlainField → Check A} {y : ℕ → PlainType → Check A} {z : Check A}
    → ((fs : List PlainField) → Uses P (x fs)) → ((n : ℕ) (k : PlainType) → Uses P (y n k)) → Uses P z
    → Uses P (by_shape sh x y z)
shape_used (OfFields fs) f g h = f fs
shape_used (OfElements n k) f g h = g n k
shape_used NoShape f g h = h

pub parts_given : (k : PlainType) (q : Place) → Gives Anything (has_parts k q)
parts_given k q = of_shape (shape_of k)
  where
    of_shape : (x : Shape) → Gives Anything (by_shape {A = Checked (Unit {0})} x (λ fs. Ok tt) (λ n j. Ok tt) (refuse TypeMismatch q))
    of_shape (OfFields fs) = all_right tt
    of_shape (OfElements n j) = all_right tt
    of_shape NoShape = refused tt

-- a value whose marks are at names, and named in it; and values
abbrev pub Of : ℕ → Typed → ℕ → Type 0
Of names x n = (n ≤ names) × (n ≤ u.in_expr x.value)

abbrev pub OfValues : ℕ → t.Exprs → ℕ → Type 0
OfValues names es n = (n ≤ names) × (n ≤ u.in_exprs es)

-- where there are no parameters, nothing is marked
abbrev pub NoneFor : {A : Type 0} → List A → ℕ → Type 0
NoneFor [] n = n ≡ 0
NoneFor (x ∷ xs) n = Unit {0}

abbrev pub OfArguments : List PlainField → ℕ → Arguments → ℕ → Type 0
OfArguments fs names x n = (n ≤ names) × (n ≤ u.in_exprs x.values) × NoneFor fs n

pub in_fields_used : (k : PlainType) (p : Place) (given wanted names : ℕ) {c : Check t.Exprs} → Uses (OfValues names) c
    → Uses (Of names) (in_fields k p given wanted c)
unfolding u.in_expr
in_fields_used k p given wanted names {c} g = after (only_if (nat_eq given wanted) WrongCount p tt) (λ w i.
    after_spending (words_of k) (λ w. c >>= (λ vs. pure (made k (in_order vs)))) (bind g (λ es n q. give (omega arith, omega arith))))

pub by_keys_used : (k : PlainType) (p : Place) (fs : List PlainField) (xs : List Identifier) (names : ℕ) {c : Check t.Exprs}
    → Uses (OfValues names) c → Uses (Of names) (by_keys k p fs xs c)
unfolding u.in_expr
by_keys_used k p fs xs names {c} g = after (only_if (complete fs xs) WrongCount p tt) (λ w i.
    after_spending (words_of k) (λ w. c >>= (λ vs. pure (made k (record { places = places_of fs xs; values = vs }))))
    (bind g (λ es n q. give (omega arith, omega arith))))

-- raises
pub raises_given : (kind : ItemKind) (p : Place) (x : Meaning) → Gives (λ (r : Raises). u.in_raised r.raised ≡ linked x) (raises_by kind p x)
raises_given kind p (m.Signal r i) = by_if (is_kind kind i.kind) (all_right refl) (refused tt)
raises_given kind p _ = refused tt

pub raised_weight : (r : Raises) (x : Arguments) (ph : t.Phrase)
    → weight (raised r x ph) ≡ u.in_raised r.raised + u.in_exprs x.values + u.in_phrase ph
unfolding u.in_expr
raised_weight r x ph = refl

-- targets and calls
pub stored_used : (last : Place) (r : Reached) → Uses (λ (x : Target) n. (n ≡ 0) × (u.in_suffixes x.suffixes ≡ weight r)) (stored last r)
unfolding stored
stored_used last (Variable x ss k) = after_spending (words_of k) (λ w. pure (record { home = x; suffixes = ss; kind = k })) (give (refl, refl))
stored_used last _ = refusing tt

pub performed_used : (start last : Place) (r : Reached) → Uses (λ (e : t.Expr) n. (n ≡ 0) × (u.in_expr e ≡ weight r)) (performed start last r)
unfolding performed u.in_expr u.in_exprs u.in_phrase
performed_used start last (Results e fs) = give (refl, refl)
performed_used start last (Named (m.Procedure c i)) = after (only_if (nat_eq 0 (length i.takes)) WrongCount start tt) (λ w h.
    after_spending (words_of_fields i.gives) (λ w. pure (t.Call c [] t.NoExprs (words_of_fields i.gives) t.NoPhrase)) (give (refl, omega arith)))
performed_used start last _ = refusing tt
