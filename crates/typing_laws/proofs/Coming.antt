-- Types and expressions declare nothing away: what a declaration declares so far stays declared.
use Rattle.std.specs.Prelude.{ℕ, ◌+◌, ◌≤◌, Bool, true, false, not, Option, Some, None, Ok, Err, List, [], ◌∷◌, ◌++◌, length, is_some, cond, bytes_eq, IfOk, nat_eq, slice_get, min}
use Rattle.std.proofs.Common.{arith}
use Rattle.mesa_base.specs.declared.place.Place.{Place}
use Rattle.mesa_base.specs.declared.identifier.Identifier.{Identifier}
use Rattle.syntax_trees.specs.Syntax as s
use Rattle.mesa_types.specs.declared.faces.ItemKind.TheVariants as item
use Rattle.syntax_trees.specs.declared.syntax.QualifiedName.{QualifiedName}
use Rattle.syntax_trees.specs.declared.syntax.Labels.{Labels}
use Rattle.syntax_trees.specs.declared.syntax.Labels.TheVariants.{Any, Unwind, Signals}
use Rattle.syntax_trees.specs.declared.syntax.TypeBase.{TypeBase}
use Rattle.syntax_trees.specs.declared.syntax.TypeBase.TheVariants.{Unsaid, OfInteger, OfCardinal, OfCharacter, OfName}
use Rattle.mesa_types.specs.Operators as words
use Rattle.check_rules.specs.Typed as t
use Rattle.check_rules.specs.Typed.{LinkedProcedure, LinkedSignal}
use Rattle.interface_records.specs.PlainTypes as v
use Rattle.interface_records.specs.PlainTypes.{PlainType, PlainField, words_of, words_of_fields}
use Rattle.check_rules.specs.Scopes.{Scope, find}
use Rattle.check_rules.specs.Meanings.{Meaning, Constant, TypeName, Procedure, Signal, Interface, Later, Headless, NotImported}
use Rattle.check_rules.specs.Steps.{State, Check, Checked, and_then, ◌>>=◌, pure, fail, lift, only, ensure, spend, in_scope, back, or_refuse}
use Rattle.check_rules.specs.Around.{Around, ArmLabel, in_constant, in_arm}
use Rattle.check_rules.specs.Parts.{first, first_of_type, last_of, names_of, distinct, field_named, kinds, kind_by, places_of, count, keys, complete}
use Rattle.check_rules.specs.Ranges.{Aim, Free, Into, Several, finish}
use Rattle.check_rules.specs.Names.{seen, named, before_head, of_interface, or_nothing, in_meaning, by_parts, qualified, type_by, type_named, ordinal_type, word_base, signal_by, signals, arm_labels, is_declared, element_in, mark}
use Rattle.check_rules.specs.Values.{Sum, Begun, bound_of, has_parts, number, letter, truth, string, is_truth, not_of, signed, compared, within, by_level, Level, Bare, Sums, Alls, Somes, level_of, step, truth_operand, no_phrase, in_order, by_shape, by_aim, in_fields, by_keys, made, Raises, raises_by, raised}
use Rattle.check_rules.specs.Reached.{Reached, Named, Value, Variable, Results, Use, Read, reached, settled, value, results, field, field_in, field_of_variable, field_of_value, indexed, text_at, at_index, may_apply, Shape, OfFields, OfElements, NoShape, shape_of}
use Rattle.check_rules.specs.TypeRules.{origin, limited, elements, few, is_index, bound, subrange, interval_base}
use Rattle.check_rules.specs.Statements.{longer_number, longer_bounds, enter_arm}
use Rattle.check_rules.specs.Operators.{sort_of, longer}
use Rattle.check_rules.specs.Checking.{check, sums, truths, interval, walk, apply, one, construct, arguments, values, alike, keyed, raise, with_brackets, phrase, arms, type_exp, fields_of, named_fields, unnamed_fields, of_interval, statement}
use Rattle.check_rules.specs.declared.fault.Cause.{Cause}
use Rattle.check_rules.specs.declared.fault.Cause.TheVariants.{TypeMismatch, WrongCount, TwiceDeclared}

abbrev pub bit : Bool → ℕ
bit true = 1
bit false = 0

abbrev pub is_coming : State → List ℕ → ℕ
is_coming σ n = bit (is_some (σ.coming n))

abbrev pub Grown : State → State → Type 0
Grown σ τ = (n : List ℕ) → is_coming σ n ≤ is_coming τ n

pub record Grows {A : Type 0} (c : Check A) : Type 0 where
  pub in_state : (σ : State) → IfOk (c σ) (λ (r : A × State). Grown σ r.1)

then_grown : {A B : Type 0} (σ : State) (r : Checked (A × State)) (f : A × State → Checked (B × State)) → IfOk r (λ (x : A × State). Grown σ x.1)
    → ((x : A × State) → IfOk (f x) (λ (y : B × State). Grown x.1 y.1)) → IfOk (and_then r f) (λ (y : B × State). Grown σ y.1)
then_grown {A} {B} σ (Ok x) f h k = go (f x) (k x)
  where
    go : (r : Checked (B × State)) → IfOk r (λ (y : B × State). Grown x.1 y.1) → IfOk r (λ (y : B × State). Grown σ y.1)
    go (Ok y) g = λ n. omega (arith, h n, g n)
    go (Err e) g = tt
then_grown σ (Err e) f h k = tt

pub bind : {A B : Type 0} {c : Check A} {f : A → Check B} → Grows c → ((a : A) → Grows (f a)) → Grows (c >>= f)
bind {A} {B} {c} {f} h k = record { in_state = λ σ. then_grown σ (c σ) (λ r. f r.0 r.1) (h.in_state σ) (λ r. (k r.0).in_state r.1) }

pub done : {A : Type 0} {a : A} → Grows (pure a)
done = record { in_state = λ σ n. omega arith }

wrong : {A : Type 0} {c : Cause} {p : Place} → Grows (fail {A = A} c p)
wrong = record { in_state = λ σ. tt }

pub lifted : {A : Type 0} (r : Checked A) → Grows (lift r)
lifted {A} r = record { in_state = λ σ. go σ r }
  where
    go : (σ : State) (r : Checked A) → IfOk (and_then r (λ a. Ok (a, σ))) (λ (x : A × State). Grown σ x.1)
    go σ (Ok a) = λ n. omega arith
    go σ (Err e) = tt

ensured : (b : Bool) (c : Cause) (p : Place) → Grows (ensure b c p)
ensured b c p = lifted (only b c p)

spending : {B : Type 0} (n : ℕ) (f : Unit {0} → Check B) → Grows (f tt) → Grows (spend n >>= f)
spending n f h = record { in_state = λ σ. h.in_state (record σ { operands = σ.operands + n }) }

scoped : {A : Type 0} (scope : Scope Meaning) (c : Check A) → Grows (in_scope scope c)
scoped {A} scope c = record { in_state = λ σ. go σ (c _) }
  where
    go : (σ : State) (r : Checked (A × State)) → IfOk (and_then r (back σ)) (λ (x : A × State). Grown σ x.1)
    go σ (Ok x) = λ n. omega arith
    go σ (Err e) = tt

-- names
marked : (m : Meaning) (σ : State) → Grown σ (mark m σ)
unfolding mark
marked (Procedure (LinkedProcedure m n) i) σ = λ n. omega arith
marked (Signal (LinkedSignal m n) i) σ = λ n. omega arith
marked _ σ = λ n. omega arith

headed : (c : Option Place) (p : Place) (m : Option Meaning) → Grows (before_head c p m)
headed c p (Some m) = done
headed (Some q) p None = wrong
headed None p None = wrong

seen_grows : (a : Around) (x : Identifier) (m : Option Meaning) → Grows (seen a x m)
unfolding seen
seen_grows a x None = wrong
seen_grows a x (Some Later) = wrong
seen_grows a x (Some NotImported) = wrong
seen_grows a x (Some Headless) = headed a.constant x.place (a.further x.name)
seen_grows a x (Some m) = record { in_state = λ σ. marked m σ }

named_grows : (a : Around) (x : Identifier) → Grows (named a x)
unfolding named
named_grows a x = record { in_state = λ σ. (seen_grows a x (find x.name σ.scopes)).in_state σ }

of_interface_grows : (a : Around) (n : ℕ) (x : Identifier) → Grows (of_interface a n x)
unfolding of_interface
of_interface_grows a n x = seen_grows a x (or_nothing (slice_get a.known.interfaces n) x.name)

in_meaning_grows : (a : Around) (m : Option Meaning) (x : Identifier) → Grows (in_meaning a m x)
in_meaning_grows a None x = wrong
in_meaning_grows a (Some Later) x = wrong
in_meaning_grows a (Some (Interface n)) x = of_interface_grows a n x
in_meaning_grows a (Some m) x = wrong

by_parts_grows : (a : Around) (x : Identifier) (y : Option Identifier) → Grows (by_parts a x y)
by_parts_grows a x None = named_grows a x
by_parts_grows a x (Some y) = record { in_state = λ σ. (in_meaning_grows a (find x.name σ.scopes) y).in_state σ }

qualified_grows : (a : Around) (q : QualifiedName) → Grows (qualified a q)
unfolding qualified
qualified_grows a q = by_parts_grows a q.first q.second

type_named_grows : (a : Around) (q : QualifiedName) → Grows (type_named a q)
unfolding type_named
type_named_grows a q = bind (qualified_grows a q) (λ m. lifted (type_by (last_of q).place m))

word_base_grows : (a : Around) (b : TypeBase) → Grows (word_base a b)
unfolding word_base
word_base_grows a Unsaid = done
word_base_grows a (OfInteger p) = done
word_base_grows a (OfCardinal p) = done
word_base_grows a (OfCharacter p) = done
word_base_grows a (OfName q) = bind (type_named_grows a q) (λ k. bind (lifted (ordinal_type (last_of q).place k)) (λ k. done))

signals_grow : (a : Around) (qs : List QualifiedName) → Grows (signals a qs)
unfolding signals
signals_grow a [] = done
signals_grow a (q ∷ qs) = bind (qualified_grows a q) (λ m. bind (lifted (signal_by (last_of q).place m)) (λ l. bind (signals_grow a qs) (λ ls. done)))

arm_labels_grow : (a : Around) (ls : Labels) → Grows (arm_labels a ls)
unfolding arm_labels
arm_labels_grow a (Any p) = done
arm_labels_grow a (Unwind p) = done
arm_labels_grow a (Signals qs) = signals_grow a qs

entered : (a : Around) (ls : List ArmLabel) → Grows (enter_arm a ls)
unfolding enter_arm
entered a ls = record { in_state = λ σ n. omega arith }

one_more : (c : Bool) (m : Meaning) (o : Option Meaning) → bit (is_some o) ≤ bit (is_some (cond c (Some m) o))
one_more true m None = omega arith
one_more true m (Some k) = omega arith
one_more false m o = omega arith

element_grown : (b : Bool) (x : List ℕ) (m : Meaning) (σ : State) → Grown σ (element_in b x m σ)
element_grown true x m σ n = omega arith
element_grown false x m σ n = one_more (bytes_eq x n) m (σ.coming n)

-- behind a test, from a state that has grown
tested : {A : Type 0} (σ τ : State) → Grown σ τ → (r : Checked (Unit {0})) (c : Checked (A × State)) → IfOk c (λ (x : A × State). Grown τ x.1)
    → IfOk (and_then r (λ _. c)) (λ (x : A × State). Grown σ x.1)
tested {A} σ τ g (Ok u) (Ok x) h = λ n. omega (arith, g n, h n)
tested {A} σ τ g (Ok u) (Err e) h = tt
tested {A} σ τ g (Err e) c h = tt

elements_grown : (a : Around) (k : PlainType) (i : ℕ) (xs : List Identifier) (σ : State) → IfOk (elements a k i xs σ) (λ (r : Unit {0} × State). Grown σ r.1)
unfolding elements
elements_grown a k i [] σ = λ n. omega arith
elements_grown a k i (x ∷ xs) σ =
    let τ : State = element_in a.is_outermost x.name (Constant k i) σ in
    tested σ τ (element_grown a.is_outermost x.name (Constant k i) σ) (only (not (is_declared x.name σ)) TwiceDeclared x.place) (elements a k (i + 1) xs τ)
    (elements_grown a k (i + 1) xs τ)

elements_grow : (a : Around) (k : PlainType) (i : ℕ) (xs : List Identifier) → Grows (elements a k i xs)
elements_grow a k i xs = record { in_state = λ σ. elements_grown a k i xs σ }

-- values
value_grows : (aim : Aim) (last : Place) (r : Reached) → Grows (value aim last r)
unfolding value
value_grows aim last (Variable h ss k) =
    spending (words_of k) (λ u. pure (record { value = t.Variable h ss (words_of k); kind = k; literal = false; gave = None })) done
value_grows aim last (Value n e k) = spending n (λ u. pure (record { value = e; kind = k; literal = false; gave = None })) done
value_grows aim last (Results e fs) = lifted (results aim e fs)
value_grows aim last (Named m) = wrong

field_grows : (a : Around) (last : Place) (r : Reached) (x : Identifier) → Grows (field a last r x)
unfolding field
field_grows a last (Variable h ss k) x = lifted (field_in last (field_of_variable h ss) 1 (t.Variable h ss (words_of k)) k x)
field_grows a last (Value n e k) x = lifted (field_in last (field_of_value n e) (min n 1) e k x)
field_grows a last (Named (Interface n)) x = bind (of_interface_grows a n x) (λ m. done)
field_grows a last _ x = wrong

levels : {A : Type 0} (l : Level) {w x y z : Check A} → Grows w → Grows x → Grows y → Grows z → Grows (by_level l w x y z)
levels Bare h i j k = h
levels Sums h i j k = i
levels Alls h i j k = j
levels Somes h i j k = k

aims : {A : Type 0} (aim : Aim) {x : Place → Check A} {y : PlainType → Place → Check A} → ((p : Place) → Grows (x p))
    → ((k : PlainType) (p : Place) → Grows (y k p)) → Grows (by_aim aim x y)
aims (Free p) h k = h p
aims (Several p) h k = h p
aims (Into j p) h k = k j p

shapes : {A : Type 0} (sh : Shape) {x : List PlainField → Check A} {y : ℕ → PlainType → Check A} {z : Check A}
    → ((fs : List PlainField) → Grows (x fs)) → ((n : ℕ) (k : PlainType) → Grows (y n k)) → Grows z → Grows (by_shape sh x y z)
shapes (OfFields fs) f g h = f fs
shapes (OfElements n k) f g h = g n k
shapes NoShape f g h = h

in_fields_grows : (k : PlainType) (p : Place) (given wanted : ℕ) {c : Check t.Exprs} → Grows c → Grows (in_fields k p given wanted c)
in_fields_grows k p given wanted {c} g = bind (ensured (nat_eq given wanted) WrongCount p) (λ u.
    spending (words_of k) (λ u. c >>= (λ vs. pure (made k (in_order vs)))) (bind g (λ es. done)))

by_keys_grows : (k : PlainType) (p : Place) (fs : List PlainField) (xs : List Identifier) {c : Check t.Exprs} → Grows c → Grows (by_keys k p fs xs c)
by_keys_grows k p fs xs {c} g = bind (ensured (complete fs xs) WrongCount p) (λ u.
    spending (words_of k) (λ u. c >>= (λ vs. pure (made k (record { places = places_of fs xs; values = vs })))) (bind g (λ es. done)))

mutual
  unfolding check letter

  check_grows : (a : Around) (aim : Aim) (e : s.Expr) → Grows (check a aim e)
  check_grows a aim (s.Run e ss) = bind (check_grows a (Free (first e)) e)
      (λ x. bind (levels (level_of ss) done (bind (sums_grow a (first e) (Begun x.value) x.kind x.literal ss) (λ r. done))
      (bind (truths_grow a (is_truth x.kind) ss) (λ es. done)) (bind (truths_grow a (is_truth x.kind) ss) (λ es. done))) (λ r. lifted (finish aim r)))
  check_grows a aim (s.Not p e) = bind (check_grows a (Free (first e)) e) (λ x. bind (lifted (not_of p x)) (λ r. lifted (finish aim r)))
  check_grows a aim (s.Compare d b o p e) =
      bind (check_grows a (Free (first d)) d) (λ x. bind (check_grows a (Free (first e)) e) (λ y. bind (lifted (compared b o p (first d) x (first e) y))
      (λ r. spending (longer (sort_of x.kind) x.literal (sort_of y.kind) y.literal) (λ u. lift (finish aim r)) (lifted (finish aim r)))))
  check_grows a aim (s.Within e b p i) = bind (check_grows a (Free (first e)) e)
      (λ x. bind (interval_grows a i) (λ ends. bind (lifted (within b p (first e) x ends))
      (λ r. spending (longer_number x ends + longer_bounds x ends) (λ u. lift (finish aim r)) (lifted (finish aim r)))))
  check_grows a aim (s.Signed sign p e) = bind (check_grows a (Free (first e)) e) (λ x. bind (lifted (signed sign p x)) (λ r. lifted (finish aim r)))
  check_grows a aim (s.NumberLiteral p n) = spending (words_of (number n).kind) (λ u. lift (finish aim (number n))) (lifted (finish aim (number n)))
  check_grows a aim (s.CharacterLiteral p n) = spending 1 (λ u. lift (finish aim (letter n))) (lifted (finish aim (letter n)))
  check_grows a aim (s.StringLiteral p bytes) =
      bind (lifted (string a.known.strings p bytes)) (λ x. spending 2 (λ u. lift (finish aim x)) (lifted (finish aim x)))
  check_grows a aim (s.Truth p b) = spending 1 (λ u. lift (finish aim (truth (t.Number (words.truth b)))))
      (lifted (finish aim (truth (t.Number (words.truth b)))))
  check_grows a aim (s.Parenthesis p e) = check_grows a aim e
  check_grows a aim (s.Reference (s.LeftOf x ss)) =
      bind (named_grows a x) (λ m. bind (walk_grows a Read x.place (reached m) ss) (λ r. bind (value_grows aim r.0 r.1) (λ y. lifted (finish aim y))))
  check_grows a aim (s.Constructor p items) = aims aim (λ q. wrong) (λ k q. construct_grows a k q p items)
  check_grows a aim (s.Raised r) = bind (raise_grows a r) (λ x. bind (value_grows aim x.0 x.1) (λ y. lifted (finish aim y)))

  sums_grow : (a : Around) (l : Place) (d : Sum) (k : PlainType) (literal : Bool) (ss : s.Operations) → Grows (sums a l d k literal ss)
  sums_grow a l d k literal s.NoOperation = done
  sums_grow a l d k literal (s.AndOperation o p e ss) =
      bind (check_grows a (Free (first e)) e) (λ r. bind (lifted (step o p l d k literal (first e) r)) (λ x.
      spending (longer (sort_of k) literal (sort_of r.kind) r.literal) (λ u. sums a l x.done x.kind false ss) (sums_grow a l x.done x.kind false ss)))

  truths_grow : (a : Around) (fits : Bool) (ss : s.Operations) → Grows (truths a fits ss)
  truths_grow a fits s.NoOperation = done
  truths_grow a fits (s.AndOperation o p e ss) =
      bind (check_grows a (Free (first e)) e) (λ r. bind (lifted (truth_operand fits p r)) (λ x. bind (truths_grow a true ss) (λ es. done)))

  interval_grows : (a : Around) (i : s.Interval) → Grows (interval a i)
  interval_grows a (s.Between p x low high y) = bind (check_grows a (Free (first low)) low) (λ l. bind (check_grows a (Free (first high)) high) (λ h. done))

  walk_grows : (a : Around) (way : Use) (last : Place) (r : Reached) (ss : s.Suffixes) → Grows (walk a way last r ss)
  walk_grows a way last r s.NoSuffix = done
  walk_grows a way last r (s.Field x ss) = bind (field_grows a last (settled r) x) (λ next. walk_grows a way x.place next ss)
  walk_grows a way last r (s.Applied b ss) =
      bind (ensured (may_apply way r) TypeMismatch last) (λ u. bind (apply_grows a last (settled r) b) (λ next. walk_grows a way last next ss))

  apply_grows : (a : Around) (last : Place) (r : Reached) (b : s.Brackets) → Grows (apply a last r b)
  apply_grows a last (Variable h ss k) (s.BracketsOf p items ph) =
      bind (lifted (indexed last h ss k)) (λ x. bind (lifted (no_phrase ph)) (λ u. bind (one_grows a p items) (λ i. lifted (at_index x i.0 i.1))))
  apply_grows a last (Value n e k) (s.BracketsOf p items ph) =
      bind (lifted (text_at last k n e)) (λ x. bind (lifted (no_phrase ph)) (λ u. bind (one_grows a p items) (λ i. lifted (at_index x i.0 i.1))))
  apply_grows a last (Named (Procedure c i)) (s.BracketsOf p items ph) = spending (words_of_fields i.gives)
      (λ u. arguments a i.takes p items >>= (λ x. phrase a ph >>= (λ w. pure (Results (t.Call c x.places x.values (words_of_fields i.gives) w) i.gives))))
      (bind (arguments_grow a i.takes p items) (λ x. bind (phrase_grows a ph) (λ w. done)))
  apply_grows a last (Named (TypeName k)) (s.BracketsOf p items ph) =
      bind (lifted (has_parts k last)) (λ u. bind (lifted (no_phrase ph)) (λ u. bind (construct_grows a k last p items) (λ x. done)))
  apply_grows a last _ (s.BracketsOf p items ph) = wrong

  one_grows : (a : Around) (p : Place) (items : s.Items) → Grows (one a p items)
  one_grows a p (s.InOrder (s.AndExpr e s.NoExprs)) = bind (check_grows a (Free (first e)) e) (λ x. done)
  one_grows a p _ = wrong

  construct_grows : (a : Around) (k : PlainType) (q p : Place) (items : s.Items) → Grows (construct a k q p items)
  construct_grows a k q p s.Nothing = shapes (shape_of k) (λ fs. wrong) (λ n j. wrong) wrong
  construct_grows a k q p (s.InOrder es) =
      shapes (shape_of k) (λ fs. in_fields_grows k p (count es) (length fs) (values_grow a (kinds fs) es))
      (λ n j. in_fields_grows k p (count es) n (alike_grow a j es)) wrong
  construct_grows a k q p (s.ByKey es) = shapes (shape_of k) (λ fs. by_keys_grows k p fs (keys es) (keyed_grow a fs es)) (λ n j. wrong) wrong

  arguments_grow : (a : Around) (fs : List PlainField) (p : Place) (items : s.Items) → Grows (arguments a fs p items)
  arguments_grow a fs p s.Nothing = bind (ensured (nat_eq 0 (length fs)) WrongCount p) (λ u. done)
  arguments_grow a fs p (s.InOrder es) = bind (ensured (nat_eq (count es) (length fs)) WrongCount p) (λ u. bind (values_grow a (kinds fs) es) (λ vs. done))
  arguments_grow a fs p (s.ByKey es) = bind (ensured (complete fs (keys es)) WrongCount p) (λ u. bind (keyed_grow a fs es) (λ vs. done))

  values_grow : (a : Around) (ks : List PlainType) (es : s.Exprs) → Grows (values a ks es)
  values_grow a (k ∷ ks) (s.AndExpr e es) = bind (check_grows a (Into k (first e)) e) (λ x. bind (values_grow a ks es) (λ vs. done))
  values_grow a [] (s.AndExpr e es) = done
  values_grow a [] s.NoExprs = done
  values_grow a (k ∷ ks) s.NoExprs = done

  alike_grow : (a : Around) (k : PlainType) (es : s.Exprs) → Grows (alike a k es)
  alike_grow a k s.NoExprs = done
  alike_grow a k (s.AndExpr e es) = bind (check_grows a (Into k (first e)) e) (λ x. bind (alike_grow a k es) (λ vs. done))

  keyed_grow : (a : Around) (fs : List PlainField) (es : s.KeyedExprs) → Grows (keyed a fs es)
  keyed_grow a fs s.NoKeyedExprs = done
  keyed_grow a fs (s.AndKeyedExpr x e es) = bind (check_grows a (Into (kind_by (field_named fs x)) (first e)) e) (λ y. bind (keyed_grow a fs es) (λ vs. done))

  raise_grows : (a : Around) (r : s.Raise) → Grows (raise a r)
  raise_grows a (s.SignalRaise p q b) = bind (qualified_grows a q)
      (λ m. bind (lifted (raises_by item.Signal (last_of q).place m)) (λ r. bind (brackets_grow a p r b) (λ x. done)))
  raise_grows a (s.ErrorRaise p q b) = bind (qualified_grows a q)
      (λ m. bind (lifted (raises_by item.Error (last_of q).place m)) (λ r. bind (brackets_grow a p r b) (λ x. done)))
  raise_grows a (s.UnnamedError p) = done

  brackets_grow : (a : Around) (p : Place) (r : Raises) (b : s.MaybeBrackets) → Grows (with_brackets a p r b)
  brackets_grow a p r s.NoBrackets = bind (ensured (nat_eq 0 (length r.head.takes)) WrongCount p) (λ u.
      spending (words_of_fields r.head.gives) (λ u. pure (raised r (in_order t.NoExprs) t.NoPhrase)) done)
  brackets_grow a p r (s.WithBrackets (s.BracketsOf q items ph)) = spending (words_of_fields r.head.gives)
      (λ u. arguments a r.head.takes q items >>= (λ x. phrase a ph >>= (λ w. pure (raised r x w))))
      (bind (arguments_grow a r.head.takes q items) (λ x. bind (phrase_grows a ph) (λ w. done)))

  phrase_grows : (a : Around) (ph : s.Phrase) → Grows (phrase a ph)
  phrase_grows a s.NoPhrase = done
  phrase_grows a (s.Catch p xs) = bind (arms_grow a xs) (λ ys. done)

  arms_grow : (a : Around) (xs : s.Arms) → Grows (arms a xs)
  arms_grow a s.NoArms = done
  arms_grow a (s.AndArm labels body rest) =
      bind (arm_labels_grow a labels) (λ ls. bind (entered a ls)
      (λ x. bind (scoped x.scope (statement (in_arm ls a) body)) (λ b. bind (arms_grow a rest) (λ more. done))))

  -- types
  pub type_exp_grows : (a : Around) (e : s.TypeExp) → Grows (type_exp a e)
  type_exp_grows a (s.Integer p) = done
  type_exp_grows a (s.Cardinal p) = done
  type_exp_grows a (s.LongInteger p) = done
  type_exp_grows a (s.LongCardinal p) = done
  type_exp_grows a (s.Boolean p) = done
  type_exp_grows a (s.Character p) = done
  type_exp_grows a (s.String p) = done
  type_exp_grows a (s.Called q) = type_named_grows a q
  type_exp_grows a (s.Enumeration p xs) =
      bind (elements_grow a (v.Enumeration (origin a.known p) (names_of xs)) 0 xs) (λ u. bind (lifted (few p xs)) (λ u. done))
  type_exp_grows a (s.Subrange b i) = bind (word_base_grows a b) (λ base. of_interval_grows a base i)
  type_exp_grows a (s.Array p i e) = bind (type_exp_grows a i)
      (λ j. bind (ensured (is_index j) TypeMismatch (first_of_type i)) (λ u. bind (type_exp_grows a e) (λ k. lifted (limited p (v.Array j k)))))
  type_exp_grows a (s.Record p fs) = bind (fields_grow a fs) (λ x. lifted (limited p (v.Record (origin a.known p) (v.parts_of x))))

  fields_grow : (a : Around) (fs : s.FieldList) → Grows (fields_of a fs)
  fields_grow a (s.WithNames fs) = named_fields_grow a [] fs
  fields_grow a (s.Unnamed ts) = unnamed_fields_grow a ts

  named_fields_grow : (a : Around) (taken : List (List ℕ)) (fs : s.NamedFields) → Grows (named_fields a taken fs)
  named_fields_grow a taken s.NoFields = done
  named_fields_grow a taken (s.AndFields xs e rest) =
      bind (lifted (distinct taken xs)) (λ u. bind (type_exp_grows a e) (λ k. bind (named_fields_grow a (taken ++ names_of xs) rest) (λ fs. done)))

  pub unnamed_fields_grow : (a : Around) (ts : s.TypeExps) → Grows (unnamed_fields a ts)
  unnamed_fields_grow a s.NoTypes = done
  unnamed_fields_grow a (s.AndType e es) = bind (type_exp_grows a e) (λ k. bind (unnamed_fields_grow a es) (λ fs. done))

  of_interval_grows : (a : Around) (base : Option PlainType) (i : s.Interval) → Grows (of_interval a base i)
  of_interval_grows a base (s.Between p l low high h) =
      bind (check_grows (in_constant (first low) a) (Free (first low)) low) (λ i.
      bind (lifted (bound_of base (first low) i)) (λ x. bind (lifted (bound (first low) x)) (λ m.
      bind (check_grows (in_constant (first high) a) (Free (first high)) high) (λ j.
      bind (lifted (bound_of base (first high) j)) (λ y. bind (lifted (bound (first high) y)) (λ n.
      bind (lifted (or_refuse (interval_base base x.kind m y.kind n) TypeMismatch p)) (λ k. lifted (subrange p k l m n h))))))))
