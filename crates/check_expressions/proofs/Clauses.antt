-- What checking each form of an expression is, clause by clause.
use Rattle.std.proofs.Common.{◌≡◌, ◌≢◌, ◌≤◌, ◌<◌, ℕ, Bool, true, false, nat_eq, List, [], ◌∷◌, length, get_or, Ok, Err, refl, sym, ap, arith}
use Rattle.mesa_base.specs.declared.identifier.Identifier.{Identifier}
use Rattle.mesa_base.specs.declared.place.Place.{Place}
use Rattle.mesa_types.specs.Operators as words
use Rattle.syntax_trees.specs.Syntax as s
use Rattle.mesa_base.specs.declared.relation.Relation.{Relation}
use Rattle.syntax_trees.specs.declared.syntax.QualifiedName.{QualifiedName}
use Rattle.syntax_trees.specs.declared.syntax.Sign.{Sign}
use Rattle.mesa_types.specs.declared.faces.ItemKind.TheVariants as item
use Rattle.check_rules.specs.Typed as t
use Rattle.check_rules.specs.interface_records.specs.PlainTypes.{PlainField, PlainType}
use Rattle.check_rules.specs.Around.{Around}
use Rattle.check_rules.specs.Checking as spec
use Rattle.check_rules.specs.Meanings.{Meaning}
use Rattle.check_rules.specs.Meanings as mean
use Rattle.check_rules.specs.Names.{qualified}
use Rattle.check_rules.specs.Parts.{first, last_of}
use Rattle.mesa_types.specs.declared.faces.ItemKind.{ItemKind}
use Rattle.syntax_trees.specs.PlainSyntax as plain
use Rattle.syntax_trees.specs.declared.syntax.Brackets.{Brackets}
use Rattle.syntax_trees.specs.declared.syntax.Expr.{Expr}
use Rattle.syntax_trees.specs.declared.syntax.Suffix.TheVariants as xv
use Rattle.syntax_trees.proofs.PlainForms.{of_field, of_applied}
use Rattle.check_rules.specs.declared.fault.Cause.TheVariants.{TypeMismatch, WrongCount}
use Rattle.check_rules.specs.Ranges.{Typed, Aim, Free, Into, Several, finish}
use Rattle.check_rules.specs.Reached.{Reached, Bracketed, Named, Value, Variable, Results, Shape, OfFields, OfElements, NoShape, Use, field, indexed, may_apply, settled, shape_of, text_at}
use Rattle.check_rules.specs.Steps.{Check, Checked, State, and_then, ◌>>=◌, pure, lift, only, refuse, spend, fail, ensure}
use Rattle.check_rules.specs.Values.{Raises, Begun, by_level, by_shape, in_order, is_truth, letter, level_of, raises_by, summed, not_of, signed, string, truth}
use Rattle.check_operands.specs.Lists as lists
use Rattle.check_operands.specs.Runs as runs
use Rattle.check_operands.specs.Runs.{freely}
use Rattle.check_expressions.specs.Lists.{at_place, comparison, inclusion, none_given, nothing_in, number_literal, target}
use Rattle.check_expressions.proofs.Folding.{in_turn}

made_of : (f : t.Exprs → t.Expr) (x : t.Expr) (m : Check t.Exprs) → m >>= (λ es. pure (truth (f (t.AndExpr x es)))) ≡ (m >>= (λ es. pure (t.AndExpr x es))) >>= (λ es. pure (truth (f es)))
made_of f x m = λ i σ. sym (in_turn {B = t.Exprs × State} {C = Typed × State} (m σ) (λ r. Ok (t.AndExpr x r.0, r.1)) (λ r. Ok (truth (f r.0), r.1))) i

run_is : (a : Around) (l : Place) (x : Typed) (ss : s.Operations)
    → by_level (level_of ss) (pure x) (spec.sums a l (Begun x.value) x.kind x.literal ss >>= (λ r. pure (summed r)))
    (spec.truths a (is_truth x.kind) ss >>= (λ es. pure (truth (t.AllOf (t.AndExpr x.value es)))))
    (spec.truths a (is_truth x.kind) ss >>= (λ es. pure (truth (t.SomeOf (t.AndExpr x.value es)))))
    ≡ runs.run a l x ss
unfolding runs.run runs.sums runs.truths
run_is a l x ss = λ i. by_level (level_of ss) (pure x) (spec.sums a l (Begun x.value) x.kind x.literal ss >>= (λ r. pure (summed r)))
    (made_of t.AllOf x.value (spec.truths a (is_truth x.kind) ss) i) (made_of t.SomeOf x.value (spec.truths a (is_truth x.kind) ss) i)

pub check_run : (a : Around) (aim : Aim) (e : s.Expr) (ss : s.Operations) → spec.check a aim (s.Run e ss) ≡ (do
  x ← freely a e
  r ← runs.run a (first e) x ss
  lift (finish aim r))
unfolding spec.check
check_run a aim e ss = λ i. freely a e >>= (λ x. run_is a (first e) x ss i >>= (λ r. lift (finish aim r)))

pub check_not : (a : Around) (aim : Aim) (p : Place) (e : s.Expr) → spec.check a aim (s.Not p e) ≡ (do
  x ← freely a e
  r ← lift (not_of p x)
  lift (finish aim r))
unfolding spec.check
check_not a aim p e = refl

pub check_compare : (a : Around) (aim : Aim) (d : s.Expr) (b : Bool) (o : Relation) (p : Place) (e : s.Expr) → spec.check a aim (s.Compare d b o p e) ≡ (do
  x ← freely a d
  y ← freely a e
  comparison aim b o p (first d) x (first e) y)
unfolding spec.check
check_compare a aim d b o p e = refl

pub check_within : (a : Around) (aim : Aim) (e : s.Expr) (b : Bool) (p : Place) (i : s.Interval) → spec.check a aim (s.Within e b p i) ≡ (do
  x ← freely a e
  ends ← spec.interval a i
  inclusion aim b p (first e) x ends)
unfolding spec.check
check_within a aim e b p i = refl

pub check_signed : (a : Around) (aim : Aim) (sign : Sign) (p : Place) (e : s.Expr) → spec.check a aim (s.Signed sign p e) ≡ (do
  x ← freely a e
  r ← lift (signed sign p x)
  lift (finish aim r))
unfolding spec.check
check_signed a aim sign p e = refl

pub check_number : (a : Around) (aim : Aim) (p : Place) (n : ℕ) → spec.check a aim (s.NumberLiteral p n) ≡ number_literal aim n
unfolding spec.check
check_number a aim p n = refl

pub check_letter : (a : Around) (aim : Aim) (p : Place) (n : ℕ) → spec.check a aim (s.CharacterLiteral p n) ≡ spend 1 >>= (λ _. lift (finish aim (letter n)))
unfolding spec.check
check_letter a aim p n = refl

pub check_string : (a : Around) (aim : Aim) (p : Place) (bytes : List ℕ) → spec.check a aim (s.StringLiteral p bytes) ≡ (do
  x ← lift (string a.known.strings p bytes)
  _ ← spend 2
  lift (finish aim x))
unfolding spec.check
check_string a aim p bytes = refl

pub check_truth : (a : Around) (aim : Aim) (p : Place) (b : Bool) → spec.check a aim (s.Truth p b) ≡ spend 1 >>= (λ _. lift (finish aim (truth (t.Number (words.truth b)))))
unfolding spec.check
check_truth a aim p b = refl

pub check_parenthesis : (a : Around) (aim : Aim) (p : Place) (e : s.Expr) → spec.check a aim (s.Parenthesis p e) ≡ spec.check a aim e
unfolding spec.check
check_parenthesis a aim p e = refl

by_left : (a : Around) (aim : Aim) (l : s.Left) → spec.check a aim (s.Reference l) ≡ runs.reference a aim l
unfolding spec.check runs.reference
by_left a aim (s.LeftOf x ss) = refl

pub check_reference : (a : Around) (aim : Aim) (l : s.Left) → spec.check a aim (s.Reference l) ≡ runs.reference a aim l
check_reference a aim l = by_left a aim l

by_aim_of : (a : Around) (aim : Aim) (p : Place) (items : s.Items) → spec.check a aim (s.Constructor p items) ≡ lift (target aim) >>= (λ x. spec.construct a x.0 x.1 p items)
unfolding spec.check
by_aim_of a (Free q) p items = refl
by_aim_of a (Into k q) p items = refl
by_aim_of a (Several q) p items = refl

pub check_constructor : (a : Around) (aim : Aim) (p : Place) (items : s.Items) → spec.check a aim (s.Constructor p items) ≡ lift (target aim) >>= (λ x. spec.construct a x.0 x.1 p items)
check_constructor a aim p items = by_aim_of a aim p items

pub check_raised : (a : Around) (aim : Aim) (r : s.Raise) → spec.check a aim (s.Raised r) ≡ runs.raised a aim r
unfolding spec.check runs.raised
check_raised a aim r = refl

-- for the function that matches on expressions
pub ruleset clauses = (check_run, check_not, check_compare, check_within, check_signed, check_number, check_letter, check_string, check_truth, check_parenthesis, check_reference, check_constructor, check_raised)

-- ---- parts

pub interval_is : (a : Around) (p : Place) (low high : s.Expr) (open_low open_high : Bool) → spec.interval a (s.Between p open_low low high open_high) ≡ (do
  x ← freely a low
  y ← freely a high
  pure (record { open_low = open_low; low_place = first low; low = x; high_place = first high; high = y; open_high = open_high }))
unfolding spec.check
interval_is a p low high open_low open_high = refl

by_brackets : (a : Around) (p : Place) (kind : ItemKind) (q : QualifiedName) (b : s.MaybeBrackets) → (do
  m ← qualified a q
  r ← lift (raises_by kind (last_of q).place m)
  x ← spec.with_brackets a p r b
  pure (p, x)) ≡ lists.raises a kind q >>= (λ r. runs.with_brackets a p r b)
unfolding runs.with_brackets lists.raises
by_brackets a p kind q b = λ i σ. sym (in_turn {B = Raises × State} {C = (Place × Reached) × State} (qualified a q σ) (λ m. and_then (raises_by kind (last_of q).place m.0) (λ r. Ok (r, m.1)))
    (λ r. and_then (spec.with_brackets a p r.0 b r.1) (λ x. Ok ((p, x.0), x.1)))) i

pub raise_signal : (a : Around) (p : Place) (q : QualifiedName) (b : s.MaybeBrackets)
    → spec.raise a (s.SignalRaise p q b) ≡ lists.raises a item.Signal q >>= (λ r. runs.with_brackets a p r b)
unfolding spec.check
raise_signal a p q b = by_brackets a p item.Signal q b

pub raise_error : (a : Around) (p : Place) (q : QualifiedName) (b : s.MaybeBrackets)
    → spec.raise a (s.ErrorRaise p q b) ≡ lists.raises a item.Error q >>= (λ r. runs.with_brackets a p r b)
unfolding spec.check
raise_error a p q b = by_brackets a p item.Error q b

pub raise_unnamed : (a : Around) (p : Place) → spec.raise a (s.UnnamedError p) ≡ pure (p, Results (t.Raise t.TheUnnamed [] t.NoExprs 0 t.NoPhrase) [])
unfolding spec.check
raise_unnamed a p = refl

pub with_none : (a : Around) (p : Place) (r : Raises) → runs.with_brackets a p r s.NoBrackets ≡ at_place p (lists.bare_raise p r)
unfolding spec.check runs.with_brackets
with_none a p r = refl

pub with_some : (a : Around) (p : Place) (r : Raises) (b : s.Brackets) → runs.with_brackets a p r (s.WithBrackets b) ≡ at_place p (lists.full_raise a r b)
unfolding spec.check runs.with_brackets lists.full_raise
with_some a p r (s.BracketsOf q items ph) = refl

pub suffix_field : (a : Around) (way : Use) (at : Place × Reached) (x : Identifier) → runs.suffix a way at (xv.Field x) ≡ (do
  next ← field a at.0 (settled at.1) x
  pure (x.place, next))
unfolding spec.check runs.suffix
suffix_field a way at x = ap (λ f. spec.walk a way at.0 at.1 (f s.NoSuffix)) (of_field x)

pub suffix_applied : (a : Around) (way : Use) (at : Place × Reached) (b : Brackets) → runs.suffix a way at (xv.Applied b) ≡ (do
  _ ← ensure (may_apply way at.1) TypeMismatch at.0
  next ← spec.apply a at.0 (settled at.1) (plain.brackets b)
  pure (at.0, next))
unfolding spec.check runs.suffix
suffix_applied a way at b = ap (λ f. spec.walk a way at.0 at.1 (f s.NoSuffix)) (of_applied b)

then_as : (a : Around) (last : Place) (m : Checked Bracketed) (b : s.Brackets) → lift m >>= (λ x. runs.index a x b) ≡ lift (and_then m (λ x. Ok (runs.ToIndex x))) >>= (λ x. runs.apply_as a last x b)
then_as a last (Ok x) b = refl
then_as a last (Err e) b = refl

by_meaning : (a : Around) (last : Place) (m : Meaning) (p : Place) (items : s.Items) (ph : s.Phrase)
    → spec.apply a last (Named m) (s.BracketsOf p items ph) ≡ lift (runs.applied_meaning last m) >>= (λ x. runs.apply_as a last x (s.BracketsOf p items ph))
unfolding spec.check runs.call runs.construct_named
by_meaning a last (mean.Variable h k) p items ph = refl
by_meaning a last (mean.Constant k n) p items ph = refl
by_meaning a last (mean.TextConstant n) p items ph = refl
by_meaning a last (mean.TypeName k) p items ph = refl
by_meaning a last (mean.Procedure c i) p items ph = refl
by_meaning a last (mean.Signal r i) p items ph = refl
by_meaning a last (mean.Interface n) p items ph = refl
by_meaning a last mean.Later p items ph = refl
by_meaning a last mean.Headless p items ph = refl
by_meaning a last mean.NotImported p items ph = refl

by_reached : (a : Around) (last : Place) (r : Reached) (p : Place) (items : s.Items) (ph : s.Phrase)
    → spec.apply a last r (s.BracketsOf p items ph) ≡ lift (runs.applied last r) >>= (λ x. runs.apply_as a last x (s.BracketsOf p items ph))
unfolding spec.check runs.index
by_reached a last (Variable h ss k) p items ph = then_as a last (indexed last h ss k) (s.BracketsOf p items ph)
by_reached a last (Value n e k) p items ph = then_as a last (text_at last k n e) (s.BracketsOf p items ph)
by_reached a last (Results e fs) p items ph = refl
by_reached a last (Named m) p items ph = by_meaning a last m p items ph

pub apply_steps : (a : Around) (last : Place) (r : Reached) (b : s.Brackets) → spec.apply a last r b ≡ lift (runs.applied last r) >>= (λ x. runs.apply_as a last x b)
apply_steps a last r (s.BracketsOf p items ph) = by_reached a last r p items ph

-- ---- one item in order

pub one_of_none : (a : Around) (p : Place) → spec.one a p s.Nothing ≡ fail WrongCount p
unfolding spec.check
one_of_none a p = refl

pub one_of_keyed : (a : Around) (p : Place) (es : s.KeyedExprs) → spec.one a p (s.ByKey es) ≡ fail WrongCount p
unfolding spec.check
one_of_keyed a p es = refl

pub one_alone : (a : Around) (p : Place) (es : List Expr) (e : Expr) → 1 ≤ length es → length es < 2 → e ≡ get_or es 0 e
    → spec.one a p (s.InOrder (plain.exprs es)) ≡ freely a (plain.expr e) >>= (λ x. pure (first (plain.expr e), x))
unfolding spec.check
one_alone a p [] e some few here = absurd (omega (arith, some))
one_alone a p (x ∷ []) e some few here = ap (λ y. freely a (plain.expr y) >>= (λ r. pure (first (plain.expr y), r))) (sym here)
one_alone a p (x ∷ y ∷ es) e some few here = absurd (omega (arith, few))

pub one_of_many : (a : Around) (p : Place) (es : List Expr) → length es ≢ 1 → spec.one a p (s.InOrder (plain.exprs es)) ≡ fail WrongCount p
unfolding spec.check
one_of_many a p [] other = refl
one_of_many a p (x ∷ []) other = absurd (other refl)
one_of_many a p (x ∷ y ∷ es) other = refl

nothing_by : (k : PlainType) (q p : Place) (x : Shape) → by_shape x (λ fs. fail {A = Typed} WrongCount p) (λ n j. fail WrongCount p) (fail TypeMismatch q)
    ≡ lift (by_shape x (λ fs. refuse WrongCount p) (λ n j. refuse WrongCount p) (refuse TypeMismatch q))
nothing_by k q p (OfFields fs) = refl
nothing_by k q p (OfElements n j) = refl
nothing_by k q p NoShape = refl

pub construct_nothing : (a : Around) (k : PlainType) (q p : Place) → spec.construct a k q p s.Nothing ≡ lift (nothing_in k q p)
unfolding spec.check
construct_nothing a k q p = nothing_by k q p (shape_of k)

none_by : (b : Bool) (p : Place) → ensure b WrongCount p >>= (λ _. pure (in_order t.NoExprs)) ≡ lift (and_then (only b WrongCount p) (λ _. Ok (in_order t.NoExprs)))
none_by true p = refl
none_by false p = refl

pub arguments_nothing : (a : Around) (fs : List PlainField) (p : Place) → spec.arguments a fs p s.Nothing ≡ lift (none_given fs p)
unfolding spec.check
arguments_nothing a fs p = none_by (nat_eq 0 (length fs)) p
