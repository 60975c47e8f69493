-- What checking each statement that holds no statement is, as the code takes its steps.
use Rattle.std.proofs.Common.{◌≡◌, ◌≢◌, Bool, true, false, List, [], ◌∷◌, length, map, Ok, Err, refl, sym, arith}
use Rattle.std.specs.Prelude.{◌||◌, nat_eq}
use Rattle.mesa_base.specs.declared.identifier.Identifier.{Identifier}
use Rattle.mesa_base.specs.declared.place.Place.{Place}
use Rattle.syntax_trees.specs.Syntax as s
use Rattle.mesa_types.specs.declared.types.FieldType.{FieldType}
use Rattle.check_rules.specs.Typed as t
use Rattle.check_rules.specs.Around.{Around, return, resumed}
use Rattle.check_rules.specs.Checking as spec
use Rattle.check_rules.specs.Names.{named}
use Rattle.check_rules.specs.Parts.{are_fields, count_lefts, first, first_of_interval, keys_of_lefts}
use Rattle.check_rules.specs.Phrases.{holds, in_items, in_left, in_raise, in_targets}
use Rattle.interface_records.specs.PlainTypes as v
use Rattle.interface_records.specs.PlainTypes.{PlainField, plain_field}
use Rattle.check_rules.specs.Ranges.{Arguments, Into}
use Rattle.check_rules.specs.Reached.{Store, reached, stored}
use Rattle.check_rules.specs.Statements.{By, NotCounted, counter, given, returned_by, rounds}
use Rattle.check_rules.specs.Steps.{Check, Checked, State, ◌>>=◌, and_then, ensure, hide, lift, only, pure}
use Rattle.check_rules.specs.declared.fault.Cause.TheVariants.{WrongCount}
use Rattle.check_expressions.proofs.Folding.{in_turn}
use Rattle.check_simple_statements.specs.Rules.{assigned, bounds, called, counted_for, raised, resumed_bare, returned_with, resumed_with, taken, truth_of}
use Rattle.check_simple_statements.specs.Whole.{from_start}
use Rattle.check_simple_statements.proofs.WholeLaws.{whole_is}

pub assign_is : (a : Around) (l : s.Left) (e : s.Expr)
    → spec.statement a (s.Assign l e) ≡ from_start a (in_left l || holds e) 0 (s.left_place l) (λ a. assigned a l e)
unfolding spec.check assigned
assign_is a l e = whole_is a (s.left_place l) (in_left l || holds e) (λ a. assigned a l e)

pub extract_is : (a : Around) (p : Place) (ts : s.Targets) (e : s.Expr)
    → spec.statement a (s.Extract p ts e) ≡ from_start a (in_targets ts || holds e) 0 p (λ a. taken a p ts e)
unfolding spec.check taken
extract_is a p ts e = whole_is a p (in_targets ts || holds e) (λ a. taken a p ts e)

pub call_is : (a : Around) (l : s.Left) → spec.statement a (s.Call l) ≡ from_start a (in_left l) 0 (s.left_place l) (λ a. called a l)
unfolding spec.check called
call_is a (s.LeftOf x ss) = whole_is a x.place (in_left (s.LeftOf x ss)) (λ a. called a (s.LeftOf x ss))

pub raise_is : (a : Around) (r : s.Raise) → spec.statement a (s.RaiseStatement r) ≡ from_start a (in_raise r) 0 (s.raise_place r) (λ a. raised a r)
unfolding spec.check raised
raise_is a r = whole_is a (s.raise_place r) (in_raise r) (λ a. raised a r)

pub return_none : (a : Around) (p : Place) → spec.statement a (s.Return p s.NoItems) ≡ lift (return a p)
unfolding spec.check
return_none a p = refl

pub return_some : (a : Around) (p q : Place) (items : s.Items)
    → spec.statement a (s.Return p (s.WithItems q items)) ≡ from_start a (in_items items) 0 p (λ a. returned_with a p q items)
unfolding spec.check returned_with
return_some a p q items = whole_is a p (in_items items) (λ a. returned_with a p q items)

resume_by : (p : Place) (m : Checked (List PlainField)) → lift m >>= (λ fs. ensure (nat_eq 0 (length fs)) WrongCount p >>= (λ _. pure (t.Resume [] t.NoExprs)))
    ≡ lift (and_then m (λ fs. and_then (only (nat_eq 0 (length fs)) WrongCount p) (λ _. Ok (t.Resume [] t.NoExprs))))
resume_by p (Ok fs) = by_count (nat_eq 0 (length fs))
  where
    by_count : (b : Bool) → ensure b WrongCount p >>= (λ _. pure (t.Resume [] t.NoExprs)) ≡ lift (and_then (only b WrongCount p) (λ _. Ok (t.Resume [] t.NoExprs)))
    by_count true = refl
    by_count false = refl
resume_by p (Err e) = refl

pub resume_none : (a : Around) (p : Place) → spec.statement a (s.Resume p s.NoItems) ≡ lift (resumed_bare a p)
unfolding spec.check resumed_bare
resume_none a p = resume_by p (resumed a p)

pub resume_some : (a : Around) (p q : Place) (items : s.Items)
    → spec.statement a (s.Resume p (s.WithItems q items)) ≡ from_start a (in_items items) 0 p (λ a. resumed_with a p q items)
unfolding spec.check resumed_with
resume_some a p q items = whole_is a p (in_items items) (λ a. resumed_with a p q items)

pub returned_none : (fs : List FieldType) (a : Around) (j : t.Stmt) (x : Arguments) → length fs ≡ 0 → returned_by (map plain_field fs) a j x ≡ j
returned_none [] a j x e = refl
returned_none (f ∷ fs) a j x e = absurd (omega (arith, e))

pub returned_some : (fs : List FieldType) (a : Around) (j : t.Stmt) (x : Arguments) → length fs ≢ 0
    → returned_by (map plain_field fs) a j x ≡ t.ReturnWith a.arms (length a.takes) x.places x.values
returned_some [] a j x e = absurd (e refl)
returned_some (f ∷ fs) a j x e = refl

-- ---- targets

pub target_is : (a : Around) (x : Identifier) (ss : s.Suffixes) → spec.target a (s.LeftOf x ss) ≡ (do
  m ← named a x
  r ← spec.walk a Store x.place (reached m) ss
  stored r.0 r.1)
unfolding spec.check
target_is a x ss = refl

pub targets_none : (a : Around) (p q : Place) (fs : List PlainField) → spec.targets a p q fs s.NoTarget ≡ pure t.NoTargets
unfolding spec.check
targets_none a p q fs = refl

pub targets_ordered : (a : Around) (p q : Place) (fs : List PlainField) (ls : s.Lefts) → spec.targets a p q fs (s.TargetsInOrder ls) ≡ (do
  _ ← ensure (nat_eq (count_lefts ls) (length fs)) WrongCount p
  spec.targets_in_order a q 0 0 fs ls)
unfolding spec.check
targets_ordered a p q fs ls = refl

pub targets_keyed : (a : Around) (p q : Place) (fs : List PlainField) (ls : s.KeyedLefts) → spec.targets a p q fs (s.TargetsByKey ls) ≡ (do
  _ ← ensure (are_fields fs (keys_of_lefts ls)) WrongCount p
  spec.targets_by_key a q fs [] ls)
unfolding spec.check
targets_keyed a p q fs ls = refl

-- ---- loops

-- a step with what is asked of it alone
regroup : {A B C : Type 0} (m : Check A) (f : A → Checked B) (g : B → Check C) → m >>= (λ x. lift (f x) >>= g) ≡ (m >>= (λ x. lift (f x))) >>= g
regroup {A} {B} {C} m f g = λ i σ. sym (in_turn {A = A × State} {B = B × State} {C = C × State} (m σ) (λ r. and_then (f r.0) (λ b. Ok (b, r.1))) (λ r. g r.0 r.1)) i

pub control_is : (a : Around) (n : s.Count) (c : s.Condition) → spec.control a (s.ControlOf n c) ≡ (do
  x ← spec.counted a n
  y ← spec.condition a c
  pure (record { count = x; condition = y }))
unfolding spec.check
control_is a n c = refl

pub counted_none : (a : Around) → spec.counted a s.NoCount ≡ pure NotCounted
unfolding spec.check
counted_none a = refl

pub counted_through : (a : Around) (p : Place) (i : s.Interval) → spec.counted a (s.Through p i) ≡ (do
  r ← bounds a i
  _ ← hide 3
  pure (By t.NoVariable false r))
unfolding spec.check bounds
counted_through a p i = regroup (spec.interval a i) (rounds (first_of_interval i)) (λ r. hide 3 >>= (λ _. pure (By t.NoVariable false r)))

pub counted_by : (a : Around) (p : Place) (x : Identifier) (down : Bool) (i : s.Interval) → spec.counted a (s.For p x down i) ≡ counted_for a x down i
unfolding spec.check bounds counted_for
counted_by a p x down i = λ j. named a x >>= (λ m. lift (counter x.place m) >>= (λ c.
    regroup (spec.interval a i) (rounds (first_of_interval i)) (λ r. lift (given (first_of_interval i) c r) >>= (λ g. hide 3 >>= (λ _. pure (By g down r)))) j))

pub condition_none : (a : Around) → spec.condition a s.Always ≡ pure t.Always
unfolding spec.check
condition_none a = refl

pub condition_while : (a : Around) (p : Place) (e : s.Expr) → spec.condition a (s.While p e) ≡ truth_of a e >>= (λ x. pure (t.While x))
unfolding spec.check
condition_while a p e = λ i σ. sym (in_turn {B = t.Expr × State} {C = t.Condition × State} (spec.check a (Into v.Boolean (first e)) e σ) (λ r. Ok (r.0.value, r.1)) (λ r. Ok (t.While r.0, r.1))) i

pub condition_until : (a : Around) (p : Place) (e : s.Expr) → spec.condition a (s.Until p e) ≡ truth_of a e >>= (λ x. pure (t.Until x))
unfolding spec.check
condition_until a p e = λ i σ. sym (in_turn {B = t.Expr × State} {C = t.Condition × State} (spec.check a (Into v.Boolean (first e)) e σ) (λ r. Ok (r.0.value, r.1)) (λ r. Ok (t.Until r.0, r.1))) i
