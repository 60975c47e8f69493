-- What checking each form of a type is, clause by clause.
use Rattle.std.proofs.Common.{◌≡◌, Bool, List, [], Ok, refl, sym}
use Rattle.std.specs.Prelude.{Option}
use Rattle.mesa_base.specs.declared.identifier.Identifier.{Identifier}
use Rattle.mesa_base.specs.declared.place.Place.{Place}
use Rattle.syntax_trees.specs.Syntax as s
use Rattle.syntax_trees.specs.declared.syntax.QualifiedName.{QualifiedName}
use Rattle.syntax_trees.specs.declared.syntax.TypeBase.{TypeBase}
use Rattle.check_rules.specs.Around.{Around, in_constant}
use Rattle.check_rules.specs.Checking as spec
use Rattle.check_rules.specs.Names.{type_named}
use Rattle.check_rules.specs.Parts.{first, first_of_type}
use Rattle.interface_records.specs.PlainTypes as v
use Rattle.interface_records.specs.PlainTypes.{PlainType}
use Rattle.check_rules.specs.Steps.{State, ◌>>=◌, and_then, pure, lift, ensure, or_refuse}
use Rattle.check_rules.specs.TypeRules.{bound, elements, few, interval_base, is_index, limited, subrange}
use Rattle.check_rules.specs.Ranges.{Free}
use Rattle.check_rules.specs.Values.{bound_of}
use Rattle.check_rules.specs.declared.fault.Cause.TheVariants.{TypeMismatch}
use Rattle.check_expressions.proofs.Folding.{in_turn}
use Rattle.check_written_types.specs.Forms as forms

pub type_integer : (a : Around) (p : Place) → spec.type_exp a (s.Integer p) ≡ pure v.Integer
unfolding spec.check
type_integer a p = refl

pub type_cardinal : (a : Around) (p : Place) → spec.type_exp a (s.Cardinal p) ≡ pure v.Cardinal
unfolding spec.check
type_cardinal a p = refl

pub type_long_integer : (a : Around) (p : Place) → spec.type_exp a (s.LongInteger p) ≡ pure v.LongInteger
unfolding spec.check
type_long_integer a p = refl

pub type_long_cardinal : (a : Around) (p : Place) → spec.type_exp a (s.LongCardinal p) ≡ pure v.LongCardinal
unfolding spec.check
type_long_cardinal a p = refl

pub type_boolean : (a : Around) (p : Place) → spec.type_exp a (s.Boolean p) ≡ pure v.Boolean
unfolding spec.check
type_boolean a p = refl

pub type_character : (a : Around) (p : Place) → spec.type_exp a (s.Character p) ≡ pure v.Character
unfolding spec.check
type_character a p = refl

pub type_string : (a : Around) (p : Place) → spec.type_exp a (s.String p) ≡ pure v.String
unfolding spec.check
type_string a p = refl

pub type_called : (a : Around) (q : QualifiedName) → spec.type_exp a (s.Called q) ≡ type_named a q
unfolding spec.check
type_called a q = refl

pub type_enumeration : (a : Around) (p : Place) (xs : List Identifier) → spec.type_exp a (s.Enumeration p xs) ≡ forms.enumeration a p xs
unfolding spec.check forms.enumeration
type_enumeration a p xs = λ i σ. sym (in_turn {B = Unit {0} × State} {C = PlainType × State} (elements a (forms.enumeration_type a p xs) 0 xs σ)
    (λ r. and_then (few p xs) (λ u. Ok (u, r.1))) (λ r. Ok (forms.enumeration_type a p xs, r.1))) i

pub type_subrange : (a : Around) (b : TypeBase) (i : s.Interval) → spec.type_exp a (s.Subrange b i) ≡ forms.ranged a b i
unfolding spec.check forms.ranged
type_subrange a b i = refl

pub type_array : (a : Around) (p : Place) (i e : s.TypeExp) → spec.type_exp a (s.Array p i e) ≡ (do
  j ← spec.type_exp a i
  _ ← ensure (is_index j) TypeMismatch (first_of_type i)
  k ← spec.type_exp a e
  lift (limited p (v.Array j k)))
unfolding spec.check
type_array a p i e = refl

pub type_record : (a : Around) (p : Place) (fs : s.FieldList) → spec.type_exp a (s.Record p fs) ≡ (do
  x ← spec.fields_of a fs
  lift (limited p (forms.record_type a p x)))
unfolding spec.check
type_record a p fs = refl

-- for the function that matches on types
pub ruleset clauses = (type_integer, type_cardinal, type_long_integer, type_long_cardinal, type_boolean, type_character, type_string, type_called, type_enumeration, type_subrange, type_array, type_record)

pub named_is : (a : Around) (fs : s.NamedFields) → spec.fields_of a (s.WithNames fs) ≡ spec.named_fields a [] fs
unfolding spec.check
named_is a fs = refl

pub unnamed_is : (a : Around) (ts : s.TypeExps) → spec.fields_of a (s.Unnamed ts) ≡ spec.unnamed_fields a ts
unfolding spec.check
unnamed_is a ts = refl

pub interval_is : (a : Around) (base : Option PlainType) (p : Place) (open_low : Bool) (low high : s.Expr) (open_high : Bool)
    → spec.of_interval a base (s.Between p open_low low high open_high) ≡ (do
      i ← spec.check (in_constant (first low) a) (Free (first low)) low
      x ← lift (bound_of base (first low) i)
      m ← lift (bound (first low) x)
      j ← spec.check (in_constant (first high) a) (Free (first high)) high
      y ← lift (bound_of base (first high) j)
      n ← lift (bound (first high) y)
      k ← lift (or_refuse (interval_base base x.kind m y.kind n) TypeMismatch p)
      lift (subrange p k open_low m n open_high))
unfolding spec.check
interval_is a base p open_low low high open_high = refl
