-- Lists of values, each given to its type, as the code takes them one by one.
use Rattle.std.specs.Prelude.{ℕ, List, [], ◌∷◌, ◌++◌, length, map, Option, Some, None, Ok, option_map, slice_get, nat_eq}
use Rattle.mesa_base.specs.declared.place.Place.{Place}
use Rattle.mesa_types.specs.Plain as typed
use Rattle.syntax_trees.specs.PlainSyntax as plain
use Rattle.syntax_trees.specs.Syntax as s
use Rattle.mesa_types.specs.declared.faces.ItemKind.{ItemKind}
use Rattle.syntax_trees.specs.declared.syntax.Expr.{Expr}
use Rattle.syntax_trees.specs.declared.syntax.Keyed.{Keyed}
use Rattle.syntax_trees.specs.declared.syntax.QualifiedName.{QualifiedName}
use Rattle.check_rules.specs.Typed as t
use Rattle.check_rules.specs.Around.{Around}
use Rattle.check_rules.specs.Checking as spec
use Rattle.check_rules.specs.Names.{qualified}
use Rattle.check_rules.specs.Parts.{first, last_of}
use Rattle.check_rules.specs.interface_records.specs.PlainTypes.{PlainField, PlainType, words_of, words_of_fields}
use Rattle.check_rules.specs.Ranges.{Arguments}
use Rattle.check_rules.specs.Reached.{Reached, Results, shape_of}
use Rattle.check_rules.specs.Steps.{Check, Checked, ◌>>=◌, pure, lift, spend, ensure, refuse}
use Rattle.check_rules.specs.Values.{Raises, bound_aim, by_shape, in_order, raises_by}
use Rattle.check_rules.specs.declared.fault.Cause.TheVariants.{TypeMismatch, WrongCount}
use Rattle.check_operands.specs.Folds.{folded}

-- the type of the field with a number, and of the field whose number stands at a place
abbrev pub kind_in : List PlainField → ℕ → Option PlainType
kind_in fs n = option_map (λ (f : PlainField). f.kind) (slice_get fs n)

abbrev pub kind_by_place : List PlainField → Option ℕ → Option PlainType
kind_by_place fs (Some n) = kind_in fs n
kind_by_place fs None = None

abbrev pub kind_placed : List PlainField → List ℕ → ℕ → Option PlainType
kind_placed fs ns n = kind_by_place fs (slice_get ns n)

-- a value that is given to this type
unfoldable pub value_for : Around → Option PlainType → s.Expr → Check t.Expr
value_for a kind e = spec.check a (bound_aim kind (first e)) e >>= (λ x. pure x.value)

-- behind those that are done, the type of each by its number
unfoldable pub value_turn : Around → (ℕ → Option PlainType) → List t.Expr → s.Expr → Check (List t.Expr)
value_turn a kinds done e = value_for a (kinds (length done)) e >>= (λ x. pure (done ++ x ∷ []))

abbrev pub listed : Check (List t.Expr) → Check t.Exprs
listed p = p >>= (λ es. pure (typed.exprs es))

unfoldable pub values : Around → (ℕ → Option PlainType) → List Expr → Check t.Exprs
values a kinds es = listed (folded (value_turn a kinds) [] (map plain.expr es))

unfoldable pub keyed : Around → (ℕ → Option PlainType) → List (Keyed Expr) → Check t.Exprs
keyed a kinds es = listed (folded (value_turn a kinds) [] (map (λ (x : Keyed Expr). plain.expr x.item) es))

-- how many values in order a constructor of a type has, and their types; any other type is refused at the place
abbrev pub ordered : PlainType → Place → Checked (ℕ × (ℕ → Option PlainType))
ordered k q = by_shape (shape_of k) (λ fs. Ok (length fs, kind_in fs)) (λ n j. Ok (n, λ m. Some j)) (refuse TypeMismatch q)

-- the fields that a constructor of a type names
abbrev pub keyed_fields : PlainType → Place → Place → Checked (List PlainField)
keyed_fields k q p = by_shape (shape_of k) (λ fs. Ok fs) (λ n j. refuse WrongCount p) (refuse TypeMismatch q)

-- a constructor counts its own size
abbrev pub counted : PlainType → Place → ℕ → ℕ → Check (Unit {0})
counted k p given wanted = ensure (nat_eq given wanted) WrongCount p >>= (λ _. spend (words_of k))

abbrev pub called : t.Callee → ℕ → Arguments → t.Phrase → List PlainField → Reached
called c words x w gives = Results (t.Call c x.places x.values words w) gives

abbrev pub words_given : List PlainField → ℕ
words_given = words_of_fields

abbrev pub raised : Raises → ℕ → Arguments → t.Phrase → Reached
raised r words x w = Results (t.Raise r.raised x.places x.values words w) r.head.gives

unfoldable pub raises : Around → ItemKind → QualifiedName → Check Raises
raises a kind q = qualified a q >>= (λ m. lift (raises_by kind (last_of q).place m))

-- a raise without brackets
abbrev pub bare_raise : Place → Raises → Check Reached
bare_raise p r = do
  _ ← ensure (nat_eq 0 (length r.head.takes)) WrongCount p
  _ ← spend (words_of_fields r.head.gives)
  pure (raised r (words_of_fields r.head.gives) (in_order t.NoExprs) t.NoPhrase)

-- a raise with brackets
unfoldable pub full_raise : Around → Raises → s.Brackets → Check Reached
full_raise a r (s.BracketsOf q items ph) = do
  _ ← spend (words_of_fields r.head.gives)
  x ← spec.arguments a r.head.takes q items
  w ← spec.phrase a ph
  pure (raised r (words_of_fields r.head.gives) x w)
