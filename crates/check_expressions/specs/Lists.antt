-- What is asked of lists before their values, and literals, as the code takes them one by one.
use Rattle.std.specs.Prelude.{ℕ, ◌+◌, Bool, List, Ok, length, nat_eq}
use Rattle.mesa_base.specs.declared.place.Place.{Place}
use Rattle.check_rules.specs.Typed as t
use Rattle.mesa_base.specs.declared.relation.Relation.{Relation}
use Rattle.check_rules.specs.Operators.{longer, sort_of}
use Rattle.check_rules.specs.Statements.{Ends, longer_bounds, longer_number}
use Rattle.check_rules.specs.interface_records.specs.PlainTypes.{PlainField, PlainType, words_of}
use Rattle.check_rules.specs.Ranges.{Typed, Aim, Arguments, finish}
use Rattle.check_rules.specs.Reached.{Reached, shape_of}
use Rattle.check_rules.specs.Steps.{Check, Checked, and_then, ◌>>=◌, pure, lift, only, refuse, spend}
use Rattle.check_rules.specs.Values.{by_aim, by_shape, compared, in_order, number, string, within}
use Rattle.check_rules.specs.declared.fault.Cause.TheVariants.{TypeMismatch, WrongCount}

-- the type that a constructor has from its target, and where the expression begins that goes there
abbrev pub target : Aim → Checked (PlainType × Place)
target aim = by_aim aim (refuse TypeMismatch) (λ k q. Ok (k, q))

-- a constructor without values
abbrev pub nothing_in : PlainType → Place → Place → Checked Typed
nothing_in k q p = by_shape (shape_of k) (λ fs. refuse WrongCount p) (λ n j. refuse WrongCount p) (refuse TypeMismatch q)

-- no values for these parameters
abbrev pub none_given : List PlainField → Place → Checked Arguments
none_given fs p = and_then (only (nat_eq 0 (length fs)) WrongCount p) (λ _. Ok (in_order t.NoExprs))

-- what was reached, where a raise begins
abbrev pub at_place : Place → Check Reached → Check (Place × Reached)
at_place p m = m >>= (λ x. pure (p, x))

-- a literal of one word
abbrev pub one_word : Aim → Typed → Check Typed
one_word aim x = spend 1 >>= (λ _. lift (finish aim x))

-- a number, which counts the words of its type
abbrev pub number_literal : Aim → ℕ → Check Typed
number_literal aim n = spend (words_of (number n).kind) >>= (λ _. lift (finish aim (number n)))

-- a relation at p between operands that begin at l and at q: a literal of one word that takes a LONG type counts one more
abbrev pub comparison : Aim → Bool → Relation → Place → Place → Typed → Place → Typed → Check Typed
comparison aim b o p l x q y = do
  r ← lift (compared b o p l x q y)
  _ ← spend (longer (sort_of x.kind) x.literal (sort_of y.kind) y.literal)
  lift (finish aim r)

-- IN at p, of a number that begins at l
abbrev pub inclusion : Aim → Bool → Place → Place → Typed → Ends → Check Typed
inclusion aim b p l x ends = do
  r ← lift (within b p l x ends)
  _ ← spend (longer_number x ends + longer_bounds x ends)
  lift (finish aim r)

-- a string literal, of two words
abbrev pub text : List (List ℕ) → Aim → Place → List ℕ → Check Typed
text literals aim p bytes = lift (string literals p bytes) >>= (λ x. spend 2 >>= (λ _. lift (finish aim x)))
