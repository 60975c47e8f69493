-- Parts of the rules of expressions, as the code takes them one by one.
use Rattle.std.specs.Prelude.{ℕ, Bool, true, false, List, [], ◌∷◌, ◌++◌, Ok}
use Rattle.mesa_base.specs.declared.place.Place.{Place}
use Rattle.syntax_trees.specs.PlainSyntax as plain
use Rattle.syntax_trees.specs.Syntax as s
use Rattle.syntax_trees.specs.declared.syntax.Operator.{Operator}
use Rattle.syntax_trees.specs.declared.syntax.Operation.{Operation, out-Operation}
use Rattle.syntax_trees.specs.declared.syntax.Suffix.{Suffix}
use Rattle.check_rules.specs.Typed as t
use Rattle.check_rules.specs.Around.{Around}
use Rattle.check_rules.specs.Checking as spec
use Rattle.check_rules.specs.Names.{named}
use Rattle.check_rules.specs.Operators.{longer, sort_of}
use Rattle.check_rules.specs.Parts.{first}
use Rattle.check_rules.specs.interface_records.specs.PlainTypes.{PlainType, PlainItem, words_of_fields}
use Rattle.check_rules.specs.Ranges.{Typed, typed, Aim, Free, finish}
use Rattle.check_rules.specs.Meanings.{Meaning, Procedure, TypeName}
use Rattle.check_rules.specs.Reached.{Reached, Variable, Value, Results, Named, Use, Read, Bracketed, at_index, indexed, reached, text_at, value}
use Rattle.check_rules.specs.Steps.{Check, Checked, and_then, ◌>>=◌, pure, lift, spend, fail, refuse}
use Rattle.check_rules.specs.Values.{Done, Raises, Sum, Begun, closed, by_aim, by_level, has_parts, is_truth, level_of, no_phrase, step, summed, truth, truth_operand}
use Rattle.check_rules.specs.declared.fault.Cause.TheVariants.{TypeMismatch}

-- an operand, which stands free
abbrev pub freely : Around → s.Expr → Check Typed
freely a e = spec.check a (Free (first e)) e

-- a run of sums or products as far as it is checked: where it begins, its type, and whether that is a literal's
pub record Run : Type 0 where
  pub start : Place
  pub done : Sum
  pub kind : PlainType
  pub literal : Bool

abbrev pub begun : Place → Typed → Run
begun l x = record { start = l; done = Begun x.value; kind = x.kind; literal = x.literal }

abbrev pub with_done : Place → Done → Run
with_done l x = record { start = l; done = x.done; kind = x.kind; literal = false }

-- one operator more, whose right operand is checked and begins at q
abbrev pub behind : Operator → Place → Run → Place → Typed → Checked Run
behind o p a q r = and_then (step o p a.start a.done a.kind a.literal q r) (λ x. Ok (with_done a.start x))

-- how many words the literal of one word among the operands counts more
abbrev pub longer_by : Run → Typed → ℕ
longer_by a r = longer (sort_of a.kind) a.literal (sort_of r.kind) r.literal

abbrev pub ended : Run → Typed
ended a = typed a.kind (closed a.done)

unfoldable pub sum_turn : Around → Run → Operation → Check Run
sum_turn a done o = do
  r ← freely a (plain.expr (out-Operation o).right)
  more ← lift (behind (out-Operation o).operator (out-Operation o).place done (first (plain.expr (out-Operation o).right)) r)
  _ ← spend (longer_by done r)
  pure more

-- of a run that begins at l
unfoldable pub sums : Around → Place → Typed → s.Operations → Check Typed
sums a l x ss = spec.sums a l (Begun x.value) x.kind x.literal ss >>= (λ r. pure (summed r))

-- an operand of AND or OR, whose left operand fits or does not
unfoldable pub operand : Around → Bool → Operation → Check t.Expr
operand a fits o = do
  r ← freely a (plain.expr (out-Operation o).right)
  lift (truth_operand fits (out-Operation o).place r)

-- the operands of AND or OR so far, and whether the last of them fits
unfoldable pub truth_turn : Around → List t.Expr × Bool → Operation → Check (List t.Expr × Bool)
truth_turn a done o = operand a done.1 o >>= (λ x. pure (done.0 ++ x ∷ [], true))

unfoldable pub truths : Around → Typed → s.Operations → Check t.Exprs
truths a x ss = spec.truths a (is_truth x.kind) ss >>= (λ es. pure (t.AndExpr x.value es))

-- what a run is, by its level
unfoldable pub run : Around → Place → Typed → s.Operations → Check Typed
run a l x ss = by_level (level_of ss) (pure x) (sums a l x ss)
    (truths a x ss >>= (λ es. pure (truth (t.AllOf es))))
    (truths a x ss >>= (λ es. pure (truth (t.SomeOf es))))

-- a name with what follows it
unfoldable pub reference : Around → Aim → s.Left → Check Typed
reference a aim (s.LeftOf x ss) = do
  m ← named a x
  r ← spec.walk a Read x.place (reached m) ss
  x ← value aim r.0 r.1
  lift (finish aim x)

-- where one suffix leads
unfoldable pub suffix : Around → Use → Place × Reached → Suffix → Check (Place × Reached)
suffix a way at x = spec.walk a way at.0 at.1 (plain.suffix x s.NoSuffix)

unfoldable pub index : Around → Bracketed → s.Brackets → Check Reached
index a x (s.BracketsOf p items ph) = do
  _ ← lift (no_phrase ph)
  i ← spec.one a p items
  lift (at_index x i.0 i.1)

unfoldable pub call : Around → t.Callee → PlainItem → s.Brackets → Check Reached
call a c callee (s.BracketsOf p items ph) = do
  _ ← spend (words_of_fields callee.gives)
  x ← spec.arguments a callee.takes p items
  w ← spec.phrase a ph
  pure (Results (t.Call c x.places x.values (words_of_fields callee.gives) w) callee.gives)

unfoldable pub construct_named : Around → PlainType → Place → s.Brackets → Check Reached
construct_named a k last (s.BracketsOf p items ph) = do
  _ ← lift (has_parts k last)
  _ ← lift (no_phrase ph)
  x ← spec.construct a k last p items
  pure (Value 0 x.value k)

-- what brackets do behind what was reached
pub data Applied : Type 0 where
  ToIndex : Bracketed → Applied
  ToCall : t.Callee → PlainItem → Applied
  ToConstruct : PlainType → Applied

abbrev pub applied_meaning : Place → Meaning → Checked Applied
applied_meaning last (Procedure c i) = Ok (ToCall c i)
applied_meaning last (TypeName k) = Ok (ToConstruct k)
applied_meaning last m = refuse TypeMismatch last

abbrev pub applied : Place → Reached → Checked Applied
applied last (Variable h ss k) = and_then (indexed last h ss k) (λ x. Ok (ToIndex x))
applied last (Value n e k) = and_then (text_at last k n e) (λ x. Ok (ToIndex x))
applied last (Named m) = applied_meaning last m
applied last r = refuse TypeMismatch last

abbrev pub apply_as : Around → Place → Applied → s.Brackets → Check Reached
apply_as a last (ToIndex x) b = index a x b
apply_as a last (ToCall c i) b = call a c i b
apply_as a last (ToConstruct k) b = construct_named a k last b

unfoldable pub constructor : Around → Aim → Place → s.Items → Check Typed
constructor a aim p items = by_aim aim (fail TypeMismatch) (λ k q. spec.construct a k q p items)

-- the value of a raise
unfoldable pub raised : Around → Aim → s.Raise → Check Typed
raised a aim r = do
  x ← spec.raise a r
  x ← value aim x.0 x.1
  lift (finish aim x)

-- where a raise begins, and what it gives
unfoldable pub with_brackets : Around → Place → Raises → s.MaybeBrackets → Check (Place × Reached)
with_brackets a p r b = spec.with_brackets a p r b >>= (λ x. pure (p, x))
