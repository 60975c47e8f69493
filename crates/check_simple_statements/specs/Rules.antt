-- The rules of statements that hold no statement, inside of what counts their operands, and of single parts of lists.
use Rattle.std.specs.Prelude.{ℕ, ◌+◌, Bool, false, not, List, [], length, nat_eq, Ok, is_some}
use Rattle.mesa_base.specs.declared.identifier.Identifier.{Identifier}
use Rattle.mesa_base.specs.declared.place.Place.{Place}
use Rattle.syntax_trees.specs.Syntax as s
use Rattle.check_rules.specs.Typed as t
use Rattle.check_rules.specs.Around.{Around, return, resumed}
use Rattle.check_rules.specs.Checking as spec
use Rattle.check_rules.specs.Names.{named}
use Rattle.check_rules.specs.Parts.{Found, field_named, first, first_of_interval}
use Rattle.interface_records.specs.PlainTypes as v
use Rattle.interface_records.specs.PlainTypes.{PlainField, words_of}
use Rattle.check_rules.specs.Ranges.{Typed, Into, Several}
use Rattle.check_rules.specs.Reached.{Perform, reached, performed}
use Rattle.check_rules.specs.Scopes.{Scope}
use Rattle.check_rules.specs.Operators.{longer, sort_of}
use Rattle.check_rules.specs.Statements.{By, Counted, Ends, Rounds, counter, given, longer_bounds, rounds, extracted, returned, source, tested, tested_inside}
use Rattle.check_rules.specs.Steps.{Check, Checked, and_then, ◌>>=◌, ensure, hide, lift, only, or_refuse, pure, spend}
use Rattle.check_rules.specs.declared.fault.Cause.TheVariants.{TwiceDeclared, WrongCount}
use Rattle.check_operands.specs.Runs.{freely}

-- what is stored
unfoldable pub assigned : Around → s.Left → s.Expr → Check t.Stmt
assigned a l e = do
  x ← spec.target a l
  y ← spec.check a (Into x.kind (first e)) e
  pure (t.Assign x.home x.suffixes y.value)

-- what an extractor takes apart
unfoldable pub taken : Around → Place → s.Targets → s.Expr → Check t.Stmt
taken a p ts e = do
  x ← spec.check a (Several (first e)) e
  from ← lift (source (first e) x)
  ts ← spec.targets a p (first e) from.fields ts
  pure (t.Extract from.of_record ts from.value)

-- what is called
unfoldable pub called : Around → s.Left → Check t.Stmt
called a (s.LeftOf x ss) = do
  m ← named a x
  r ← spec.walk a Perform x.place (reached m) ss
  e ← performed x.place r.0 r.1
  pure (t.Perform e)

-- what is raised
unfoldable pub raised : Around → s.Raise → Check t.Stmt
raised a r = do
  x ← spec.raise a r
  e ← performed x.0 x.0 x.1
  pure (t.Perform e)

-- RETURN with values in brackets at q
unfoldable pub returned_with : Around → Place → Place → s.Items → Check t.Stmt
returned_with a p q items = do
  j ← lift (return a p)
  x ← spec.arguments a a.gives q items
  pure (returned a j x)

-- RESUME with values in brackets at q
unfoldable pub resumed_with : Around → Place → Place → s.Items → Check t.Stmt
resumed_with a p q items = do
  fs ← lift (resumed a p)
  x ← spec.arguments a fs q items
  pure (t.Resume x.places x.values)

-- RESUME without values
unfoldable pub resumed_bare : Around → Place → Checked t.Stmt
resumed_bare a p = and_then (resumed a p) (λ fs. and_then (only (nat_eq 0 (length fs)) WrongCount p) (λ _. Ok (t.Resume [] t.NoExprs)))

-- the value of a test
abbrev pub truth_of : Around → s.Expr → Check t.Expr
truth_of a e = spec.check a (Into v.Boolean (first e)) e >>= (λ x. pure x.value)

-- the bounds of a counted loop
unfoldable pub bounds : Around → s.Interval → Check Rounds
bounds a i = spec.interval a i >>= (λ ends. lift (rounds (first_of_interval i) ends))

-- FOR, behind its word
unfoldable pub counted_for : Around → Identifier → Bool → s.Interval → Check Counted
counted_for a x down i = do
  m ← named a x
  c ← lift (counter x.place m)
  r ← bounds a i
  g ← lift (given (first_of_interval i) c r)
  _ ← hide 3
  pure (By g down r)

-- one target, for this field
unfoldable pub target_for : Around → Place → Found → s.Left → Check (t.Targets → t.Targets)
target_for a q f l = spec.target a l >>= (λ x. lift (extracted q f x))

-- one target in order, with so many words before the next
unfoldable pub next_target : Around → Place → ℕ → ℕ → PlainField → s.Left → Check ((t.Targets → t.Targets) × ℕ)
next_target a q n offset f l = target_for a q (record { number = n; offset = offset; kind = f.kind }) l >>= (λ put. pure (put, offset + words_of f.kind))

-- one target with a key, where these keys are taken
unfoldable pub keyed_target : Around → Place → List PlainField → Scope Bool → Identifier → s.Left → Check (t.Targets → t.Targets)
keyed_target a q fs taken x l = do
  _ ← ensure (not (is_some (taken x.name))) TwiceDeclared x.place
  f ← lift (or_refuse (field_named fs x) WrongCount x.place)
  target_for a q f l

-- a test at p, of a selector that begins at l: a literal of one word that takes a LONG type counts one more
abbrev pub against : Bool → t.Relation → Place → Place → Typed → Place → Typed → Check (t.Tests → t.Tests)
against b o p l x q y = do
  put ← lift (tested b o p l x q y)
  _ ← spend (longer (sort_of x.kind) false (sort_of y.kind) y.literal)
  pure put

abbrev pub lying : Bool → Place → Place → Typed → Ends → Check (t.Tests → t.Tests)
lying b p l x ends = do
  put ← lift (tested_inside b p l x ends)
  _ ← spend (longer_bounds x ends)
  pure put

-- the first of some tests
unfoldable pub first_test : Around → Place → Typed → s.Tests → Check (t.Tests → t.Tests)
first_test a l x s.NoTests = pure (λ ts. ts)
first_test a l x (s.Value e ts) = freely a e >>= (λ y. against false t.Equal (first e) l x (first e) y)
first_test a l x (s.Compared b o p e ts) = freely a e >>= (λ y. against b o p l x (first e) y)
first_test a l x (s.Inside b p i ts) = spec.interval a i >>= (λ ends. lying b p l x ends)
