-- Rules of statements that look at no part of the text again (Language Manual, chapters 4, 7 and 8).
use Rattle.std.specs.Prelude.{ℕ, ◌+◌, Bool, true, false, ◌&&◌, ◌||◌, not, List, [], ◌∷◌, ◌++◌, length, map, Option, Some, None, Ok, if◌then◌else◌, nat_eq, nat_le}
use Rattle.mesa_base.specs.declared.limits.TheConstants.{GLOBAL_WORDS}
use Rattle.mesa_base.specs.declared.place.Place.{Place}
use Rattle.mesa_types.specs.Shapes.{join, one, count_in, words_in_all}
use Rattle.syntax_trees.specs.Syntax as s
use Rattle.check_rules.specs.Typed as t
use Rattle.check_rules.specs.Typed.{Home, Global, Local, Base, Given, Range, Conversion, Kept, Widened, Narrowed, InCommon, Relation}
use Rattle.mesa_base.specs.declared.identifier.Identifier.{Identifier}
use Rattle.syntax_trees.specs.declared.syntax.RepeatLabels.{RepeatLabels}
use Rattle.syntax_trees.specs.declared.syntax.RepeatLabels.TheVariants as repeat
use Rattle.mesa_types.specs.Constants.{constant}
use Rattle.check_rules.specs.Operators.{Meeting, Relating, Longs, Words, relating, related, number_type, turned, Sort, Number, sort_of, fitted, by_itself, selecting, selecting_itself, beside}
use Rattle.check_rules.specs.Ranges.{Typed, checked, range_for, conversion_for, Arguments}
use Rattle.check_rules.specs.Scopes.{Scope, with_name, nothing}
use Rattle.check_rules.specs.Meanings.{Meaning, Variable, Constant, TextConstant}
use Rattle.check_rules.specs.Around.{Around, in_statement, ArmLabel, parameters_of}
use Rattle.check_rules.specs.Parts.{Found, distinct, first_name, join_stmts}
use Rattle.check_rules.specs.Reached.{Target, part_of}
use Rattle.check_rules.specs.Steps.{State, Check, Checked, and_then, ◌>>=◌, pure, refuse, or_refuse, only, top, within_operands}
use Rattle.check_rules.specs.Names.{settle}
use Rattle.check_rules.specs.declared.fault.Cause.TheVariants.{TypeMismatch, NotConstant, TwiceDeclared, GlobalsTooLarge}
-- a statement with a number, where a phrase belongs to it
use Rattle.interface_records.specs.PlainTypes.{PlainField, PlainType, base_of, conforms, fields, is_long, is_ordinal, is_text, kind_of, kinds_of, sign_of}

abbrev pub numbered : Around → Bool → (Around → Check t.Stmt) → Check t.Stmt
numbered a true rule = rule (in_statement a) >>= (λ s. pure (t.Marked a.marked s))
numbered a false rule = rule a

-- with its operands counted
abbrev pub whole : Around → Place → Bool → (Around → Check t.Stmt) → Check t.Stmt
whole a p has_phrase rule = within_operands 0 p (numbered a has_phrase rule)

-- RETURN with values, in a procedure with results; `j` is the jump of one without
abbrev pub returned_by : List PlainField → Around → t.Stmt → Arguments → t.Stmt
returned_by [] a j x = j
returned_by fs a j x = t.ReturnWith a.arms (length a.takes) x.places x.values

abbrev pub returned : Around → t.Stmt → Arguments → t.Stmt
returned a j x = returned_by a.gives a j x

-- no LONG value stands here
unfoldable pub not_long : Place → Typed → Checked (Unit {0})
not_long p x = only (not (is_long x.kind)) TypeMismatch p

-- Interval ends, as the operands of one operation or of IN, and where they begin.
pub record Ends : Type 0 where
  pub open_low : Bool
  pub low_place : Place
  pub low : Typed
  pub high_place : Place
  pub high : Typed
  pub open_high : Bool

abbrev pub between : Ends → t.Interval
between i = t.Between i.low.value i.open_low i.high.value i.open_high

abbrev pub bases : PlainType → Ends → t.Bases
bases k i = record { number = sign_of k; first = sign_of i.low.kind; last = sign_of i.high.kind }

abbrev pub is_meeting : Option Relating → Bool
is_meeting (Some m) = true
is_meeting None = false

abbrev pub are_related : Typed → Typed → Bool
are_related a c = is_meeting (relating a.kind a.literal c.kind c.literal)

-- operands that fit, of an operation at p; they begin at l and at q
abbrev pub meets : Place → Place → Typed → Place → Typed → Checked (Unit {0})
meets p l a q c = only (are_related a c) TypeMismatch (beside p l (sort_of a.kind) q (sort_of c.kind))

-- what begins at l is to lie between two bounds, by IN at p
unfoldable pub meets_bounds : Place → Place → Typed → Ends → Checked (Unit {0})
meets_bounds p l a i = and_then (meets p l a i.low_place i.low) (λ _. meets p l a i.high_place i.high)

-- IN is over LONG numbers where one of the three is LONG
unfoldable pub is_long_interval : Typed → Ends → Bool
is_long_interval a i = is_long a.kind || (is_long i.low.kind || is_long i.high.kind)

unfoldable pub by_itself_of : Typed → t.Expr
by_itself_of a = fitted (by_itself (sort_of a.kind) a.literal) a.value

abbrev pub long_between : Ends → t.Interval
long_between i = t.Between (by_itself_of i.low) i.open_low (by_itself_of i.high) i.open_high

-- the literals of one word that take a LONG type count one word more each
abbrev pub lengthening : Typed → ℕ
lengthening a = if a.literal && not (is_long a.kind) then 1 else 0

abbrev pub lengthening_if : Bool → ℕ → ℕ
lengthening_if true n = n
lengthening_if false n = 0

unfoldable pub longer_number : Typed → Ends → ℕ
longer_number a i = lengthening_if (is_long_interval a i) (lengthening a)

unfoldable pub longer_bounds : Typed → Ends → ℕ
longer_bounds a i = lengthening_if (is_long_interval a i) (lengthening i.low + lengthening i.high)

-- SELECT
abbrev pub test_by : Relation → Typed → Typed → Relating → t.Tests → t.Tests
test_by o sel e (Words m) = t.IfRelated m.left m.base o (checked m.right e.value)
test_by o sel e (Longs m) = t.IfRelatedLong (selecting m.base (sort_of sel.kind) sel.literal) m.base o (fitted m.right e.value)

-- a test at p, of a selector that begins at l; its right side begins at q
unfoldable pub tested : Bool → Relation → Place → Place → Typed → Place → Typed → Checked (t.Tests → t.Tests)
tested negated o p l sel q e =
    and_then (or_refuse (relating sel.kind sel.literal e.kind e.literal) TypeMismatch (beside p l (sort_of sel.kind) q (sort_of e.kind))) (λ m.
    Ok (test_by (turned negated o) sel e m))

abbrev pub test_inside_by : Bool → Bool → Typed → Ends → t.Tests → t.Tests
test_inside_by false negated sel i = t.IfWithin negated (bases sel.kind i) (between i)
test_inside_by true negated sel i = t.IfWithinLong negated (selecting_itself (sort_of sel.kind)) (bases sel.kind i) (long_between i)

unfoldable pub tested_inside : Bool → Place → Place → Typed → Ends → Checked (t.Tests → t.Tests)
tested_inside negated p l sel i = and_then (meets_bounds p l sel i) (λ _. Ok (test_inside_by (is_long_interval sel i) negated sel i))

-- a LONG selector is held in two hidden words, another one in one
abbrev pub selected_by : Bool → t.Expr → t.Cases → t.Stmt
selected_by true e cs = t.SelectLong e cs
selected_by false e cs = t.Select e cs

unfoldable pub selected : Typed → t.Cases → t.Stmt
selected sel cs = selected_by (is_long sel.kind) sel.value cs

abbrev pub held_words : Typed → ℕ
held_words sel = if is_long sel.kind then 2 else 1

-- FOR and THROUGH: the bounds of a loop, and how its numbers are read
pub record Rounds : Type 0 where
  pub base : Base
  pub kind : PlainType
  pub interval : t.Interval

abbrev pub met_kind : Sort → Base → PlainType → PlainType
met_kind (Number b) base k = number_type base
met_kind _ base k = k

abbrev pub rounds_by : Ends → Meeting → Rounds
rounds_by i m = record {
  base = m.base;
  kind = met_kind (sort_of i.low.kind) m.base i.low.kind;
  interval = t.Between (checked m.left i.low.value) i.open_low (checked m.right i.high.value) i.open_high;
}

-- no bound is LONG
unfoldable pub rounds : Place → Ends → Checked Rounds
rounds p i =
    and_then (not_long i.low_place i.low) (λ _.
    and_then (not_long i.high_place i.high) (λ _.
    and_then (or_refuse (related i.low.kind i.low.literal i.high.kind i.high.literal) TypeMismatch p) (λ m. Ok (rounds_by i m))))

-- the variable of a FOR, which is no LONG one
pub record Counter : Type 0 where
  pub home : Home
  pub kind : PlainType

abbrev pub counter : Place → Meaning → Checked Counter
counter p (Variable h k) = and_then (only (is_ordinal k) TypeMismatch p) (λ _. Ok (record { home = h; kind = k }))
counter p _ = refuse TypeMismatch p

unfoldable pub given : Place → Counter → Rounds → Checked Given
given p c r = and_then (only (conforms r.kind c.kind) TypeMismatch p) (λ _. Ok (t.GivenTo c.home (range_for r.kind c.kind)))

-- what stands before a DO
pub data Counted : Type 0 where
  NotCounted : Counted
  By : Given → Bool → Rounds → Counted

pub record Controlled : Type 0 where
  pub count : Counted
  pub condition : t.Condition

abbrev pub looped : Counted → t.Loop → t.Stmt
looped NotCounted l = t.Repeat t.Endless l
looped (By g down r) l = t.For g down r.base r.interval l

-- extractors: from a record's fields, or from the results of a call
pub record Source : Type 0 where
  pub of_record : Bool
  pub value : t.Expr
  pub fields : List PlainField

abbrev pub source_by : Place → t.Expr → Option (List PlainField) → Option (List PlainField) → Checked Source
source_by p e (Some fs) gave = Ok (record { of_record = true; value = e; fields = fs })
source_by p e None (Some fs) = Ok (record { of_record = false; value = e; fields = fs })
source_by p e None None = refuse TypeMismatch p

abbrev pub is_one : Option (List PlainField) → Bool
is_one (Some (f ∷ [])) = true
is_one (Some _) = false
is_one None = true

abbrev pub record_fields : Bool → PlainType → Option (List PlainField)
record_fields true k = fields k
record_fields false k = None

-- for one result that is a record its fields, else the results
unfoldable pub source : Place → Typed → Checked Source
source p x = source_by p x.value (record_fields (is_one x.gave) x.kind) x.gave

-- a target checks what it takes, or converts it
abbrev pub target_by : Conversion → Range → Found → Target → t.Targets → t.Targets
target_by Kept r f x = t.AndTarget (part_of f) x.home x.suffixes r
target_by (Widened from to) r f x = t.AndConverted (part_of f) x.home x.suffixes (Widened from to)
target_by (Narrowed from to range) r f x = t.AndConverted (part_of f) x.home x.suffixes (Narrowed from to range)
target_by InCommon r f x = t.AndConverted (part_of f) x.home x.suffixes InCommon

unfoldable pub extracted : Place → Found → Target → Checked (t.Targets → t.Targets)
extracted p f x =
    and_then (only (conforms f.kind x.kind) TypeMismatch p) (λ _.
    Ok (target_by (conversion_for f.kind x.kind) (range_for f.kind x.kind) f x))

-- Variables, with numbers in the order in which they are declared.
abbrev pub home_of : Bool → ℕ → Home
home_of true n = Global n
home_of false n = Local n

abbrev pub with_variable : PlainType → State → State
with_variable k s = record s { variables = join s.variables (one (kind_of k)) }

abbrev pub local : Around → PlainType → Check Home
local a k = λ s. Ok (Local (length a.takes + length a.gives + count_in s.variables), with_variable k s)

abbrev pub global : PlainType → Check Home
global k = λ s. Ok (Global (count_in s.globals), record s { globals = join s.globals (one (kind_of k)) })

abbrev pub variable : Around → PlainType → Check Home
variable a k = if a.is_outermost then global k else local a k

unfoldable pub variables : Around → PlainType → List Identifier → Check (List Home)
variables a k [] = pure []
variables a k (x ∷ xs) = do
  h ← variable a k
  hs ← variables a k xs
  pure (h ∷ hs)

-- the words of the globals are limited (rule of this project)
abbrev pub few_globals : Place → Check (Unit {0})
few_globals p = λ s. and_then (only (nat_le (words_in_all s.globals) GLOBAL_WORDS) GlobalsTooLarge p) (λ _. Ok (tt, s))

abbrev pub meaning_of : PlainType → Home → Meaning
meaning_of k h = Variable h k

-- the variables of an arm: the parameters of its signals
pub record ArmPlace : Type 0 where
  pub scope : Scope Meaning
  pub first : ℕ
  pub count : ℕ

abbrev pub named_field : Option (List ℕ) → Meaning → Scope Meaning → Scope Meaning
named_field (Some x) m scope = with_name x m scope
named_field None m scope = scope

unfoldable pub fields_from : ℕ → List PlainField → Scope Meaning → Scope Meaning
fields_from n [] scope = scope
fields_from n (f ∷ fs) scope = fields_from (n + 1) fs (named_field f.name (Variable (Local n) f.kind) scope)

abbrev pub with_variables : List PlainField → State → State
with_variables fs s = record s { variables = join s.variables (kinds_of fs) }

abbrev pub arm_place : List PlainField → ℕ → ArmPlace
arm_place fs n = record { scope = fields_from n fs nothing; first = if nat_eq (length fs) 0 then 0 else n; count = length fs }

unfoldable pub enter_arm : Around → List ArmLabel → Check ArmPlace
enter_arm a ls = λ s. Ok (arm_place (parameters_of ls) (length a.takes + length a.gives + count_in s.variables), with_variables (parameters_of ls) s)

-- what a declaration of variables, a type or a constant leaves for the place at which its initial value is given
pub data Headed : Type 0 where
  Nothing : Headed
  -- its variables, their type, the names that its initial value sees, and the words of operands of its type
  Variables : List Home → PlainType → Scope Meaning → ℕ → Headed

-- variables of a type that has been read, visible from here on
abbrev pub declare : Around → List Identifier → PlainType → ℕ → Check Headed
declare a xs k words = do
  seen ← top
  hs ← variables a k xs
  _ ← few_globals (first_name xs)
  _ ← settle xs (map (meaning_of k) hs)
  pure (Variables hs k seen words)

-- an initial value; the operands of its declaration's type count with its own
abbrev pub given_initial : Around → List Identifier → ℕ → Bool → (Around → Check t.Stmt) → Check (t.Stmts → t.Stmts)
given_initial a xs words has_phrase rule = within_operands words (first_name xs) (numbered a has_phrase rule) >>= (λ s. pure (t.AndStmt s))

-- what a block holds under its names
pub record Held : Type 0 where
  pub phrase : t.Phrase
  pub statements : t.Stmts

abbrev pub held : t.Phrase → t.Stmts → t.Stmts → Held
held w ds ss = record { phrase = w; statements = join_stmts ds ss }

-- a constant has an ordinal type or a LONG type, or is a string literal's name in a PROGRAM
unfoldable pub is_text_literal : s.Expr → Bool
is_text_literal (s.StringLiteral p bytes) = true
is_text_literal (s.Parenthesis p e) = is_text_literal e
is_text_literal _ = false

abbrev pub text_constant : Bool → Place → t.Expr → Checked Meaning
text_constant true p (t.Literal n) = Ok (TextConstant n)
text_constant _ p e = refuse NotConstant p

abbrev pub constant_by : Option PlainType → PlainType → Bool → Place → t.Expr → Checked Meaning
constant_by (Some base) k text p e = and_then (or_refuse (constant e) NotConstant p) (λ n. Ok (Constant k n))
constant_by None k text p e = text_constant text p e

unfoldable pub constant_meaning : Around → PlainType → s.Expr → Place → t.Expr → Checked Meaning
constant_meaning a k e p x = constant_by (base_of k) k (a.known.is_program && (is_text k && is_text_literal e)) p x

-- the labels of an EXITS or a REPEAT
unfoldable pub labels_of_exits : s.Exits → List Identifier
labels_of_exits s.NoExits = []
labels_of_exits (s.AndExit xs body es) = xs ++ labels_of_exits es

abbrev pub labels_of : RepeatLabels → List Identifier
labels_of (repeat.Named xs) = xs
labels_of (repeat.Finished p) = []

unfoldable pub labels_of_repeats : s.Repeats → List Identifier
labels_of_repeats s.NoRepeats = []
labels_of_repeats (s.AndRepeat ls body rs) = labels_of ls ++ labels_of_repeats rs

unfoldable pub numbers_from : ℕ → List Identifier → List ℕ
numbers_from n [] = []
numbers_from n (x ∷ xs) = n ∷ numbers_from (n + 1) xs

-- the statements of a REPEAT
pub record Left : Type 0 where
  pub exits : t.Exits
  pub finished : t.Finish

abbrev pub also_left : RepeatLabels → ℕ → t.Stmt → Left → Left
also_left (repeat.Named xs) n body l = record { exits = t.AndExit (numbers_from n xs) body l.exits; finished = l.finished }
also_left (repeat.Finished p) n body l = record { exits = l.exits; finished = t.Finished body }

-- no label stands twice, and FINISHED not either
abbrev pub new_labels : List (List ℕ) → Bool → RepeatLabels → Checked (Unit {0})
new_labels taken finished (repeat.Named xs) = distinct taken xs
new_labels taken finished (repeat.Finished p) = only (not finished) TwiceDeclared p

abbrev pub is_finished : RepeatLabels → Bool
is_finished (repeat.Finished p) = true
is_finished (repeat.Named xs) = false
