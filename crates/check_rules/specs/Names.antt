-- What a name means at a place (Language Manual, chapter 7: a procedure, signal or error of an interface may be named only
-- where the module imports it; each that is named is used).
use Rattle.std.specs.Prelude.{ℕ, Bool, true, false, List, [], ◌∷◌, Option, Some, None, Ok, slice_get, slice_set, is_some, ◌||◌, not}
use Rattle.mesa_base.specs.declared.place.Place.{Place}
use Rattle.mesa_base.specs.declared.identifier.Identifier.{Identifier}
use Rattle.syntax_trees.specs.declared.syntax.QualifiedName.{QualifiedName}
use Rattle.syntax_trees.specs.declared.syntax.Labels.{Labels}
use Rattle.syntax_trees.specs.declared.syntax.Labels.TheVariants.{Any, Unwind, Signals}
use Rattle.syntax_trees.specs.declared.syntax.TypeBase.{TypeBase}
use Rattle.syntax_trees.specs.declared.syntax.TypeBase.TheVariants.{Unsaid, OfInteger, OfCardinal, OfCharacter, OfName}
use Rattle.interface_records.specs.PlainTypes as v
use Rattle.check_rules.specs.Typed.{LinkedProcedure, LinkedSignal}
use Rattle.check_rules.specs.Scopes.{Scope, find, nothing, over, with_name, innermost}
use Rattle.check_rules.specs.Meanings.{Meaning, TypeName, Procedure, Signal, Interface, Later, Headless, NotImported}
use Rattle.check_rules.specs.Steps.{State, Check, Checked, ◌>>=◌, and_then, pure, fail, refuse, only, lift, with_top}
use Rattle.check_rules.specs.Around.{Around, ArmLabel, ForAny, ForUnwind, ForSignal}
use Rattle.check_rules.specs.Parts.{last_of}
use Rattle.check_rules.specs.declared.fault.Cause.TheVariants.{UnknownName, TwiceDeclared, TypeMismatch, NotConstant}
use Rattle.interface_records.specs.PlainTypes.{PlainType, is_ordinal}

abbrev pub or_empty : List Bool → Option (List Bool) → List Bool
or_empty other None = other
or_empty other (Some marks) = marks

-- an item of an import is used from here on
abbrev pub use_item : ℕ → ℕ → State → State
use_item m n s = record s { used = slice_set s.used m (slice_set (or_empty [] (slice_get s.used m)) n true) }

unfoldable pub mark : Meaning → State → State
mark (Procedure (LinkedProcedure m n) item) s = use_item m n s
mark (Signal (LinkedSignal m n) item) s = use_item m n s
mark _ s = s

-- a procedure, signal or error before its own head, which is taken as if it were checked; where that head has a fault the
-- name makes no constant, and is no type
abbrev pub before_head : Option Place → Place → Option Meaning → Check Meaning
before_head constant p (Some m) = pure m
before_head (Some start) p None = fail NotConstant start
before_head None p None = fail TypeMismatch p

-- what a name means that is found, or not
unfoldable pub seen : Around → Identifier → Option Meaning → Check Meaning
seen a x None = fail UnknownName x.place
seen a x (Some Later) = fail UnknownName x.place
seen a x (Some NotImported) = fail UnknownName x.place
seen a x (Some Headless) = before_head a.constant x.place (a.further x.name)
seen a x (Some m) = λ s. Ok (m, mark m s)

unfoldable pub named : Around → Identifier → Check Meaning
named a x = λ s. seen a x (find x.name s.scopes) s

abbrev pub or_nothing : Option (Scope Meaning) → Scope Meaning
or_nothing None = nothing
or_nothing (Some scope) = scope

-- a name of an interface
unfoldable pub of_interface : Around → ℕ → Identifier → Check Meaning
of_interface a n x = seen a x (or_nothing (slice_get a.known.interfaces n) x.name)

abbrev pub in_meaning : Around → Option Meaning → Identifier → Check Meaning
in_meaning a None x = fail UnknownName x.place
in_meaning a (Some Later) x = fail UnknownName x.place
in_meaning a (Some NotImported) x = fail UnknownName x.place
in_meaning a (Some (Interface n)) x = of_interface a n x
in_meaning a (Some m) x = fail TypeMismatch x.place

abbrev pub by_parts : Around → Identifier → Option Identifier → Check Meaning
by_parts a x None = named a x
by_parts a x (Some y) = λ s. in_meaning a (find x.name s.scopes) y s

-- a name, or a name of an interface
unfoldable pub qualified : Around → QualifiedName → Check Meaning
qualified a q = by_parts a q.first q.second

abbrev pub type_by : Place → Meaning → Checked PlainType
type_by p (TypeName k) = Ok k
type_by p _ = refuse TypeMismatch p

unfoldable pub type_named : Around → QualifiedName → Check PlainType
type_named a q = qualified a q >>= (λ m. lift (type_by (last_of q).place m))

abbrev pub ordinal_type : Place → PlainType → Checked PlainType
ordinal_type p k = and_then (only (is_ordinal k) TypeMismatch p) (λ _. Ok k)

-- the type whose values an interval is of, where a word or a name says it
unfoldable pub word_base : Around → TypeBase → Check (Option PlainType)
word_base a Unsaid = pure None
word_base a (OfInteger p) = pure (Some v.Integer)
word_base a (OfCardinal p) = pure (Some v.Cardinal)
word_base a (OfCharacter p) = pure (Some v.Character)
word_base a (OfName q) = type_named a q >>= (λ k. lift (ordinal_type (last_of q).place k) >>= (λ k. pure (Some k)))

abbrev pub signal_by : Place → Meaning → Checked ArmLabel
signal_by p (Signal r i) = Ok (ForSignal r i)
signal_by p _ = refuse TypeMismatch p

unfoldable pub signals : Around → List QualifiedName → Check (List ArmLabel)
signals a [] = pure []
signals a (q ∷ qs) = do
  m ← qualified a q
  l ← lift (signal_by (last_of q).place m)
  ls ← signals a qs
  pure (l ∷ ls)

unfoldable pub arm_labels : Around → Labels → Check (List ArmLabel)
arm_labels a (Any p) = pure (ForAny ∷ [])
arm_labels a (Unwind p) = pure (ForUnwind ∷ [])
arm_labels a (Signals qs) = signals a qs

-- What is declared. A name must be new in its scope; it is visible when its declaration is read whole.
abbrev pub is_declared : List ℕ → State → Bool
is_declared x s = is_some (s.coming x) || is_some (innermost s.scopes x)

abbrev pub coming : List ℕ → Meaning → State → State
coming x m s = record s { coming = with_name x m s.coming }

unfoldable pub announce : List Identifier → Check (Unit {0})
announce [] = pure tt
announce (x ∷ xs) = λ s. and_then (only (not (is_declared x.name s)) TwiceDeclared x.place) (λ _. announce xs (coming x.name Later s))

-- each name with its meaning, and all that the declaration declared is visible from here on
unfoldable pub each_means : List Identifier → List Meaning → State → State
each_means (x ∷ xs) (m ∷ ms) s = each_means xs ms (coming x.name m s)
each_means _ _ s = s

abbrev pub shown : State → State
shown s = record (with_top (over s.coming (innermost s.scopes)) s) { coming = nothing }

unfoldable pub settle : List Identifier → List Meaning → Check (Unit {0})
settle xs ms = λ s. Ok (tt, shown (each_means xs ms s))

abbrev pub at_once : List ℕ → Meaning → State → State
at_once x m s = with_top (with_name x m (innermost s.scopes)) s

abbrev pub element_in : Bool → List ℕ → Meaning → State → State
element_in true x m s = at_once x m s
element_in false x m s = coming x m s
