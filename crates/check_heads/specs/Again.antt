-- Declarations that are tried again, and those that stand behind them.
use Rattle.std.specs.Prelude.{ℕ, Bool, true, false, List, [], ◌∷◌, Ok, Err}
use Rattle.mesa_base.specs.declared.identifier.Identifier.{Identifier}
use Rattle.check_rules.specs.Around.{Around}
use Rattle.check_rules.specs.Meanings.{Meaning, Procedure, Signal}
use Rattle.check_rules.specs.Programs.{head_alone, heads_further, next_or, passed_over}
use Rattle.check_rules.specs.Scopes.{Scope, innermost, with_name}
use Rattle.check_rules.specs.Steps.{State, Check, Checked, ◌>>=◌, and_then, pure}

-- the step without its value
abbrev pub dropped : {A : Type 0} → Check A → Check (Unit {0})
dropped m = m >>= (λ _. pure tt)

abbrev pub is_fault : {A : Type 0} → Checked A → Bool
is_fault (Ok r) = false
is_fault (Err e) = true

-- after this one, which is passed over if it has a fault
abbrev pub next : {D A : Type 0} → (D → List Identifier) → (D → Check A) → D → State → State
next names rule d s = next_or (passed_over (names d) s) (rule d s)

-- after each of these, none of which has a fault
unfoldable pub after : {D A : Type 0} → (D → Check A) → List D → State → State
after rule [] s = s
after rule (d ∷ ds) s = after rule ds (next_or s (rule d s))

-- the heads alone among these names
abbrev pub heads_among : Scope Meaning → Scope Meaning
heads_among scope x = head_alone (scope x)

-- these heads and this name, if it is a head's
abbrev pub and_head : List ℕ → Meaning → Scope Meaning → Scope Meaning
and_head x (Procedure c i) heads = with_name x (Procedure c i) heads
and_head x (Signal r i) heads = with_name x (Signal r i) heads
and_head x m heads = heads

-- those of the innermost scope
abbrev pub heads_in : State → Scope Meaning
heads_in s = heads_among (innermost s.scopes)

-- the outcome of a second try, by the heads that stand further on
abbrev pub retried : {D A : Type 0} → (D → List Identifier) → (Around → D → Check A) → Around → D → List D → Check A
retried names rule a d ds = λ now. rule (record a { further = heads_further names (rule a) (names d) ds now }) d now

abbrev pub outcome_alone : {A : Type 0} → Checked A → Checked (Unit {0})
outcome_alone m = and_then m (λ _. Ok tt)
