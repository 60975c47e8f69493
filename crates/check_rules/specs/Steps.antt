-- The steps that every rule is made of: a rule gives a value or the first fault, and may change the state of checking.
use Rattle.std.specs.Prelude.{ℕ, ◌+◌, Bool, Option, Some, None, Result, Ok, Err, List, ◌∷◌, if◌then◌else◌, nat_le}
use Rattle.mesa_base.specs.declared.limits.TheConstants.{OPERAND_WORDS}
use Rattle.mesa_base.specs.declared.place.Place.{Place}
use Rattle.check_rules.specs.Typed as t
use Rattle.check_rules.specs.Scopes.{Scope, nothing, outer, innermost}
use Rattle.check_rules.specs.Meanings.{Meaning}
use Rattle.check_rules.specs.declared.fault.Cause.{Cause}
use Rattle.check_rules.specs.declared.fault.Cause.TheVariants.{FrameTooLarge}

pub record State : Type 0 where
  -- the scopes around a place, the innermost first
  pub scopes : List (Scope Meaning)
  -- what the declaration in hand declares, which is not visible yet
  pub coming : Scope Meaning
  -- for each import, which of its items the text names
  pub used : List (List Bool)
  pub globals : t.Kinds
  -- the variables of the procedure's blocks and arms so far, and its hidden words
  pub variables : t.Kinds
  pub hidden : ℕ
  -- the words of the operands of the statement in hand
  pub operands : ℕ

-- what is wrong, and where
pub record Fault : Type 0 where
  pub cause : Cause
  pub place : Place

abbrev pub Checked : Type 0 → Type 0
Checked A = Result A Fault

abbrev pub and_then : {A B : Type 0} → Checked A → (A → Checked B) → Checked B
and_then (Ok a) f = f a
and_then (Err e) f = Err e

-- what checking does to a state: a value and the next state, or the first fault
abbrev pub Check : Type 0 → Type 0
Check A = State → Checked (A × State)

infixl 10 ◌>>=◌
abbrev pub ◌>>=◌ : {A B : Type 0} → Check A → (A → Check B) → Check B
p >>= f = λ s. and_then (p s) (λ r. f r.0 r.1)

abbrev pub pure : {A : Type 0} → A → Check A
pure a = λ s. Ok (a, s)

abbrev pub fail : {A : Type 0} → Cause → Place → Check A
fail cause place = λ s. Err (record { cause = cause; place = place })

-- a step that neither reads nor changes the state
abbrev pub lift : {A : Type 0} → Checked A → Check A
lift r = λ s. and_then r (λ a. Ok (a, s))

abbrev pub refuse : {A : Type 0} → Cause → Place → Checked A
refuse cause place = Err (record { cause = cause; place = place })

abbrev pub or_refuse : {A : Type 0} → Option A → Cause → Place → Checked A
or_refuse (Some a) cause place = Ok a
or_refuse None cause place = refuse cause place

-- only where the test holds
abbrev pub only : Bool → Cause → Place → Checked (Unit {0})
only holds cause place = if holds then Ok tt else refuse cause place

abbrev pub ensure : Bool → Cause → Place → Check (Unit {0})
ensure holds cause place = lift (only holds cause place)

-- so many words of operands more
abbrev pub spend : ℕ → Check (Unit {0})
spend n = λ s. Ok (tt, record s { operands = s.operands + n })

abbrev pub hide : ℕ → Check (Unit {0})
hide n = λ s. Ok (tt, record s { hidden = s.hidden + n })

-- the innermost scope as it is now
abbrev pub top : Check (Scope Meaning)
top = λ s. Ok (innermost s.scopes, s)

abbrev pub back : {A : Type 0} → State → A × State → Checked (A × State)
back s r = Ok (r.0, record r.1 { scopes = outer r.1.scopes; coming = s.coming })

-- in a scope of its own
abbrev pub in_scope : {A : Type 0} → Scope Meaning → Check A → Check A
in_scope scope p = λ s. and_then (p (record s { scopes = scope ∷ s.scopes; coming = nothing })) (back s)

abbrev pub with_top : Scope Meaning → State → State
with_top scope s = record s { scopes = scope ∷ outer s.scopes }

-- where the innermost scope is as it was before
abbrev pub seeing : {A : Type 0} → Scope Meaning → Check A → Check A
seeing scope p = λ s. and_then (p (with_top scope s)) (λ r. Ok (r.0, with_top (innermost s.scopes) r.1))

-- the words of the operands of a part, which do not count for what stands around
abbrev pub measured : {A : Type 0} → Check A → Check (A × ℕ)
measured p = λ s. and_then (p (record s { operands = 0 })) (λ r. Ok ((r.0, r.1.operands), record r.1 { operands = s.operands }))

-- the words of a statement's operands are limited (rule of this project)
abbrev pub within_operands : {A : Type 0} → ℕ → Place → Check A → Check A
within_operands before place p = measured p >>= (λ r. ensure (nat_le (before + r.1) OPERAND_WORDS) FrameTooLarge place >>= (λ _. pure r.0))
