-- A statement whose operands are counted, from its start to its end.
use Rattle.std.proofs.Common.{◌≡◌, ℕ, ◌+◌, Bool, true, false, Ok, Err, refl, ◌∙◌}
use Rattle.std.specs.Prelude.{nat_le}
use Rattle.mesa_base.specs.declared.limits.TheConstants.{OPERAND_WORDS}
use Rattle.mesa_base.specs.declared.place.Place.{Place}
use Rattle.check_rules.specs.Typed as t
use Rattle.check_rules.specs.Around.{Around, in_statement}
use Rattle.check_rules.specs.Statements.{numbered, whole}
use Rattle.check_rules.specs.Steps.{Check, Checked, State, and_then, ◌>>=◌, pure, ensure, only, within_operands}
use Rattle.check_rules.specs.declared.fault.Cause.TheVariants.{FrameTooLarge}
use Rattle.check_simple_statements.specs.Whole.{counted, counting, from_start}

-- at the end of what is counted, whose words are few or not
abbrev after_all : {A : Type 0} → ℕ → Place → ℕ → A × State → Checked (A × State)
after_all before p outside r = and_then (counted before p outside r.1) (λ u. Ok (r.0, u.1))

abbrev measured_at : {A : Type 0} → ℕ → A × State → Checked ((A × ℕ) × State)
measured_at outside r = Ok ((r.0, r.1.operands), record r.1 { operands = outside })

abbrev judged : {A : Type 0} → ℕ → Place → (A × ℕ) × State → Checked (A × State)
judged before p r = (ensure (nat_le (before + r.0.1) OPERAND_WORDS) FrameTooLarge p >>= (λ _. pure r.0.0)) r.1

abbrev at : State → Unit {0} → Checked (Unit {0} × State)
at σ u = Ok (u, σ)

abbrev nothing_at : State → Unit {0} → Checked (Unit {0} × State)
nothing_at σ u = Ok (tt, σ)

abbrev kept : {A : Type 0} → A → Unit {0} × State → Checked (A × State)
kept x u = Ok (x, u.1)

few_or_not : {A : Type 0} (b : Bool) (p : Place) (x : A) (σ : State)
    → and_then (and_then (only b FrameTooLarge p) (at σ)) (kept x) ≡ and_then (and_then (only b FrameTooLarge p) (nothing_at σ)) (kept x)
few_or_not true p x σ = refl
few_or_not false p x σ = refl

ends : {A : Type 0} (before : ℕ) (p : Place) (outside : ℕ) (o : Checked (A × State))
    → and_then (and_then o (measured_at outside)) (judged before p) ≡ and_then o (after_all before p outside)
ends before p outside (Ok r) = few_or_not (nat_le (before + r.1.operands) OPERAND_WORDS) p r.0 (record r.1 { operands = outside })
ends before p outside (Err e) = refl

pub within_is : {A : Type 0} (before : ℕ) (p : Place) (m : Check A) → within_operands before p m ≡ counting before p m
within_is before p m = λ i σ. ends before p σ.operands (m (record σ { operands = 0 })) i

abbrev marked_at : ℕ → t.Stmt × State → Checked (t.Stmt × State)
marked_at n r = Ok (t.Marked n r.0, r.1)

mark_then : {B : Type 0} (n : ℕ) (o : Checked (t.Stmt × State)) (f : t.Stmt × State → Checked B)
    → and_then (and_then o (marked_at n)) f ≡ and_then o (λ r. f (t.Marked n r.0, r.1))
mark_then n (Ok r) f = refl
mark_then n (Err e) f = refl

counting_is : (a : Around) (before : ℕ) (p : Place) (b : Bool) (rule : Around → Check t.Stmt) → counting before p (numbered a b rule) ≡ from_start a b before p rule
counting_is a before p true rule = λ i σ. mark_then a.marked (rule (in_statement a) (record σ { operands = 0 })) (after_all before p σ.operands) i
counting_is a before p false rule = refl

-- a statement or declaration for which words were counted before
pub numbered_is : (a : Around) (before : ℕ) (p : Place) (b : Bool) (rule : Around → Check t.Stmt)
    → within_operands before p (numbered a b rule) ≡ from_start a b before p rule
numbered_is a before p b rule = within_is before p (numbered a b rule) ∙ counting_is a before p b rule

pub whole_is : (a : Around) (p : Place) (b : Bool) (rule : Around → Check t.Stmt) → whole a p b rule ≡ from_start a b 0 p rule
whole_is a p b rule = numbered_is a 0 p b rule
