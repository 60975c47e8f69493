-- What a promise says where it is known whether the call gave a value.
use Rattle.std.proofs.Common.{◌≡◌, ◌≢◌, Result, Ok, Err, [], subst, ap}
use Rattle.std.specs.Prelude.{OnOk, IfOk, is_some}
use Rattle.check_declared.specs.Naming.{HasNames}
use Rattle.check_scopes.specs.Scopes.{Scope, has, nothing}
use Rattle.check_scopes.specs.Shows.{means}
use Rattle.check_scopes.specs.declared.names.Names.{Names}
use Rattle.check_rules.specs.Steps.{Checked, State}
use Rattle.check_rules.specs.declared.fault.CheckFault.{CheckFault}
use Rattle.check_rules.specs.declared.fault.CheckFault.TheVariants.{Memory}
use Rattle.check_state.specs.Gives.{Gives, GivesOnly, fault}

module _ {A B : Type 0} (view : B → A) where
  pub given : (outcome : Checked (A × State)) (r : Result B CheckFault) (new : State) (b : B) → Gives view outcome r new → r ≡ Ok b → outcome ≡ Ok (view b, new)
  given outcome r new b told is = subst (λ r. Gives view outcome r new) is told

  pub refused : (outcome : Checked (A × State)) (r : Result B CheckFault) (new : State) (e : CheckFault) → Gives view outcome r new → r ≡ Err e → e ≢ Memory → outcome ≡ Err (fault e)
  refused outcome r new e told is = subst (λ r. Gives view outcome r new) is told

  pub given_only : (outcome : Checked A) (r : Result B CheckFault) (b : B) → GivesOnly view outcome r → r ≡ Ok b → outcome ≡ Ok (view b)
  given_only outcome r b told is = subst (λ r. GivesOnly view outcome r) is told

  pub refused_only : (outcome : Checked A) (r : Result B CheckFault) (e : CheckFault) → GivesOnly view outcome r → r ≡ Err e → e ≢ Memory → outcome ≡ Err (fault e)
  refused_only outcome r e told is = subst (λ r. GivesOnly view outcome r) is told

pub on_ok : {B E : Type 0} {P : Type 0} (r : Result B E) (b : B) → OnOk r P → r ≡ Ok b → P
on_ok {B} {E} {P} r b told is = subst (λ r. OnOk r P) is told

pub if_ok : {B E : Type 0} (P : B → Type 0) (r : Result B E) (b : B) → IfOk r P → r ≡ Ok b → P b
if_ok P r b told is = subst (λ r. IfOk r P) is told

pub has_none : {T : Type 0} (index : Names T) → means index ≡ nothing → HasNames index []
unfolding has
has_none {T} index is = λ x. ap (λ (scope : Scope T). is_some (scope x)) is
