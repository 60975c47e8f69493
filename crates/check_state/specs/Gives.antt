-- What a function of the checker ensures: exactly the outcome of the definition, a value with the next state or the first fault
-- with its cause and place. Want of memory is free.
use Rattle.std.specs.Prelude.{◌≡◌, ◌≢◌, Result, Ok, Err}
use Rattle.check_rules.specs.Steps.{Checked, State, Fault}
use Rattle.check_rules.specs.declared.fault.Cause.TheVariants.{UnknownName}
use Rattle.check_rules.specs.declared.fault.CheckFault.{CheckFault}
use Rattle.check_rules.specs.declared.fault.CheckFault.TheVariants.{At, Memory}

-- the fault that the code tells; want of memory is none, and what stands for it here is never asked
abbrev pub fault : CheckFault → Fault
fault (At cause place) = record { cause = cause; place = place }
fault Memory = record { cause = UnknownName; place = record { token = 0; line = 1; column = 1 } }

-- of a rule that may change the state; `view` leads from the code's value to the definition's
abbrev pub Gives : {A B : Type 0} → (B → A) → Checked (A × State) → Result B CheckFault → State → Type 0
Gives view outcome (Ok b) new = outcome ≡ Ok (view b, new)
Gives view outcome (Err e) new = e ≢ Memory → outcome ≡ Err (fault e)

-- of a rule that neither reads nor changes it
abbrev pub GivesOnly : {A B : Type 0} → (B → A) → Checked A → Result B CheckFault → Type 0
GivesOnly view outcome (Ok b) = outcome ≡ Ok (view b)
GivesOnly view outcome (Err e) = e ≢ Memory → outcome ≡ Err (fault e)
