-- How often the source was asked.
use Rattle.std.proofs.Common.{◌≡◌, ℕ, ◌≤◌, List, refl, sym, subst, arith}
use Rattle.std.specs.Prelude.{Option, Some, None, Result, Ok, Err}
use Rattle.mesa_base.specs.Asked.{Asked, AskedOnce}
use Rattle.machine_topmost.specs.declared.registers.Registers.{Registers}
use Rattle.machine_activations.specs.declared.calling.Sequel.{Sequel}
use Rattle.machine_calls.specs.declared.ahead.Coming.{Coming}
use Rattle.machine_calls.specs.declared.ahead.Coming.TheVariants.{Byte, End}
use Rattle.machine_calls.specs.Hosting.{AsksOn, vain_by}
use Rattle.frame_machine.specs.declared.outcome.RunFault.{RunFault}
use Rattle.frame_machine.specs.declared.outcome.RunFault.TheVariants.{ReadFault, WriteFault}
use Rattle.frame_machine.specs.Onward.{onward_or, vain_of, vain_then}

-- it is asked no more
pub asks_not : (ahead : Option Coming) (left : Option (List ℕ)) (calls : ℕ) → AsksOn ahead left left calls calls (vain_by ahead)
asks_not ahead left calls told first so_far = so_far

pub asks_vainly : (ahead : Option Coming) (left : Option (List ℕ)) (calls vain : ℕ) → vain ≡ vain_by ahead → AsksOn ahead left left calls calls vain
asks_vainly ahead left calls vain is told first so_far = subst (λ n. Asked told left first calls n) (sym is) so_far

-- the last call of several
pub asks_later : (ahead between : Option Coming) (left low left' : Option (List ℕ)) (calls least calls' vain : ℕ) → AsksOn ahead left low calls least (vain_by between)
    → AsksOn between low left' least calls' vain → AsksOn ahead left left' calls calls' vain
asks_later ahead between left low left' calls least calls' vain a b told first so_far = b told first (a told first so_far)

vain_settled : (result : Result (Option Sequel) RunFault) (r : Registers) (ahead : Option Coming) → vain_then (onward_or result r) ahead ≡ vain_then result ahead
vain_settled (Ok None) r ahead = refl
vain_settled (Ok (Some sequel)) r ahead = refl
vain_settled (Err fault) r ahead = refl

-- where the activation goes on in its registers
pub asks_settled : (result : Result (Option Sequel) RunFault) (r : Registers) (ahead ahead' : Option Coming) (left left' : Option (List ℕ)) (calls calls' : ℕ)
    → AsksOn ahead left left' calls calls' (vain_then (onward_or result r) ahead') → AsksOn ahead left left' calls calls' (vain_then result ahead')
asks_settled result r ahead ahead' left left' calls calls' a = subst (λ n. AsksOn ahead left left' calls calls' n) (vain_settled result r ahead') a

pub vain_few : (ahead : Option Coming) → vain_by ahead ≤ 1
vain_few None = omega arith
vain_few (Some (Byte b)) = omega arith
vain_few (Some End) = omega arith

pub vain_few_of : (fault : RunFault) (ahead : Option Coming) → vain_of fault ahead ≤ 1
vain_few_of ReadFault ahead = omega arith
vain_few_of WriteFault ahead = vain_few ahead

-- of a run
pub asked_once : (between : Option Coming) (told low left : Option (List ℕ)) (first least calls vain : ℕ) → Asked told low first least (vain_by between)
    → AsksOn between low left least calls vain → vain ≤ 1 → AskedOnce told left first calls
asked_once between told low left first least calls vain so_far a few = (vain, few, a told first so_far)
