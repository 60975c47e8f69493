-- The source is asked for what comes.
use Rattle.std.proofs.Common.{◌≡◌, ℕ, List, refl, subst}
use Rattle.std.specs.Prelude.{Option, Some, None, IfSome}
use Rattle.mesa_base.specs.Outside.{raised, Takes}
use Rattle.mesa_base.specs.Asked.{Asked}
use Rattle.mesa_base.proofs.Asked.{asked_byte, asked_end, asked_failing}
use Rattle.machine_calls.specs.declared.ahead.Coming.{Coming}
use Rattle.machine_calls.specs.declared.ahead.Coming.TheVariants.{Byte, End}
use Rattle.machine_calls.specs.declared.host.Reading.{Reading}
use Rattle.machine_calls.specs.declared.host.Reading.TheVariants.{Next, AtEnd}
use Rattle.machine_calls.specs.Hosting.{AsksOn, vain_by, known_after}

-- what is known is not asked
pub asks_known : (ahead : Option Coming) (coming : Coming) (left : Option (List ℕ)) (calls : ℕ) → ahead ≡ Some coming → AsksOn ahead left left calls calls (vain_by (Some coming))
asks_known ahead coming left calls is told first so_far = subst (λ a. Asked told left first calls (vain_by a)) is so_far

pub asks_byte : (ahead : Option Coming) (byte : ℕ) (left left' : Option (List ℕ)) (calls calls' : ℕ) → ahead ≡ None → calls' ≡ raised calls
    → IfSome left (λ bytes. Takes bytes (Some byte) left') → AsksOn ahead left left' calls calls' 0
asks_byte ahead byte left left' calls calls' none more took told first so_far =
    asked_byte told left left' first calls calls' byte (subst (λ a. Asked told left first calls (vain_by a)) none so_far) more took

pub asks_end : (ahead : Option Coming) (left left' : Option (List ℕ)) (calls calls' : ℕ) → ahead ≡ None → calls' ≡ raised calls
    → IfSome left (λ bytes. Takes bytes None left') → AsksOn ahead left left' calls calls' 1
asks_end ahead left left' calls calls' none more took told first so_far =
    asked_end told left left' first calls calls' (subst (λ a. Asked told left first calls (vain_by a)) none so_far) more took

pub asks_failing : (ahead : Option Coming) (left left' : Option (List ℕ)) (calls calls' : ℕ) → ahead ≡ None → calls' ≡ raised calls
    → left' ≡ left → AsksOn ahead left left' calls calls' 1
asks_failing ahead left left' calls calls' none more kept told first so_far =
    asked_failing told left left' first calls calls' (subst (λ a. Asked told left first calls (vain_by a)) none so_far) more kept

-- a byte that is read or looked at was not given in vain
pub vain_after : (reading : Reading) (coming : Coming) → vain_by (Some coming) ≡ vain_by (known_after reading coming)
vain_after Next (Byte b) = refl
vain_after Next End = refl
vain_after AtEnd coming = refl
