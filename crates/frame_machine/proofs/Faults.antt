-- How the faults of the source and of the sink are counted.
use Rattle.std.proofs.Common.{◌≡◌, ℕ, ◌≤◌, inl, inr, refl, subst, arith}
use Rattle.std.specs.Prelude.{Option, Some, None, Result, Ok, Err, IsErrOf}
use Rattle.mesa_base.specs.Outside.{Rose}
use Rattle.machine_topmost.specs.declared.registers.Registers.{Registers}
use Rattle.machine_activations.specs.declared.calling.Sequel.{Sequel}
use Rattle.frame_machine.specs.declared.outcome.RunFault.{RunFault}
use Rattle.frame_machine.specs.declared.outcome.RunFault.TheVariants.{ReadFault, WriteFault}
use Rattle.frame_machine.specs.Onward.{CountsFaults, onward_or}

pub rose_later : (old low new : ℕ) → old ≤ low → Rose low new → Rose old new
rose_later old low new l (inl less) = inl (omega (arith, l, less))
rose_later old low new l (inr full) = inr full

pub none_failed : {A : Type 0} (x : A) (read read' written written' : ℕ) → read ≤ read' → written ≤ written' → CountsFaults (Ok x) read read' written written'
none_failed {A} x read read' written written' l k = record { of_source = λ e. cc; of_sink = λ e. cc; source_stays = l; sink_stays = k }

pub source_failed : {A : Type 0} (read read' written : ℕ) → Rose read read' → read ≤ read' → CountsFaults {A = A} (Err ReadFault) read read' written written
source_failed {A} read read' written rose l = record { of_source = λ e. rose; of_sink = λ e. cc; source_stays = l; sink_stays = omega arith }

pub sink_failed : {A : Type 0} (read written written' : ℕ) → Rose written written' → written ≤ written' → CountsFaults {A = A} (Err WriteFault) read read written written'
sink_failed {A} read written written' rose l = record { of_source = λ e. cc; of_sink = λ e. rose; source_stays = omega arith; sink_stays = l }

pub err_of : {A : Type 0} (fault other : RunFault) → IsErrOf {T = A} (Err fault) other → fault ≡ other
err_of {A} fault other e = cc

-- the last call of several
pub later_failed : {A B : Type 0} (fault : RunFault) (read low read' written least written' : ℕ) → read ≤ low → written ≤ least → CountsFaults {A = A} (Err fault) low read' least written'
    → CountsFaults {A = B} (Err fault) read read' written written'
later_failed {A} {B} fault read low read' written least written' l k c = record {
  of_source = λ e. rose_later read low read' l (c.of_source (subst (λ (f : RunFault). IsErrOf {T = A} (Err fault) f) (err_of fault ReadFault e) refl));
  of_sink = λ e. rose_later written least written' k (c.of_sink (subst (λ (f : RunFault). IsErrOf {T = A} (Err fault) f) (err_of fault WriteFault e) refl));
  source_stays = let s = c.source_stays in omega (arith, l, s);
  sink_stays = let s = c.sink_stays in omega (arith, k, s);
}

-- and whatever it comes to
pub later_counted : {A : Type 0} (result : Result A RunFault) (read low read' written least written' : ℕ) → read ≤ low → written ≤ least → CountsFaults result low read' least written'
    → CountsFaults result read read' written written'
later_counted {A} result read low read' written least written' l k c = record {
  of_source = λ e. rose_later read low read' l (c.of_source e);
  of_sink = λ e. rose_later written least written' k (c.of_sink e);
  source_stays = let s = c.source_stays in omega (arith, l, s);
  sink_stays = let s = c.sink_stays in omega (arith, k, s);
}

-- where the activation goes on in its registers
pub settled_faults : (result : Result (Option Sequel) RunFault) (r : Registers) (read read' written written' : ℕ) → CountsFaults (onward_or result r) read read' written written'
    → CountsFaults result read read' written written'
settled_faults (Ok None) r read read' written written' c = none_failed None read read' written written' c.source_stays c.sink_stays
settled_faults (Ok (Some sequel)) r read read' written written' c = none_failed (Some sequel) read read' written written' c.source_stays c.sink_stays
settled_faults (Err fault) r read read' written written' c = later_failed fault read read read' written written written' (omega arith) (omega arith) c
