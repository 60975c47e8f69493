-- Parts of files: what begins at an offset, whatever follows it (rule of this project).
use Rattle.std.specs.Prelude.{◌≡◌, ◌≢◌, ℕ, ◌≤◌, List, length, drop, Result, Ok, Err, IfOk, IfErr}
use Rattle.file_forms.specs.declared.stopped.Stopped.{Stopped}
use Rattle.file_forms.specs.Files.{fault_of}
use Rattle.file_forms.specs.Forms.{Form, Spells}
use Rattle.mesa_base.specs.declared.file_fault.FileFault.{FileFault}
use Rattle.mesa_base.specs.declared.file_fault.FileFault.TheVariants.{Memory}

-- the part stands from the first offset on, and ends before the second
pub record StandsAt {A : Type 0} (f : Form A) (a : A) (bytes : List ℕ) (at after : ℕ) : Type 0 where
  pub spells : Spells f a (drop at bytes) (drop after bytes)
  pub within : after ≤ length bytes

-- no such part stands there, and this is the first reason, with its offset in all the bytes
abbrev pub FailsAt : {A : Type 0} → Form A → List ℕ → ℕ → FileFault → Type 0
FailsAt f bytes at fault = (why : Stopped) × f.breaks (drop at bytes) why × (fault ≡ fault_of (length bytes) why)

-- the result is the part that stands there with the offset behind it, exactly where one does, else the first fault; want of memory aside
pub record ReadsAt {A : Type 0} (f : Form A) (bytes : List ℕ) (at : ℕ) (result : Result (A × ℕ) FileFault) : Type 0 where
  pub found : IfOk result (λ read. StandsAt f read.0 bytes at read.1)
  pub fault : IfErr result (λ e. e ≢ Memory → FailsAt f bytes at e)
  pub only : (a : A) (after : ℕ) → StandsAt f a bytes at after → result ≢ Err Memory → result ≡ Ok (a, after)
  pub first : (e : FileFault) → FailsAt f bytes at e → result ≢ Err Memory → result ≡ Err e
