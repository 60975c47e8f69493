-- What a run finds at its beginning (rule of this project).
use Rattle.std.specs.Prelude.{◌≡◌, ℕ, List, length, false, Some, IsSomeAnd, slice_get}
use Rattle.std.specs.declared.vec.Vec.{Vec}
use Rattle.object_files.specs.declared.image.Image.{Image}
use Rattle.machine_rules.specs.LookUps.{code_of}
use Rattle.machine_rules.specs.Steps.{globals_in}
use Rattle.machine_rules.specs.Words.{zeros}
use Rattle.machine_calls.specs.Started.{ShowsStarted}
use Rattle.machine_ready.specs.declared.prepared.Prepared.{Prepared}
use Rattle.machine_ready.specs.Ready.{IsReady}
use Rattle.frame_machine.specs.SoFar.{ShowsGlobals}

-- all words of each are zero, as many as they were
abbrev pub AreZero : {Z : Type 0} → (old new : List (Vec ℕ Z)) → Type 0
AreZero {Z} old new = (j : ℕ) (words : Vec ℕ Z) → slice_get old j ≡ Some words → IsSomeAnd (slice_get new j) (λ (w : Vec ℕ Z). w.items ≡ zeros (length words.items))

-- it is ready, all globals are zero, and nothing is started
pub record IsCleared (image : Image) (p : Prepared) : Type 0 where
  pub ready : IsReady image p
  pub zero : ShowsGlobals p (λ j. zeros (globals_in (code_of image j)))
  pub none : ShowsStarted p.started.items (λ j. false)
