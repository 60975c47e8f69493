-- What is so of the signals that may escape.
use Rattle.std.specs.Prelude.{ℕ, Bool, List}
use Rattle.object_files.specs.declared.image.Image.{Image}
use Rattle.signaller.specs.declared.signal_id.SignalId.{SignalId}
use Rattle.machine_rules.specs.declared.end.End.TheVariants.{Uncaught}
use Rattle.machine_rules.specs.Laws.{CanRun}
use Rattle.machine_rules.specs.State.{Ended}
use Rattle.machine_rules.specs.Steps.{Steps}
use Rattle.survey_rules.specs.Escapes.{Escapes}

-- a signal with which a run ends uncaught may escape
abbrev pub UncaughtSignalsEscape : Type 0
UncaughtSignalsEscape = (image : Image) → CanRun image → (input : List ℕ) (faulty : Bool) (turns : ℕ) (output : List ℕ) (signal : SignalId) (left taken count : ℕ)
    → Steps image input faulty turns output (Ended (Uncaught signal)) left taken count → Escapes image signal
