-- Which signals an image has.
use Rattle.std.specs.Prelude.{◌≡◌, ℕ, Some}
use Rattle.code_forms.specs.declared.module_code.CodeSignal.{CodeSignal}
use Rattle.code_forms.specs.declared.module_code.ModuleCode.{ModuleCode}
use Rattle.code_forms.specs.Valid.{Valid}
use Rattle.object_files.specs.declared.image.Image.{Image}
use Rattle.signaller.specs.declared.signal_id.SignalId.{SignalId}
use Rattle.signaller.specs.declared.signal_id.SignalId.TheVariants.{Own}
use Rattle.machine_rules.specs.LookUps.{code_of, signal_of}

-- the predeclared ones, and those of its instances
abbrev pub HasSignal : Image → SignalId → Type 0
HasSignal image (Own j k) = (entry : CodeSignal) × (signal_of image j k ≡ Some entry)
HasSignal image _ = Unit {0}

-- the code of each instance is valid
abbrev pub AreValid : Image → Type 0
AreValid image = (j : ℕ) (m : ModuleCode) → code_of image j ≡ Some m → Valid m
