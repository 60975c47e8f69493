-- What ends a call where images that were read are not run.
use Rattle.std.specs.Prelude.{◌≡◌, ◌≢◌, ℕ, ◌⊎◌, List}
use Rattle.loader_rules.specs.declared.fault.LoadFault.{LoadFault}
use Rattle.loader_rules.specs.declared.fault.LoadFault.TheVariants as load
use Rattle.machine_ready.specs.declared.fault.ReadyFault.{ReadyFault}
use Rattle.machine_ready.specs.declared.fault.ReadyFault.TheVariants as ready
use Rattle.command_passes.specs.command_rules.specs.Case.{Case, Refused, Memory}
use Rattle.command_passes.specs.command_rules.specs.Loading.{faulty_file}
use Rattle.command_passes.specs.command_rules.specs.declared.trouble.Trouble.TheVariants.{Unresolved, Load}

-- it is this case, or memory was wanting for the name of a file
abbrev pub IsOrMemory : Case → Case → Type 0
IsOrMemory expected case = (case ≡ expected) ⊎ (case ≡ Memory)

-- of an image that is not made ready
abbrev pub ready_case : List ℕ → ReadyFault → Case
ready_case image (ready.Unresolved i) = Refused image (Unresolved i)
ready_case image ready.Memory = Memory

-- of images that are not loaded
pub data LoadEnds (bases : List (List ℕ)) (fault : LoadFault) : Case → Type 0 where
  told : fault ≢ load.Memory → LoadEnds bases fault (Refused (faulty_file bases fault) (Load fault))
  no_memory : LoadEnds bases fault Memory
