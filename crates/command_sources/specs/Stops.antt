-- The case of a fault that ends a call, and of a call that writes.
use Rattle.std.specs.Prelude.{◌≡◌, ℕ, ◌⊎◌, List, Result, Ok, Err}
use Rattle.mesa_base.specs.declared.file_fault.WriteFault.{WriteFault}
use Rattle.mesa_base.specs.declared.file_fault.WriteFault.TheVariants as write
use Rattle.config_rules.specs.declared.fault.TreeFault.{TreeFault}
use Rattle.config_rules.specs.declared.fault.TreeFault.TheVariants as tree
use Rattle.import_binder.specs.declared.fault.BindFault.{BindFault}
use Rattle.import_binder.specs.declared.fault.BindFault.TheVariants as bind
use Rattle.machine_ready.specs.declared.fault.ReadyFault.{ReadyFault}
use Rattle.machine_ready.specs.declared.fault.ReadyFault.TheVariants as ready
use Rattle.command_passes.specs.command_rules.specs.Case.{Case, Done, Refused, Memory}
use Rattle.command_passes.specs.command_rules.specs.declared.trouble.Trouble.TheVariants.{Tree, Item, Unresolved, TooLarge}
use Rattle.command_passes.specs.Stops.{stop_case}
use Rattle.command_passes.specs.declared.stop.Stop.{Stop}

-- of a configuration with this fault
abbrev pub tree_case : List ℕ → TreeFault → Case
tree_case file (tree.At cause place) = Refused file (Tree cause place)
tree_case file tree.Memory = Memory

-- of a configuration with this bad item
abbrev pub bind_case : List ℕ → BindFault → Case
bind_case file (bind.NoExporter i) = Refused file (Item (bind.NoExporter i))
bind_case file (bind.Twice i p q) = Refused file (Item (bind.Twice i p q))
bind_case file (bind.OtherInterface i p) = Refused file (Item (bind.OtherInterface i p))
bind_case file (bind.OtherStamp i s f) = Refused file (Item (bind.OtherStamp i s f))
bind_case file bind.Memory = Memory

-- of an image that is not made ready
abbrev pub ready_case : List ℕ → ReadyFault → Case
ready_case image (ready.Unresolved i) = Refused image (Unresolved i)
ready_case image ready.Memory = Memory

-- it is this case, or memory was wanting for the name of a file
abbrev pub IsOrMemory : Case → Case → Type 0
IsOrMemory expected case = (case ≡ expected) ⊎ (case ≡ Memory)

-- of a file whose bytes were not made
abbrev pub unmade_case : List ℕ → WriteFault → Case
unmade_case file write.TooLarge = Refused file TooLarge
unmade_case file write.Memory = Memory

-- of a call that writes
abbrev pub stored_case : {A : Type 0} → Result A Stop → Case
stored_case (Ok a) = Done
stored_case (Err why) = stop_case why
