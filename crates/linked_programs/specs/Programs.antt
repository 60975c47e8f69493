-- The machine of a configuration, and why it is not bound (rule of this project).
use Rattle.std.specs.Prelude.{◌≡◌, List, All, Some}
use Rattle.mesa_types.specs.Typed.{Module}
use Rattle.object_files.specs.declared.image.Image.{Image}
use Rattle.built_runs.specs.agreement_rules.specs.Stands.{WantsTheHost}
use Rattle.config_rules.specs.Resolves.{Want, wants, first_bad}
use Rattle.config_rules.specs.declared.tree.Tree.{Tree}
use Rattle.built_runs.specs.import_binder.specs.Bindings.{fault_of}
use Rattle.built_runs.specs.import_binder.specs.declared.fault.BindFault.{BindFault}
use Rattle.interface_records.specs.Hosts.{IsHostItem}
use Rattle.built_runs.specs.link_tables.specs.Linked.{wanted_of}
use Rattle.built_runs.specs.Linked.{IsLinkedFrom}

-- the machine is ready for the image that is linked from the tree, and what is left to the loader is the host's
pub record IsMachineOf (t : Tree) (modules : List Module) (machine : Image) : Type 0 where
  pub linked : IsLinkedFrom t modules machine
  pub host : WantsTheHost machine
  pub wanted : All IsHostItem (wanted_of (wants t))

-- the fault of the tree's first bad item
pub record IsOfFirstBad (t : Tree) (fault : BindFault) : Type 0 where
  pub want : Want
  pub first : first_bad (wants t) ≡ Some want
  pub its : fault ≡ fault_of t want
