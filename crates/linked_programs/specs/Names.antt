-- The names that a machine has for the instances and the signals of a program (rule of this project).
use Rattle.std.specs.Prelude.{◌≡◌, ℕ, List, Some, option_map, slice_get}
use Rattle.mesa_types.specs.Typed.{Module}
use Rattle.mesa_types.specs.declared.faces.Item.{Item}
use Rattle.code_forms.specs.declared.module_code.CodeSignal.{CodeSignal}
use Rattle.object_files.specs.declared.image.Image.{Image}
use Rattle.object_files.specs.declared.image.Instance.{Instance}
use Rattle.signaller.specs.declared.signal_id.SignalId.TheVariants.{Own}
use Rattle.built_runs.specs.machine_rules.specs.LookUps.{signal_of}
use Rattle.source_meaning.specs.Program.{Program, instance_of, module_of}
use Rattle.built_runs.specs.frame_machine.specs.Running.{SignalIsInRange}
use Rattle.config_rules.specs.declared.tree.Tree.{Tree}
use Rattle.built_runs.specs.bound_images.specs.Programs.{program_of}
use Rattle.built_runs.specs.Linked.{IsLinkedFrom}

-- signal k of instance j: the image has the path of the program's instance, and the name of the signal in that instance's module
pub record NamesAgree (P : Program) (image : Image) (j k : ℕ) : Type 0 where
  pub path : option_map (λ (i : Instance). i.path) (slice_get image.instances j) ≡ Some (instance_of P j).path
  pub item : Item
  pub is_there : slice_get (module_of P j).signals k ≡ Some item
  pub name : option_map (λ (s : CodeSignal). s.name) (signal_of image j k) ≡ Some item.name

-- so it is for each signal of an instance that a linked image has
abbrev pub LinkedNamesAgree : Type 0
LinkedNamesAgree = (t : Tree) (modules : List Module) (image : Image) → IsLinkedFrom t modules image → (j k : ℕ) → SignalIsInRange image (Own j k)
    → NamesAgree (program_of t modules) image j k
