-- A program of which nothing is written yet: its files and the machine that is ready to run its image; or why it is not made.
use Rattle.std.specs.Prelude.{◌≡◌, ℕ, List, [], ◌∷◌, ◌++◌, All}
use Rattle.std.specs.List.{AllZip}
use Rattle.interface_records.specs.declared.wanted.WantedItem.{WantedItem}
use Rattle.machine_ready.specs.Hosts.{IsFirstUnresolved}
use Rattle.object_files.specs.declared.image.Image.{Image}
use Rattle.object_files.specs.declared.object.Object.{Object}
use Rattle.object_rules.specs.ImageFiles.{IsImageFile}
use Rattle.object_rules.specs.ObjectFiles.{IsObjectFile}
use Rattle.link_tables.specs.Linked.{image_of}
use Rattle.linked_objects.specs.linked_programs.specs.Objects.{AreObjectsOf}
use Rattle.linked_objects.specs.linked_programs.specs.Programs.{IsMachineOf}
use Rattle.command_passes.specs.command_rules.specs.Case.{Case, Refused, Memory}
use Rattle.command_passes.specs.command_rules.specs.declared.trouble.Trouble.TheVariants.{Unresolved, TooLarge}
use Rattle.command_passes.specs.command_rules.specs.Comes.{each_holding}
use Rattle.command_passes.specs.command_rules.specs.Configurations.{Configured, left_to_loader}
use Rattle.command_passes.specs.command_rules.specs.Forms.{image_file}
use Rattle.command_passes.specs.command_rules.specs.Writing.{Target, holding, OfImage, IsSmall, IsFirstTooLarge}
use Rattle.command_sources.specs.declared.making.MadeProgram.{MadeProgram}

-- the image that is linked from these objects
abbrev pub linked_from : Configured → List Object → Image
linked_from c objects = image_of c.tree objects

-- the files of the objects, and that of the image
abbrev pub targets_for : (base : List ℕ) → Configured → List Object → List Target
targets_for base c objects = each_holding c.bases objects ++ holding (image_file base) (OfImage (linked_from c objects)) ∷ []

pub record IsMadeOf (c : Configured) (base : List ℕ) (p : MadeProgram) : Type 0 where
  pub objects : List Object
  pub their : AreObjectsOf c.modules objects
  pub small : All IsSmall (targets_for base c objects)
  pub files : AllZip (IsObjectFile 2) objects p.objects
  pub image_file : IsImageFile 2 (linked_from c objects) p.image_file
  pub same : p.machine ≡ linked_from c objects
  pub machine : IsMachineOf c.tree c.modules p.machine

-- why it is not made: a file is too large, the first of them; or none is, and the host has not what is left to the loader
pub data Unmade (c : Configured) (base : List ℕ) : Case → Type 0 where
  too_large : (objects : List Object) (file : List ℕ) → AreObjectsOf c.modules objects → IsFirstTooLarge (targets_for base c objects) file
      → Unmade c base (Refused file TooLarge)
  unresolved : (objects : List Object) (i : WantedItem) → AreObjectsOf c.modules objects → All IsSmall (targets_for base c objects)
      → IsFirstUnresolved (left_to_loader c) i → Unmade c base (Refused (image_file base) (Unresolved i))
  no_memory : Unmade c base Memory
