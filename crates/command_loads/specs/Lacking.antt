-- What the host has not of what several images want of the built-in interface.
use Rattle.std.specs.Prelude.{◌≡◌, ℕ, true, List, take, filter, All, Option, Some, None, slice_get}
use Rattle.interface_records.specs.Hosts.{IsHostItem}
use Rattle.interface_records.specs.declared.wanted.Wanted.{Wanted as Entry}
use Rattle.interface_records.specs.declared.wanted.WantedItem.{WantedItem}
use Rattle.machine_ready.specs.Hosts.{IsFirstUnresolved}
use Rattle.object_files.specs.declared.image.Image.{Image}
use Rattle.loader_rules.specs.Wanted.{is_built_in}
use Rattle.command_passes.specs.command_rules.specs.Case.{Case, Refused, Memory}
use Rattle.command_passes.specs.command_rules.specs.Forms.{image_file}
use Rattle.command_passes.specs.command_rules.specs.declared.trouble.Trouble.TheVariants.{Unresolved}
use Rattle.command_loads.specs.declared.lacking.Lack.{Lack}

-- the host has the item where it is of the built-in interface
abbrev pub IsHad : Entry → Type 0
IsHad e = is_built_in e.face ≡ true → IsHostItem e

-- those of the built-in interface
abbrev pub built_in_of : List Entry → List Entry
built_in_of wanted = filter (λ (e : Entry). is_built_in e.face) wanted

-- the first that the host has not, or it has all
abbrev pub LacksAmong : List Entry → Option WantedItem → Type 0
LacksAmong wanted None = All IsHostItem wanted
LacksAmong wanted (Some item) = IsFirstUnresolved wanted item

-- the host has what an image wants of it
abbrev pub HasFor : Image → Type 0
HasFor i = All IsHostItem (built_in_of i.wanted)

-- the first image for which the host lacks something, and the first such item of it
pub record IsFirstLack (images : List Image) (lack : Lack) : Type 0 where
  pub image : Image
  pub is : slice_get images lack.number ≡ Some image
  pub before : All HasFor (take lack.number images)
  pub lacks : IsFirstUnresolved (built_in_of image.wanted) lack.item

abbrev pub FindsLack : List Image → Option Lack → Type 0
FindsLack images None = All HasFor images
FindsLack images (Some lack) = IsFirstLack images lack

-- what ends a call for it
pub data LackEnds (bases : List (List ℕ)) (lack : Lack) : Case → Type 0 where
  told : (base : List ℕ) → slice_get bases lack.number ≡ Some base → LackEnds bases lack (Refused (image_file base) (Unresolved lack.item))
  no_memory : LackEnds bases lack Memory
