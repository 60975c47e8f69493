-- Images that have files (rule of this project).
use Rattle.std.specs.Prelude.{length, All}
use Rattle.interface_records.specs.Spelled.{InFourBytes}
use Rattle.object_files.specs.declared.image.Image.{Image}
use Rattle.object_rules.specs.ImageForms.{parts_of_image, image_form}
use Rattle.object_rules.specs.Parts.{IsWhole}

-- four bytes count what is wanted of the loader, what is offered, and the instances that are started
pub record CountsFit (i : Image) : Type 0 where
  pub wanted : InFourBytes (length i.wanted)
  pub offered : InFourBytes (length i.offered)
  pub started : InFourBytes (length i.control)

-- whole modules, and parts that files can spell, save for these counts
pub record CanBeFiled (i : Image) : Type 0 where
  pub fits : CountsFit i → (image_form 2).fits (parts_of_image i)
  pub whole : All IsWhole i.modules
