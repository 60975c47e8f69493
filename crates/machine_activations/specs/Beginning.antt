-- The code with which a run may begin (rule of this project).
use Rattle.std.specs.Prelude.{◌≡◌, ℕ, Some}
use Rattle.code_forms.specs.declared.module_code.ModuleCode.{ModuleCode}
use Rattle.object_files.specs.declared.image.Image.{Image}
use Rattle.machine_rules.specs.LookUps.{code_of}
use Rattle.machine_activations.specs.declared.row.Layout.{Layout}
use Rattle.machine_activations.specs.Shows.{IsPrepared}

-- it is the code of an instance of an image for which the layout has room
pub record IsCodeFor (layout : Layout) (code : ModuleCode) : Type 0 where
  pub image : Image
  pub prepared : IsPrepared image layout
  pub instance : ℕ
  pub is : code_of image instance ≡ Some code
