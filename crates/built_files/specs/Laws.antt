-- Which objects have files (rule of this project).
use Rattle.std.specs.Prelude.{◌≡◌}
use Rattle.mesa_types.specs.Sound.{Sound}
use Rattle.mesa_types.specs.Typed.{Module}
use Rattle.check_rules.specs.Laws.{NamedThroughout, shape_of}
use Rattle.interface_records.specs.Spelled.{ShapeCanBeSpelled}
use Rattle.code_forms.specs.Ranges.{KeepsRanges}
use Rattle.code_forms.specs.Valid.{Valid}
use Rattle.code_rules.specs.Modules.{CodeFor}
use Rattle.object_files.specs.declared.object.Object.{Object}
use Rattle.object_rules.specs.ModuleForms.{module_form}
use Rattle.object_rules.specs.Parts.{parts_of, IsWhole}
use Rattle.built_files.specs.Objects.{CodeCanBeSpelled, NumbersInBytes, TextsOfBytes}

-- the form of objects in version 2 fits an object whose shape and code can be spelled
abbrev pub SpelledObjectsFit : Type 0
SpelledObjectsFit = (o : Object) → ShapeCanBeSpelled o.shape → CodeCanBeSpelled o → (module_form 2).fits (parts_of o)

-- an object of a sound module: the module's shape, and code that stands for it, within what the type of an object says of its code
pub record IsObjectOf (m : Module) (o : Object) : Type 0 where
  pub shape : o.shape ≡ shape_of m
  pub code : CodeFor m o.code
  pub ranges : KeepsRanges o.code.global_words o.code.signals o.code.strings o.code.links o.code.procedures
  pub numbers : NumbersInBytes o.code
  pub texts : TextsOfBytes o.code.strings
  pub valid : Valid o.code

-- the form of objects in version 2 fits an object of a checked module
abbrev pub ObjectsOfModulesFit : Type 0
ObjectsOfModulesFit = (m : Module) (o : Object) → Sound m → NamedThroughout m → ShapeCanBeSpelled o.shape → IsObjectOf m o
    → (module_form 2).fits (parts_of o)

-- and it is whole
abbrev pub ObjectsOfModulesAreWhole : Type 0
ObjectsOfModulesAreWhole = (m : Module) (o : Object) → IsObjectOf m o → IsWhole o
