-- A body of a sound module (rule of this project): it is sound in some module, under some head.
use Rattle.std.specs.Prelude.{List}
use Rattle.mesa_types.specs.declared.types.FieldType.{FieldType}
use Rattle.mesa_types.specs.Typed.{Body, Module}
use Rattle.mesa_types.specs.Sound.{BodyIn}

abbrev pub IsSoundBody : Body → Type 0
IsSoundBody body = (m : Module) × (takes : List FieldType) × (gives : List FieldType) × BodyIn m takes gives body
