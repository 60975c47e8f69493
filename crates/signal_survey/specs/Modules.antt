-- What is taken of a module.
use Rattle.std.specs.Prelude.{List}
use Rattle.std.specs.List.{AllZip}
use Rattle.code_forms.specs.Valid.{Valid}
use Rattle.object_files.specs.declared.object.Object.{Object}
use Rattle.survey_code.specs.declared.surveyed.Surveyed.{Surveyed}
use Rattle.survey_code.specs.Sites.{IsSurveyed}

-- its code is valid, and each of its procedures was surveyed
pub record IsModuleSurveyed (o : Object) (surveys : List Surveyed) : Type 0 where
  pub valid : Valid o.code
  pub each : AllZip (IsSurveyed o.code) o.code.procedures surveys
