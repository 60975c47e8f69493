-- The objects of modules (rule of this project).
use Rattle.std.specs.Prelude.{◌≡◌, ℕ, List, length, Some, slice_get}
use Rattle.mesa_types.specs.Typed.{Module}
use Rattle.object_files.specs.declared.object.Object.{Object}
use Rattle.built_runs.specs.bound_images.specs.Built.{ObjectOf}
use Rattle.frame_code.specs.Code.{IsCodeOf}

-- the module's shape, and the code that is chosen for it
pub record IsObjectOf (m : Module) (o : Object) : Type 0 where
  pub object : ObjectOf m o
  pub chosen : IsCodeOf m o.code

-- one for each module, in order
pub record AreObjectsOf (modules : List Module) (all : List Object) : Type 0 where
  pub as_many : length all ≡ length modules
  pub each : (c : ℕ) (m : Module) (o : Object) → slice_get modules c ≡ Some m → slice_get all c ≡ Some o → IsObjectOf m o
