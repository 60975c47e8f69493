-- Images with more of something than four bytes count are too large for a file (rule of this project).
use Rattle.std.specs.Prelude.{ℕ, ◌^◌, ◌<◌, ◌≤◌, length}
use Rattle.mesa_base.specs.declared.limits.TheConstants.{FILE_BYTES}
use Rattle.object_files.specs.declared.image.Image.{Image}
use Rattle.object_writers.specs.ObjectBytes.{image_file}

-- of what is wanted of the loader, of what is offered, and of the instances that are started
pub record LargeCountsAreLargeFiles : Type 0 where
  pub wanted : (i : Image) → 2 ^ 32 ≤ length i.wanted → FILE_BYTES < length (image_file i)
  pub offered : (i : Image) → 2 ^ 32 ≤ length i.offered → FILE_BYTES < length (image_file i)
  pub started : (i : Image) → 2 ^ 32 ≤ length i.control → FILE_BYTES < length (image_file i)
