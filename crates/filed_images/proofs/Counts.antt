-- The counts of an image of which its form asks that four bytes hold them.
use Rattle.std.proofs.Common.{◌<◌, ◌≤◌, length, arith}
use Rattle.object_files.specs.declared.image.Image.{Image}
use Rattle.large_images.specs.object_writers.specs.ObjectBytes.{image_file}
use Rattle.large_images.proofs.Lengths.{large_counts_are_large_files}
use Rattle.filed_images.specs.Files.{IsTooLarge}
use Rattle.filed_images.specs.Images.{CountsFit}

pub counts : (i : Image) → length i.wanted ≤ 4294967295 → length i.offered ≤ 4294967295 → length i.control ≤ 4294967295 → CountsFit i
counts i a b c = record { wanted = omega (arith, a); offered = omega (arith, b); started = omega (arith, c) }

pub wanted_large : (i : Image) → 4294967295 < length i.wanted → IsTooLarge (image_file i)
wanted_large i more = large_counts_are_large_files.wanted i (let over : 4294967296 ≤ length i.wanted = omega (arith, more) in over)

pub offered_large : (i : Image) → 4294967295 < length i.offered → IsTooLarge (image_file i)
offered_large i more = large_counts_are_large_files.offered i (let over : 4294967296 ≤ length i.offered = omega (arith, more) in over)

pub started_large : (i : Image) → 4294967295 < length i.control → IsTooLarge (image_file i)
started_large i more = large_counts_are_large_files.started i (let over : 4294967296 ≤ length i.control = omega (arith, more) in over)
