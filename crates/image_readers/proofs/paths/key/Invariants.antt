use Rattle.std.proofs.Common.{◌≡◌, take}
use Rattle.std.specs.Prelude.{flat_map}
use Rattle.image_readers.specs.Paths.{marked}
use Rattle.image_readers.proofs.paths.key.Given as goal

abbrev pub invariant-loop-name : goal.invariant-loop-name
invariant-loop-name l = l.key ≡ flat_map marked (take l.name-index l.path)
