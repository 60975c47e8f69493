-- What the images so far have is put.
use Rattle.std.proofs.Common.{take}
use Rattle.loader_rules.specs.Wanted.{still_wanted}
use Rattle.image_loader.specs.Joining.{ArePut}
use Rattle.image_loader.proofs.joining.all_put.Given as goal

abbrev pub invariant-loop-number : goal.invariant-loop-number
invariant-loop-number l = ArePut (still_wanted l.images) (take l.number l.images) l.all
