-- The modules of the images so far.
use Rattle.std.proofs.Common.{◌≡◌}
use Rattle.loader_rules.specs.Parts.{modules_of}
use Rattle.image_loader.proofs.modules.modules_of.Given as goal

abbrev pub invariant-loop-image : goal.invariant-loop-image
invariant-loop-image l = l.all ≡ modules_of l.yielded
