use Rattle.std.proofs.Common.{◌≡◌, take}
use Rattle.machine_ready.specs.Sizes.{largest}
use Rattle.machine_ready.proofs.sizes.largest_depth.Given as goal

abbrev pub invariant-loop-object : goal.invariant-loop-object
invariant-loop-object l = l.most ≡ largest (λ p. p.depth) (take l.object-index l.modules)
