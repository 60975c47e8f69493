use Rattle.std.proofs.Common.{◌≡◌, take, map, fold, max}
use Rattle.machine_ready.proofs.sizes.largest_depth_of.Given as goal

abbrev pub invariant-loop-procedure : goal.invariant-loop-procedure
invariant-loop-procedure l = l.most ≡ fold max l.fn.least (map (λ p. p.depth) (take l.procedure-index l.procedures))
