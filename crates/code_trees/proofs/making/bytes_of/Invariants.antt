use Rattle.std.proofs.Common.{◌≡◌, ◌+◌, drop}
use Rattle.code_blocks.specs.Own.{bytes_in}
use Rattle.code_trees.proofs.making.bytes_of.Given as goal

abbrev pub invariant-loop-instruction : goal.invariant-loop-instruction
invariant-loop-instruction l = l.bytes + bytes_in (drop l.instruction-index l.code) ≡ bytes_in l.fn.code
