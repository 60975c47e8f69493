use Rattle.std.proofs.Common.{◌≤◌, ◌-◌, length, take}
use Rattle.mesa_lexer.specs.Forms.{Inside}
use Rattle.mesa_lexer.proofs.string.inside.Given as goal

abbrev pub invariant-loop-count : goal.invariant-loop-count
invariant-loop-count l = record {
  is_there : l.at ≤ length l.rest;
  inside : Inside (take l.at l.rest) l.value;
}

abbrev pub decreases-loop-count : goal.decreases-loop-count
decreases-loop-count l = length l.rest - l.at
