use Rattle.std.proofs.Common.{◌≡◌, ◌≤◌, min, take}
use Rattle.mesa_lexer.specs.Forms.{number_in}
use Rattle.mesa_lexer.proofs.number.value.Given as goal

abbrev pub invariant-loop-digit : goal.invariant-loop-digit
invariant-loop-digit l = record {
  some : 1 ≤ l.base;
  few : l.base ≤ 10;
  so_far : l.value ≡ min (number_in l.base (take l.digit-index l.digits)) 4294967296;
}
