use Rattle.std.proofs.Common.{◌≡◌, ◌+◌, ◌-◌, ◌<◌, ◌^◌, drop, length}
use Rattle.mesa_lexer.specs.Positions.{passed}
use Rattle.mesa_lexer.proofs.position.Position.behind.Given as goal

abbrev pub invariant-loop-byte : goal.invariant-loop-byte
invariant-loop-byte l = record {
  lines : l.position.line + (length l.bytes - l.byte-index) < 2 ^ 32;
  columns : l.position.column + (length l.bytes - l.byte-index) < 2 ^ 32;
  so_far : passed l.position (drop l.byte-index l.bytes) ≡ passed l.initial.position l.bytes;
}
