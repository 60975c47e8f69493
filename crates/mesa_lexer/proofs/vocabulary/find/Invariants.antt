use Rattle.std.proofs.Common.{◌≡◌, map, drop}
use Rattle.mesa_lexer.specs.Words.{row_of, spelled}
use Rattle.mesa_lexer.proofs.vocabulary.find.Given as goal

abbrev pub invariant-loop-row : goal.invariant-loop-row
invariant-loop-row l = spelled (map row_of l.rows) l.bytes ≡ spelled (map row_of (drop l.row-index l.rows)) l.bytes
