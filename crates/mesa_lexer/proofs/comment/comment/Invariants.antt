use Rattle.std.proofs.Common.{◌≡◌, ◌+◌, drop}
use Rattle.mesa_lexer.specs.Lexed.{comment_len}
use Rattle.mesa_lexer.proofs.comment.comment.Given as goal

abbrev pub invariant-loop-i : goal.invariant-loop-i
invariant-loop-i l = comment_len l.rest ≡ l.i + comment_len (drop l.i l.rest)
