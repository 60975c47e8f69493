use Rattle.mesa_lexer.proofs.Strings.{text_stands}
use Rattle.mesa_lexer.proofs.string.string.Goals as goal

pub returns : goal.returns
returns c = rw c.ended.ensures (text_stands c.in_ok-count.ensures)
