use Rattle.mesa_lexer.proofs.Walks as W
use Rattle.mesa_lexer.proofs.laws.one_answer.Goals as goal

pub returns : goal.returns
returns c = W.one_answer
