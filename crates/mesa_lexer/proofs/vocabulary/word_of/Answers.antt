use Rattle.std.proofs.Common.{ap, ◌∙◌}
use Rattle.mesa_lexer.specs.Words.{spelled}
use Rattle.mesa_lexer.proofs.Initials.{word_of_none, word_of_first}
use Rattle.mesa_lexer.proofs.vocabulary.word_of.Goals as goal

pub returns-in-empty : goal.returns-in-empty
returns-in-empty c = word_of_none c.args.bytes.now c.in-empty.len_below

pub returns-in-len1-up : goal.returns-in-len1-up
returns-in-len1-up c =
    c.find.ensures
    ∙ ap (λ rows. spelled rows c.args.bytes.now) c.words_from.ensures
    ∙ word_of_first c.args.bytes.now c.in-len1-up.len_at_least
