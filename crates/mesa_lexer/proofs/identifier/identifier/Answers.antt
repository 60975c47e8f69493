use Rattle.std.proofs.Common.{sym, ◌∙◌}
use Rattle.mesa_lexer.proofs.Choices.{word_lexed, long_lexed}
use Rattle.mesa_lexer.proofs.identifier.identifier.Goals as goal

pub returns-in-Some : goal.returns-in-Some
returns-in-Some c =
    let count = c.letters_and_digits-count.ensures in
    word_lexed c.args.rest.now c.letters_and_digits-count.result c.in-Some.word count.count count.within (sym c.in-Some.is ∙ c.word_of.ensures)

pub returns-in_default-2 : goal.returns-in_default-2
returns-in_default-2 c =
    long_lexed c.args.rest.now c.letters_and_digits-count.result c.letters_and_digits-count.ensures.count c.requires (sym c.in_default-2.is ∙ c.in_ok-name.ensures)
