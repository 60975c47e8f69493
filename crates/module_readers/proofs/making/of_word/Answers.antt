use Rattle.std.proofs.Common.{arith}
use Rattle.module_readers.proofs.Numbered.{word_last}
use Rattle.module_readers.proofs.making.of_word.Goals as goal

pub returns-in_default : goal.returns-in_default
returns-in_default c =
    word_last c.args.number c.args.word c.requires.there c.requires.sizes (omega arith) (omega arith) (omega arith) (omega arith) (omega arith)
