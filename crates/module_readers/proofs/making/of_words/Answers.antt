use Rattle.std.proofs.Common.{arith}
use Rattle.module_readers.proofs.Numbered.{words_last}
use Rattle.module_readers.proofs.making.of_words.Goals as goal

pub returns-in_default : goal.returns-in_default
returns-in_default c =
    words_last c.args.number c.args.first c.args.second c.requires.there c.requires.sizes (omega arith) (omega arith) (omega arith) (omega arith) (omega arith) (omega arith) (omega arith) (omega arith) (omega arith)
