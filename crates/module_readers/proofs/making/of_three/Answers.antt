use Rattle.std.proofs.Common.{arith}
use Rattle.module_readers.proofs.Numbered.{three_last}
use Rattle.module_readers.proofs.making.of_three.Goals as goal

pub returns-in_default : goal.returns-in_default
returns-in_default c =
    three_last c.args.number c.args.slot c.args.extent c.args.words c.requires.there c.requires.sizes (omega arith) (omega arith) (omega arith)
